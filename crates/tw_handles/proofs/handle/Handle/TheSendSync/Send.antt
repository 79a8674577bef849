-- A handle may be sent to another thread if its contents may.
use mir.Raw.{raw}
use base.Shift.{Keyless}
use denote.Memory.{lone}
use denote.RawPtr.{Ptr}
use denote.Builtin.{RawPtr}
use denote.Struct.Struct.{exits_of}
use denote.Struct.Owning.{shape, fields, to}
use denote.Param.Send.{IsSend, owning_send, struct_send, sendable}
use Rattle.tw_handles.proofs.Names.{Global, None, Option, Some, ghosts, slot_owns}
use Rattle.std_alloc.proofs.SendSync.{quiet, lies}
use Rattle.std.proofs.Crossing.{Arc-send, Vec-send, crosses, frees}
use Rattle.std.specs.contracts.alloc.Global as heap
use Rattle.std_alloc.specs.contracts.arc.Arc
use Rattle.std_alloc.specs.contracts.vec.Vec
use Rattle.tw_types.specs.contracts.input.Input
use Rattle.tw_verify.specs.contracts.verified.Verified
use Rattle.tw_types.proofs.input.Input.TheSendSync as OfInput
use Rattle.tw_verify.proofs.verified.Verified.TheSendSync as OfVerified
use Rattle.tw_in_turn.specs.contracts.run.EndedRun
use Rattle.tw_datum.proofs.tree.Tree.TheLaws.TheKnot
use Rattle.tw_store.specs.contracts.store.Store
use Rattle.tw_pool.specs.contracts.ends.Final
use Rattle.tw_pool.proofs.history.History.TheSendSync as OfHistory
use Rattle.tw_flags.proofs.Crossing.{flag_send}
use Rattle.tw_handles.specs.contracts.container.Container
use Rattle.tw_handles.specs.contracts.held.Held.{the_row as R}
use Rattle.tw_handles.specs.contracts.handle.Handle.{the_row, the_type}

store : IsSend Store.the_row
store = search (crosses, TheKnot.crosses, sendable) depth 60 fits 20000

outcome : IsSend Final.the_row
outcome = search (store, crosses, sendable) depth 60 fits 20000

left : IsSend EndedRun.the_row
left = search (outcome, OfHistory.the_send, sendable) depth 60 fits 20000

program : IsSend (Arc.the_row Verified.the_row heap.the_row ghosts)
program = Arc-send Verified.the_row (search (OfVerified.the_send, sendable)) (search (OfVerified.the_sync, sendable))

inputs : IsSend (Vec.the_row Input.the_row heap.the_row ghosts)
inputs = Vec-send Input.the_row (search (OfInput.the_send, sendable))

container : IsSend Container.the_row
container = search (crosses, sendable) depth 60 fits 20000

held_send : IsSend R
held_send = search (OfVerified.the_send, OfVerified.the_sync, OfInput.the_send, outcome, OfHistory.the_send, left, program, inputs, flag_send, container, crosses, sendable) depth 100 fits 200000

slot_keyless : (a : Global) (p : Ptr) (k : Option R.Denot) → Keyless (slot_owns R a p k)
slot_keyless a p None = tt
slot_keyless a p (Some x) = (lies R held_send p x, frees.frees a (raw (lone R.mir)) p)

pub send : IsSend the_row
send =
    let pointer : IsSend RawPtr = search sendable in let handle : IsSend (heap.the_field).row = search (sendable, crosses) depth 20 in
    owning_send the_type (pointer, (handle, tt)) (λ d. slot_keyless d.alloc d.at d.held)
    (λ k. quiet (to the_type) (exits_of k (fields the_type)) ((struct_send (shape the_type) (pointer, (handle, tt))).leaving k))
