-- A host may be shared by threads, part by part: one search through all of them would stop early.
use denote.RattleType.{RattleType}
use denote.Ref.{NamedLft, ShrRef}
use denote.Slice.{ShrSlice}
use denote.Param.Send.{IsSend, IsSync, sendable}
use mir.Syntax.{Lifetime, Sym}
use denote.Param.{param}
use denote.Struct.Field.{shr_ref_field}
use denote.Struct.Tuple.{TupleAt}
use mathlib.Core.List.{[], ◌∷◌}
use Rattle.std.specs.contracts.alloc.Global
use Rattle.tw_host.specs.contracts.seat.SentSeat
use Rattle.tw_host.proofs.seat.SentSeat.TheSendSync as OfSent
use base.Fml.{Lft}
use Rattle.std.specs.declared.sync.ledger.Ledger as Ledger
use Rattle.std.proofs.Crossing
use Rattle.std.proofs.sync.ledger.Book.TheSendSync as Book
use Rattle.std.proofs.sync.ledger.Share.TheSendSync as Share
use Rattle.tw_types.specs.contracts.input.Input
use Rattle.tw_types.proofs.input.Input.TheSendSync as OfInput
use Rattle.tw_types.proofs.layout.Layout.TheSendSync as OfLayout
use Rattle.tw_types.proofs.event.Event.TheSendSync as OfEvent
use Rattle.tw_datum.proofs.tree.Tree.TheLaws.TheKnot
use Rattle.tw_verify.specs.contracts.verified.Verified
use Rattle.tw_verify.proofs.verified.Verified.TheSendSync as OfVerified
use Rattle.tw_store.specs.contracts.store.Store
use Rattle.tw_rules.proofs.table.RuleTable.TheSendSync as OfRules
use Rattle.tw_queue.proofs.queues.TaskQueues.TheSendSync as OfTasks
use Rattle.tw_pool_state.proofs.running_tasks.RunningTasks.TheSendSync as OfSeats
use Rattle.tw_pool_state.proofs.outputs.Outputs.TheSendSync as OfOutputs
use Rattle.tw_pool_state.specs.contracts.parts.Parts
use Rattle.tw_pool.proofs.history.History.TheSendSync as OfHistory
use Rattle.tw_pool.specs.contracts.pool.Pool
use Rattle.tw_host.specs.declared.named.Named as Named
use Rattle.tw_host.specs.contracts.locked.Locked
use Rattle.tw_host.specs.contracts.host.Host
use Rattle.tw_host.proofs.progress.RunProgress.TheSendSync as OfProgress

store : IsSend Store.the_row
store = search (Crossing.crosses, TheKnot.crosses, sendable) depth 60 fits 20000

parts : (κ : NamedLft) → IsSend (Parts.the_field κ).row
parts κ = search (store, OfRules.the_send, OfTasks.the_send, OfSeats.the_send, OfOutputs.the_send, sendable) depth 60 fits 20000

inputs : (ℓ : Lifetime) (κ : Lft) → IsSend (ShrSlice ℓ κ Input.the_row)
inputs ℓ κ = search (OfInput.the_sync, sendable)

verified : (ℓ : Lifetime) (κ : Lft) → IsSend (ShrRef ℓ κ Verified.the_row)
verified ℓ κ = search (OfVerified.the_sync, sendable)

pool : (κ : NamedLft) → IsSend (Pool.the_row κ)
pool κ = search (parts, inputs, verified, OfLayout.the_send, OfHistory.the_send, sendable) depth 60 fits 20000

module _ (κ : NamedLft) (N : RattleType) (named : Named.Ghosts N.Denot) (ledger : Ledger.Ghosts N.Denot) where
  locked : IsSend (Locked.the_row κ N named ledger)
  locked = search (pool, Crossing.crosses, Book.the_send, Share.the_send, sendable) depth 60 fits 20000

  host : IsSync (Host.the_row κ N named ledger)
  host = search (locked, OfProgress.the_sync, OfVerified.the_sync, OfEvent.the_sync, Crossing.crosses, sendable) depth 60 fits 20000

  -- everything that a seat's thread takes with it
  module _ (name : Sym) (a b d : NamedLft) (G R : RattleType) (gate : IsSync (param 1 G)) (runtime : IsSync (param 2 R)) where
    shown : IsSend (shr_ref_field b (Host.the_row κ N named ledger) tt).row
    shown = search (host, sendable)

    sent : IsSend (SentSeat.the_row N named ledger)
    sent = search (OfSent.the_send, sendable, Crossing.crosses) depth 60 fits 20000

    pub work : IsSend (TupleAt name ((shr_ref_field a (param 2 R) tt).row ∷ Global.the_row ∷ (shr_ref_field b (Host.the_row κ N named ledger) tt).row ∷ SentSeat.the_row N named ledger
        ∷ (shr_ref_field d (param 1 G) tt).row ∷ []))
    work = search (Crossing.send, shown, sent, sendable) depth 60 fits 20000
