-- The queues after an instruction that is an event of its own.
use Rattle.tw_pool_state.proofs.PartNames.{Actor, AreNotified, Call, Frame, Instr, List, Notice, Procedure, Queues, Served, Some, State, Subscriber, [], ap, arrived, context_of, get, inl, inr, map as each, notice_to, notices_of_instr, queued, queues_after, refl, slice_get, sym, ℕ, ◌∙◌, ◌∷◌, ◌≡◌}
use Rattle.tw_pool_state.proofs.Left.{queued_none}

-- what the instruction at the task's place makes
pub call_queues : (program : List Procedure) (s : State) (actor : Actor) (frame : Frame) (p : Procedure) (i : Instr) (queues : Queues) → get s.frames actor ≡ Some frame → slice_get program frame.procedure ≡ Some p
    → slice_get p.code frame.position.place ≡ Some i → queues_after program (Call actor) s queues ≡ arrived (notices_of_instr (Some i) (context_of s frame)) queues
call_queues program s actor frame p i queues there here at = rw (there, here, at) refl

of_one : (id : ℕ) (subscribers : List Subscriber) (queues : Queues) → queued id (each (notice_to id) subscribers) queues ≡ arrived (each (notice_to id) subscribers) queues
of_one id [] queues = queued_none queues _
of_one id (x ∷ subscribers) queues = refl

-- the notices of an instruction are in the queues
pub notified_arrive : (old new : Served) (more : List Notice) → AreNotified old new more → new.queues ≡ arrived more old.queues
notified_arrive old new more (inl none) = none.1 ∙ ap (λ ns. arrived ns old.queues) (sym none.0)
notified_arrive old new more (inr (id, x, live, more_is, queues_are)) =
    queues_are ∙ ap (λ ns. queued id ns old.queues) more_is ∙ (of_one id x.subscribers old.queues ∙ ap (λ ns. arrived ns old.queues) (sym more_is))
