-- A session's end after a reply is written.
use Rattle.tw_session.proofs.SessionNames.{Appends, Ended, EndsWithReply, Err, IfOk, IfSome, List, NoMemory, None, Ok, OnErr, Option, ReadFailed, Reply, Result, Some, Status, WriteFailed, codes, refl, reply, subst, sym, ℕ, ◌≡◌, ◌≢◌}
use Rattle.tw_source.specs.declared.reply.Reply.{Reply as MadeReply}
use Rattle.tw_source.specs.declared.close.Close.{Close}

-- a reply that was written, unless the write failed
pub replied : (Answers : Reply → Type 0) (text : List ℕ) (close : Close) (status : Status) (old new : Option (List ℕ)) → Answers (reply text close)
    → (status ≢ WriteFailed → (status ≡ Ended close) × Appends old new text) → EndsWithReply Answers status old new
replied Answers text close (Ended other) old new h wrote =
    let w = wrote (λ e. cc) in
    (text, subst (λ (c : Close). Answers (reply text c)) (sym (same w.0)) h, w.1)
  where
    same : {a b : Close} → Ended a ≡ Ended b → a ≡ b
    same e = cc
replied Answers text close NoMemory old new h wrote = absurd (let never : NoMemory ≡ Ended close = (wrote (λ e. cc)).0 in cc)
replied Answers text close ReadFailed old new h wrote = absurd (let never : ReadFailed ≡ Ended close = (wrote (λ e. cc)).0 in cc)
replied Answers text close WriteFailed old new h wrote = tt

-- an allocation failed
pub no_reply : (Answers : Reply → Type 0) (status : Status) (old new : Option (List ℕ)) → (status ≢ WriteFailed → status ≡ NoMemory) → (status ≡ NoMemory → Appends old new (codes "memory\n")) → EndsWithReply Answers status old new
no_reply Answers (Ended close) old new is wrote = absurd (let never : Ended close ≡ NoMemory = is (λ e. cc) in cc)
no_reply Answers NoMemory old new is wrote = wrote refl
no_reply Answers ReadFailed old new is wrote = absurd (let never : ReadFailed ≡ NoMemory = is (λ e. cc) in cc)
no_reply Answers WriteFailed old new is wrote = tt

-- if a reply may be made, what was written of it
pub ends_with_reply : {E : Type 0} (Answers : Reply → Type 0) (made : Result MadeReply E) (status : Status) (old new : Option (List ℕ)) → IfOk made (λ r. Answers (reply r.text.items r.close))
    → IfOk made (λ r. status ≢ WriteFailed → (status ≡ Ended r.close) × Appends old new r.text.items) → OnErr made (status ≢ WriteFailed → status ≡ NoMemory)
    → (status ≡ NoMemory → Appends old new (codes "memory\n")) → EndsWithReply Answers status old new
ends_with_reply Answers (Ok r) status old new h ended refused memory = replied Answers r.text.items r.close status old new h ended
ends_with_reply Answers (Err e) status old new h ended refused memory = no_reply Answers status old new refused memory

pub whatever : {X : Type 0} {P : X → Type 0} (o : Option X) → ((x : X) → P x) → IfSome o P
whatever None h = tt
whatever (Some x) h = h x
