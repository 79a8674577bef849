-- The result of an instruction on data, by cases.
use Rattle.std.proofs.Common.{◌≡◌, ℕ, Ok, Err, Result}
use Rattle.tw_pool_state.proofs.PartNames.{DataInstr, DoneView, FrameView, IfErr, IfOk, IsIssuedAfter, IsIssuedAnswer, IsOutOfMemory, JobView, OnErr, OnOk, Served}

module _ (d : DataInstr) (old new : Served) (f g : FrameView) (event_no : ℕ) (done : DoneView) where
  pub when_done : (P : Type 0) (r : Result JobView DoneView) → IsIssuedAnswer d old new f g event_no done r → ((job : JobView) → IsIssuedAfter d old new f g event_no done job → P) → OnOk r P
  when_done P (Ok job) a next = next job a
  when_done P (Err back) a next = tt

  pub when_issued : (P : JobView → Type 0) (r : Result JobView DoneView) → IsIssuedAnswer d old new f g event_no done r → ((job : JobView) → IsIssuedAfter d old new f g event_no done job → P job) → IfOk r P
  when_issued P (Ok job) a next = next job a
  when_issued P (Err back) a next = tt

  pub when_refused : (P : Type 0) (r : Result JobView DoneView) → IsIssuedAnswer d old new f g event_no done r → ((back : DoneView) → IsOutOfMemory d old new f g done back → P) → OnErr r P
  when_refused P (Ok job) a next = tt
  when_refused P (Err back) a next = next back a

  pub when_back : (r : Result JobView DoneView) → IsIssuedAnswer d old new f g event_no done r → IfErr r (λ back. back ≡ done)
  when_back (Ok job) a = tt
  when_back (Err back) a = a.is_back
