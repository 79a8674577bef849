-- The events of one actor leave the work of others.
use Rattle.std.proofs.Common.{◌≡◌, ◌⊎◌, inl, inr, ℕ, Bool, true, false, cond, List, [], ◌∷◌, ◌++◌, drop, length, Some, None, slice_get, refl, sym, ap, subst, ◌∙◌, arith}
use Rattle.tw_host.proofs.Names.{Actor, ActorCounts, AreBy, Ask, Call, Deliver, End, Engine, Event, Frame, Frames, HasTargets, IfWent, Local, Outcome, Procedure, Release, Server, State, Take, Went, Worker, actor_cmp, actor_of, and_parts, context_of, events_of, few, get, get-empty, if_both, insert, is_control, may_take, nat_cmp-IsAntisymmetric, same_actor, same_went, the_same, went_first, went_of, ◌>>=◌}
use Rattle.std.specs.Cmp.{nat_cmp_total}
use Rattle.std.specs.FinSet as set
use Rattle.tw_types.specs.declared.input.Input.{Input}
use Rattle.tw_types.specs.declared.notice.Notice.{Notice}
use Rattle.tw_types.specs.Notices.{Notices}
use Rattle.tw_types.specs.Task.{Task, Tasks, best}
use Rattle.tw_types.proofs.ActorOrder.{actor_cmp_total, actor_cmp-IsAntisymmetric}
use Rattle.tw_types.proofs.Best.{best_found}
use Rattle.tw_types.proofs.NoticeOrder.{notice_cmp_total}
use Rattle.tw_types.proofs.Parts.{before_removal, put_or_before}
use Rattle.tw_types.proofs.Results.{ok_of}
use Rattle.tw_code.specs.machine.Arguments.{called, put_called}
use Rattle.tw_code.specs.machine.Machine.{run, step}
use Rattle.tw_code.specs.machine.Opening.{opening, reached}
use Rattle.tw_code.proofs.Leaving.{ask_leaves, call_leaves, deliver_leaves, end_leaves, local_leaves, release_leaves, take_leaves}
use Rattle.tw_code.proofs.Placed.{IsPlaced, called_is, put_called_is, reached_placed}
use Rattle.tw_code.proofs.Runs.{run_more}

-- ---- no task runs on a server

abbrev NoServers : Frames → Type 0
NoServers frames = (n : ℕ) (f : Frame) → get frames (Server n) ≡ Some f → ⊥

-- an actor that has or gets a frame isn't a server
again : (frames : Frames) → NoServers frames → (actor : Actor) (f : Frame) → ((n : ℕ) → actor ≡ Server n → ⊥) → NoServers (insert frames actor f)
again frames none actor f other n g e = by (put_or_before actor_cmp_total actor_cmp-IsAntisymmetric frames actor f (Server n) g e)
  where
    by : ((Server n ≡ actor) × (f ≡ g)) ⊎ (get frames (Server n) ≡ Some g) → ⊥
    by (inl is) = other n (sym is.0)
    by (inr before) = none n g before

its : (frames : Frames) → NoServers frames → (actor : Actor) (f : Frame) → get frames actor ≡ Some f → (n : ℕ) → actor ≡ Server n → ⊥
its frames none actor f here n is = none n f (ap (get frames) (sym is) ∙ here)

taker : (actor : Actor) (tasks : Tasks) (e : ℕ × Task) → best actor tasks ≡ Some e → (n : ℕ) → actor ≡ Server n → ⊥
taker actor tasks e first n is =
    let may = and_parts (may_take actor e.1.kind) _ (best_found actor tasks e first).1 in
    let no : false ≡ true = ap (λ (a : Actor). may_take a e.1.kind) (sym is) ∙ may.0 in
    cc

module _ (program : List Procedure) (layout : ActorCounts) where
  no_server_step : (s : State) → NoServers s.frames → (event : Event) → IfWent (step program layout event s) (λ t. NoServers t.frames)
  unfolding step
  no_server_step s none (Take actor) = take_leaves program actor s layout (λ e frame first begun. again s.frames none actor frame (taker actor s.tasks e first))
  no_server_step s none (Local actor n) = local_leaves program actor s n (λ frame at some here. again s.frames none actor _ (its s.frames none actor frame here))
  no_server_step s none (Call actor) =
      call_leaves program actor s (λ at i c here e. again s.frames none actor _ (its s.frames none actor at.frame here.frame)) (λ at action call here e. again s.frames none actor _ (its s.frames none actor at.frame here.frame))
      (λ at action call here e. again s.frames none actor _ (its s.frames none actor at.frame here.frame))
  no_server_step s none (End actor) = end_leaves program actor s (λ n g e. none n g (before_removal actor_cmp_total actor_cmp-IsAntisymmetric s.frames actor (Server n) g e).1)
  no_server_step s none (Ask engine rule parameter) = ask_leaves s engine rule parameter (λ r id x u. none) (λ r id x u. none)
  no_server_step s none (Deliver server datum rule parameter) = deliver_leaves s layout server (record { datum = datum; rule = rule; parameter = parameter }) (λ has is. none) (λ r has is. none)
  no_server_step s none (Release engine rule) = release_leaves s program engine rule (λ r p is can. none)

  no_server_run : (events : List Event) (s : State) → NoServers s.frames → IfWent (run program layout events s) (λ t. NoServers t.frames)
  unfolding run
  no_server_run [] s none = record { is = none }
  no_server_run (event ∷ events) s none = if_both (step program layout event s) (λ next e. no_server_run events next (went_of (step program layout event s) (λ t. NoServers t.frames) next (no_server_step s none event) e))

  no_servers : (inputs : List Input) (history : List Event) (s : State) → reached program inputs layout history ≡ Went s → NoServers s.frames
  unfolding opening
  no_servers inputs history s e =
      went_of (reached program inputs layout history) (λ t. NoServers t.frames) s (no_server_run history (opening program inputs) (λ n f is. let none : None ≡ Some f = sym (get-empty actor_cmp (Server n)) ∙ is in cc)) e

-- ---- one event

-- a server makes no task and no notice, and a worker makes no rule and no task
abbrev pub Leaves : Actor → State → State → Type 0
Leaves (Engine n) s t = Unit {0}
Leaves (Server n) s t = (t.tasks ≡ s.tasks) × ((x : Notice) → set.contains t.notices x ≡ true → set.contains s.notices x ≡ true)
Leaves (Worker n) s t = (t.rules ≡ s.rules) × ((k : ℕ) (x : Task) → get t.tasks k ≡ Some x → get s.tasks k ≡ Some x)

itself : (actor : Actor) (s : State) → Leaves actor s s
itself (Engine n) s = tt
itself (Server n) s = (refl, λ x h. h)
itself (Worker n) s = (refl, λ k x h. h)

both : (actor : Actor) (s t u : State) → Leaves actor s t → Leaves actor t u → Leaves actor s u
both (Engine n) s t u a b = tt
both (Server n) s t u a b = (b.0 ∙ a.0, λ x h. a.1 x (b.1 x h))
both (Worker n) s t u a b = (b.0 ∙ a.0, λ k x h. a.1 k x (b.1 k x h))

still_there : (notices : Notices) (n x : Notice) → set.contains (set.remove notices n) x ≡ true → set.contains notices x ≡ true
still_there notices n x has = (and_parts _ (set.contains notices x) (sym (set.contains-remove notice_cmp_total notices n x) ∙ has)).1

module _ (program : List Procedure) (layout : ActorCounts) (s : State) (placed : IsPlaced program layout s) (none : NoServers s.frames) where
  no_control : (n : ℕ) (frame : Frame) (p : Procedure) → get s.frames (Worker n) ≡ Some frame → slice_get program frame.procedure ≡ Some p → is_control p.kind ≡ true → ⊥
  no_control n frame p here is control = let may : false ≡ true = (placed.frames (Worker n) frame here).engine p is control in cc

  taken : (actor : Actor) → IfWent (step program layout (Take actor) s) (Leaves actor s)
  unfolding step
  taken (Engine n) = take_leaves program (Engine n) s layout (λ e frame first begun. tt)
  taken (Server n) = take_leaves program (Server n) s layout (λ e frame first begun. absurd (taker (Server n) s.tasks e first n refl))
  taken (Worker n) = take_leaves program (Worker n) s layout (λ e frame first begun. (refl, λ k x h. (before_removal nat_cmp_total nat_cmp-IsAntisymmetric s.tasks e.0 k x h).1))

  stepped : (actor : Actor) (n : ℕ) → IfWent (step program layout (Local actor n) s) (Leaves actor s)
  unfolding step
  stepped (Engine m) n = local_leaves program (Engine m) s n (λ frame at some here. tt)
  stepped (Server m) n = local_leaves program (Server m) s n (λ frame at some here. (refl, λ x h. h))
  stepped (Worker m) n = local_leaves program (Worker m) s n (λ frame at some here. (refl, λ k x h. h))

  called_so : (actor : Actor) → IfWent (step program layout (Call actor) s) (Leaves actor s)
  unfolding step
  called_so (Engine n) = call_leaves program (Engine n) s (λ at i c here e. tt) (λ at action call here e. tt) (λ at action call here e. tt)
  called_so (Server n) = call_leaves program (Server n) s (λ at i c here e. absurd (none n at.frame here.frame)) (λ at action call here e. absurd (none n at.frame here.frame)) (λ at action call here e. absurd (none n at.frame here.frame))
  called_so (Worker n) =
      call_leaves program (Worker n) s (λ at i c here e. (refl, λ k x h. h))
      (λ at action call here e. absurd (no_control n at.frame at.procedure here.frame here.procedure (ok_of (called program at.procedure.kind (context_of s at.frame) action) _ call (called_is program at.procedure.kind (context_of s at.frame) action) e).by_control))
      (λ at action call here e. absurd (no_control n at.frame at.procedure here.frame here.procedure (ok_of (put_called program at.procedure.kind (context_of s at.frame) action) _ call (put_called_is program at.procedure.kind (context_of s at.frame) action) e).by_control))

  ended : (actor : Actor) → IfWent (step program layout (End actor) s) (Leaves actor s)
  unfolding step
  ended (Engine n) = end_leaves program (Engine n) s tt
  ended (Server n) = end_leaves program (Server n) s (refl, λ x h. h)
  ended (Worker n) = end_leaves program (Worker n) s (refl, λ k x h. h)

  delivered : (server : ℕ) (n : Notice) → IfWent (step program layout (Deliver server n.datum n.rule n.parameter) s) (Leaves (Server server) s)
  unfolding step
  delivered server n = deliver_leaves s layout server n (λ has is. (refl, λ x h. still_there s.notices n x h)) (λ r has is. (refl, λ x h. still_there s.notices n x h))

  asked : (engine rule parameter : ℕ) → IfWent (step program layout (Ask engine rule parameter) s) (λ t. Unit {0})
  unfolding step
  asked engine rule parameter = ask_leaves s engine rule parameter (λ r id x u. tt) (λ r id x u. tt)

  released : (engine rule : ℕ) → IfWent (step program layout (Release engine rule) s) (λ t. Unit {0})
  unfolding step
  released engine rule = release_leaves s program engine rule (λ r p is can. tt)

  leaves : (event : Event) → IfWent (step program layout event s) (Leaves (actor_of event) s)
  leaves (Take actor) = taken actor
  leaves (Local actor n) = stepped actor n
  leaves (Call actor) = called_so actor
  leaves (End actor) = ended actor
  leaves (Ask engine rule parameter) = asked engine rule parameter
  leaves (Deliver server datum rule parameter) = delivered server (record { datum = datum; rule = rule; parameter = parameter })
  leaves (Release engine rule) = released engine rule

-- ---- events of one actor, one after the other

no_more : (actor : Actor) (e : Event) (es : List Event) → events_of actor es ≡ e ∷ es → ⊥
no_more actor e es is = let low = few actor es in omega (arith, low, ap length is)

pub are_by : (actor : Actor) (es : List Event) → events_of actor es ≡ es → AreBy actor es
are_by actor [] own = tt
are_by actor (e ∷ es) own = by (same_actor (actor_of e) actor) refl own (are_by actor es)
  where
    by : (b : Bool) → same_actor (actor_of e) actor ≡ b → (cond b (e ∷ events_of actor es) (events_of actor es)) ≡ e ∷ es → (events_of actor es ≡ es → AreBy actor es) → AreBy actor (e ∷ es)
    by true is h rest = (the_same (actor_of e) actor is, rest (ap (drop 1) h))
    by false is h rest = absurd (no_more actor e es h)

module _ (program : List Procedure) (inputs : List Input) (layout : ActorCounts) (targets : HasTargets program layout) where
  pub leaves_all : (actor : Actor) (history es : List Event) (s t : State) → AreBy actor es → reached program inputs layout history ≡ Went s → run program layout es s ≡ Went t → Leaves actor s t
  unfolding run
  leaves_all actor history [] s t own here e = subst (Leaves actor s) (same_went s t e) (itself actor s)
  leaves_all actor history (event ∷ es) s t own here e =
      let one = went_first (step program layout event s) (run program layout es) t e in
      let first = went_of (step program layout event s) (Leaves (actor_of event) s) one.0 (leaves program layout s (reached_placed program inputs layout history targets s here) (no_servers program layout inputs history s here) event) one.1 in
      let there = run_more program layout history event (opening program inputs) s one.0 here one.1 in
      both actor s one.0 t (subst (λ (a : Actor). Leaves a s one.0) own.0 first) (leaves_all actor (history ++ event ∷ []) es one.0 t own.1 there one.2)

  pub split : (history es : List Event) (s t : State) → run program layout (history ++ es) s ≡ Went t → (u : State) × (run program layout history s ≡ Went u) × (run program layout es u ≡ Went t)
  unfolding run
  split [] es s t e = (s, refl, e)
  split (event ∷ history) es s t e =
      let one = went_first (step program layout event s) (run program layout (history ++ es)) t e in
      let rest = split history es one.0 t one.2 in
      (rest.0, ap (λ (o : Outcome State). o >>= run program layout history) one.1 ∙ rest.1, rest.2)
