use Rattle.tw_host.proofs.Names.{Bool, HasCleared, IsMarked, WakesAfter, ap, arith, index_of, is_over_turn, subst, sym, true, ℕ, ◌||◌, ◌∙◌}
use Rattle.tw_host.proofs.Settling.{due_are, few, idle_no_job, not_over, over_if, own_low, settled}
use Rattle.tw_host.proofs.sleepers.Sleepers.to_wake.Goals as goal

pub set_out-requires : goal.set_out-requires
set_out-requires c =
    let p = c.args.pool.now in
    let index = c.index_of-index.ensures.value ∙ ap (λ l. index_of l c.args.actor) c.layout.ensures in
    omega (arith, index, few p c.requires.layout c.args.actor c.requires.actor, own_low p c.requires.layout c.args.actor c.requires.actor)

pub sleep_if-requires : goal.sleep_if-requires
sleep_if-requires c =
    let p = c.args.pool.now in
    let index = c.index_of-index.ensures.value ∙ ap (λ l. index_of l c.args.actor) c.layout.ensures in
    omega (arith, index, few p c.requires.layout c.args.actor c.requires.actor, own_low p c.requires.layout c.args.actor c.requires.actor)

pub returns-clause-woken : goal.returns-clause-woken
returns-clause-woken c =
    let p = c.args.pool.now in
    let actor = c.args.actor in
    let answer = c.args.answer.now in
    let old = c.args.self.now in
    let counted = c.count_late.new.self in
    let slept = c.sleep_if.new.self in
    let new = c.wake.new.self in
    let due = c.due_after-due.result in
    let job = c.has_job-is_out.result in
    let number = c.index_of-index.result in
    let index = c.index_of-index.ensures.value ∙ ap (λ l. index_of l actor) c.layout.ensures in
    let asleep_same = c.count_late.ensures.0 ∙ (c.note_end.ensures.others.0 ∙ c.set_out.ensures.others.0) in
    let counted_out = c.wake.ensures.others.0 ∙ c.sleep_if.ensures.others.0 in
    let out_same = counted_out ∙ (c.count_late.ensures.1 ∙ c.note_end.ensures.others.1) in
    let over_same = c.wake.ensures.others.1 ∙ c.sleep_if.ensures.others.1 in
    let over_is = over_same ∙ (c.count_late.ensures.2 ∙ (c.note_end.ensures.over ∙ ap (λ b. b || is_over_turn answer) c.set_out.ensures.others.1)) in
    settled p c.requires.layout actor c.requires.actor old.asleep old.out slept.asleep new.out new.asleep due c.args.events new.is_over job c.is_idle.result
    (λ e. c.has_job-is_out.ensures ∙ idle_no_job answer (sym c.is_idle.ensures ∙ e))
    c.requires.awake
    c.requires.known
    (subst (λ (i : ℕ). IsMarked i job old.out new.out) index (subst (λ (n : ℕ). IsMarked number job old.out n) (sym out_same) c.set_out.ensures.out))
    (subst (λ (n : ℕ). WakesAfter p n new.out new.is_over due actor c.args.events job) asleep_same
    (subst (λ (n : ℕ). WakesAfter p counted.asleep n new.is_over due actor c.args.events job) (sym counted_out)
    (subst (λ (b : Bool). WakesAfter p counted.asleep counted.out b due actor c.args.events job) (sym over_same) c.due_after-due.ensures)))
    (λ e. subst (λ (i : ℕ). IsMarked i true old.asleep slept.asleep) index (subst (λ (n : ℕ). IsMarked number true n slept.asleep) asleep_same (c.sleep_if.ensures.asleep e)))
    (λ e. c.sleep_if.ensures.awake e ∙ asleep_same)
    c.wake.ensures.asleep
    (λ e. let h = c.requires.idle (sym c.is_idle.ensures ∙ e) in (over_is ∙ not_over answer old.is_over h.0 (sym c.is_idle.ensures ∙ e), h.1, h.2))
    (λ e. over_if p old.is_over (is_over_turn answer) c.requires.ended c.requires.over (sym over_is ∙ e))
    (λ e. over_is ∙ ap (λ b. b || is_over_turn answer) (c.requires.stops e))

pub returns-clause-due : goal.returns-clause-due
returns-clause-due c =
    let p = c.args.pool.now in
    let actor = c.args.actor in
    let answer = c.args.answer.now in
    let old = c.args.self.now in
    let counted = c.count_late.new.self in
    let slept = c.sleep_if.new.self in
    let new = c.wake.new.self in
    let due = c.due_after-due.result in
    let job = c.has_job-is_out.result in
    let number = c.index_of-index.result in
    let index = c.index_of-index.ensures.value ∙ ap (λ l. index_of l actor) c.layout.ensures in
    let asleep_same = c.count_late.ensures.0 ∙ (c.note_end.ensures.others.0 ∙ c.set_out.ensures.others.0) in
    let counted_out = c.wake.ensures.others.0 ∙ c.sleep_if.ensures.others.0 in
    let out_same = counted_out ∙ (c.count_late.ensures.1 ∙ c.note_end.ensures.others.1) in
    let over_same = c.wake.ensures.others.1 ∙ c.sleep_if.ensures.others.1 in
    let over_is = over_same ∙ (c.count_late.ensures.2 ∙ (c.note_end.ensures.over ∙ ap (λ b. b || is_over_turn answer) c.set_out.ensures.others.1)) in
    subst (HasCleared (index_of p.layout actor) old.asleep new.asleep) (sym c.wake.ensures.due)
    (due_are p c.requires.layout actor c.requires.actor old.asleep old.out slept.asleep new.out new.asleep due c.args.events new.is_over job c.is_idle.result
    (λ e. c.has_job-is_out.ensures ∙ idle_no_job answer (sym c.is_idle.ensures ∙ e))
    c.requires.awake
    c.requires.known
    (subst (λ (i : ℕ). IsMarked i job old.out new.out) index (subst (λ (n : ℕ). IsMarked number job old.out n) (sym out_same) c.set_out.ensures.out))
    (subst (λ (n : ℕ). WakesAfter p n new.out new.is_over due actor c.args.events job) asleep_same
    (subst (λ (n : ℕ). WakesAfter p counted.asleep n new.is_over due actor c.args.events job) (sym counted_out)
    (subst (λ (b : Bool). WakesAfter p counted.asleep counted.out b due actor c.args.events job) (sym over_same) c.due_after-due.ensures)))
    (λ e. subst (λ (i : ℕ). IsMarked i true old.asleep slept.asleep) index (subst (λ (n : ℕ). IsMarked number true n slept.asleep) asleep_same (c.sleep_if.ensures.asleep e)))
    (λ e. c.sleep_if.ensures.awake e ∙ asleep_same)
    c.wake.ensures.asleep
    (λ e. let h = c.requires.idle (sym c.is_idle.ensures ∙ e) in (over_is ∙ not_over answer old.is_over h.0 (sym c.is_idle.ensures ∙ e), h.1, h.2)))
