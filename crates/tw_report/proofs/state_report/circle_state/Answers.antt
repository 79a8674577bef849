use Rattle.tw_report.proofs.Names.{Global, IfOk-weaker, Link, List, Option, Procedure, State, Vec, ap, circle, circle_of, map, option_map, pending_of, sym, ◌∙◌, ◌≡◌}
use Rattle.tw_report.proofs.PendingRules.{circle_some, pending_is}
use Rattle.tw_report.proofs.state_report.circle_state.Goals as goal

pub returns : goal.returns
returns c =
    let program = c.args.plain.now.program in
    let s = c.args.plain.now.state in
    let es = c.rules.result.now.entries in
    let items = c.in_ok-rules.ensures.is ∙ ap (λ (ps : List Procedure). map (pending_of ps) es) (c.procedures.ensures.is ∙ c.program.ensures.is) in
    let same = c.rules.ensures ∙ ap (λ (t : State). t.rules) c.state.ensures in
    let pending = pending_is program s es c.in_ok-rules.rules.items same c.in_ok-rules.ensures.sorted items in
    IfOk-weaker c.circle_of.result (λ (found : Option (Vec Link Global)). option_map (λ (v : Vec Link Global). v.items) found ≡ circle_of c.deref.result.now)
    (λ (found : Option (Vec Link Global)). option_map (λ (v : Vec Link Global). v.items) found ≡ circle program s)
    (λ found h. h ∙ ap circle_of (c.deref.ensures.value ∙ pending) ∙ sym (circle_some program s c.in-Some._ending (sym c.in-Some.ensures))) c.circle_of.ensures
