use Rattle.tw_bounds.proofs.Names.{AreLimitedBounds, Bool, IsProgram, List, Procedure, Some, adds_member, ap, has_instr, if◌then◌else◌, is_on_data, makes_datum, makes_rule, most_texts, reported, subst, ℕ, ◌*◌, ◌∙◌}
use Rattle.tw_bounds.proofs.LimitedRuns.{limits_run}
use Rattle.tw_bounds.proofs.limited.limited_bounds.Goals as goal

bounds_are : (c : goal.After-one_each-5) → AreLimitedBounds c.args.verified.now.program c.args.limit (record { tasks = c.one_each.result; instructions = c.from_capped.result; «data» = c.one_each-2.result; rules = c.one_each-3.result; members = c.one_each-4.result; bytes = c.bytes_each.result; events = c.one_each-5.result })
bounds_are c =
    let same = c.procedures-procedures.ensures.is ∙ c.program-program.ensures.is in
    let makes = c.makes_data.ensures ∙ ap (has_instr makes_datum) same in
    let rules = c.makes_rules.ensures ∙ ap (has_instr makes_rule) same in
    let members = c.adds_members.ensures ∙ ap (has_instr (is_on_data adds_member)) same in
    let texts = c.most_texts.ensures.is ∙ ap most_texts same in
    record {
      tasks = c.one_each.ensures;
      most = c.largest_budget.result;
      largest = c.largest_budget.ensures.is;
      instructions = c.from_capped.ensures ∙ ap (λ (n : ℕ). reported (Some (n * c.largest_budget.result))) c.from.ensures;
      new_data = c.one_each-2.ensures ∙ ap (λ (b : Bool). reported (Some (if b then c.args.limit else 0))) makes;
      rules = c.one_each-3.ensures ∙ ap (λ (b : Bool). reported (Some (if b then c.args.limit else 0))) rules;
      members = c.one_each-4.ensures ∙ ap (λ (b : Bool). reported (Some (if b then c.args.limit else 0))) members;
      bytes = c.bytes_each.ensures ∙ ap (λ (n : ℕ). reported (Some (4096 * (c.args.limit * n)))) texts;
      events = c.one_each-5.ensures;
    }

pub returns-clause-are : goal.returns-clause-are
returns-clause-are c = bounds_are c

pub returns-clause-runs : goal.returns-clause-runs
returns-clause-runs c =
    let within = subst (λ (ps : List Procedure). IsProgram ps) c.program-program.ensures.is c.procedures-procedures.ensures.within in
    limits_run c.args.verified.now.program _ within c.program-program.ensures.right c.args.limit _ (bounds_are c)
