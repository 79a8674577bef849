use Rattle.tw_symbols.proofs.TextNames.{Bool, IfOk-weaker, IsLine, List, Worded, [], ap, line_words, refl, seen_names, seen_procedures, subst, sym, texts, ℕ, ◌∙◌}
use Rattle.tw_symbols.proofs.BlankLines.{blank_taken}
use Rattle.tw_symbols.proofs.renamed.is_taken.Goals as goal

pub returns-then-is_plainly_blank-2 : goal.returns-then-is_plainly_blank-2
returns-then-is_plainly_blank-2 c =
    λ _. (
      Worded [] c.args.line.now,
      Worded [] c.args.plain.now,
      blank_taken c.args.line.now (sym c.is_plainly_blank.ensures ∙ c.if-is_plainly_blank.true),
      blank_taken c.args.plain.now (sym c.is_plainly_blank-then-is_plainly_blank.ensures ∙ c.if-is_plainly_blank-2.true),
      (refl, refl),
    )

pub returns : goal.returns
returns c =
    let t = c.in_ok-taken.ensures in
    let u = c.in_ok-other.ensures in
    let p = seen_procedures c.args.procedures.now in
    let before = seen_names c.args.names.now in
    let after = seen_names c.is_line.new.names in
    IfOk-weaker c.is_line.result _ _
    (λ (is : Bool) h yes. (
      t.0,
      u.0,
      t.1,
      u.1,
      subst (λ (ws : List (List ℕ)). IsLine p c.args.number before ws (line_words u.0) after) (ap texts c.deref.ensures.value ∙ t.2)
          (subst (λ (ws : List (List ℕ)). IsLine p c.args.number before (texts c.deref.result.now) ws after) (ap texts c.deref-2.ensures.value ∙ u.2) (h yes)),
    )) c.is_line.ensures
