use Rattle.std.proofs.Common.{◌≡◌, ◌++◌, ◌∙◌, List, ap, append_assoc, codes, decimal, ℕ}
use Rattle.std.proofs.lemmas.Result.{on_ok_weaker}
use Rattle.tw_symbols.specs.Symbols.{bracketed, name_at}
use Rattle.tw_replay_output.proofs.stuck.put_rule_text.Goals as goal

-- three parts, one after the other
three_parts : (old a b c first second third : List ℕ) → first ≡ old ++ a → second ≡ first ++ b → third ≡ second ++ c → third ≡ old ++ (a ++ (b ++ c))
three_parts old a b c first second third e f g =
    g ∙ ap (λ (t : List ℕ). t ++ c) (f ∙ ap (λ (t : List ℕ). t ++ b) e) ∙ append_assoc (old ++ a) b c ∙ append_assoc old a (b ++ c)

pub returns : goal.returns
returns c =
    let old = c.args.out.now.items in
    let name = bracketed (name_at c.args.names.now c.args.procedure) in
    let number = codes " runs procedure " ++ decimal c.args.procedure in
    let rule = codes "rule " ++ decimal c.args.rule in
    on_ok_weaker c.put-2.result
    (λ added. three_parts old rule (number ++ name) (codes ", made ") c.put_numbered.new.out.items c.put.new.out.items c.put-2.new.out.items
    (c.in_ok-put_numbered.ensures ∙ ap (λ (n : ℕ). old ++ (codes "rule " ++ decimal n)) c.number.ensures)
    (c.in_ok-put.ensures ∙ ap (λ (t : List ℕ). t ++ name) c.in_ok-put_numbered-2.ensures ∙ append_assoc c.put_numbered.new.out.items number name) added
    ∙ ap (λ (t : List ℕ). old ++ (rule ++ t)) (append_assoc number name (codes ", made "))) c.put-2.ensures
