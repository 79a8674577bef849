use Rattle.tw_asm.proofs.AsmNames.{List, None, OnOk, [], codes, flat_map, goal_word, join_with_byte, kind_word, param_parts, part_words, subst, ℕ, ◌++◌, ◌∷◌, ◌≡◌}
use Rattle.tw_asm.proofs.Lines.{flat_twice, wrote_item, wrote_line}
use Rattle.tw_asm.proofs.write.put_head.Goals as goal

pub loop-param-preserved : goal.loop-param-preserved
loop-param-preserved c =
    wrote_item (λ param. flat_map (part_words (goal_word None)) (param_parts param)) c.args.params.now c.loop-param.param-index c.param-item.result _ _ _ c.loop-param-test.true c.param-item.is c.loop-param.invariant c.in_ok-put_param.ensures

pub returns : goal.returns
returns c =
    subst (λ (words : List (List ℕ)). OnOk c.put-2.result (c.put-2.new.out.items ≡ c.args.out.now.items ++ (join_with_byte 32 (codes "proc" ∷ kind_word c.args.kind ∷ words) ++ codes "\n"))) (flat_twice (part_words (goal_word None)) param_parts c.args.params.now)
    (wrote_line (λ param. flat_map (part_words (goal_word None)) (param_parts param)) c.args.params.now c.loop-param.param-index c.put-2.result c.args.out.now.items (codes "proc") (kind_word c.args.kind ∷ []) c.loop-param.out.items c.put-2.new.out.items
    c.loop-param-test.false c.loop-param.invariant c.put-2.ensures)
