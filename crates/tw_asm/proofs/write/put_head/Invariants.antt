use Rattle.tw_asm.proofs.AsmNames.{None, [], codes, flat_map, goal_word, kind_word, param_parts, part_words, spaced_all, take, ◌++◌, ◌∷◌, ◌≡◌}
use Rattle.tw_asm.proofs.write.put_head.Given as goal

abbrev pub invariant-loop-param : goal.invariant-loop-param
invariant-loop-param l =
    l.out.items ≡ ((l.fn.out.items ++ codes "proc") ++ spaced_all (kind_word l.fn.kind ∷ [])) ++ spaced_all (flat_map (λ param. flat_map (part_words (goal_word None)) (param_parts param)) (take l.param-index l.params))
