use Rattle.tw_verify.proofs.VerifierNames.{arith, end_within, flow_of, flows, length-map, sym, ◌∙◌}
use Rattle.tw_verify.proofs.loops.Loops.block.Goals as goal

pub depth-requires-clause-within : goal.depth-requires-clause-within
depth-requires-clause-within c = let e = end_within (flows c.args.code.now) c.args.place c.in-Some.end (sym c.end.ensures ∙ c.in-Some.is) in omega (arith, e.2, length-map c.args.code.now flow_of)
