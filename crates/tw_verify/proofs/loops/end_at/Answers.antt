use Rattle.tw_verify.proofs.VerifierNames.{Some, ap, arith, close_end, end_within, flow_of, flows, length-map, sym, ◌+◌, ◌∙◌}
use Rattle.tw_verify.proofs.Places.{begin_end, begin_no_end, passes_end}
use Rattle.tw_verify.proofs.loops.end_at.Goals as goal

pub overflow_add-end : goal.overflow_add-end
overflow_add-end c = let e = end_within (flows c.args.code.now) (c.args.place + 1) c.in-Some.end (sym c.end_known-next.ensures ∙ c.in-Some.is) in omega (arith, e.2, length-map c.args.code.now flow_of)

pub end_known-requires-clause-ahead : goal.end_known-requires-clause-ahead
end_known-requires-clause-ahead c = let e = end_within (flows c.args.code.now) (c.args.place + 1) c.in-Some.end (sym c.end_known-next.ensures ∙ c.in-Some.is) in omega (arith, e.1)

pub end_known-requires-clause-within : goal.end_known-requires-clause-within
end_known-requires-clause-within c = let e = end_within (flows c.args.code.now) (c.args.place + 1) c.in-Some.end (sym c.end_known-next.ensures ∙ c.in-Some.is) in omega (arith, e.2, length-map c.args.code.now flow_of)

pub returns-in-Straight : goal.returns-in-Straight
returns-in-Straight c = c.end_known-next.ensures ∙ sym (passes_end (flows c.args.code.now) c.args.place c.flow_at.result c.flow_at.ensures c.in-Straight.is)

pub returns-in-Close : goal.returns-in-Close
returns-in-Close c = sym (close_end (flows c.args.code.now) c.args.place (c.flow_at.ensures ∙ ap Some c.in-Close.is))

pub returns-in-Some : goal.returns-in-Some
returns-in-Some c = c.end_known.ensures ∙ sym (begin_end (flows c.args.code.now) c.args.place c.in-Begin.field-0 c.in-Some.end (c.flow_at.ensures ∙ ap Some c.in-Begin.is) (sym c.end_known-next.ensures ∙ c.in-Some.is))

pub returns-in-None : goal.returns-in-None
returns-in-None c = sym (begin_no_end (flows c.args.code.now) c.args.place c.in-Begin.field-0 (c.flow_at.ensures ∙ ap Some c.in-Begin.is) (sym c.end_known-next.ensures ∙ c.in-None.is))
