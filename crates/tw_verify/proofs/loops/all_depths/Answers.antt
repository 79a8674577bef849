use Rattle.tw_verify.proofs.VerifierNames.{DepthsTo, List, [], ap, arith, depth_after, depth_next, flows, subst, sym, ℕ, ◌+◌, ◌∙◌, ◌∷◌}
use Rattle.tw_verify.proofs.Places.{depths_more}
use Rattle.tw_verify.proofs.loops.all_depths.Goals as goal

pub loop-place-preserved : goal.loop-place-preserved
loop-place-preserved c = record {
  known = subst (λ (xs : List ℕ). DepthsTo (flows c.args.code.now) xs (c.loop-place.place + 1)) (sym c.in_ok-push.ensures.items) (depths_more (flows c.args.code.now) c.loop-place.depths.items c.loop-place.place c.loop-place.depth c.loop-place.invariant.known c.loop-place.invariant.depth);
  depth = c.deeper-depth.ensures.depth ∙ ap (λ (n : ℕ). depth_after n (c.flow_at.result ∷ [])) c.loop-place.invariant.depth ∙ sym (depth_next (flows c.args.code.now) c.loop-place.place c.flow_at.result c.flow_at.ensures);
  shallow = omega (arith, c.deeper-depth.ensures.bound, c.loop-place.invariant.shallow);
}
