use Rattle.tw_frame.proofs.Names.{List, RegistersView, Scalar, ap, arith, refl, slice_get, sym, take, ℕ, ◌∙◌}
use Rattle.tw_frame.proofs.Starting.{IsNext, counted_on, counted_past, filled_on, filled_past, next_arg, vals}
use Rattle.tw_frame.proofs.start.fill.Goals as goal

pub loop-index-preserved-in_default : goal.loop-index-preserved-in_default
loop-index-preserved-in_default c = record {
  types = c.loop-index.invariant.types;
  filled = filled_past c.args.args.now c.loop-index.index c.args.registers.now.types c.loop-index.registers.values (sym c.in_default.ensures) c.loop-index.invariant.filled;
  count = c.loop-index.invariant.count ∙ sym (counted_past c.args.args.now c.loop-index.index (sym c.in_default.ensures));
  few = let low = c.loop-index.invariant.few in omega arith;
}

pub set_copy-requires : goal.set_copy-requires
set_copy-requires c =
    let next : IsNext (vals (take c.loop-index.index c.args.args.now)) c.in-Some.value.now c.args.registers.now.types c.loop-index.registers.values =
    next_arg c.args.args.now c.loop-index.index c.in-Some.value.now c.args.registers.now.types c.requires.fit.0 c.loop-index.registers.values (sym c.in-Some.ensures) c.requires.fit.1 c.loop-index.invariant.filled in
    ap (λ (ts : List Scalar). slice_get ts c.loop-index.register) c.loop-index.invariant.types
    ∙ ap (λ (k : ℕ). slice_get c.args.registers.now.types k) c.loop-index.invariant.count
    ∙ next.fits

pub loop-index-preserved : goal.loop-index-preserved
loop-index-preserved c =
    let next : IsNext (vals (take c.loop-index.index c.args.args.now)) c.in-Some.value.now c.args.registers.now.types c.loop-index.registers.values =
    next_arg c.args.args.now c.loop-index.index c.in-Some.value.now c.args.registers.now.types c.requires.fit.0 c.loop-index.registers.values (sym c.in-Some.ensures) c.requires.fit.1 c.loop-index.invariant.filled in
    record {
      types = ap (λ (r : RegistersView). r.types) c.in_ok-set_copy.ensures.set ∙ c.loop-index.invariant.types;
      filled = filled_on c.args.args.now c.loop-index.index c.in-Some.value.now c.args.registers.now.types c.loop-index.registers.values c.set_copy.new.self.values c.loop-index.register c.in-Some.value.now
          (sym c.in-Some.ensures) next c.loop-index.invariant.count refl (ap (λ (r : RegistersView). r.values) c.in_ok-set_copy.ensures.set);
      count = let on = counted_on c.args.args.now c.loop-index.index c.in-Some.value.now (sym c.in-Some.ensures) in omega (arith, on, c.loop-index.invariant.count);
      few = let low = c.loop-index.invariant.few in omega arith;
    }
