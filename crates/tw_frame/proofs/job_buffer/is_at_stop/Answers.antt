use Rattle.tw_frame.proofs.Names.{Bool, Context, Instr, IsDone, IsJob, JobView, List, MayBeAt, ap, arith, false, get_or, length, not, position_of, refl, subst, sym, true, ◌<◌, ◌∙◌, ◌≡◌}
use Rattle.tw_frame.proofs.Lending.{done_before, known, there}
use Rattle.tw_frame.proofs.job_buffer.is_at_stop.Goals as goal

unset : (b : Bool) → not b ≡ true → b ≡ false
unset true e = cc
unset false e = refl

pub offset_bounds-as_slice-deref : goal.offset_bounds-as_slice-deref
offset_bounds-as_slice-deref c =
    let job : IsJob c.lent.inside.verified.now.program c.lent.inside.procedure c.lent.inside.at.value.registers.types (position_of c.lent.inside.at.value) = record { own = c.lent.invariant; fits_place = subst (λ (j : JobView). MayBeAt j.program.program j.procedure j.position) (sym c.lent.view_is) c.requires } in
    let k = known c.lent.inside.verified.now c.lent.inside.procedure c.lent.inside.at.value.registers.types (position_of c.lent.inside.at.value) job c.procedure_of-p.result.now c.procedure_of-p.ensures.is c.procedure_of-p.ensures.accepted in
    let at : c.deref.result.now.place ≡ c.lent.inside.at.value.place = ap (λ (x : Context). x.place) c.deref.ensures in
    omega (arith, at, k.place_in, k.few_places)

pub bounds-as_slice-deref : goal.bounds-as_slice-deref
bounds-as_slice-deref c =
    let job : IsJob c.lent.inside.verified.now.program c.lent.inside.procedure c.lent.inside.at.value.registers.types (position_of c.lent.inside.at.value) = record { own = c.lent.invariant; fits_place = subst (λ (j : JobView). MayBeAt j.program.program j.procedure j.position) (sym c.lent.view_is) c.requires } in
    let k = known c.lent.inside.verified.now c.lent.inside.procedure c.lent.inside.at.value.registers.types (position_of c.lent.inside.at.value) job c.procedure_of-p.result.now c.procedure_of-p.ensures.is c.procedure_of-p.ensures.accepted in
    let at : c.deref.result.now.place ≡ c.lent.inside.at.value.place = ap (λ (x : Context). x.place) c.deref.ensures in
    subst (λ (code : List Instr). c.deref.result.now.place < length code) (sym c.as_slice.ensures) (omega (arith, at, k.place_in))

pub returns : goal.returns
returns c = λ is.
    let job : IsJob c.lent.inside.verified.now.program c.lent.inside.procedure c.lent.inside.at.value.registers.types (position_of c.lent.inside.at.value) = record { own = c.lent.invariant; fits_place = subst (λ (j : JobView). MayBeAt j.program.program j.procedure j.position) (sym c.lent.view_is) c.requires } in
    let k = known c.lent.inside.verified.now c.lent.inside.procedure c.lent.inside.at.value.registers.types (position_of c.lent.inside.at.value) job c.procedure_of-p.result.now c.procedure_of-p.ensures.is c.procedure_of-p.ensures.accepted in
    let at : c.deref.result.now.place ≡ c.lent.inside.at.value.place = ap (λ (x : Context). x.place) c.deref.ensures in
    let i = c.index-as_slice-deref.result in
    let code = c.as_slice.result.now in
    let read = there c.lent.inside.verified.now c.lent.inside.procedure c.lent.inside.at.value.registers.types (position_of c.lent.inside.at.value) c.procedure_of-p.result.now k code i c.as_slice.ensures (subst (λ n. i ≡ get_or code n i) at c.index-as_slice-deref.is) in
    subst (λ (j : JobView). IsDone j.program.program j.procedure j.position j.position 0 false) c.lent.view_is
    (done_before c.lent.inside.verified.now c.lent.inside.procedure c.lent.inside.at.value.registers.types (position_of c.lent.inside.at.value) c.procedure_of-p.result.now k i read (sym c.is_local.ensures ∙ unset c.is_local.result is))
