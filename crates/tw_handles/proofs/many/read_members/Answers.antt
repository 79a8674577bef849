use Rattle.tw_handles.proofs.Names.{AtSubscript, IsReadAt, Item, Member, Option, Some, ap, arith, inr, length, length-set, none_past, refl, shown_of, slice_get, subst, sym, ◌+◌, ◌<◌, ◌∙◌}
use Rattle.tw_handles.proofs.Filling.{read_more}
use Rattle.tw_handles.proofs.many.read_members.Goals as goal

pub returns-in-None : goal.returns-in-None
returns-in-None c =
    let es = shown_of c.args.outcome.now c.args.datum.now.datum.content in
    let past = none_past es (c.args.first + c.loop-k.k) c.in-None.ensures in
    let short : length es < c.args.first + length c.args.room.now = omega (arith, past, c.loop-k-test.true, c.loop-k.invariant.1) in
    (c.loop-k.invariant.1, inr (short, refl))

pub loop-k-preserved : goal.loop-k-preserved
loop-k-preserved c =
    let es = shown_of c.args.outcome.now c.args.datum.now.datum.content in
    let member : Item → Member = λ s. record { subscript = s; value = c.in-Some.shown.item } in
    let made = member c.value_item.result in
    let here : IsReadAt (slice_get es (c.args.first + c.loop-k.k)) (Some made) = subst (λ (e : Option AtSubscript). IsReadAt e (Some made)) (sym c.in-Some.ensures) (ap (λ (s : Item). Some (member s)) c.value_item.ensures) in
    let within : c.loop-k.k < length c.loop-k.room = omega (arith, c.loop-k-test.true, c.loop-k.invariant.1) in
    (read_more es c.args.first c.loop-k.k c.loop-k.room made within c.loop-k.invariant.0 here, length-set c.loop-k.room c.loop-k.k made ∙ c.loop-k.invariant.1)
