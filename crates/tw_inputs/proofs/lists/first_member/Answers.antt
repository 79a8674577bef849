use Rattle.std.proofs.Common.{inl, refl}
use Rattle.tw_inputs.proofs.InputReading.{mark_utf8, member_found, no_equals, no_subscript, no_value}
use Rattle.tw_inputs.proofs.lists.first_member.Goals as goal

pub returns-in_default : goal.returns-in_default
returns-in_default g c = no_subscript g.S.Part.Spells g.V.Part.Spells c.args.bytes.now (rw c.in_default.is at c.in_ok-subscript.ensures)

pub returns-in_default-after : goal.returns-in_default-after
returns-in_default-after g c =
    no_equals g.S.Part.Spells g.V.Part.Spells c.args.bytes.now c.in-Some.rest.now c.in-Some.subscript (rw c.in-Some.is at c.in_ok-subscript.ensures) c.in_default-after.ensures

pub first-requires-2-clause-utf8 : goal.first-requires-2-clause-utf8
first-requires-2-clause-utf8 g c =
    mark_utf8 61 g.S.Part.Spells c.args.bytes.now c.in-Some.rest.now c.in-Some-after.following.now c.in-Some.subscript (inl refl) c.requires (rw c.in-Some.is at c.in_ok-subscript.ensures) c.in-Some-after.ensures

pub returns-in_default-2 : goal.returns-in_default-2
returns-in_default-2 g c =
    no_value g.S.Part.Spells g.V.Part.Spells c.args.bytes.now c.in-Some.rest.now c.in-Some-after.following.now c.in-Some.subscript (rw c.in-Some.is at c.in_ok-subscript.ensures) c.in-Some-after.ensures
    (rw c.in_default-2.is at c.in_ok-value.ensures)

pub returns : goal.returns
returns g c =
    member_found g.S.Part.Spells g.V.Part.Spells c.args.bytes.now c.in-Some.rest.now c.in-Some-after.following.now c.in-Some-2.rest.now c.in-Some.subscript c.in-Some-2.value
    (rw c.in-Some.is at c.in_ok-subscript.ensures) c.in-Some-after.ensures (rw c.in-Some-2.is at c.in_ok-value.ensures)
