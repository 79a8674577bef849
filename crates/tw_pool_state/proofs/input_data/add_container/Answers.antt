use Rattle.tw_pool_state.proofs.Adding.{IsMade, made_added, made_live}
use Rattle.tw_pool_state.proofs.PartNames.{given_type, members_by}
use Rattle.tw_pool_state.proofs.Filled.{close_allowed, close_notified, closed_on, fill_before, fill_begun, index_absent, index_all, index_element, index_key_short, index_more, index_room, index_value_short}
use Rattle.tw_pool_state.proofs.input_data.add_container.Goals as goal

pub loop-subscript-init : goal.loop-subscript-init
loop-subscript-init g c =
    let e = c.in_ok-write.ensures in
    let made : IsMade c.args.store.now c.create.new.self c.args.ty c.in_ok-write.write c.in_ok-write.read = record { made = e.made; write = e.write; read = e.read; places = e.places; here = e.here; quiet = e.quiet; live = c.requires.live } in
    let type = given_type c.args.ty g.K.AsValue.scalar g.V.AsValue.scalar (members_by g.K.AsValue.value g.V.AsValue.value c.args.members.now) c.requires.fits in
    fill_begun c.args.store.now c.create.new.self c.args.ty g.K.AsValue.scalar g.V.AsValue.scalar c.in_ok-write.write type (made_added _ _ _ _ _ made) (made_live _ _ _ _ _ made)

pub add_member-requires-clause-room : goal.add_member-requires-clause-room
add_member-requires-clause-room g c = index_room g.K.AsValue.value g.V.AsValue.value c.args.members.now c.loop-subscript.subscript-index c.loop-subscript-item.result c.args.store.now c.args.ty c.loop-subscript.store c.in_ok-write.write c.loop-subscript.invariant g.K.AsValue.scalar g.V.AsValue.scalar c.requires.fits c.loop-subscript-test.true c.requires.room

pub add_member-requires-clause-before : goal.add_member-requires-clause-before
add_member-requires-clause-before g c = fill_before c.args.store.now c.args.ty _ c.loop-subscript.store c.in_ok-write.write c.loop-subscript.invariant

pub add_member-requires-clause-short : goal.add_member-requires-clause-short
add_member-requires-clause-short g c = index_key_short g.K.AsValue.value g.V.AsValue.value c.args.members.now c.loop-subscript.subscript-index c.loop-subscript-item.result c.args.store.now c.args.ty c.loop-subscript.store c.in_ok-write.write c.loop-subscript.invariant g.K.AsValue.scalar g.V.AsValue.scalar c.requires.fits c.loop-subscript-test.true c.loop-subscript-item.result.0 c.loop-subscript-item.result.1 c.loop-subscript-item.is

pub add_member-requires-clause-short_value : goal.add_member-requires-clause-short_value
add_member-requires-clause-short_value g c = index_value_short g.K.AsValue.value g.V.AsValue.value c.args.members.now c.loop-subscript.subscript-index c.loop-subscript-item.result c.args.store.now c.args.ty c.loop-subscript.store c.in_ok-write.write c.loop-subscript.invariant g.K.AsValue.scalar g.V.AsValue.scalar c.requires.fits c.loop-subscript-test.true c.loop-subscript-item.result.0 c.loop-subscript-item.result.1 c.loop-subscript-item.is

pub add_member-requires-clause-element : goal.add_member-requires-clause-element
add_member-requires-clause-element g c =
    index_element g.K.AsValue.value g.V.AsValue.value c.args.members.now c.loop-subscript.subscript-index c.loop-subscript-item.result c.args.store.now c.args.ty c.loop-subscript.store c.in_ok-write.write c.loop-subscript.invariant g.K.AsValue.scalar g.V.AsValue.scalar c.requires.fits
    (g.K.AsValue.value c.loop-subscript-item.result.0) (g.V.AsValue.value c.loop-subscript-item.result.1) (g.met.K.AsValue.of_scalar c.loop-subscript-item.result.0) (g.met.V.AsValue.of_scalar c.loop-subscript-item.result.1)

pub add_member-requires-clause-absent : goal.add_member-requires-clause-absent
add_member-requires-clause-absent g c = index_absent g.K.AsValue.value g.V.AsValue.value c.args.members.now c.loop-subscript.subscript-index c.loop-subscript-item.result c.args.store.now c.args.ty c.loop-subscript.store c.in_ok-write.write c.loop-subscript.invariant g.K.AsValue.scalar g.V.AsValue.scalar c.requires.fits c.loop-subscript-test.true c.loop-subscript-item.result.0 c.loop-subscript-item.result.1 c.loop-subscript-item.is

pub loop-subscript-preserved : goal.loop-subscript-preserved
loop-subscript-preserved g c = index_more g.K.AsValue.value g.V.AsValue.value c.args.members.now c.loop-subscript.subscript-index c.loop-subscript-item.result c.args.store.now c.args.ty c.loop-subscript.store c.in_ok-write.write c.loop-subscript.invariant g.K.AsValue.scalar g.V.AsValue.scalar c.requires.fits c.loop-subscript-test.true c.loop-subscript-item.result.0 c.loop-subscript-item.result.1 c.loop-subscript-item.is c.add_member.new.store c.in-Ok.ensures

pub drop_write-requires-clause-allowed : goal.drop_write-requires-clause-allowed
drop_write-requires-clause-allowed g c =
    let type = given_type c.args.ty g.K.AsValue.scalar g.V.AsValue.scalar (members_by g.K.AsValue.value g.V.AsValue.value c.args.members.now) c.requires.fits in
    close_allowed c.args.store.now c.args.ty _ c.loop-subscript.store c.in_ok-write.write c.loop-subscript.invariant g.K.AsValue.scalar g.V.AsValue.scalar type

pub unreachable-requires : goal.unreachable-requires
unreachable-requires g c =
    let type = given_type c.args.ty g.K.AsValue.scalar g.V.AsValue.scalar (members_by g.K.AsValue.value g.V.AsValue.value c.args.members.now) c.requires.fits in
    let refused = c.in-Err.ensures.reserved (close_notified c.args.store.now c.args.ty _ c.loop-subscript.store c.in_ok-write.write c.loop-subscript.invariant g.K.AsValue.scalar g.V.AsValue.scalar type) in
    cc

pub returns-clause-added : goal.returns-clause-added
returns-clause-added g c =
    let es = members_by g.K.AsValue.value g.V.AsValue.value c.args.members.now in
    let type = given_type c.args.ty g.K.AsValue.scalar g.V.AsValue.scalar es c.requires.fits in
    let all = index_all g.K.AsValue.value g.V.AsValue.value c.args.members.now c.loop-subscript.subscript-index c.args.store.now c.args.ty c.loop-subscript.store c.in_ok-write.write c.loop-subscript.invariant c.loop-subscript-test.false in
    closed_on c.args.store.now c.args.ty es c.loop-subscript.store c.in_ok-write.write all g.K.AsValue.scalar g.V.AsValue.scalar type c.drop_write.new.self c.in_ok-write.read c.in_ok-write.ensures.read c.in-Ok-drop_write.ensures.dropped
