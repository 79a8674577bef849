use Rattle.tw_pool_state.proofs.PartNames.{ap, created, scalar_of, scalar_type, ◌∙◌}
use Rattle.tw_pool_state.proofs.Adding.{IsMade, scalar_added, scalar_allowed, scalar_notified}
use Rattle.tw_pool_state.proofs.input_data.add_scalar.Goals as goal

pub store-requires-clause-allowed : goal.store-requires-clause-allowed
store-requires-clause-allowed c =
    let e = c.in_ok-write.ensures in
    let made : IsMade c.args.store.now c.create.new.self (scalar_type (scalar_of c.args.value)) c.in_ok-write.write c.in_ok-write.read = record {
      made = e.made ∙ ap (created c.args.store.now.store) (c.from.ensures ∙ ap scalar_type c.scalar.ensures);
      write = e.write;
      read = e.read;
      places = e.places;
      here = e.here;
      quiet = e.quiet;
      live = c.requires.live;
    } in
    scalar_allowed c.args.store.now c.create.new.self c.args.value c.in_ok-write.write c.in_ok-write.read made

pub unreachable-requires : goal.unreachable-requires
unreachable-requires c =
    let e = c.in_ok-write.ensures in
    let made : IsMade c.args.store.now c.create.new.self (scalar_type (scalar_of c.args.value)) c.in_ok-write.write c.in_ok-write.read = record {
      made = e.made ∙ ap (created c.args.store.now.store) (c.from.ensures ∙ ap scalar_type c.scalar.ensures);
      write = e.write;
      read = e.read;
      places = e.places;
      here = e.here;
      quiet = e.quiet;
      live = c.requires.live;
    } in
    let refused = c.in-Err.ensures.reserved (scalar_notified c.args.store.now c.create.new.self c.args.value c.in_ok-write.write c.in_ok-write.read made) in
    cc

pub returns-clause-added : goal.returns-clause-added
returns-clause-added c =
    let e = c.in_ok-write.ensures in
    let made : IsMade c.args.store.now c.create.new.self (scalar_type (scalar_of c.args.value)) c.in_ok-write.write c.in_ok-write.read = record {
      made = e.made ∙ ap (created c.args.store.now.store) (c.from.ensures ∙ ap scalar_type c.scalar.ensures);
      write = e.write;
      read = e.read;
      places = e.places;
      here = e.here;
      quiet = e.quiet;
      live = c.requires.live;
    } in
    scalar_added c.args.store.now c.create.new.self c.args.value c.in_ok-write.write c.in_ok-write.read made c.store.new.self c.in-Ok.ensures.stored
