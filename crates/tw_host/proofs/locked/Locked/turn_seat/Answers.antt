use Rattle.tw_host.proofs.Names.{AreWoken, HasCleared, IsAnswerOf, IsDoneOf, ap, arith, drop, events_of, index_of, length, subst, sym, ◌*◌, ◌++◌, ◌∙◌, ◌≡◌, ◌≤◌}
use Rattle.tw_host.proofs.Batching as batching
use Rattle.tw_host.proofs.Holding as holding
use Rattle.tw_host.proofs.locked.Locked.turn_seat.Goals as goal

pub record_events-requires-clause-room : goal.record_events-requires-clause-room
record_events-requires-clause-room g c =
    let old = c.self.inside.pool in
    let t = c.take_turns-answer.ensures in
    let is = ap (λ r. r.program) c.self.invariant.of_run in
    let a = holding.all t.0 old c.take_turns-answer.new.pool c.args.seat.now.actor c.args.done c.take_turns-answer.result t.2 (subst (λ program. IsDoneOf program c.args.done) (sym is) c.requires.program) in
    let longer = holding.longer old c.take_turns-answer.new.pool c.args.seat.now.actor c.take_turns-answer.result _ a in
    omega (arith, longer, a.few, t.1, c.requires.room, c.len-before.ensures, ap length c.history.ensures.events, ap length c.history-2.ensures.events)

pub record_events-requires-clause-before : goal.record_events-requires-clause-before
record_events-requires-clause-before g c =
    let old = c.self.inside.pool in
    let t = c.take_turns-answer.ensures in
    let is = ap (λ r. r.program) c.self.invariant.of_run in
    let a = holding.all t.0 old c.take_turns-answer.new.pool c.args.seat.now.actor c.args.done c.take_turns-answer.result t.2 (subst (λ program. IsDoneOf program c.args.done) (sym is) c.requires.program) in
    let longer = holding.longer old c.take_turns-answer.new.pool c.args.seat.now.actor c.take_turns-answer.result _ a in
    omega (arith, longer, c.len-before.ensures, ap length c.history.ensures.events, ap length c.history-2.ensures.events)

pub invariant_of-self-2 : goal.invariant_of-self-2
invariant_of-self-2 g c =
    let inv = c.self.invariant in
    let old = c.self.inside.pool in
    let new = c.take_turns-answer.new.pool in
    let t = c.take_turns-answer.ensures in
    let is = ap (λ r. r.program) inv.of_run in
    let a = holding.all t.0 old new c.args.seat.now.actor c.args.done c.take_turns-answer.result t.2 (subst (λ program. IsDoneOf program c.args.done) (sym is) c.requires.program) in
    let limit = ap (λ r. r.limit) inv.of_run in
    let low = a.within (omega (arith, inv.within, limit)) in
    record {
      of_run = holding.same_run old new c.args.seat.now.actor c.take_turns-answer.result _ a ∙ inv.of_run;
      layout = inv.layout;
      given = inv.given;
      targets = inv.targets;
      within = omega (arith, low, limit);
      counted = omega (arith, c.record_events.ensures.total, inv.counted, c.len-before.ensures, ap length c.history.ensures.events, ap length c.history-2.ensures.events);
      seats = inv.seats;
      no_part = inv.no_part;
      no_amount = inv.no_amount;
      woken = c.to_wake.ensures.woken;
    }

pub returns-clause-events : goal.returns-clause-events
returns-clause-events g c =
    let seat = c.args.seat.now in
    let old = c.self.inside.pool in
    let new = c.take_turns-answer.new.pool in
    let t = c.take_turns-answer.ensures in
    let of_program = ap (λ r. r.program) c.self.invariant.of_run in
    let a = holding.all t.0 old new seat.actor c.args.done c.take_turns-answer.result t.2 (subst (λ program. IsDoneOf program c.args.done) (sym of_program) c.requires.program) in
    let before = c.len-before.ensures ∙ ap length c.history.ensures.events in
    let is = c.record_events.ensures.events ∙ ap (λ n. seat.events.items ++ drop n c.history-2.result.now.events) before ∙ ap (λ es. seat.events.items ++ drop (length old.history) es) c.history-2.ensures.events in
    let same : length (events_of seat.actor old.history) ≡ length seat.events.items = omega (arith, c.if-count-recorded.false, c.count-count.ensures, c.len-recorded.ensures) in
    let short : length a.es ≤ 2 * c.args.most = omega (arith, a.few, t.1) in
    holding.appended old new seat.actor c.take_turns-answer.result _ a c.args.most g.N.Named.run c.args.done t.0 seat.events.items c.record_events.new.seat.events.items t.2 t.1 short c.self.invariant.of_run c.self.invariant.within same is

pub returns-clause-program : goal.returns-clause-program
returns-clause-program g c =
    let is = ap (λ r. r.program) c.self.invariant.of_run in
    let t = c.take_turns-answer.ensures in
    let a = holding.all t.0 c.self.inside.pool c.take_turns-answer.new.pool c.args.seat.now.actor c.args.done c.take_turns-answer.result t.2 (subst (λ program. IsDoneOf program c.args.done) (sym is) c.requires.program) in
    subst (λ program. IsAnswerOf program c.take_turns-answer.result) is a.answers

pub check_in-requires-clause-layout : goal.check_in-requires-clause-layout
check_in-requires-clause-layout g c =
    let inv = c.self.invariant in
    let old = c.self.inside.pool in
    batching.shown_layout g.N.Named.run old inv.of_run inv.layout inv.targets c.args.seat.now.actor c.args.seat.now.in_layout c.layout.result c.layout.ensures

pub check_in-requires-clause-actor : goal.check_in-requires-clause-actor
check_in-requires-clause-actor g c =
    let inv = c.self.invariant in
    let old = c.self.inside.pool in
    batching.shown_there g.N.Named.run old inv.of_run inv.layout inv.targets c.args.seat.now.actor c.args.seat.now.in_layout c.layout.result c.layout.ensures

pub invariant_of-self : goal.invariant_of-self
invariant_of-self g c =
    let inv = c.self.invariant in
    let old = c.self.inside.pool in
    let was = c.self.inside.sleepers in
    let s = c.check_in.new.self in
    let w = subst (λ b. AreWoken old was.asleep s.out b) (sym c.check_in.ensures.others.1) (subst (λ o. AreWoken old was.asleep o was.is_over) (sym c.check_in.ensures.others.0) inv.woken) in
    record {
      of_run = inv.of_run;
      layout = inv.layout;
      given = inv.given;
      targets = inv.targets;
      within = inv.within;
      counted = inv.counted;
      seats = inv.seats;
      no_part = inv.no_part;
      no_amount = inv.no_amount;
      woken = batching.checked_in g.N.Named.run old inv.of_run inv.layout inv.targets c.args.seat.now.actor c.args.seat.now.in_layout c.layout.result c.layout.ensures was.asleep s.asleep s.out s.is_over w c.check_in.ensures.asleep c.check_in.ensures.none;
    }

pub overflow_sub-events : goal.overflow_sub-events
overflow_sub-events g c =
    let inv = c.self.invariant in
    let old = c.self.inside.pool in
    let new = c.take_turns-answer.new.pool in
    let t = c.take_turns-answer.ensures in
    let is = ap (λ r. r.program) inv.of_run in
    let a = holding.all t.0 old new c.args.seat.now.actor c.args.done c.take_turns-answer.result t.2 (subst (λ program. IsDoneOf program c.args.done) (sym is) c.requires.program) in
    let longer = holding.longer old new c.args.seat.now.actor c.take_turns-answer.result _ a in
    omega (arith, longer, c.len-before.ensures, ap length c.history.ensures.events, c.len.ensures, ap length c.history-3.ensures.events)

pub to_wake-requires-clause-layout : goal.to_wake-requires-clause-layout
to_wake-requires-clause-layout g c =
    let inv = c.self.invariant in
    let old = c.self.inside.pool in
    let was = c.self.inside.sleepers in
    let s = c.check_in.new.self in
    let w = subst (λ b. AreWoken old was.asleep s.out b) (sym c.check_in.ensures.others.1) (subst (λ o. AreWoken old was.asleep o was.is_over) (sym c.check_in.ensures.others.0) inv.woken) in
    let new = c.take_turns-answer.new.pool in
    let t = c.take_turns-answer.ensures in
    let is = ap (λ r. r.program) inv.of_run in
    let a = holding.all t.0 old new c.args.seat.now.actor c.args.done c.take_turns-answer.result t.2 (subst (λ program. IsDoneOf program c.args.done) (sym is) c.requires.program) in
    batching.new_layout g.N.Named.run old inv.of_run inv.layout inv.targets c.args.seat.now.actor c.args.seat.now.in_layout c.layout.result c.layout.ensures was.asleep s.asleep s.out s.is_over w c.check_in.ensures.asleep new c.args.done t.0 c.take_turns-answer.result t.2 _ a

pub to_wake-requires-clause-actor : goal.to_wake-requires-clause-actor
to_wake-requires-clause-actor g c =
    let inv = c.self.invariant in
    let old = c.self.inside.pool in
    let was = c.self.inside.sleepers in
    let s = c.check_in.new.self in
    let w = subst (λ b. AreWoken old was.asleep s.out b) (sym c.check_in.ensures.others.1) (subst (λ o. AreWoken old was.asleep o was.is_over) (sym c.check_in.ensures.others.0) inv.woken) in
    let new = c.take_turns-answer.new.pool in
    let t = c.take_turns-answer.ensures in
    let is = ap (λ r. r.program) inv.of_run in
    let a = holding.all t.0 old new c.args.seat.now.actor c.args.done c.take_turns-answer.result t.2 (subst (λ program. IsDoneOf program c.args.done) (sym is) c.requires.program) in
    batching.new_there g.N.Named.run old inv.of_run inv.layout inv.targets c.args.seat.now.actor c.args.seat.now.in_layout c.layout.result c.layout.ensures was.asleep s.asleep s.out s.is_over w c.check_in.ensures.asleep new c.args.done t.0 c.take_turns-answer.result t.2 _ a

pub to_wake-requires-clause-awake : goal.to_wake-requires-clause-awake
to_wake-requires-clause-awake g c =
    let inv = c.self.invariant in
    let old = c.self.inside.pool in
    let was = c.self.inside.sleepers in
    let s = c.check_in.new.self in
    let w = subst (λ b. AreWoken old was.asleep s.out b) (sym c.check_in.ensures.others.1) (subst (λ o. AreWoken old was.asleep o was.is_over) (sym c.check_in.ensures.others.0) inv.woken) in
    let new = c.take_turns-answer.new.pool in
    let t = c.take_turns-answer.ensures in
    let is = ap (λ r. r.program) inv.of_run in
    let a = holding.all t.0 old new c.args.seat.now.actor c.args.done c.take_turns-answer.result t.2 (subst (λ program. IsDoneOf program c.args.done) (sym is) c.requires.program) in
    batching.awake g.N.Named.run old inv.of_run inv.layout inv.targets c.args.seat.now.actor c.args.seat.now.in_layout c.layout.result c.layout.ensures was.asleep s.asleep s.out s.is_over w c.check_in.ensures.asleep new c.args.done t.0 c.take_turns-answer.result t.2 _ a

pub to_wake-requires-clause-known : goal.to_wake-requires-clause-known
to_wake-requires-clause-known g c =
    let inv = c.self.invariant in
    let old = c.self.inside.pool in
    let was = c.self.inside.sleepers in
    let s = c.check_in.new.self in
    let w = subst (λ b. AreWoken old was.asleep s.out b) (sym c.check_in.ensures.others.1) (subst (λ o. AreWoken old was.asleep o was.is_over) (sym c.check_in.ensures.others.0) inv.woken) in
    let new = c.take_turns-answer.new.pool in
    let t = c.take_turns-answer.ensures in
    let is = ap (λ r. r.program) inv.of_run in
    let a = holding.all t.0 old new c.args.seat.now.actor c.args.done c.take_turns-answer.result t.2 (subst (λ program. IsDoneOf program c.args.done) (sym is) c.requires.program) in
    let longer = holding.longer old new c.args.seat.now.actor c.take_turns-answer.result _ a in
    batching.known g.N.Named.run old inv.of_run inv.layout inv.targets c.args.seat.now.actor c.args.seat.now.in_layout c.layout.result c.layout.ensures was.asleep s.asleep s.out s.is_over w c.check_in.ensures.asleep new c.args.done t.0 c.take_turns-answer.result t.2 _ a _ (omega (arith, longer, c.len-before.ensures, ap length c.history.ensures.events, ap length c.history-2.ensures.events, c.len.ensures, ap length c.history-3.ensures.events))

pub to_wake-requires-clause-idle : goal.to_wake-requires-clause-idle
to_wake-requires-clause-idle g c =
    let inv = c.self.invariant in
    let old = c.self.inside.pool in
    let was = c.self.inside.sleepers in
    let s = c.check_in.new.self in
    let w = subst (λ b. AreWoken old was.asleep s.out b) (sym c.check_in.ensures.others.1) (subst (λ o. AreWoken old was.asleep o was.is_over) (sym c.check_in.ensures.others.0) inv.woken) in
    let new = c.take_turns-answer.new.pool in
    let t = c.take_turns-answer.ensures in
    let is = ap (λ r. r.program) inv.of_run in
    let a = holding.all t.0 old new c.args.seat.now.actor c.args.done c.take_turns-answer.result t.2 (subst (λ program. IsDoneOf program c.args.done) (sym is) c.requires.program) in
    batching.idle g.N.Named.run old inv.of_run inv.layout inv.targets c.args.seat.now.actor c.args.seat.now.in_layout c.layout.result c.layout.ensures was.asleep s.asleep s.out s.is_over w c.check_in.ensures.asleep new c.args.done t.0 c.take_turns-answer.result t.2 _ a

pub to_wake-requires-clause-over : goal.to_wake-requires-clause-over
to_wake-requires-clause-over g c =
    let inv = c.self.invariant in
    let old = c.self.inside.pool in
    let was = c.self.inside.sleepers in
    let s = c.check_in.new.self in
    let w = subst (λ b. AreWoken old was.asleep s.out b) (sym c.check_in.ensures.others.1) (subst (λ o. AreWoken old was.asleep o was.is_over) (sym c.check_in.ensures.others.0) inv.woken) in
    let new = c.take_turns-answer.new.pool in
    let t = c.take_turns-answer.ensures in
    let is = ap (λ r. r.program) inv.of_run in
    let a = holding.all t.0 old new c.args.seat.now.actor c.args.done c.take_turns-answer.result t.2 (subst (λ program. IsDoneOf program c.args.done) (sym is) c.requires.program) in
    batching.says g.N.Named.run old inv.of_run inv.layout inv.targets c.args.seat.now.actor c.args.seat.now.in_layout c.layout.result c.layout.ensures was.asleep s.asleep s.out s.is_over w c.check_in.ensures.asleep new c.args.done t.0 c.take_turns-answer.result t.2 _ a

pub to_wake-requires-clause-ended : goal.to_wake-requires-clause-ended
to_wake-requires-clause-ended g c =
    let inv = c.self.invariant in
    let old = c.self.inside.pool in
    let was = c.self.inside.sleepers in
    let s = c.check_in.new.self in
    let w = subst (λ b. AreWoken old was.asleep s.out b) (sym c.check_in.ensures.others.1) (subst (λ o. AreWoken old was.asleep o was.is_over) (sym c.check_in.ensures.others.0) inv.woken) in
    let new = c.take_turns-answer.new.pool in
    let t = c.take_turns-answer.ensures in
    let is = ap (λ r. r.program) inv.of_run in
    let a = holding.all t.0 old new c.args.seat.now.actor c.args.done c.take_turns-answer.result t.2 (subst (λ program. IsDoneOf program c.args.done) (sym is) c.requires.program) in
    batching.ended g.N.Named.run old inv.of_run inv.layout inv.targets c.args.seat.now.actor c.args.seat.now.in_layout c.layout.result c.layout.ensures was.asleep s.asleep s.out s.is_over w c.check_in.ensures.asleep new c.args.done t.0 c.take_turns-answer.result t.2 _ a

pub to_wake-requires-clause-stops : goal.to_wake-requires-clause-stops
to_wake-requires-clause-stops g c =
    let inv = c.self.invariant in
    let old = c.self.inside.pool in
    let was = c.self.inside.sleepers in
    let s = c.check_in.new.self in
    let w = subst (λ b. AreWoken old was.asleep s.out b) (sym c.check_in.ensures.others.1) (subst (λ o. AreWoken old was.asleep o was.is_over) (sym c.check_in.ensures.others.0) inv.woken) in
    let new = c.take_turns-answer.new.pool in
    let t = c.take_turns-answer.ensures in
    let is = ap (λ r. r.program) inv.of_run in
    let a = holding.all t.0 old new c.args.seat.now.actor c.args.done c.take_turns-answer.result t.2 (subst (λ program. IsDoneOf program c.args.done) (sym is) c.requires.program) in
    batching.stops g.N.Named.run old inv.of_run inv.layout inv.targets c.args.seat.now.actor c.args.seat.now.in_layout c.layout.result c.layout.ensures was.asleep s.asleep s.out s.is_over w c.check_in.ensures.asleep new c.args.done t.0 c.take_turns-answer.result t.2 _ a

pub returns-then-count-recorded-clause-due : goal.returns-then-count-recorded-clause-due
returns-then-count-recorded-clause-due g c =
    let inv = c.self.invariant in
    let old = c.self.inside.pool in
    let was = c.self.inside.sleepers in
    let s = c.check_in.new.self in
    let w = subst (λ b. AreWoken old was.asleep s.out b) (sym c.check_in.ensures.others.1) (subst (λ o. AreWoken old was.asleep o was.is_over) (sym c.check_in.ensures.others.0) inv.woken) in
    subst (λ v. HasCleared (index_of g.N.Named.run.layout c.args.seat.now.actor) v.1 s.asleep c.args.due.now) c.self.view_is (batching.none_due g.N.Named.run old inv.of_run inv.layout inv.targets c.args.seat.now.actor c.args.seat.now.in_layout c.layout.result c.layout.ensures was.asleep s.asleep s.out s.is_over w c.check_in.ensures.asleep c.args.due.now)

pub returns-clause-due : goal.returns-clause-due
returns-clause-due g c =
    let inv = c.self.invariant in
    let old = c.self.inside.pool in
    let was = c.self.inside.sleepers in
    let s = c.check_in.new.self in
    let w = subst (λ b. AreWoken old was.asleep s.out b) (sym c.check_in.ensures.others.1) (subst (λ o. AreWoken old was.asleep o was.is_over) (sym c.check_in.ensures.others.0) inv.woken) in
    let new = c.take_turns-answer.new.pool in
    let t = c.take_turns-answer.ensures in
    let is = ap (λ r. r.program) inv.of_run in
    let a = holding.all t.0 old new c.args.seat.now.actor c.args.done c.take_turns-answer.result t.2 (subst (λ program. IsDoneOf program c.args.done) (sym is) c.requires.program) in
    subst (λ v. HasCleared (index_of g.N.Named.run.layout c.args.seat.now.actor) v.1 c.to_wake.new.self.asleep c.to_wake.result) c.self.view_is
    (batching.all_due g.N.Named.run old inv.of_run inv.layout inv.targets c.args.seat.now.actor c.args.seat.now.in_layout c.layout.result c.layout.ensures was.asleep s.asleep s.out s.is_over w c.check_in.ensures.asleep new c.args.done t.0 c.take_turns-answer.result t.2 _ a c.to_wake.new.self.asleep c.to_wake.result c.to_wake.ensures.due)
