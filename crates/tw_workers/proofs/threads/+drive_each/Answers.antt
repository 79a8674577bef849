use Rattle.tw_workers.proofs.Names.{Drove, ap, seen_by, subst, sym, true, ◌||◌, ◌∙◌}
use Rattle.tw_workers.proofs.Threading.{AllBack, no_seat, threaded_last, unthreaded_last}
use Rattle.tw_workers.proofs.threads.+drive_each.Goals as goal

pub returns-in_default-clause-drove : goal.returns-in_default-clause-drove
returns-in_default-clause-drove g t c =
    no_seat (λ s. seen_by s.actor s.events.items) g.N.Named.run g.G.Gate.unwatched g.G.Gate.stoppable c.args.seats.now.items c.pop.new.self.items (sym c.args.seats.now.ok.0 ∙ c.in_default.ensures.cases.0)
    (sym c.pop.new.self.ok.0 ∙ c.in_default.ensures.cases.1)

pub returns-then-memory-clause-drove : goal.returns-then-memory-clause-drove
returns-then-memory-clause-drove g t c =
    let run = g.N.Named.run in
    let unwatched = g.G.Gate.unwatched in
    let stoppable = g.G.Gate.stoppable in
    let seat = c.in-Some.seat in
    let back = c.join-sent.result in
    let from = subst (λ s. Drove run unwatched stoppable (seen_by s.actor s.events.items) (seen_by back.sent.seat.actor back.sent.seat.events.items) back.memory) c.in-Ok.ensures.there c.join-sent.ensures in
    let drove = subst (λ s. Drove run unwatched stoppable (seen_by seat.actor seat.events.items) (seen_by s.actor s.events.items) back.memory) (sym c.into_seat.ensures) from in
    let whole = threaded_last (λ s. seen_by s.actor s.events.items) run unwatched stoppable c.args.seats.now.items c.pop.new.self.items c.drive_each-others.new.seats.items seat c.into_seat.result c.in-Some.ensures.items back.memory
    c.drive_each-others.result drove c.drive_each-others.ensures.drove in
    let there = subst (λ xs. AllBack (λ s. seen_by s.actor s.events.items) run unwatched stoppable c.args.seats.now.items xs (back.memory || c.drive_each-others.result)) (sym c.push_reserved.ensures.items) whole in
    subst (AllBack (λ s. seen_by s.actor s.events.items) run unwatched stoppable c.args.seats.now.items c.push_reserved.new.self.items) (ap (λ b. b || c.drive_each-others.result) c.if-memory.true ∙ sym c.if-memory.true) there

pub returns-else-memory-clause-drove : goal.returns-else-memory-clause-drove
returns-else-memory-clause-drove g t c =
    let run = g.N.Named.run in
    let unwatched = g.G.Gate.unwatched in
    let stoppable = g.G.Gate.stoppable in
    let seat = c.in-Some.seat in
    let back = c.join-sent.result in
    let from = subst (λ s. Drove run unwatched stoppable (seen_by s.actor s.events.items) (seen_by back.sent.seat.actor back.sent.seat.events.items) back.memory) c.in-Ok.ensures.there c.join-sent.ensures in
    let drove = subst (λ s. Drove run unwatched stoppable (seen_by seat.actor seat.events.items) (seen_by s.actor s.events.items) back.memory) (sym c.into_seat.ensures) from in
    let whole = threaded_last (λ s. seen_by s.actor s.events.items) run unwatched stoppable c.args.seats.now.items c.pop.new.self.items c.drive_each-others.new.seats.items seat c.into_seat.result c.in-Some.ensures.items back.memory
    c.drive_each-others.result drove c.drive_each-others.ensures.drove in
    let there = subst (λ xs. AllBack (λ s. seen_by s.actor s.events.items) run unwatched stoppable c.args.seats.now.items xs (back.memory || c.drive_each-others.result)) (sym c.push_reserved.ensures.items) whole in
    subst (AllBack (λ s. seen_by s.actor s.events.items) run unwatched stoppable c.args.seats.now.items c.push_reserved.new.self.items) (ap (λ b. b || c.drive_each-others.result) c.if-memory.false) there

pub returns-in-Err-clause-drove : goal.returns-in-Err-clause-drove
returns-in-Err-clause-drove g t c =
    let run = g.N.Named.run in
    let unwatched = g.G.Gate.unwatched in
    let stoppable = g.G.Gate.stoppable in
    let seat = c.in-Some.seat in
    let memory = c.in-Err.field-0.memory in
    let drove = subst (λ s. Drove run unwatched stoppable (seen_by seat.actor seat.events.items) (seen_by s.actor s.events.items) memory) (sym c.into_seat-in-Err.ensures) c.in-Err.ensures.here in
    let whole = unthreaded_last (λ s. seen_by s.actor s.events.items) run unwatched stoppable c.args.seats.now.items c.pop.new.self.items c.drive_each.new.seats.items seat c.into_seat-in-Err.result c.in-Some.ensures.items memory
    c.drive_each.result drove c.drive_each.ensures.drove in
    subst (λ xs. AllBack (λ s. seen_by s.actor s.events.items) run unwatched stoppable c.args.seats.now.items xs true) (sym c.push_reserved-in-Err.ensures.items) whole
