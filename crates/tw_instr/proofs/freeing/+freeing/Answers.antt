use Rattle.tw_instr.proofs.Names.{None, Some, ap, arith, bare, copied_there, data_of, drop, drop_read_within, each_same, false, fold, insert, is_unheld, len-entries, length, length-map, members_of, nat_cmp-IsAntisymmetric, nat_cmp_total, pos, remove, remove_insert, slice_get-get_or, subst, sym, true, ◌+◌, ◌-◌, ◌<◌, ◌∙◌, ◌≡◌, ◌≤◌}
use Rattle.std.specs.FinMap as map
use Rattle.tw_types.specs.declared.value.Value.TheVariants.{Int}
use Rattle.tw_instr.proofs.Live.{found, looked, removed, same_kept, written, written_found}
use Rattle.tw_types.proofs.Drops.{drop_absent, drop_unread, drop_held, drop_lowest, drop_last, fold_next, fold_end}
use Rattle.tw_instr.proofs.freeing.+freeing.Goals as goal
use Rattle.tw_instr.proofs.freeing.+freeing.Goals.{drop_each-in-Some, drop_each-in_default}

pub drop_read_within-returns-in_default : goal.drop_read_within-returns-in_default
drop_read_within-returns-in_default t c = ap (λ m. data_of m.entries) c.get_mut.follows.holds-at-none
    ∙ drop_absent _ _ c.args.depth (found c.args.live.now c.args.id None c.in_default.ensures.value)

pub drop_read_within-returns-then-reads-eq0 : goal.drop_read_within-returns-then-reads-eq0
drop_read_within-returns-then-reads-eq0 t c =
    let there = found c.args.live.now c.args.id (Some c.in-Some.datum.now) c.in-Some.ensures.value in
    looked c.args.live.now (c.get_mut.follows.lender c.in-Some.datum.now) c.args.id c.in-Some.datum.now c.in-Some.ensures.value (c.get_mut.follows.holds c.in-Some.datum.now)
    ∙ drop_unread _ _ c.args.depth c.in-Some.datum.now.datum there (sym c.reads.ensures ∙ c.if-reads-eq0.true)

pub drop_read_within-returns-then-not-is_unheld : goal.drop_read_within-returns-then-not-is_unheld
drop_read_within-returns-then-not-is_unheld t c =
    let there = found c.args.live.now c.args.id (Some c.in-Some.datum.now) c.in-Some.ensures.value in
    let changes = written c.args.live.now (c.get_mut.follows.lender c.take_read.new.self) c.args.id c.in-Some.datum.now c.take_read.new.self c.in-Some.ensures.value (c.get_mut.follows.holds c.take_read.new.self) in
    let stays : is_unheld c.take_read.new.self.datum ≡ false = sym c.is_unheld.ensures ∙ c.if-not-is_unheld.true in
    changes ∙ ap (insert (data_of c.args.live.now.entries) c.args.id) (ap bare c.take_read.ensures)
    ∙ drop_held _ _ c.args.depth c.in-Some.datum.now.datum there (λ e. c.if-reads-eq0.false (c.reads.ensures ∙ e)) (subst (λ x. is_unheld x ≡ false) (ap bare c.take_read.ensures) stays)

pub drop_read_within-returns-then-depth-eq0 : goal.drop_read_within-returns-then-depth-eq0
drop_read_within-returns-then-depth-eq0 t c =
    let there = found c.args.live.now c.args.id (Some c.in-Some.datum.now) c.in-Some.ensures.value in
    let changes = written c.args.live.now (c.get_mut.follows.lender c.take_read.new.self) c.args.id c.in-Some.datum.now c.take_read.new.self c.in-Some.ensures.value (c.get_mut.follows.holds c.take_read.new.self) in
    let go : is_unheld c.take_read.new.self.datum ≡ true = sym c.is_unheld.ensures ∙ c.if-not-is_unheld.false in
    let rest = removed (c.get_mut.follows.lender c.take_read.new.self) c.remove.new.self c.args.id c.remove.ensures.updates ∙ ap (λ m. remove m c.args.id) changes ∙ remove_insert nat_cmp_total nat_cmp-IsAntisymmetric (data_of c.args.live.now.entries) c.args.id c.take_read.new.self.datum in
    rest ∙ drop_lowest _ _ c.args.depth c.in-Some.datum.now.datum c.if-depth-eq0.true there (λ e. c.if-reads-eq0.false (c.reads.ensures ∙ e)) (subst (λ x. is_unheld x ≡ true) (ap bare c.take_read.ensures) go)

pub drop_read_within-returns-in-Some-into_members : goal.drop_read_within-returns-in-Some-into_members
drop_read_within-returns-in-Some-into_members t c =
    let there = found c.args.live.now c.args.id (Some c.in-Some.datum.now) c.in-Some.ensures.value in
    let changes = written c.args.live.now (c.get_mut.follows.lender c.take_read.new.self) c.args.id c.in-Some.datum.now c.take_read.new.self c.in-Some.ensures.value (c.get_mut.follows.holds c.take_read.new.self) in
    let go : is_unheld c.take_read.new.self.datum ≡ true = sym c.is_unheld.ensures ∙ c.if-not-is_unheld.false in
    let rest = removed (c.get_mut.follows.lender c.take_read.new.self) c.remove.new.self c.args.id c.remove.ensures.updates ∙ ap (λ m. remove m c.args.id) changes ∙ remove_insert nat_cmp_total nat_cmp-IsAntisymmetric (data_of c.args.live.now.entries) c.args.id c.take_read.new.self.datum in
    let members = sym (each_same (map.values c.in-Some-into_members.members)) ∙ c.in-Some-into_members.ensures.ids ∙ same_kept c.in-Some-remove.gone c.take_read.new.self _ c.in-Some-remove.ensures.value (written_found c.args.live.now (c.get_mut.follows.lender c.take_read.new.self) c.args.id c.in-Some.datum.now c.take_read.new.self c.in-Some.ensures.value (c.get_mut.follows.holds c.take_read.new.self)) ∙ ap (λ x. members_of x.content) (ap bare c.take_read.ensures) in
    c.drop_each.ensures
    ∙ ap (λ m. fold (drop_read_within (c.args.depth - 1)) m (map.values c.in-Some-into_members.members)) rest
    ∙ ap (fold (drop_read_within (c.args.depth - 1)) (remove (data_of c.args.live.now.entries) c.args.id)) members
    ∙ drop_last _ _ c.args.depth c.in-Some.datum.now.datum c.if-depth-eq0.false there (λ e. c.if-reads-eq0.false (c.reads.ensures ∙ e)) (subst (λ x. is_unheld x ≡ true) (ap bare c.take_read.ensures) go)

pub drop_read_within-returns-in_default-into_members : goal.drop_read_within-returns-in_default-into_members
drop_read_within-returns-in_default-into_members t c =
    let there = found c.args.live.now c.args.id (Some c.in-Some.datum.now) c.in-Some.ensures.value in
    let changes = written c.args.live.now (c.get_mut.follows.lender c.take_read.new.self) c.args.id c.in-Some.datum.now c.take_read.new.self c.in-Some.ensures.value (c.get_mut.follows.holds c.take_read.new.self) in
    let go : is_unheld c.take_read.new.self.datum ≡ true = sym c.is_unheld.ensures ∙ c.if-not-is_unheld.false in
    let rest = removed (c.get_mut.follows.lender c.take_read.new.self) c.remove.new.self c.args.id c.remove.ensures.updates ∙ ap (λ m. remove m c.args.id) changes ∙ remove_insert nat_cmp_total nat_cmp-IsAntisymmetric (data_of c.args.live.now.entries) c.args.id c.take_read.new.self.datum in
    let members = c.in_default-into_members.ensures.ids ∙ same_kept c.in-Some-remove.gone c.take_read.new.self _ c.in-Some-remove.ensures.value (written_found c.args.live.now (c.get_mut.follows.lender c.take_read.new.self) c.args.id c.in-Some.datum.now c.take_read.new.self c.in-Some.ensures.value (c.get_mut.follows.holds c.take_read.new.self)) ∙ ap (λ x. members_of x.content) (ap bare c.take_read.ensures) in
    rest
    ∙ ap (fold (drop_read_within (c.args.depth - 1)) (remove (data_of c.args.live.now.entries) c.args.id)) members
    ∙ drop_last _ _ c.args.depth c.in-Some.datum.now.datum c.if-depth-eq0.false there (λ e. c.if-reads-eq0.false (c.reads.ensures ∙ e)) (subst (λ x. is_unheld x ≡ true) (ap bare c.take_read.ensures) go)

pub drop_each-loop-index-preserved : goal.drop_each-loop-index-preserved
drop_each-loop-index-preserved t c =
    let f = drop_read_within c.args.depth in
    let entries = map.entries c.args.members in
    let rest = drop (c.loop-index.index + 1) (map.values c.args.members) in
    elim c.match-nth.branch [
      | drop_each-in-Some w ↦
          ap (λ b. fold f (data_of b.entries) rest) w.live-is
          ∙ ap (λ m. fold f m rest) (w.drop_read_within.ensures ∙ ap (f (data_of c.loop-index.live.entries)) w.number.ensures)
          ∙ sym (fold_next f (data_of c.loop-index.live.entries) entries c.loop-index.index _ (sym w.in-Some.ensures))
          ∙ c.loop-index.invariant
      | drop_each-in_default w ↦
          let within : c.loop-index.index < length entries = omega (arith, c.loop-index-test.true, c.len-index-end.ensures, len-entries c.args.members) in
          absurd (copied_there c.nth.result _ (c.nth.ensures ∙ slice_get-get_or entries c.loop-index.index (Int (pos 0), 0) within) w.in_default.not-Some)
    ]

pub drop_each-returns : goal.drop_each-returns
drop_each-returns t c =
    let values = map.values c.args.members in
    let past : length values ≤ c.loop-index.index = omega (arith, c.loop-index-test.false, c.len-index-end.ensures, len-entries c.args.members, length-map (map.entries c.args.members) (λ e. e.1)) in
    sym (fold_end (drop_read_within c.args.depth) (data_of c.loop-index.live.entries) values c.loop-index.index past) ∙ c.loop-index.invariant
