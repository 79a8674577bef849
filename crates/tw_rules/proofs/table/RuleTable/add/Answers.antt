use Rattle.tw_rules.proofs.Names.{AreFitting, IsIndexed, List, Some, Stage, ap, arith, get_or, has_place, hash_map_len, insert, is_settled, length, list_all, new_rule, room_for, rule_in, rules_in, slice_get, slice_get-get_or, slice_set, spare, subst, sym, true, vec_capacity, ℕ, ◌+◌, ◌<◌, ◌∙◌, ◌≡◌}
use Rattle.tw_rules.proofs.Rooms.{has_room, place_capacity}
use Rattle.tw_rules.proofs.Fitting.{fitting_added, new_fits}
use Rattle.tw_rules.proofs.Tables.{index_added}
use Rattle.tw_rules.proofs.table.RuleTable.add.Goals as goal

pub invariant_of-self : goal.invariant_of-self
invariant_of-self c =
    let t = c.self.inside in
    let m = rules_in t.rules.entries in
    let low : c.args.engine < 4 = c.requires.engine in
    let same = c.from.ensures in
    let count = c.self.invariant.index.count in
    let inside : c.from.result < length t.agendas = omega arith in
    let was = get_or t.agendas c.from.result c.index-self-from.result in
    let at : slice_get t.agendas c.args.engine ≡ Some was = subst (λ (k : ℕ). slice_get t.agendas k ≡ Some was) same (slice_get-get_or t.agendas c.from.result c.index-self-from.result inside) in
    let can = c.is_releasable.ensures ∙ ap (list_all is_settled) c.first_stages.ensures in
    let index = index_added m t.next t.agendas c.self.invariant.index c.args.engine low c.args.params.now c.args.action c.args.args was c.add.new.self at c.is_releasable.result can c.add.ensures.released c.add.ensures.asked in
    let put = c.put.ensures.put ∙ ap (λ (ss : List Stage). insert m t.next (rule_in (record { engine = c.args.engine; action = c.args.action; args = c.args.args; stages = ss }))) c.first_stages.ensures in
    let room = has_room (has_place (spare t.rules) (hash_map_len t.rules) (vec_capacity t.erasure)) t.agendas c.args.engine (subst (λ s. room_for c.args.engine s ≡ true) (sym c.self.view_is) c.in-Ok.ensures.room) in
    let more : hash_map_len t.rules < vec_capacity t.erasure = place_capacity (spare t.rules) (hash_map_len t.rules) (vec_capacity t.erasure) room.place in
    let len : length c.put.new.rules.entries ≡ length t.rules.entries + 1 = c.put.ensures.len in
    record {
      index = subst (λ (k : ℕ). IsIndexed (rules_in c.put.new.rules.entries) (t.next + 1) (slice_set t.agendas k c.add.new.self)) (sym same)
          (subst (λ x. IsIndexed x (t.next + 1) (slice_set t.agendas c.args.engine c.add.new.self)) (sym put) index);
      blank = c.self.invariant.blank;
      fits = omega arith;
      fitting = subst AreFitting (sym put) (fitting_added m t.next (new_rule c.args.engine c.args.params.now c.args.action c.args.args) c.self.invariant.fitting (new_fits c.args.params.now c.args.args c.requires.args));
    }
