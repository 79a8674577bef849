use Rattle.tw_rules.proofs.Names.{AreFitting, IsIndexed, ap, arith, get_or, has_place, hash_map_len, length, room_for, rule_in, rules_in, slice_get-get_or, spare, subst, sym, true, vec_capacity, ◌<◌, ◌∙◌, ◌≡◌}
use Rattle.tw_rules.proofs.Rooms.{has_room, index_same, place_capacity, place_kept, place_spare, room_kept, room_same}
use Rattle.tw_rules.proofs.Seen.{seen_same}
use Rattle.tw_rules.proofs.table.RuleTable.reserve.Goals as goal

pub returns-in_err-reserve-clause-kept : goal.returns-in_err-reserve-clause-kept
returns-in_err-reserve-clause-kept c = λ other all.
    let t = c.self.inside in
    let new = c.reserve.new.self in
    let same : hash_map_len new ≡ hash_map_len t.rules = c.reserve.ensures.entries.1 in
    room_same (has_place (spare t.rules) (hash_map_len t.rules) (vec_capacity t.erasure)) (has_place (spare new) (hash_map_len new) (vec_capacity t.erasure)) t.agendas
    (place_kept (spare t.rules) (hash_map_len t.rules) (vec_capacity t.erasure) (spare new) (hash_map_len new) (vec_capacity t.erasure) c.reserve.ensures.spare (omega arith) (omega arith))
    other (subst (λ s. room_for other s ≡ true) (sym c.self.view_is) all)

pub returns-in_err-reserve-clause-reserved : goal.returns-in_err-reserve-clause-reserved
returns-in_err-reserve-clause-reserved c = λ all.
    let t = c.self.inside in
    let room = has_room (has_place (spare t.rules) (hash_map_len t.rules) (vec_capacity t.erasure)) t.agendas c.args.engine (subst (λ s. room_for c.args.engine s ≡ true) (sym c.self.view_is) all) in
    let some : 0 < spare t.rules = place_spare (spare t.rules) (hash_map_len t.rules) (vec_capacity t.erasure) room.place in
    let goes = c.in_err-reserve.ensures.succeeds (omega arith) in
    absurd cc

pub invariant_of-self-in_err-reserve-2 : goal.invariant_of-self-in_err-reserve-2
invariant_of-self-in_err-reserve-2 c =
    let t = c.self.inside in
    let new = c.reserve.new.self in
    let same : length new.entries ≡ length t.rules.entries = c.reserve.ensures.entries.1 in
    let fits = c.self.invariant.fits in
    let more = c.reserve-2.ensures.capacity in
    record {
      index = subst (λ m. IsIndexed m t.next t.agendas) (sym (seen_same rule_in t.rules.entries new.entries c.reserve.ensures.entries.2)) c.self.invariant.index;
      blank = c.reserve-2.ensures.items ∙ c.self.invariant.blank;
      fits = omega arith;
      fitting = subst AreFitting (sym (seen_same rule_in t.rules.entries new.entries c.reserve.ensures.entries.2)) c.self.invariant.fitting;
    }

pub returns-in_err-reserve-2-clause-rules : goal.returns-in_err-reserve-2-clause-rules
returns-in_err-reserve-2-clause-rules c = seen_same rule_in c.self.inside.rules.entries c.reserve.new.self.entries c.reserve.ensures.entries.2 ∙ ap (λ s. s.rules) c.self.view_is

pub returns-in_err-reserve-2-clause-kept : goal.returns-in_err-reserve-2-clause-kept
returns-in_err-reserve-2-clause-kept c = λ other all.
    let t = c.self.inside in
    let new = c.reserve.new.self in
    let erasure = c.reserve-2.new.self in
    let same : hash_map_len new ≡ hash_map_len t.rules = c.reserve.ensures.entries.1 in
    room_same (has_place (spare t.rules) (hash_map_len t.rules) (vec_capacity t.erasure)) (has_place (spare new) (hash_map_len new) (vec_capacity erasure)) t.agendas
    (place_kept (spare t.rules) (hash_map_len t.rules) (vec_capacity t.erasure) (spare new) (hash_map_len new) (vec_capacity erasure) c.reserve.ensures.spare (omega arith) c.reserve-2.ensures.capacity)
    other (subst (λ s. room_for other s ≡ true) (sym c.self.view_is) all)

pub returns-in_err-reserve-2-clause-reserved : goal.returns-in_err-reserve-2-clause-reserved
returns-in_err-reserve-2-clause-reserved c = λ all.
    let t = c.self.inside in
    let new = c.reserve.new.self in
    let room = has_room (has_place (spare t.rules) (hash_map_len t.rules) (vec_capacity t.erasure)) t.agendas c.args.engine (subst (λ s. room_for c.args.engine s ≡ true) (sym c.self.view_is) all) in
    let more : hash_map_len t.rules < vec_capacity t.erasure = place_capacity (spare t.rules) (hash_map_len t.rules) (vec_capacity t.erasure) room.place in
    let same : hash_map_len new ≡ hash_map_len t.rules = c.reserve.ensures.entries.1 in
    let count : c.len.result ≡ hash_map_len new = c.len.ensures.len in
    let none : length t.erasure.items ≡ 0 = ap length c.self.invariant.blank in
    let size = t.erasure.ok.0 in
    let goes = c.in_err-reserve-2.ensures.succeeds (omega arith) in
    absurd cc

pub invariant_of-self-2 : goal.invariant_of-self-2
invariant_of-self-2 c =
    let t = c.self.inside in
    let new = c.reserve.new.self in
    let same : length new.entries ≡ length t.rules.entries = c.reserve.ensures.entries.1 in
    let fits = c.self.invariant.fits in
    let more = c.reserve-2.ensures.capacity in
    let engine = c.from.ensures in
    let low : c.from.result < 4 = omega (arith, c.requires) in
    let count = c.self.invariant.index.count in
    let inside : c.from.result < length t.agendas = omega arith in
    let was = get_or t.agendas c.from.result c.index-self-from.result in
    record {
      index = index_same (rules_in new.entries) t.next t.agendas c.from.result was c.reserve-3.new.self
          (subst (λ m. IsIndexed m t.next t.agendas) (sym (seen_same rule_in t.rules.entries new.entries c.reserve.ensures.entries.2)) c.self.invariant.index)
          low (slice_get-get_or t.agendas c.from.result c.index-self-from.result inside) c.reserve-3.ensures.same;
      blank = c.reserve-2.ensures.items ∙ c.self.invariant.blank;
      fits = omega arith;
      fitting = subst AreFitting (sym (seen_same rule_in t.rules.entries new.entries c.reserve.ensures.entries.2)) c.self.invariant.fitting;
    }

pub returns-clause-rules : goal.returns-clause-rules
returns-clause-rules c = seen_same rule_in c.self.inside.rules.entries c.reserve.new.self.entries c.reserve.ensures.entries.2 ∙ ap (λ s. s.rules) c.self.view_is

pub returns-clause-kept : goal.returns-clause-kept
returns-clause-kept c = λ other all.
    let t = c.self.inside in
    let new = c.reserve.new.self in
    let erasure = c.reserve-2.new.self in
    let same : hash_map_len new ≡ hash_map_len t.rules = c.reserve.ensures.entries.1 in
    let engine = c.from.ensures in
    let count = c.self.invariant.index.count in
    let inside : c.from.result < length t.agendas = omega (arith, c.requires) in
    let was = get_or t.agendas c.from.result c.index-self-from.result in
    room_kept (has_place (spare t.rules) (hash_map_len t.rules) (vec_capacity t.erasure)) (has_place (spare new) (hash_map_len new) (vec_capacity erasure)) t.agendas c.from.result was c.reserve-3.new.self
    (slice_get-get_or t.agendas c.from.result c.index-self-from.result inside)
    (place_kept (spare t.rules) (hash_map_len t.rules) (vec_capacity t.erasure) (spare new) (hash_map_len new) (vec_capacity erasure) c.reserve.ensures.spare (omega arith) c.reserve-2.ensures.capacity)
    c.reserve-3.ensures.kept other (subst (λ s. room_for other s ≡ true) (sym c.self.view_is) all)
