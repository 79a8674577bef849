use Rattle.tw_rules.proofs.Names.{AreFitting, IsIndexed, IsTrimmed, Some, ap, arith, get, get_or, has_place, hash_map_len, is_releasable, length, option_map, room_for, rule_in, rules_in, slice_get-get_or, slice_set, spare, subst, sym, true, vec_capacity, ◌+◌, ◌<◌, ◌∙◌, ◌≡◌}
use Rattle.tw_rules.proofs.Rooms.{place_kept, room_kept}
use Rattle.tw_rules.proofs.Fitting.{fitting_gone}
use Rattle.tw_rules.proofs.Tables.{can_be_released, gone_at, gone_engine}
use Rattle.tw_rules.proofs.table.RuleTable.release.Goals as goal

pub invariant_of-self : goal.invariant_of-self
invariant_of-self c =
    let t = c.self.inside in
    let m = rules_in t.rules.entries in
    let number = c.number.result in
    let rule = rule_in c.take-engine.result in
    let may : option_map is_releasable (get m number) ≡ Some true =
    ap (λ s. option_map is_releasable (get s.rules number)) c.self.view_is ∙ ap (λ k. option_map is_releasable (get c.args.self.now.rules k)) c.number.ensures ∙ c.requires in
    let can : is_releasable rule ≡ true = can_be_released (get m number) rule c.take-engine.ensures.taken may in
    let was = get_or t.agendas c.from.result c.index-self-from.result in
    let after = c.trim_releases.new.self in
    let less : length c.take-engine.new.rules.entries + 1 ≡ length t.rules.entries = c.take-engine.ensures.len in
    let fits = c.self.invariant.fits in
    record {
      index = subst (λ x. IsIndexed x t.next (slice_set t.agendas c.from.result after)) (sym c.take-engine.ensures.rest)
          (gone_at m t.next t.agendas c.self.invariant.index number rule c.take-engine.ensures.taken can c.from.result c.from.ensures c.index-self-from.result after c.trim_releases.ensures.asks
          (subst (λ x. IsTrimmed x was.releases.numbers after.releases.numbers) c.take-engine.ensures.rest c.trim_releases.ensures.releases) c.trim_releases.ensures.promised);
      blank = c.self.invariant.blank;
      fits = omega arith;
      fitting = subst AreFitting (sym c.take-engine.ensures.rest) (fitting_gone m number rule c.take-engine.ensures.taken c.self.invariant.fitting);
    }

pub returns-clause-room : goal.returns-clause-room
returns-clause-room c = λ engine all.
    let t = c.self.inside in
    let m = rules_in t.rules.entries in
    let number = c.number.result in
    let rule = rule_in c.take-engine.result in
    let may : option_map is_releasable (get m number) ≡ Some true =
    ap (λ s. option_map is_releasable (get s.rules number)) c.self.view_is ∙ ap (λ k. option_map is_releasable (get c.args.self.now.rules k)) c.number.ensures ∙ c.requires in
    let can : is_releasable rule ≡ true = can_be_released (get m number) rule c.take-engine.ensures.taken may in
    let new = c.take-engine.new.rules in
    let low = gone_engine m t.next t.agendas c.self.invariant.index number rule c.take-engine.ensures.taken can in
    let at = c.from.ensures in
    let count = c.self.invariant.index.count in
    let inside : c.from.result < length t.agendas = omega arith in
    let was = get_or t.agendas c.from.result c.index-self-from.result in
    let less : hash_map_len new + 1 ≡ hash_map_len t.rules = c.take-engine.ensures.len in
    room_kept (has_place (spare t.rules) (hash_map_len t.rules) (vec_capacity t.erasure)) (has_place (spare new) (hash_map_len new) (vec_capacity t.erasure)) t.agendas c.from.result was c.trim_releases.new.self
    (slice_get-get_or t.agendas c.from.result c.index-self-from.result inside)
    (place_kept (spare t.rules) (hash_map_len t.rules) (vec_capacity t.erasure) (spare new) (hash_map_len new) (vec_capacity t.erasure) c.take-engine.ensures.spare (omega arith) (omega arith))
    c.trim_releases.ensures.room engine (subst (λ s. room_for engine s ≡ true) (sym c.self.view_is) all)
