use Rattle.tw_rules.proofs.Names.{AreFitting, Some, ap, arith, false, get_or, has_place, hash_map_len, is_settled, length, option_map, room_for, rules_in, slice_get-get_or, spare, stage_at, subst, sym, true, vec_capacity, ◌<◌, ◌∙◌, ◌≡◌}
use Rattle.tw_rules.proofs.Rooms.{place_kept, room_kept}
use Rattle.tw_rules.proofs.Fitting.{fitting_staged}
use Rattle.tw_rules.proofs.Tables.{index_at, low_at, promised_at}
use Rattle.tw_rules.proofs.table.RuleTable.set_stage.Goals as goal

pub listed : goal.listed
listed c =
    let t = c.self.inside in
    let m = rules_in t.rules.entries in
    let number = c.number-number.result in
    let done = c.set_stage-engine in
    let unsettled : option_map is_settled (stage_at m number c.args.parameter) ≡ Some false =
    ap (λ s. option_map is_settled (stage_at s.rules number c.args.parameter)) c.self.view_is
    ∙ ap (λ k. option_map is_settled (stage_at c.args.self.now.rules k c.args.parameter)) c.number-number.ensures ∙ c.requires.open in
    let low = low_at m t.next t.agendas c.self.invariant.index number c.args.parameter c.args.stage c.requires.asked unsettled (rules_in done.new.rules.entries) done.ensures.staged c.from.result done.result.0 c.from.ensures done.result.1 done.ensures.engine done.ensures.releasable in
    let count = c.self.invariant.index.count in
    omega arith

pub bounds-self-inside-from : goal.bounds-self-inside-from
bounds-self-inside-from c =
    let t = c.self.inside in
    let m = rules_in t.rules.entries in
    let number = c.number-number.result in
    let done = c.set_stage-engine in
    let unsettled : option_map is_settled (stage_at m number c.args.parameter) ≡ Some false =
    ap (λ s. option_map is_settled (stage_at s.rules number c.args.parameter)) c.self.view_is
    ∙ ap (λ k. option_map is_settled (stage_at c.args.self.now.rules k c.args.parameter)) c.number-number.ensures ∙ c.requires.open in
    low_at m t.next t.agendas c.self.invariant.index number c.args.parameter c.args.stage c.requires.asked unsettled (rules_in done.new.rules.entries) done.ensures.staged c.from.result done.result.0 c.from.ensures done.result.1 done.ensures.engine done.ensures.releasable

pub advance-requires : goal.advance-requires
advance-requires c = λ can.
    let t = c.self.inside in
    let m = rules_in t.rules.entries in
    let number = c.number-number.result in
    let done = c.set_stage-engine in
    let unsettled : option_map is_settled (stage_at m number c.args.parameter) ≡ Some false =
    ap (λ s. option_map is_settled (stage_at s.rules number c.args.parameter)) c.self.view_is
    ∙ ap (λ k. option_map is_settled (stage_at c.args.self.now.rules k c.args.parameter)) c.number-number.ensures ∙ c.requires.open in
    promised_at m t.next t.agendas c.self.invariant.index number c.args.parameter c.args.stage c.requires.asked unsettled (rules_in done.new.rules.entries) done.ensures.staged c.from.result done.result.0 c.from.ensures done.result.1 done.ensures.engine done.ensures.releasable c.index-self-from.result

pub invariant_of-self : goal.invariant_of-self
invariant_of-self c =
    let t = c.self.inside in
    let m = rules_in t.rules.entries in
    let number = c.number-number.result in
    let done = c.set_stage-engine in
    let unsettled : option_map is_settled (stage_at m number c.args.parameter) ≡ Some false =
    ap (λ s. option_map is_settled (stage_at s.rules number c.args.parameter)) c.self.view_is
    ∙ ap (λ k. option_map is_settled (stage_at c.args.self.now.rules k c.args.parameter)) c.number-number.ensures ∙ c.requires.open in
    let same : length done.new.rules.entries ≡ length t.rules.entries = done.ensures.len in
    let fits = c.self.invariant.fits in
    record {
      index = index_at m t.next t.agendas c.self.invariant.index number c.args.parameter c.args.stage c.requires.asked unsettled (rules_in done.new.rules.entries) done.ensures.staged c.from.result done.result.0 c.from.ensures done.result.1 done.ensures.engine done.ensures.releasable
          c.index-self-from.result c.advance.new.self c.advance.ensures.asks c.advance.ensures.moved c.advance.ensures.stays;
      blank = c.self.invariant.blank;
      fits = omega arith;
      fitting = subst AreFitting (sym done.ensures.staged) (fitting_staged m number c.args.parameter c.args.stage unsettled c.self.invariant.fitting);
    }

pub returns-clause-room : goal.returns-clause-room
returns-clause-room c = λ engine all.
    let t = c.self.inside in
    let m = rules_in t.rules.entries in
    let number = c.number-number.result in
    let done = c.set_stage-engine in
    let unsettled : option_map is_settled (stage_at m number c.args.parameter) ≡ Some false =
    ap (λ s. option_map is_settled (stage_at s.rules number c.args.parameter)) c.self.view_is
    ∙ ap (λ k. option_map is_settled (stage_at c.args.self.now.rules k c.args.parameter)) c.number-number.ensures ∙ c.requires.open in
    let low = low_at m t.next t.agendas c.self.invariant.index number c.args.parameter c.args.stage c.requires.asked unsettled (rules_in done.new.rules.entries) done.ensures.staged c.from.result done.result.0 c.from.ensures done.result.1 done.ensures.engine done.ensures.releasable in
    let count = c.self.invariant.index.count in
    let inside : c.from.result < length t.agendas = omega arith in
    let same : hash_map_len done.new.rules ≡ hash_map_len t.rules = done.ensures.len in
    let spared : spare done.new.rules ≡ spare t.rules = done.ensures.spare in
    let was = get_or t.agendas c.from.result c.index-self-from.result in
    room_kept (has_place (spare t.rules) (hash_map_len t.rules) (vec_capacity t.erasure)) (has_place (spare done.new.rules) (hash_map_len done.new.rules) (vec_capacity t.erasure)) t.agendas c.from.result was c.advance.new.self
    (slice_get-get_or t.agendas c.from.result c.index-self-from.result inside)
    (place_kept (spare t.rules) (hash_map_len t.rules) (vec_capacity t.erasure) (spare done.new.rules) (hash_map_len done.new.rules) (vec_capacity t.erasure) (omega arith) (omega arith) (omega arith))
    c.advance.ensures.room engine (subst (λ s. room_for engine s ≡ true) (sym c.self.view_is) all)
