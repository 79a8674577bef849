-- A replay after each of its events.
use Rattle.std.proofs.Common.{◌≡◌, ◌+◌, ◌*◌, ◌<◌, ◌≤◌, ◌∙◌, ℕ, List, [], ◌∷◌, ◌++◌, length, get_or, drop, take, refl, sym, ap, subst, arith}
use Rattle.tw_replay_output.proofs.ReplayNames.{AreBelow, AreShort, Event, IsOpened, IsReplayFrom, IsReplayOf, PlainView, Start, Went, opening_bound, played, played_from, run, size_of, state_reply, step, take_all}
use Rattle.tw_code.proofs.Growth.{below_more}
use Rattle.tw_replay_output.specs.declared.replaying.Replaying.{Replaying}
use Rattle.tw_replay_output.proofs.Making.{one_taken}
use Rattle.tw_replay_output.proofs.Playing.{all_played, all_run, event_small, run_on, stays_so, stepped, went_on}

-- this many of the events were executed from this machine on
pub record IsAt (first : PlainView) (events : List Event) (i : ℕ) (r : Replaying) : Type 0 where
  pub stays : r.plain ≡ record first { state = r.plain.state }
  pub same : played first.program first.layout (i + 1) (drop i events) r.plain.state ≡ played_from first events
  pub runs : run first.program first.layout (drop i events) r.plain.state ≡ run first.program first.layout events first.state
  pub below : AreBelow (opening_bound + 1000000000 * i) r.plain.state
  pub replay : (start : Start) → IsOpened start first → IsReplayOf start (take i events) r

pub at_first : (first : PlainView) (events : List Event) (r : Replaying) → r.plain ≡ first → AreBelow opening_bound first.state → ((start : Start) → IsOpened start first → IsReplayOf start [] r) → IsAt first events 0 r
at_first first events r is below begun =
    subst (λ (v : PlainView). AreBelow opening_bound v.state → ((start : Start) → IsOpened start v → IsReplayOf start [] r) → IsAt v events 0 r) is
    (λ small new. record { stays = refl; same = refl; runs = refl; below = small; replay = new }) below begun

-- one event more, which succeeds
pub at_next : (first : PlainView) (events : List Event) (i : ℕ) (event : Event) (old new : Replaying) → i < length events → event ≡ get_or events i event → AreShort events
    → step old.plain.program old.plain.layout event old.plain.state ≡ Went new.plain.state → new.plain.version ≡ old.plain.version → new.plain.program ≡ old.plain.program → new.plain.layout ≡ old.plain.layout
    → ((bound : ℕ) → AreBelow bound old.plain.state → AreBelow (bound + size_of event) new.plain.state) → ((start : Start) (done : List Event) → IsReplayOf start done old → IsReplayOf start (done ++ event ∷ []) new)
    → IsAt first events i old → IsAt first events (i + 1) new
at_next first events i event old new inside is sizes comes version program layout below noted at =
    let went : step first.program first.layout event old.plain.state ≡ Went new.plain.state = stepped first old.plain event (Went new.plain.state) at.stays comes in
    let short : size_of event ≤ 1000000000 = event_small events i event sizes inside is in
    record {
      stays = stays_so first old.plain new.plain at.stays version program layout;
      same = went_on first.program first.program first.layout first.layout events i event old.plain.state new.plain.state (played_from first events) refl refl inside is went at.same;
      runs = run_on first.program first.layout events i event old.plain.state new.plain.state (run first.program first.layout events first.state) inside is went at.runs;
      below = below_more _ _ _ (omega arith) (below (opening_bound + 1000000000 * i) at.below);
      replay = λ start h. subst (λ (done : List Event). IsReplayOf start done new) (sym (one_taken events i event inside is)) (noted start (take i events) (at.replay start h));
    }

pub at_end : (first : PlainView) (events : List Event) (i : ℕ) (r : Replaying) → length events ≤ i → IsAt first events i r → IsReplayFrom first events r
at_end first events i r all at =
    let s = r.plain.state in
    record {
      stays = at.stays;
      reaches = all_run first.program first.layout events i s (run first.program first.layout events first.state) all at.runs;
      replies = ap (λ (v : PlainView). state_reply v.program s) at.stays ∙ all_played first.program first.layout events i s (played_from first events) all at.same;
      replay = λ start h. subst (λ (done : List Event). IsReplayOf start done r) (take_all i events all) (at.replay start h);
    }
