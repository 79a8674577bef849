-- The lines of a trace with one more event.
use Rattle.std.proofs.Common.{◌≡◌, ◌≤◌, ◌+◌, Bool, true, false, ℕ, List, [], ◌∷◌, ◌++◌, length, take, codes, sym, ap, ◌∙◌, append_assoc, Some}
use Rattle.std.specs.Prelude.{slice_get}
use Rattle.std.specs.List.{flat_map}
use Rattle.std.proofs.lemmas.List.{flat_map_more, take_more, take_all}
use Rattle.std.proofs.lemmas.Option.{get_or_from_slice_get, slice_get_within}
use Rattle.tw_types.specs.declared.event.Event.{Event}
use Rattle.tw_report.specs.Events.{event_line}
use Rattle.tw_run_output.specs.Run.{trace_text}

-- holds if the first `count` events have been written
abbrev pub HasEvents : List Event → ℕ → List ℕ → List ℕ → Type 0
HasEvents history count old now = now ≡ (old ++ codes "events\n") ++ flat_map event_line (take count history)

pub one_event : (history : List Event) (i : ℕ) (e : Event) (old now next : List ℕ) → HasEvents history i old now → slice_get history i ≡ Some e → next ≡ now ++ event_line e → HasEvents history (i + 1) old next
one_event history i e old now next has at added =
    let longer = take_more history i e (slice_get_within history i e at) ∙ ap (λ (x : Event). take i history ++ x ∷ []) (get_or_from_slice_get history i e e at) in
    added ∙ ap (λ (text : List ℕ). text ++ event_line e) has ∙ flat_map_more event_line (old ++ codes "events\n") (take i history) e ∙ ap (λ (es : List Event). (old ++ codes "events\n") ++ flat_map event_line es) (sym longer)

pub whole_trace : (history : List Event) (i : ℕ) (asked : Bool) (old now next : List ℕ) → asked ≡ true → HasEvents history i old now → length history ≤ i → next ≡ now ++ codes "end\n" → next ≡ old ++ trace_text asked history
whole_trace history i true old now next is has all added =
    let lines = flat_map event_line history in
    added
    ∙ ap (λ (text : List ℕ). text ++ codes "end\n") (has ∙ ap (λ (es : List Event). (old ++ codes "events\n") ++ flat_map event_line es) (take_all i history all))
    ∙ append_assoc (old ++ codes "events\n") lines (codes "end\n")
    ∙ append_assoc old (codes "events\n") (lines ++ codes "end\n")
whole_trace history i false old now next is has all added = absurd (no is)
  where
    no : false ≡ true → ⊥
    no e = cc
