-- Traces, line by line; no lines are two traces.
use Rattle.tw_report.proofs.Names.{AllByRecursion, Ask, Call, Deliver, EncodeParts, EncodesEvent, End, Err, Event, IsBlank, IsEnd, IsEvent, IsTraceOf, List, Local, Ok, OneHistory, Release, Result, Take, [], after_blank, after_event, ap, arith, codes, event_parts, inl, inr, length, length-slice_split, lines_in, subst, sym, words_in, ℕ, ◌+◌, ◌==◌, ◌∙◌, ◌∷◌, ◌≡◌, ◌≤◌, ◌⊎◌}
use Rattle.std.proofs.lemmas.List.Sums.{count_by-le-length}
use Rattle.tw_report.proofs.Written.{one_event}

-- ---- only one trace

-- an event has two words at least
two_words : (event : Event) (words : List (List ℕ)) (word : List ℕ) → EncodeParts (event_parts event) words → (words ≡ []) ⊎ (words ≡ word ∷ []) → ⊥
two_words event words word spells (inl is) = by event (subst (EncodeParts (event_parts event)) is spells)
  where
    by : (event : Event) → EncodeParts (event_parts event) [] → ⊥
    by (Take a) s = s
    by (Local a n) s = s
    by (Call a) s = s
    by (End a) s = s
    by (Ask e r j) s = s
    by (Deliver s d r j) p = p
    by (Release e r) s = s
two_words event words word spells (inr is) = by event (subst (EncodeParts (event_parts event)) is spells)
  where
    by : (event : Event) → EncodeParts (event_parts event) (word ∷ []) → ⊥
    by (Take a) s = s.1
    by (Local a n) s = s.1
    by (Call a) s = s.1
    by (End a) s = s.1
    by (Ask e r j) s = s.1
    by (Deliver s d r j) p = p.1
    by (Release e r) s = s.1

blank_no_end : (line : List ℕ) → IsBlank line → IsEnd line → ⊥
blank_no_end line blank end = no (sym blank ∙ end)
  where
    no : [] ≡ codes "end" ∷ [] → ⊥
    no e = cc

blank_no_event : (line : List ℕ) (event : Event) → IsBlank line → EncodesEvent event line → ⊥
blank_no_event line event blank spells = two_words event (words_in line) [] spells.parts (inl blank)

end_no_event : (line : List ℕ) (event : Event) → IsEnd line → EncodesEvent event line → ⊥
end_no_event line event end spells = two_words event (words_in line) (codes "end") spells.parts (inr end)

pub one_history : OneHistory
one_history [] r q t u = t ∙ sym u
one_history (line ∷ others) r q (inl (b, (x, t, e))) (inl (b', (y, u, f))) = e ∙ ap after_blank (one_history others x y t u) ∙ sym f
one_history (line ∷ others) r q (inl (b, (x, t, e))) (inr (inl (end, f))) = absurd (blank_no_end line b end)
one_history (line ∷ others) r q (inl (b, (x, t, e))) (inr (inr (inl (event, spells, y)))) = absurd (blank_no_event line event b spells)
one_history (line ∷ others) r q (inl (b, (x, t, e))) (inr (inr (inr (un, f)))) = absurd (un.0 b)
one_history (line ∷ others) r q (inr (inl (end, e))) (inl (b, (y, u, f))) = absurd (blank_no_end line b end)
one_history (line ∷ others) r q (inr (inl (end, e))) (inr (inl (end', f))) = e ∙ sym f
one_history (line ∷ others) r q (inr (inl (end, e))) (inr (inr (inl (event, spells, y)))) = absurd (end_no_event line event end spells)
one_history (line ∷ others) r q (inr (inl (end, e))) (inr (inr (inr (un, f)))) = absurd (un.1 end)
one_history (line ∷ others) r q (inr (inr (inl (event, spells, x)))) (inl (b, (y, u, f))) = absurd (blank_no_event line event b spells)
one_history (line ∷ others) r q (inr (inr (inl (event, spells, x)))) (inr (inl (end, f))) = absurd (end_no_event line event end spells)
one_history (line ∷ others) r q (inr (inr (inl (event, spells, (x, t, e))))) (inr (inr (inl (other, also, (y, u, f))))) =
    e ∙ ap (after_event event) (one_history others x y t u) ∙ ap (λ (v : Event). after_event v y) (sym (one_event line event other spells also)) ∙ sym f
one_history (line ∷ others) r q (inr (inr (inl (event, spells, x)))) (inr (inr (inr (un, f)))) = absurd (un.2 event spells)
one_history (line ∷ others) r q (inr (inr (inr (un, e)))) (inl (b, (y, u, f))) = absurd (un.0 b)
one_history (line ∷ others) r q (inr (inr (inr (un, e)))) (inr (inl (end, f))) = absurd (un.1 end)
one_history (line ∷ others) r q (inr (inr (inr (un, e)))) (inr (inr (inl (event, spells, y)))) = absurd (un.2 event spells)
one_history (line ∷ others) r q (inr (inr (inr (un, e)))) (inr (inr (inr (un', f)))) = e ∙ sym f

-- ---- the events

some_event : (events es : List Event) → ◌≡◌ {A = Result (List Event) ℕ} (Ok events) (Ok es) → es ≡ events
some_event events es e = cc

-- each is one of a line
pub events_traced : (lines : List (List ℕ)) (events : List Event) → IsTraceOf lines (Ok events) → AllByRecursion IsEvent events × (length events ≤ length lines)
events_traced [] events t = subst (λ (es : List Event). AllByRecursion IsEvent es × (length es ≤ 0)) (some_event events [] t) (tt, omega arith)
events_traced (line ∷ others) events (inl (blank, (Ok es, t, e))) =
    let more = events_traced others es t in
    subst (λ (vs : List Event). AllByRecursion IsEvent vs × (length vs ≤ length (line ∷ others))) (some_event events es e) (more.0, omega (arith, more.1))
events_traced (line ∷ others) events (inl (blank, (Err n, t, e))) = cc
events_traced (line ∷ others) events (inr (inl (end, e))) = subst (λ (es : List Event). AllByRecursion IsEvent es × (length es ≤ length (line ∷ others))) (some_event events [] e) (tt, omega arith)
events_traced (line ∷ others) events (inr (inr (inl (event, spells, (Ok es, t, e))))) =
    let more = events_traced others es t in
    subst (λ (vs : List Event). AllByRecursion IsEvent vs × (length vs ≤ length (line ∷ others))) (some_event events (event ∷ es) e) ((spells.limits, more.0), omega (arith, more.1))
events_traced (line ∷ others) events (inr (inr (inl (event, spells, (Err n, t, e))))) = cc
events_traced (line ∷ others) events (inr (inr (inr (un, e)))) = cc

pub few_lines : (text : List ℕ) → length (lines_in text) ≤ length text + 1
few_lines text = omega (arith, length-slice_split (λ b. b == 10) text, count_by-le-length (λ b. b == 10) text)

pub few_events : (text : List ℕ) (events : List Event) → IsTraceOf (lines_in text) (Ok events) → length events ≤ length text + 1
few_events text events t = omega (arith, few_lines text, (events_traced (lines_in text) events t).1)
