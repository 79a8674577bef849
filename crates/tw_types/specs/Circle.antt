-- Deadlock circles: a walk from rule to rule, each waiting for the next, until a rule is met a second time.
use Rattle.std.specs.Prelude.{◌≡◌, ℕ, zero, suc, ◌==◌, Bool, true, false, if◌then◌else◌, List, [], ◌∷◌, ◌++◌, length, map, Option, Some, None, slice_get}
use Rattle.std.specs.Option.{option_and_then, option_map}
use Rattle.tw_types.specs.declared.pending.Link.{Link}
use Rattle.tw_types.specs.declared.pending.Pending.{Pending}
use Rattle.tw_types.specs.Distinct.{is_among, AreDistinct}

-- ---- the walk

-- finds the first of the rules that may write the datum
abbrev pub writer_of : ℕ → List Pending → Option Pending
writer_of datum [] = None
writer_of datum (r ∷ rules) = if is_among datum r.writes then Some r else writer_of datum rules

abbrev pub rules_of : List Link → List ℕ
rules_of links = map (λ l. l.rule) links

-- returns whether the trail has a link from the rule of this number
abbrev pub is_met : ℕ → List Link → Bool
is_met rule trail = is_among rule (rules_of trail)

-- returns the trail from this rule's link on
abbrev pub since : ℕ → List Link → List Link
since rule [] = []
since rule (l ∷ trail) = if l.rule == rule then l ∷ trail else since rule trail

-- takes one step from a rule: to the first rule that may write the first datum for which it waits
abbrev pub step_from : List Pending → Pending → Option (Link × Pending)
step_from rules at = by (slice_get at.waits 0)
  where
    by : Option ℕ → Option (Link × Pending)
    by None = None
    by (Some datum) = option_map (λ (next : Pending). (record { rule = at.number; datum = datum; next = next.number }, next)) (writer_of datum rules)

-- returns the circle that a walk finds which has made this trail and is at this rule, within so many steps
abbrev pub walk : ℕ → List Pending → List Link → Pending → Option (List Link)
walk zero rules trail at = if is_met at.number trail then Some (since at.number trail) else None
walk (suc steps) rules trail at = if is_met at.number trail then Some (since at.number trail) else option_and_then (λ (s : Link × Pending). walk steps rules (trail ++ s.0 ∷ []) s.1) (step_from rules at)

-- returns the circle at the end of the walk from the first rule: the trail since the rule that is met a second time. With as many
-- steps as there are rules one is met twice.
abbrev pub circle_of : List Pending → Option (List Link)
circle_of rules = option_and_then (walk (length rules) rules []) (slice_get rules 0)

-- ---- circles

-- returns whether one of the rules has this number and passes the test
abbrev pub has_rule : (Pending → Bool) → ℕ → List Pending → Bool
has_rule test number [] = false
has_rule test number (r ∷ rules) = if r.number == number then test r else has_rule test number rules

-- a link: the first rule waits for the datum, and the next one may write it
pub record IsLink (rules : List Pending) (l : Link) : Type 0 where
  pub waits : has_rule (λ r. is_among l.datum r.waits) l.rule rules ≡ true
  pub writes : has_rule (λ r. is_among l.datum r.writes) l.next rules ≡ true

-- holds if each item is a link and leads to the next, the first one from `from`, the last one to `to`
abbrev pub Leads : List Pending → ℕ → List Link → ℕ → Type 0
Leads rules from [] to = from ≡ to
Leads rules from (l ∷ links) to = (l.rule ≡ from) × IsLink rules l × Leads rules l.next links to

-- holds if there is a link, and the links lead from its rule back to it, over no rule twice
abbrev pub IsCircle : List Pending → List Link → Type 0
IsCircle rules [] = ⊥
IsCircle rules (l ∷ links) = Leads rules l.rule (l ∷ links) l.rule × AreDistinct (rules_of (l ∷ links))
