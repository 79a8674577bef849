-- The walk meets a rule a second time, and so finds a circle.
use Rattle.std.proofs.Common.{◌≡◌, ◌⊎◌, inl, inr, ℕ, zero, suc, ◌+◌, ◌≤◌, ◌==◌, Bool, true, false, ◌||◌, if◌then◌else◌, List, [], ◌∷◌, ◌++◌, length, slice_get, Option, Some, None, refl, sym, ap, subst, ◌∙◌, arith}
use Rattle.std.proofs.lemmas.Bool.{eqb-true, eqb-false, eq-eqb, ne_eqb}
use Rattle.std.specs.Option.{option_and_then}
use Rattle.tw_types.specs.declared.pending.Link.{Link}
use Rattle.tw_types.specs.declared.pending.Pending.{Pending}
use Rattle.tw_types.specs.Circle.{circle_of, has_rule, is_met, rules_of, since, step_from, walk, writer_of, IsCircle, IsLink, Leads}
use Rattle.tw_types.specs.Distinct.{is_among, AreDistinct}

-- ---- rules that are blocked

-- numbers are distinct
abbrev pub AreNumbered : List Pending → Type 0
AreNumbered [] = Unit {0}
AreNumbered (r ∷ rules) = (has_rule (λ _. true) r.number rules ≡ false) × AreNumbered rules

abbrev pub IsIn : Pending → List Pending → Type 0
IsIn r [] = ⊥
IsIn r (x ∷ rules) = (r ≡ x) ⊎ IsIn r rules

-- it waits for something, and one of the rules may write the first datum for which it waits
pub record IsBlocked (rules : List Pending) (r : Pending) : Type 0 where
  pub datum : ℕ
  pub waits : slice_get r.waits 0 ≡ Some datum
  pub writer : Pending
  pub there : IsIn writer rules
  pub writes : is_among datum writer.writes ≡ true

-- if each of them is blocked, there is a circle
abbrev pub CircleFound : List Pending → Type 0
CircleFound [] = Unit {0}
CircleFound (first ∷ others) = AreNumbered (first ∷ others) → ((r : Pending) → IsIn r (first ∷ others) → IsBlocked (first ∷ others) r)
    → (links : List Link) × (circle_of (first ∷ others) ≡ Some links) × IsCircle (first ∷ others) links

-- ---- rules by their numbers

rule_there : (r : Pending) (rules : List Pending) → IsIn r rules → has_rule (λ _. true) r.number rules ≡ true
rule_there r [] i = absurd i
rule_there r (x ∷ rules) (inl is) = let here : (x.number == r.number) ≡ true = eq-eqb x.number r.number (ap (λ (y : Pending). y.number) (sym is)) in rw here refl
rule_there r (x ∷ rules) (inr i) = by (x.number == r.number) (rule_there r rules i)
  where
    by : (b : Bool) → has_rule (λ _. true) r.number rules ≡ true → (if b then true else has_rule (λ _. true) r.number rules) ≡ true
    by true later = refl
    by false later = later

rule_is : (test : Pending → Bool) (r : Pending) (rules : List Pending) → AreNumbered rules → IsIn r rules → has_rule test r.number rules ≡ test r
rule_is test r [] n i = absurd i
rule_is test r (x ∷ rules) n (inl is) =
    let here : (x.number == r.number) ≡ true = eq-eqb x.number r.number (ap (λ (y : Pending). y.number) (sym is)) in
    ap (λ b. if b then test x else has_rule test r.number rules) here ∙ ap test (sym is)
rule_is test r (x ∷ rules) n (inr i) = by (x.number == r.number) refl (rule_is test r rules n.1 i)
  where
    by : (b : Bool) → (x.number == r.number) ≡ b → has_rule test r.number rules ≡ test r → (if b then test x else has_rule test r.number rules) ≡ test r
    by true same later =
        let there = rule_there r rules i in
        let not_there : has_rule (λ _. true) r.number rules ≡ false = subst (λ (k : ℕ). has_rule (λ _. true) k rules ≡ false) (eqb-true x.number r.number same) n.0 in
        cc
    by false other later = later

writer_found : (datum : ℕ) (w : Pending) (rules : List Pending) → IsIn w rules → is_among datum w.writes ≡ true → (v : Pending) × (writer_of datum rules ≡ Some v) × IsIn v rules × (is_among datum v.writes ≡ true)
writer_found datum w [] i h = absurd i
writer_found datum w (r ∷ rules) i h = by (is_among datum r.writes) refl i (λ i'. writer_found datum w rules i' h)
  where
    by : (b : Bool) → is_among datum r.writes ≡ b → IsIn w (r ∷ rules) → (IsIn w rules → (v : Pending) × (writer_of datum rules ≡ Some v) × IsIn v rules × (is_among datum v.writes ≡ true))
        → (v : Pending) × ((if b then Some r else writer_of datum rules) ≡ Some v) × IsIn v (r ∷ rules) × (is_among datum v.writes ≡ true)
    by true is i later = (r, refl, inl refl, is)
    by false is (inl same) later = let z : is_among datum r.writes ≡ true = ap (λ (y : Pending). is_among datum y.writes) (sym same) ∙ h in cc
    by false is (inr i) later = let rest = later i in (rest.0, rest.1, inr rest.2, rest.3)

-- ---- trails

leads_on : (rules : List Pending) (from at : ℕ) (trail : List Link) (l : Link) → Leads rules from trail at → l.rule ≡ at → IsLink rules l → Leads rules from (trail ++ l ∷ []) l.next
leads_on rules from at [] l h is one = (is ∙ sym h, one, refl)
leads_on rules from at (x ∷ trail) l h is one = (h.0, h.1, leads_on rules x.next at trail l h.2 is one)

met_or : (rule : ℕ) (trail : List Link) (l : Link) → is_met rule trail ≡ false → (l.rule ≡ rule → ⊥) → is_met rule (trail ++ l ∷ []) ≡ false
met_or rule [] l h other = let no : (l.rule == rule) ≡ false = ne_eqb l.rule rule other in rw no refl
met_or rule (x ∷ trail) l h other = by (x.rule == rule) h (λ h'. met_or rule trail l h' other)
  where
    by : (b : Bool) → (b || is_met rule trail) ≡ false → (is_met rule trail ≡ false → is_met rule (trail ++ l ∷ []) ≡ false) → (b || is_met rule (trail ++ l ∷ [])) ≡ false
    by true h later = cc
    by false h later = later h

distinct_on : (trail : List Link) (l : Link) → AreDistinct (rules_of trail) → is_met l.rule trail ≡ false → AreDistinct (rules_of (trail ++ l ∷ []))
distinct_on [] l d h = (refl, tt)
distinct_on (x ∷ trail) l d h = by (x.rule == l.rule) refl h (λ h'. distinct_on trail l d.1 h')
  where
    by : (b : Bool) → (x.rule == l.rule) ≡ b → (b || is_met l.rule trail) ≡ false → (is_met l.rule trail ≡ false → AreDistinct (rules_of (trail ++ l ∷ []))) → AreDistinct (rules_of (x ∷ trail ++ l ∷ []))
    by true same h later = cc
    by false other h later = (met_or x.rule trail l d.0 (λ e. eqb-false x.rule l.rule other (sym e)), later h)

-- from the first link of a rule that was met, the trail is a circle
circle_since : (rules : List Pending) (rule from : ℕ) (trail : List Link) → Leads rules from trail rule → AreDistinct (rules_of trail) → is_met rule trail ≡ true → IsCircle rules (since rule trail)
circle_since rules rule from [] h d met = cc
circle_since rules rule from (l ∷ trail) h d met = by (l.rule == rule) refl met (λ met'. circle_since rules rule l.next trail h.2 d.1 met')
  where
    by : (b : Bool) → (l.rule == rule) ≡ b → (b || is_met rule trail) ≡ true → (is_met rule trail ≡ true → IsCircle rules (since rule trail)) → IsCircle rules (if b then l ∷ trail else since rule trail)
    by true same met later = ((refl, h.1, subst (λ (k : ℕ). Leads rules l.next trail k) (sym (eqb-true l.rule rule same)) h.2), d)
    by false other met later = later met

-- ---- the rules that aren't met yet

unmet : List Link → List Pending → ℕ
unmet trail [] = 0
unmet trail (r ∷ rules) = (if is_met r.number trail then 0 else 1) + unmet trail rules

unmet_all : (rules : List Pending) → unmet [] rules ≡ length rules
unfolding unmet
unmet_all [] = refl
unmet_all (r ∷ rules) = let rest = unmet_all rules in omega arith

unmet_one : (trail : List Link) (r : Pending) (rules : List Pending) → IsIn r rules → is_met r.number trail ≡ false → 1 ≤ unmet trail rules
unfolding unmet
unmet_one trail r [] i h = absurd i
unmet_one trail r (x ∷ rules) (inl is) h = let e : is_met x.number trail ≡ false = ap (λ (y : Pending). is_met y.number trail) (sym is) ∙ h in rw e (omega arith)
unmet_one trail r (x ∷ rules) (inr i) h = let rest = unmet_one trail r rules i h in omega arith

met_more : (rule : ℕ) (trail : List Link) (l : Link) → is_met rule trail ≡ true → is_met rule (trail ++ l ∷ []) ≡ true
met_more rule [] l h = cc
met_more rule (x ∷ trail) l h = by (x.rule == rule) h (λ h'. met_more rule trail l h')
  where
    by : (b : Bool) → (b || is_met rule trail) ≡ true → (is_met rule trail ≡ true → is_met rule (trail ++ l ∷ []) ≡ true) → (b || is_met rule (trail ++ l ∷ [])) ≡ true
    by true h later = refl
    by false h later = later h

met_last : (trail : List Link) (l : Link) → is_met l.rule (trail ++ l ∷ []) ≡ true
met_last [] l = let here : (l.rule == l.rule) ≡ true = eq-eqb l.rule l.rule refl in rw here refl
met_last (x ∷ trail) l = by (x.rule == l.rule) (met_last trail l)
  where
    by : (b : Bool) → is_met l.rule (trail ++ l ∷ []) ≡ true → (b || is_met l.rule (trail ++ l ∷ [])) ≡ true
    by true later = refl
    by false later = later

one_no_more : (rule : ℕ) (trail : List Link) (l : Link) → (if is_met rule (trail ++ l ∷ []) then 0 else 1) ≤ (if is_met rule trail then 0 else 1)
one_no_more rule trail l = by (is_met rule trail) refl (is_met rule (trail ++ l ∷ [])) refl
  where
    by : (b : Bool) → is_met rule trail ≡ b → (c : Bool) → is_met rule (trail ++ l ∷ []) ≡ c → (if c then 0 else 1) ≤ (if b then 0 else 1)
    by true is true later = omega arith
    by true is false later = let m = met_more rule trail l is in cc
    by false is true later = omega arith
    by false is false later = omega arith

unmet_no_more : (trail : List Link) (l : Link) (rules : List Pending) → unmet (trail ++ l ∷ []) rules ≤ unmet trail rules
unfolding unmet
unmet_no_more trail l [] = omega arith
unmet_no_more trail l (r ∷ rules) = let one = one_no_more r.number trail l in let rest = unmet_no_more trail l rules in omega arith

-- there is one unmet rule less after a link from one that wasn't met
unmet_less : (trail : List Link) (l : Link) (r : Pending) (rules : List Pending) → IsIn r rules → l.rule ≡ r.number → is_met r.number trail ≡ false → unmet (trail ++ l ∷ []) rules + 1 ≤ unmet trail rules
unfolding unmet
unmet_less trail l r [] i is h = absurd i
unmet_less trail l r (x ∷ rules) (inl same) is h =
    let before : is_met x.number trail ≡ false = ap (λ (y : Pending). is_met y.number trail) (sym same) ∙ h in
    let number : l.rule ≡ x.number = is ∙ ap (λ (y : Pending). y.number) same in
    let after : is_met x.number (trail ++ l ∷ []) ≡ true = subst (λ (k : ℕ). is_met k (trail ++ l ∷ []) ≡ true) number (met_last trail l) in
    let rest = unmet_no_more trail l rules in
    rw (before, after) (omega arith)
unmet_less trail l r (x ∷ rules) (inr i) is h = let one = one_no_more x.number trail l in let rest = unmet_less trail l r rules i is h in omega arith

-- ---- the walk

module _ (rules : List Pending) (numbered : AreNumbered rules) (blocked : (r : Pending) → IsIn r rules → IsBlocked rules r) where
  -- a link from a rule, and the rule to which it leads
  record Step (at : Pending) : Type 0 where
    link : Link
    next : Pending
    is : step_from rules at ≡ Some (link, next)
    from : link.rule ≡ at.number
    to : link.next ≡ next.number
    one : IsLink rules link
    there : IsIn next rules

  step_found : (at : Pending) → IsIn at rules → Step at
  step_found at i =
      let b = blocked at i in
      let w = writer_found b.datum b.writer rules b.there b.writes in
      record {
        link = record { rule = at.number; datum = b.datum; next = w.0.number };
        next = w.0;
        is = rw (b.waits, w.1) refl;
        from = refl;
        to = refl;
        one = record { waits = rule_is (λ r. is_among b.datum r.waits) at rules numbered i ∙ waits_first at.waits b.datum b.waits; writes = rule_is (λ r. is_among b.datum r.writes) w.0 rules numbered w.2 ∙ w.3 };
        there = w.2;
      }
    where
      waits_first : (ds : List ℕ) (d : ℕ) → slice_get ds 0 ≡ Some d → is_among d ds ≡ true
      waits_first [] d h = cc
      waits_first (x ∷ ds) d h = let same : x ≡ d = cc in let here : (x == d) ≡ true = eq-eqb x d same in rw here refl

  abbrev Circled : Option (List Link) → Type 0
  Circled o = (links : List Link) × (o ≡ Some links) × IsCircle rules links

  walk_ends : (steps start : ℕ) (trail : List Link) (at : Pending) → Leads rules start trail at.number → AreDistinct (rules_of trail) → IsIn at rules → unmet trail rules ≤ steps → Circled (walk steps rules trail at)
  walk_ends zero start trail at h d i few = by (is_met at.number trail) refl
    where
      by : (b : Bool) → is_met at.number trail ≡ b → Circled (if b then Some (since at.number trail) else None)
      by true met = (since at.number trail, refl, circle_since rules at.number start trail h d met)
      by false new = let one = unmet_one trail at rules i new in absurd (omega arith)
  walk_ends (suc steps) start trail at h d i few = by (is_met at.number trail) refl (λ trail' at' h' d' i' few'. walk_ends steps start trail' at' h' d' i' few')
    where
      by : (b : Bool) → is_met at.number trail ≡ b
          → ((trail' : List Link) (at' : Pending) → Leads rules start trail' at'.number → AreDistinct (rules_of trail') → IsIn at' rules → unmet trail' rules ≤ steps → Circled (walk steps rules trail' at'))
          → Circled (if b then Some (since at.number trail) else option_and_then (λ (s : Link × Pending). walk steps rules (trail ++ s.0 ∷ []) s.1) (step_from rules at))
      by true met later = (since at.number trail, refl, circle_since rules at.number start trail h d met)
      by false new later =
          let s = step_found at i in
          let less = unmet_less trail s.link at rules i s.from new in
          let rest = later (trail ++ s.link ∷ []) s.next
          (subst (λ (k : ℕ). Leads rules start (trail ++ s.link ∷ []) k) s.to (leads_on rules start at.number trail s.link h s.from s.one))
          (distinct_on trail s.link d (subst (λ (k : ℕ). is_met k trail ≡ false) (sym s.from) new))
          s.there (omega arith) in
          (rest.0, ap (option_and_then (λ (s : Link × Pending). walk steps rules (trail ++ s.0 ∷ []) s.1)) s.is ∙ rest.1, rest.2)

pub circles_are_found : (rules : List Pending) → CircleFound rules
circles_are_found [] = tt
circles_are_found (first ∷ others) = λ numbered blocked. walk_ends (first ∷ others) numbered blocked (length (first ∷ others)) first.number [] first refl tt (inl refl) (let all = unmet_all (first ∷ others) in omega arith)
