-- Lists with commas between their members, read from left to right.
use Rattle.std.proofs.Common.{◌≡◌, ◌≢◌, ◌==◌, true, false, ℕ, List, [], ◌∷◌, ◌++◌, refl, sym, ap, subst, ◌∙◌, append_assoc}
use Rattle.std.specs.Prelude.{length}
use Rattle.std.specs.List.{AllByRecursion}
use Rattle.std.proofs.lemmas.Bool.{eqb-true}
use Rattle.tw_types.proofs.Elements.{no_items}
use Rattle.tw_inputs.specs.InputWords.{AreSeparated, AreJoined}
use Rattle.tw_inputs.specs.Lists.{HasNoFirst, IsFirst, IsStop}

-- ---- cuts

-- there is one split before the first such byte
pub one_cut : (byte : ℕ) (xs ys rest after : List ℕ) → AllByRecursion (λ b. b ≢ byte) xs → AllByRecursion (λ b. b ≢ byte) ys → IsStop byte rest → IsStop byte after
    → xs ++ rest ≡ ys ++ after → (xs ≡ ys) × (rest ≡ after)
one_cut byte [] [] rest after p q r s e = (refl, e)
one_cut byte [] (y ∷ ys) [] after p q r s e = absurd (never e)
  where
    never : [] ≡ y ∷ (ys ++ after) → ⊥
    never h = cc
one_cut byte [] (y ∷ ys) (b ∷ rest) after p q r s e = absurd (q.0 (sym (head e) ∙ r))
  where
    head : b ∷ rest ≡ y ∷ (ys ++ after) → b ≡ y
    head h = cc
one_cut byte (x ∷ xs) [] rest [] p q r s e = absurd (never e)
  where
    never : x ∷ (xs ++ rest) ≡ [] → ⊥
    never h = cc
one_cut byte (x ∷ xs) [] rest (b ∷ after) p q r s e = absurd (p.0 (head e ∙ s))
  where
    head : x ∷ (xs ++ rest) ≡ b ∷ after → x ≡ b
    head h = cc
one_cut byte (x ∷ xs) (y ∷ ys) rest after p q r s e =
    let both = parts e in
    let more = one_cut byte xs ys rest after p.1 q.1 r s both.1 in
    (ap (λ (b : ℕ). b ∷ xs) both.0 ∙ ap (λ (zs : List ℕ). y ∷ zs) more.0, more.1)
  where
    parts : x ∷ (xs ++ rest) ≡ y ∷ (ys ++ after) → (x ≡ y) × (xs ++ rest ≡ ys ++ after)
    parts h = (cc, cc)

-- ---- lists

not_true : false ≡ true → ⊥
not_true e = cc

-- the test for an empty list was false
pub some_bytes : (xs : List ℕ) → false ≡ (length xs == 0) → xs ≢ []
some_bytes xs h e = not_true (h ∙ ap (λ (ys : List ℕ). length ys == 0) e)

-- the test for an empty list was true
pub no_bytes : (xs : List ℕ) → true ≡ (length xs == 0) → xs ≡ []
no_bytes xs h = no_items xs (eqb-true (length xs) 0 (sym h))

module _ {A : Type 0} (Spells : A → List ℕ → Type 0) where
  -- one or more members
  abbrev pub AreSome : List A → List ℕ → Type 0
  AreSome [] text = ⊥
  AreSome (x ∷ xs) text = AreJoined Spells (x ∷ xs) text

  -- these members have been read, and the rest is read for more: together they are the list
  pub record AreRead (list : List ℕ) (members : List A) (rest : List ℕ) : Type 0 where
    pub sound : (xs : List A) → AreSome xs rest → AreJoined Spells (members ++ xs) list
    pub complete : (ys : List A) → AreJoined Spells ys list → (xs : List A) × (ys ≡ members ++ xs) × AreSome xs rest

  pub none_read : (list : List ℕ) → list ≢ [] → AreRead list [] list
  none_read list some = record { sound = from; complete = to }
    where
      from : (xs : List A) → AreSome xs list → AreJoined Spells ([] ++ xs) list
      from [] h = absurd h
      from (x ∷ xs) h = h

      to : (ys : List A) → AreJoined Spells ys list → (xs : List A) × (ys ≡ [] ++ xs) × AreSome xs list
      to [] h = absurd (some h)
      to (y ∷ ys) h = (y ∷ ys, refl, h)

  -- a comma or the end is before the rest
  pub stops : (xs : List A) (rest : List ℕ) → AreSeparated Spells xs rest → IsStop 44 rest
  stops [] rest h = subst (IsStop 44) (sym h) tt
  stops (x ∷ xs) rest h = subst (IsStop 44) (sym h.4) refl

  -- the rest, after a member that was found
  following : (rest after : List ℕ) (x : A) (xs : List A) → IsFirst 44 Spells rest x after → AreSome xs rest → (ys : List A) × (xs ≡ x ∷ ys) × AreSeparated Spells ys after
  following rest after x [] found h = absurd h
  following rest after x (y ∷ ys) found h =
      let same = found.alone y h.0 h.1 h.2 (stops ys h.1 h.3) h.4 in
      (ys, ap (λ (z : A). z ∷ ys) (sym same.0), subst (AreSeparated Spells ys) (sym same.1) h.3)

  comma_is : (others text : List ℕ) → 44 ∷ others ≡ 44 ∷ text → others ≡ text
  comma_is others text e = cc

  never_comma : {Z : Type 0} (others : List ℕ) → 44 ∷ others ≡ [] → Z
  never_comma others e = absurd cc

  -- one member more, and a comma after it
  pub one_read : (list rest after others : List ℕ) (members : List A) (x : A) → AreRead list members rest → IsFirst 44 Spells rest x after → after ≡ 44 ∷ others → AreRead list (members ++ x ∷ []) others
  one_read list rest after others members x h found comma = record {
    sound = λ xs more. subst (λ (ys : List A). AreJoined Spells ys list) (sym (append_assoc members (x ∷ []) xs)) (h.sound (x ∷ xs) (longer xs more));
    complete = λ ys joined.
        let left = h.complete ys joined in
        let next = following rest after x left.0 found left.2 in
        let last = rest_of next.0 (subst (AreSeparated Spells next.0) comma next.2) in
        (next.0, left.1 ∙ ap (λ (xs : List A). members ++ xs) next.1 ∙ sym (append_assoc members (x ∷ []) next.0), last);
  }
    where
      follows : (xs : List A) → AreSome xs others → AreSeparated Spells xs (44 ∷ others)
      follows [] more = absurd more
      follows (y ∷ ys) more = (more.0, more.1, more.2, more.3, ap (λ (text : List ℕ). 44 ∷ text) more.4)

      longer : (xs : List A) → AreSome xs others → AreSome (x ∷ xs) rest
      longer xs more = (found.first, after, found.spells, subst (AreSeparated Spells xs) (sym comma) (follows xs more), found.parts)

      rest_of : (xs : List A) → AreSeparated Spells xs (44 ∷ others) → AreSome xs others
      rest_of [] b = never_comma others b
      rest_of (y ∷ ys) b = (b.0, b.1, b.2, b.3, comma_is others (b.0 ++ b.1) b.4)

  -- one member more, at the end
  pub last_read : (list rest after : List ℕ) (members : List A) (x : A) → AreRead list members rest → IsFirst 44 Spells rest x after → after ≡ [] → AreJoined Spells (members ++ x ∷ []) list
  last_read list rest after members x h found end = h.sound (x ∷ []) (found.first, after, found.spells, end, found.parts)

  -- no member is there
  pub missing : (list rest : List ℕ) (members : List A) → AreRead list members rest → HasNoFirst 44 Spells rest → (ys : List A) → AreJoined Spells ys list → ⊥
  missing list rest members h none ys joined = let left = h.complete ys joined in by left.0 left.2
    where
      by : (xs : List A) → AreSome xs rest → ⊥
      by [] more = more
      by (y ∷ xs) more = none y more.0 more.1 more.2 (stops xs more.1 more.3) more.4

  -- neither a comma nor the end follows
  pub broken_off : (list rest after : List ℕ) (members : List A) (x : A) → AreRead list members rest → IsFirst 44 Spells rest x after → after ≢ [] → ((others : List ℕ) → after ≢ 44 ∷ others)
      → (ys : List A) → AreJoined Spells ys list → ⊥
  broken_off list rest after members x h found some comma ys joined =
      let left = h.complete ys joined in
      let next = following rest after x left.0 found left.2 in
      by next.0 next.2
    where
      by : (xs : List A) → AreSeparated Spells xs after → ⊥
      by [] b = some b
      by (y ∷ xs) b = comma (b.0 ++ b.1) b.4
