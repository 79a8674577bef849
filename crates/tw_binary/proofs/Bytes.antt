-- Items of one byte: each is parsed as it was written, and a wrong one is reported.
use Rattle.tw_binary.proofs.Names.{Bool, Broken, Closed, Err, FaultNo, Five, Four, Int, IsRegister, IsWithin, Item, Kind, Limit, List, Mode, None, Ok, One, Option, Ref, Result, Scalar, Some, Text, Two, Unknown, Val, Version, Write, [], ap, arith, byte, concat, cond, eqb, eqb-true, false, inl, inr, kind_code, le-ltb, length, mode_code, refl, scalar_items, subst, suc, sym, true, values_items, version_items, ℕ, ◌++◌, ◌∙◌, ◌∷◌, ◌≡◌, ◌≤◌}
use Rattle.std.proofs.lemmas.Bool.Decides.{nat_tests}
use Rattle.tw_types.specs.declared.actor.Kind.TheVariants.{Control, Leaf}
use Rattle.tw_binary.specs.declared.fault.FaultNo.TheVariants as fault
use Rattle.tw_binary.specs.Reading.{Reading, is_within, byte_at, register_at, exactly_at, kind_at, scalar_at, mode_at, values_at, version_at}
use Rattle.tw_binary.proofs.Formats.{IsBytes, IsBytes-rest, chosen, passed, ok_is, Takes}
use Rattle.tw_binary.proofs.Breaks.{IsStrict, IsOfItem, Lacks, Breaks, FailsAt, ended, no_err, err_is, refused}

-- an item of one byte
abbrev pub a_byte : ℕ → List Item
a_byte b = byte b ∷ []

abbrev pub AnyOf : {A : Type 0} → A → Type 0
AnyOf x = Unit {0}

-- a byte at the start is taken
pub front : (b : ℕ) (rest : List ℕ) → IsBytes (b ∷ rest) → Takes (b ∷ rest) (concat (a_byte b)) rest
front b rest fits = record { parts = refl; rest_fits = IsBytes-rest b rest fits }

-- the input ends where a byte is due
pub nothing_left : {A : Type 0} {F : A → Type 0} {w : A → List Item} (f : Broken) (some : A) → F some → (b : ℕ) (later : List Item) → w some ≡ byte b ∷ later → ended ≡ f → Lacks F w [] f
nothing_left f some fits b later spelled is = record {
  before = [];
  part = [];
  size = 1;
  parts = refl;
  is = sym is;
  due = record { value = some; fits = fits; done = []; next = byte b; later = later; items = spelled; joined = refl; size_is = refl };
  short = omega arith;
}

-- the first byte is the wrong item
pub wrong_byte : {A : Type 0} {F : A → Type 0} {w : A → List Item} {r : Reading A} (b : ℕ) (bs : List ℕ) (which : FaultNo) (f : Broken) (some : A) → F some → (k : ℕ) (later : List Item) → w some ≡ byte k ∷ later
    → IsOfItem which → record { no = which; left = suc (length bs) } ≡ f → ((rest : List ℕ) → r (b ∷ rest) ≡ Err (record { no = which; left = suc (length rest) })) → Breaks F w r (b ∷ bs) f
wrong_byte b bs which f some fits k later spelled of_item is stop = record {
  before = [];
  item = b ∷ [];
  after = bs;
  parts = refl;
  left = ap (λ (d : Broken). d.left) (sym is);
  of_item = subst (λ (d : Broken). IsOfItem d.no) is of_item;
  due = record { value = some; fits = fits; done = []; next = byte k; later = later; items = spelled; joined = refl; size_is = refl };
  stops = λ rest. stop rest ∙ ap (λ (n : FaultNo). Err (record { no = n; left = suc (length rest) })) (ap (λ (d : Broken). d.no) is);
}

-- ---- a number within its limits

pub within-true : (low high n : ℕ) → is_within low high n ≡ true → IsWithin low high n
within-true low high n e = (grind (arith, nat_tests), grind (arith, nat_tests))

pub is_within-true : (low high n : ℕ) → IsWithin low high n → is_within low high n ≡ true
is_within-true low high n h = rw (le-ltb n low h.0, le-ltb high n h.1) refl

pub byte_strict : (low high : ℕ) → low ≤ high → IsStrict (IsWithin low high) a_byte (byte_at low high)
unfolding byte_at
byte_strict low high le = record { format = record { takes = takes; again = λ n rest fits. rw (is_within-true low high n fits) refl }; some = low; some_fits = (omega arith, le); fails = fails } where
  takes : (bytes : List ℕ) (x : ℕ) (rest : List ℕ) → IsBytes bytes → byte_at low high bytes ≡ Ok (x, rest) → Takes bytes (concat (a_byte x)) rest × IsWithin low high x
  takes [] x rest fits e = absurd cc
  takes (b ∷ bs) x rest fits e =
      let g = passed (is_within low high b) _ (b, bs) (x, rest) e in
      subst (λ (y : ℕ × List ℕ). Takes (b ∷ bs) (concat (a_byte y.0)) y.1 × IsWithin low high y.0) g.1 (front b bs fits, within-true low high b g.0)

  fails : (bytes : List ℕ) (f : Broken) → IsBytes bytes → byte_at low high bytes ≡ Err f → FailsAt (IsWithin low high) a_byte (byte_at low high) bytes f
  fails [] f fits e = inl (nothing_left f low (omega arith, le) low [] refl (err_is {Z = ℕ × List ℕ} _ f e))
  fails (b ∷ bs) f fits e =
      let g = refused (is_within low high b) (b, bs) (record { no = Limit; left = suc (length bs) }) f e in
      inr (wrong_byte b bs Limit f low (omega arith, le) low [] refl tt g.1 (λ rest. rw g.0 refl))

pub register_strict : IsStrict IsRegister a_byte register_at
register_strict = byte_strict 0 15 (omega arith)

-- ---- exactly one byte

pub exactly_strict : (wanted : ℕ) (which : FaultNo) → IsOfItem which → IsStrict (λ n. n ≡ wanted) a_byte (exactly_at wanted which)
unfolding exactly_at
exactly_strict wanted which of_item = record { format = record { takes = takes; again = λ n rest h. rw (eqb-of n wanted h) refl }; some = wanted; some_fits = refl; fails = fails } where
  eqb-of : (m n : ℕ) → m ≡ n → eqb m n ≡ true
  eqb-of m n h = grind (arith, nat_tests)

  takes : (bytes : List ℕ) (x : ℕ) (rest : List ℕ) → IsBytes bytes → exactly_at wanted which bytes ≡ Ok (x, rest) → Takes bytes (concat (a_byte x)) rest × (x ≡ wanted)
  takes [] x rest fits e = absurd cc
  takes (b ∷ bs) x rest fits e =
      let g = passed (eqb b wanted) _ (b, bs) (x, rest) e in
      subst (λ (y : ℕ × List ℕ). Takes (b ∷ bs) (concat (a_byte y.0)) y.1 × (y.0 ≡ wanted)) g.1 (front b bs fits, eqb-true b wanted g.0)

  fails : (bytes : List ℕ) (f : Broken) → IsBytes bytes → exactly_at wanted which bytes ≡ Err f → FailsAt (λ n. n ≡ wanted) a_byte (exactly_at wanted which) bytes f
  fails [] f fits e = inl (nothing_left f wanted refl wanted [] refl (err_is {Z = ℕ × List ℕ} _ f e))
  fails (b ∷ bs) f fits e =
      let g = refused (eqb b wanted) (b, bs) (record { no = which; left = suc (length bs) }) f e in
      inr (wrong_byte b bs which f wanted refl wanted [] refl of_item g.1 (λ rest. rw g.0 refl))

-- ---- a byte for each value

-- this byte encodes this value, and others encode others
by_code : {A : Type 0} (w : A → List Item) (k : ℕ) (v : A) (others : Result (A × List ℕ) Broken) (b : ℕ) (bs : List ℕ) (x : A) (rest : List ℕ) → IsBytes (b ∷ bs) → w v ≡ a_byte k
    → (others ≡ Ok (x, rest) → Takes (b ∷ bs) (concat (w x)) rest) → cond (eqb b k) (Ok (v, bs)) others ≡ Ok (x, rest) → Takes (b ∷ bs) (concat (w x)) rest
by_code w k v others b bs x rest fits spelled on e =
    elim (chosen (eqb b k) (Ok (v, bs)) others (Ok (x, rest)) e) [
      | inl h ↦ subst (λ (y : _ × List ℕ). Takes (b ∷ bs) (concat (w y.0)) y.1) (ok_is (v, bs) (x, rest) h.1) (subst (λ (t : List Item). Takes (b ∷ bs) (concat t) bs) (ap a_byte (eqb-true b k h.0) ∙ sym spelled) (front b bs fits))
      | inr h ↦ on h.1
    ]

-- a byte that wasn't this one, or the next one
pub not_this : {Z : Type 0} (b : Bool) (x : Z) (z : Result Z Broken) (f : Broken) → cond b (Ok x) z ≡ Err f → (b ≡ false) × (z ≡ Err f)
not_this true x z f e = absurd (no_err x f e)
not_this false x z f e = (refl, e)

abbrev pub kind_items : Kind → List Item
kind_items kind = a_byte (kind_code kind)

pub kind_strict : IsStrict AnyOf kind_items kind_at
unfolding kind_at
kind_strict = record { format = record { takes = takes; again = again }; some = Control; some_fits = tt; fails = fails } where
  takes : (bytes : List ℕ) (x : Kind) (rest : List ℕ) → IsBytes bytes → kind_at bytes ≡ Ok (x, rest) → Takes bytes (concat (kind_items x)) rest × AnyOf x
  takes [] x rest fits e = absurd cc
  takes (b ∷ bs) x rest fits e = (by_code kind_items 0 Control _ b bs x rest fits refl (by_code kind_items 1 Leaf _ b bs x rest fits refl (λ h. absurd cc)) e, tt)

  again : (x : Kind) (rest : List ℕ) → AnyOf x → kind_at (concat (kind_items x) ++ rest) ≡ Ok (x, rest)
  again Control rest h = refl
  again Leaf rest h = refl

  fails : (bytes : List ℕ) (f : Broken) → IsBytes bytes → kind_at bytes ≡ Err f → FailsAt AnyOf kind_items kind_at bytes f
  fails [] f fits e = inl (nothing_left f Control tt 0 [] refl (err_is {Z = Kind × List ℕ} _ f e))
  fails (b ∷ bs) f fits e =
      let g = not_this (eqb b 0) (Control, bs) _ f e in
      let h = refused (eqb b 1) (Leaf, bs) (record { no = Unknown; left = suc (length bs) }) f g.1 in
      inr (wrong_byte b bs Unknown f Control tt 0 [] refl tt h.1 (λ rest. rw (g.0, h.0) refl))

pub scalar_strict : IsStrict AnyOf scalar_items scalar_at
unfolding scalar_at
scalar_strict = record { format = record { takes = takes; again = again }; some = Int; some_fits = tt; fails = fails } where
  takes : (bytes : List ℕ) (x : Scalar) (rest : List ℕ) → IsBytes bytes → scalar_at bytes ≡ Ok (x, rest) → Takes bytes (concat (scalar_items x)) rest × AnyOf x
  takes [] x rest fits e = absurd cc
  takes (b ∷ bs) x rest fits e = (by_code scalar_items 1 Int _ b bs x rest fits refl (by_code scalar_items 2 Text _ b bs x rest fits refl (λ h. absurd cc)) e, tt)

  again : (x : Scalar) (rest : List ℕ) → AnyOf x → scalar_at (concat (scalar_items x) ++ rest) ≡ Ok (x, rest)
  again Int rest h = refl
  again Text rest h = refl

  fails : (bytes : List ℕ) (f : Broken) → IsBytes bytes → scalar_at bytes ≡ Err f → FailsAt AnyOf scalar_items scalar_at bytes f
  fails [] f fits e = inl (nothing_left f Int tt 1 [] refl (err_is {Z = Scalar × List ℕ} _ f e))
  fails (b ∷ bs) f fits e =
      let g = not_this (eqb b 1) (Int, bs) _ f e in
      let h = refused (eqb b 2) (Text, bs) (record { no = Unknown; left = suc (length bs) }) f g.1 in
      inr (wrong_byte b bs Unknown f Int tt 1 [] refl tt h.1 (λ rest. rw (g.0, h.0) refl))

pub values_strict : IsStrict AnyOf values_items values_at
unfolding values_at
values_strict = record { format = record { takes = takes; again = again }; some = None; some_fits = tt; fails = fails } where
  takes : (bytes : List ℕ) (x : Option Scalar) (rest : List ℕ) → IsBytes bytes → values_at bytes ≡ Ok (x, rest) → Takes bytes (concat (values_items x)) rest × AnyOf x
  takes [] x rest fits e = absurd cc
  takes (b ∷ bs) x rest fits e =
      (by_code values_items 1 (Some Int) _ b bs x rest fits refl (by_code values_items 2 (Some Text) _ b bs x rest fits refl (by_code values_items 3 None _ b bs x rest fits refl (λ h. absurd cc))) e, tt)

  again : (x : Option Scalar) (rest : List ℕ) → AnyOf x → values_at (concat (values_items x) ++ rest) ≡ Ok (x, rest)
  again None rest h = refl
  again (Some Int) rest h = refl
  again (Some Text) rest h = refl

  fails : (bytes : List ℕ) (f : Broken) → IsBytes bytes → values_at bytes ≡ Err f → FailsAt AnyOf values_items values_at bytes f
  fails [] f fits e = inl (nothing_left f None tt 3 [] refl (err_is {Z = Option Scalar × List ℕ} _ f e))
  fails (b ∷ bs) f fits e =
      let g = not_this (eqb b 1) (Some Int, bs) _ f e in
      let h = not_this (eqb b 2) (Some Text, bs) _ f g.1 in
      let i = refused (eqb b 3) (None, bs) (record { no = Unknown; left = suc (length bs) }) f h.1 in
      inr (wrong_byte b bs Unknown f None tt 3 [] refl tt i.1 (λ rest. rw (g.0, h.0, i.0) refl))

abbrev pub mode_items : Mode → List Item
mode_items mode = a_byte (mode_code mode)

pub mode_strict : IsStrict AnyOf mode_items mode_at
unfolding mode_at
mode_strict = record { format = record { takes = takes; again = again }; some = Val; some_fits = tt; fails = fails } where
  takes : (bytes : List ℕ) (x : Mode) (rest : List ℕ) → IsBytes bytes → mode_at bytes ≡ Ok (x, rest) → Takes bytes (concat (mode_items x)) rest × AnyOf x
  takes [] x rest fits e = absurd cc
  takes (b ∷ bs) x rest fits e =
      (by_code mode_items 1 Val _ b bs x rest fits refl (by_code mode_items 2 Closed _ b bs x rest fits refl (by_code mode_items 3 Ref _ b bs x rest fits refl (by_code mode_items 4 Write _ b bs x rest fits refl (λ h. absurd cc)))) e, tt)

  again : (x : Mode) (rest : List ℕ) → AnyOf x → mode_at (concat (mode_items x) ++ rest) ≡ Ok (x, rest)
  again Val rest h = refl
  again Closed rest h = refl
  again Ref rest h = refl
  again Write rest h = refl

  fails : (bytes : List ℕ) (f : Broken) → IsBytes bytes → mode_at bytes ≡ Err f → FailsAt AnyOf mode_items mode_at bytes f
  fails [] f fits e = inl (nothing_left f Val tt 1 [] refl (err_is {Z = Mode × List ℕ} _ f e))
  fails (b ∷ bs) f fits e =
      let g = not_this (eqb b 1) (Val, bs) _ f e in
      let h = not_this (eqb b 2) (Closed, bs) _ f g.1 in
      let i = not_this (eqb b 3) (Ref, bs) _ f h.1 in
      let j = refused (eqb b 4) (Write, bs) (record { no = Unknown; left = suc (length bs) }) f i.1 in
      inr (wrong_byte b bs Unknown f Val tt 1 [] refl tt j.1 (λ rest. rw (g.0, h.0, i.0, j.0) refl))

pub version_strict : IsStrict AnyOf version_items version_at
unfolding version_at
version_strict = record { format = record { takes = takes; again = again }; some = One; some_fits = tt; fails = fails } where
  takes : (bytes : List ℕ) (x : Version) (rest : List ℕ) → IsBytes bytes → version_at bytes ≡ Ok (x, rest) → Takes bytes (concat (version_items x)) rest × AnyOf x
  takes [] x rest fits e = absurd cc
  takes (b ∷ bs) x rest fits e = (by_code version_items 1 One _ b bs x rest fits refl (by_code version_items 2 Two _ b bs x rest fits refl (by_code version_items 4 Four _ b bs x rest fits refl (by_code version_items 5 Five _ b bs x rest fits refl (λ h. absurd cc)))) e, tt)

  again : (x : Version) (rest : List ℕ) → AnyOf x → version_at (concat (version_items x) ++ rest) ≡ Ok (x, rest)
  again One rest h = refl
  again Two rest h = refl
  again Four rest h = refl
  again Five rest h = refl

  fails : (bytes : List ℕ) (f : Broken) → IsBytes bytes → version_at bytes ≡ Err f → FailsAt AnyOf version_items version_at bytes f
  fails [] f fits e = inl (nothing_left f One tt 1 [] refl (err_is {Z = Version × List ℕ} _ f e))
  fails (b ∷ bs) f fits e =
      let g = not_this (eqb b 1) (One, bs) _ f e in
      let h = not_this (eqb b 2) (Two, bs) _ f g.1 in
      let i = not_this (eqb b 4) (Four, bs) _ f h.1 in
      let j = refused (eqb b 5) (Five, bs) (record { no = fault.Version; left = suc (length bs) }) f i.1 in
      inr (wrong_byte b bs fault.Version f One tt 1 [] refl tt j.1 (λ rest. rw (g.0, h.0, i.0, j.0) refl))
