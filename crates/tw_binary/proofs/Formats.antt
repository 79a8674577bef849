-- A parsed value was written so, and a written value is parsed again: theorems for joined parsers.
use Rattle.tw_binary.proofs.Names.{AllByRecursion, Bool, Broken, Err, IsList, IsWithin, Item, List, Ok, Reading, Result, [], ap, append_assoc, arith, as_is, cases_lt, concat, cond, counted, drop, false, flat_map, get_or, get_or-drop, get_or-take, get_or_past, inl, inr, length, length-take, many, refl, subst, suc, sym, take, then_at, true, zero, ℕ, ◌++◌, ◌+◌, ◌<◌, ◌>>=◌, ◌∙◌, ◌∷◌, ◌≡◌, ◌⊎◌}
use Rattle.tw_binary.proofs.Joined.{joined}

-- ---- bytes

abbrev pub IsBytes : List ℕ → Type 0
IsBytes bytes = (i : ℕ) → get_or bytes i 0 < 256

pub IsBytes-drop : (n : ℕ) (bytes : List ℕ) → IsBytes bytes → IsBytes (drop n bytes)
IsBytes-drop n bytes h i = rw get_or-drop (h (n + i))

pub IsBytes-take : (n : ℕ) (bytes : List ℕ) → IsBytes bytes → IsBytes (take n bytes)
IsBytes-take n bytes h i =
    elim (cases_lt i n) [
      | inl lt ↦ rw (get_or-take n bytes i 0 lt) (h i)
      | inr le ↦ rw (get_or_past (take n bytes) i 0 (omega (arith, length-take n bytes))) (omega arith)
    ]

pub IsBytes-rest : (b : ℕ) (bytes : List ℕ) → IsBytes (b ∷ bytes) → IsBytes bytes
IsBytes-rest b bytes h i = h (suc i)

-- ---- steps of a parser

-- a step that didn't fail, and the next one
pub bind_ok : {A B : Type 0} (r : Result A Broken) (f : A → Result B Broken) (y : B) → (r >>= f) ≡ Ok y → (x : A) × (r ≡ Ok x) × (f x ≡ Ok y)
bind_ok (Ok x) f y e = (x, refl, e)
bind_ok (Err d) f y e = absurd cc

-- the branch that a test took
pub chosen : {Z : Type 0} (b : Bool) (x y z : Z) → cond b x y ≡ z → ((b ≡ true) × (x ≡ z)) ⊎ ((b ≡ false) × (y ≡ z))
chosen true x y z e = inl (refl, e)
chosen false x y z e = inr (refl, e)

-- a test that didn't fail
pub passed : {A : Type 0} (b : Bool) (d : Broken) (x y : A) → cond b (Ok x) (Err d) ≡ Ok y → (b ≡ true) × (x ≡ y)
passed true d x y e = (refl, cc)
passed false d x y e = absurd cc

abbrev taken : {A : Type 0} → A → Result A Broken
taken x = Ok x

pub ok_is : {A : Type 0} (x y : A) → taken x ≡ taken y → x ≡ y
ok_is x y e = cc

-- ---- the theorem

-- the text that a parser took from the start
pub record Takes (bytes text rest : List ℕ) : Type 0 where
  pub parts : bytes ≡ text ++ rest
  pub rest_fits : IsBytes rest

-- A parsed value was written so, and a written value is parsed again, for the values that fit.
pub record IsFormat {A : Type 0} (Fits : A → Type 0) (write : A → List Item) (read : Reading A) : Type 0 where
  pub takes : (bytes : List ℕ) (x : A) (rest : List ℕ) → IsBytes bytes → read bytes ≡ Ok (x, rest) → Takes bytes (concat (write x)) rest × Fits x
  pub again : (x : A) (rest : List ℕ) → Fits x → read (concat (write x) ++ rest) ≡ Ok (x, rest)

pub goes_after : (xs ys : List Item) (rest : List ℕ) → concat (xs ++ ys) ++ rest ≡ concat xs ++ (concat ys ++ rest)
goes_after xs ys rest = ap (λ (t : List ℕ). t ++ rest) (joined xs ys) ∙ append_assoc (concat xs) (concat ys) rest

pub Takes-then : (a : List ℕ) (xs : List Item) (b : List ℕ) (ys : List Item) (c : List ℕ) → Takes a (concat xs) b → Takes b (concat ys) c → Takes a (concat (xs ++ ys)) c
Takes-then a xs b ys c p q = record { parts = p.parts ∙ ap (λ (t : List ℕ). concat xs ++ t) q.parts ∙ sym (goes_after xs ys c); rest_fits = q.rest_fits }

-- ---- a value, and another with the parser that depends on it

module _ {A B : Type 0} {F : A → Type 0} {G : A → B → Type 0} {w : A → List Item} {v : A → B → List Item} {r : Reading A} {s : A → Reading B} (first : IsFormat F w r) (second : (x : A) → IsFormat (G x) (v x) (s x)) where
  pub then_format : IsFormat (λ (x : A × B). F x.0 × G x.0 x.1) (λ (x : A × B). w x.0 ++ v x.0 x.1) (then_at r s)
  then_format = record {
    takes = λ bytes x rest fits e.
        let a = bind_ok (r bytes) (λ a. s a.0 a.1 >>= λ b. Ok ((a.0, b.0), b.1)) (x, rest) e in
        let b = bind_ok (s a.0.0 a.0.1) (λ b. Ok ((a.0.0, b.0), b.1)) (x, rest) a.2 in
        let t = first.takes bytes a.0.0 a.0.1 fits a.1 in
        let u = (second a.0.0).takes a.0.1 b.0.0 b.0.1 t.0.rest_fits b.1 in
        subst (λ (y : (A × B) × List ℕ). Takes bytes (concat (w y.0.0 ++ v y.0.0 y.0.1)) y.1 × (F y.0.0 × G y.0.0 y.0.1)) (ok_is ((a.0.0, b.0.0), b.0.1) (x, rest) b.2)
        (Takes-then bytes (w a.0.0) a.0.1 (v a.0.0 b.0.0) b.0.1 t.0 u.0, (t.1, u.1));
    again = λ x rest fits.
        ap (then_at r s) (goes_after (w x.0) (v x.0 x.1) rest) ∙ rw (first.again x.0 (concat (v x.0 x.1) ++ rest) fits.0, (second x.0).again x.1 rest fits.1) refl;
  }

-- ---- several values in sequence

module _ {A : Type 0} {F : A → Type 0} {w : A → List Item} {r : Reading A} (each : IsFormat F w r) where
  pub many_takes : (n : ℕ) (bytes : List ℕ) (xs : List A) (rest : List ℕ) → IsBytes bytes → many r n bytes ≡ Ok (xs, rest) → Takes bytes (concat (flat_map w xs)) rest × (length xs ≡ n) × AllByRecursion F xs
  many_takes zero bytes xs rest fits e =
      subst (λ (y : List A × List ℕ). Takes bytes (concat (flat_map w y.0)) y.1 × (length y.0 ≡ 0) × AllByRecursion F y.0) (ok_is ([], bytes) (xs, rest) e) (record { parts = refl; rest_fits = fits }, refl, tt)
  many_takes (suc n) bytes xs rest fits e =
      let a = bind_ok (r bytes) (λ first. many r n first.1 >>= λ others. Ok (first.0 ∷ others.0, others.1)) (xs, rest) e in
      let b = bind_ok (many r n a.0.1) (λ others. Ok (a.0.0 ∷ others.0, others.1)) (xs, rest) a.2 in
      let t = each.takes bytes a.0.0 a.0.1 fits a.1 in
      let u = many_takes n a.0.1 b.0.0 b.0.1 t.0.rest_fits b.1 in
      subst (λ (y : List A × List ℕ). Takes bytes (concat (flat_map w y.0)) y.1 × (length y.0 ≡ suc n) × AllByRecursion F y.0) (ok_is (a.0.0 ∷ b.0.0, b.0.1) (xs, rest) b.2)
      (Takes-then bytes (w a.0.0) a.0.1 (flat_map w b.0.0) b.0.1 t.0 u.0, ap suc u.1, (t.1, u.2))

  pub many_again : (xs : List A) (rest : List ℕ) → AllByRecursion F xs → many r (length xs) (concat (flat_map w xs) ++ rest) ≡ Ok (xs, rest)
  many_again [] rest fits = refl
  many_again (x ∷ xs) rest fits =
      ap (many r (suc (length xs))) (goes_after (w x) (flat_map w xs) rest) ∙ rw (each.again x (concat (flat_map w xs) ++ rest) fits.0, many_again xs rest fits.1) refl

  -- a count, and this many values
  pub counted_format : {low high : ℕ} {c : ℕ → List Item} {q : Reading ℕ} → IsFormat (IsWithin low high) c q → IsFormat (IsList low high F) (λ (xs : List A). c (length xs) ++ flat_map w xs) (counted q r)
  counted_format {low} {high} {c} {q} count = record {
    takes = λ bytes xs rest fits e.
        let a = bind_ok (q bytes) (λ n. many r n.0 n.1) (xs, rest) e in
        let t = count.takes bytes a.0.0 a.0.1 fits a.1 in
        let u = many_takes a.0.0 a.0.1 xs rest t.0.rest_fits a.2 in
        let all = Takes-then bytes (c a.0.0) a.0.1 (flat_map w xs) rest t.0 u.0 in
        (subst (λ n. Takes bytes (concat (c n ++ flat_map w xs)) rest) (sym u.1) all, (subst (λ n. IsWithin low high n) (sym u.1) t.1, u.2));
    again = λ xs rest fits.
        ap (counted q r) (goes_after (c (length xs)) (flat_map w xs) rest) ∙ rw (count.again (length xs) (concat (flat_map w xs) ++ rest) fits.0, many_again xs rest fits.1) refl;
  }

-- ---- a parsed value, converted

pub as_is_takes : {A B : Type 0} {F : A → Type 0} {w : A → List Item} {r : Reading A} (format : IsFormat F w r) (make : A → B) (bytes : List ℕ) (y : B) (rest : List ℕ) → IsBytes bytes
    → as_is make r bytes ≡ Ok (y, rest) → (x : A) × Takes bytes (concat (w x)) rest × F x × (make x ≡ y)
as_is_takes {A} {B} {F} {w} {r} format make bytes y rest fits e =
    let a = bind_ok (r bytes) (λ x. Ok (make x.0, x.1)) (y, rest) e in
    let made = ok_is (make a.0.0, a.0.1) (y, rest) a.2 in
    let t = format.takes bytes a.0.0 a.0.1 fits a.1 in
    (a.0.0, subst (λ (z : B × List ℕ). Takes bytes (concat (w a.0.0)) z.1) made t.0, t.1, ap (λ (z : B × List ℕ). z.0) made)

pub as_is_again : {A B : Type 0} {F : A → Type 0} {w : A → List Item} {r : Reading A} (format : IsFormat F w r) (make : A → B) (x : A) (rest : List ℕ) → F x → as_is make r (concat (w x) ++ rest) ≡ Ok (make x, rest)
as_is_again format make x rest fits = rw (format.again x rest fits) refl

-- a value is made of its parts
pub record IsMade {A B : Type 0} (F : A → Type 0) (G : B → Type 0) (make : A → B) (parts : B → A) : Type 0 where
  pub made : (y : B) → G y → make (parts y) ≡ y
  pub undone : (x : A) → F x → parts (make x) ≡ x
  pub fits : (x : A) → F x → G (make x)
  pub parts_fit : (y : B) → G y → F (parts y)

pub as_is_format : {A B : Type 0} {F : A → Type 0} {G : B → Type 0} {w : A → List Item} {r : Reading A} {make : A → B} {parts : B → A} → IsMade F G make parts → IsFormat F w r
    → IsFormat G (λ (y : B). w (parts y)) (as_is make r)
as_is_format {A} {B} {F} {G} {w} {r} {make} {parts} of format = record {
  takes = λ bytes y rest fits e.
      let a = as_is_takes format make bytes y rest fits e in
      subst (λ (z : B). Takes bytes (concat (w (parts z))) rest × G z) a.3 (subst (λ (x : A). Takes bytes (concat (w x)) rest) (sym (of.undone a.0 a.2)) a.1, of.fits a.0 a.2);
  again = λ y rest fits. as_is_again format make (parts y) rest (of.parts_fit y fits) ∙ ap (λ (z : B). Ok (z, rest)) (of.made y fits);
}
