-- Words denote one list of parts, except for skips by name.
use Rattle.tw_asm.proofs.AsmNames.{Bare, EncodeParts, EncodesDigits, EncodesNumber, EncodesPart, EncodesWith, Goals, IsInRange, IsName, List, Literal, Name, Natural, NestedScalar, NoName, None, Number, OnlyName, Option, Part, Quoted, Right, Skip, Some, Target, TypeOf, Value, Word, [], ap, append_cancel_left, arith, codes, inl, inr, map, one_number, one_size, refl, subst, sym, true, ℕ, ◌++◌, ◌∙◌, ◌∷◌, ◌≡◌, ◌⊎◌}
use Rattle.tw_asm.proofs.Rows.{AreAlike, different, is_last, reskip, skips_last, sort_of}
use Rattle.tw_asm.proofs.TypeWords.{one_type, some_words, words_of}

-- holds if these goals are names of labels
abbrev pub AreNames : Goals → Type 0
AreNames goals = (skip : ℕ) (name : List ℕ) → goals skip name → IsName name

-- two skips that one name denotes
pub record AreNamed (a b : Goals) (p q : Part) : Type 0 where
  pub n : ℕ
  pub m : ℕ
  pub name : List ℕ
  pub first : p ≡ Skip n
  pub second : q ≡ Skip m
  pub goal : a n name
  pub other : b m name

-- holds if two parts are equal, or skips with the same name
abbrev pub AreTied : Goals → Goals → Part → Part → Type 0
AreTied a b p q = (p ≡ q) ⊎ AreNamed a b p q

abbrev pub AllTied : Goals → Goals → List Part → List Part → Type 0
AllTied a b [] [] = Unit {0}
AllTied a b [] (q ∷ qs) = ⊥
AllTied a b (p ∷ ps) [] = ⊥
AllTied a b (p ∷ ps) (q ∷ qs) = AreTied a b p q × AllTied a b ps qs

-- ---- words

pub bare_is : (v w : List ℕ) → Bare v ≡ Bare w → v ≡ w
bare_is v w e = cc

quoted_is : (v w : List ℕ) → Quoted v ≡ Quoted w → v ≡ w
quoted_is v w e = cc

pub cons_is : {A : Type 0} (v w : A) (x y : List A) → v ∷ x ≡ w ∷ y → (v ≡ w) × (x ≡ y)
cons_is v w x y e = (cc, cc)

pub never_cons : {A : Type 0} (v : A) (x : List A) → v ∷ x ≡ [] → ⊥
never_cons v x e = cc

-- two lists that begin with one word each
pub first_words : (v w : Word) (f g x y : List Word) → f ≡ v ∷ [] → g ≡ w ∷ [] → f ++ x ≡ g ++ y → (v ≡ w) × (f ≡ g) × (x ≡ y)
first_words v w f g x y is has e =
    let both = cons_is v w x y (ap (λ (h : List Word). h ++ x) (sym is) ∙ e ∙ ap (λ (h : List Word). h ++ y) has) in
    (both.0, is ∙ ap (λ (u : Word). u ∷ []) both.0 ∙ sym has, both.1)

pub digits_same : (front : List ℕ) (n m : ℕ) (f g x y : List Word) → EncodesWith front n f → EncodesWith front m g → f ++ x ≡ g ++ y → (n ≡ m) × (f ≡ g) × (x ≡ y)
digits_same front n m f g x y (ds, h, is) (cs, k, has) e =
    let same = first_words (Bare (front ++ ds)) (Bare (front ++ cs)) f g x y is has e in
    let digits = append_cancel_left front ds cs (bare_is (front ++ ds) (front ++ cs) same.0) in
    (one_size n m cs (subst (EncodesDigits n) digits h) k, same.1, same.2)

-- ---- parts

plus_is_no_name : (ds name : List ℕ) → codes "+" ++ ds ≡ name → IsName name → ⊥
plus_is_no_name ds [] e h = h
plus_is_no_name ds (b ∷ others) e h = no_letter (cons_is 43 b ds others e).0 h.0
  where
    no_letter : 43 ≡ b → IsInRange 65 90 b ⊎ IsInRange 97 122 b → ⊥
    no_letter is (inl (low, high)) = omega arith
    no_letter is (inr (low, high)) = omega arith

any_is_no_digits : (n : ℕ) (ds : List ℕ) → codes "any" ≡ ds → EncodesDigits n ds → ⊥
any_is_no_digits n ds e h = no_digit (subst (EncodesDigits n) (sym e) h)
  where
    no_digit : EncodesDigits n (codes "any") → ⊥
    no_digit spells = omega (arith, spells.digits.1.0)

module _ (a b : Goals) (names : AreNames a) (others : AreNames b) where
  skips_same : (n m : ℕ) (f g x y : List Word) → EncodesPart a (Skip n) f → EncodesPart b (Skip m) g → f ++ x ≡ g ++ y → AreTied a b (Skip n) (Skip m) × (f ≡ g) × (x ≡ y)
  skips_same n m f g x y (inl h) (inl k) e = let same = digits_same (codes "+") n m f g x y h k e in (inl (ap Skip same.0), same.1, same.2)
  skips_same n m f g x y (inl (ds, h, is)) (inr (name, goal, has)) e =
      let same = first_words (Bare (codes "+" ++ ds)) (Bare name) f g x y is has e in
      absurd (plus_is_no_name ds name (bare_is (codes "+" ++ ds) name same.0) (others m name goal))
  skips_same n m f g x y (inr (name, goal, is)) (inl (ds, k, has)) e =
      let same = first_words (Bare name) (Bare (codes "+" ++ ds)) f g x y is has e in
      absurd (plus_is_no_name ds name (sym (bare_is name (codes "+" ++ ds) same.0)) (names n name goal))
  skips_same n m f g x y (inr (name, goal, is)) (inr (other, to, has)) e =
      let same = first_words (Bare name) (Bare other) f g x y is has e in (
        inr (record { n = n; m = m; name = other; first = refl; second = refl; goal = subst (a n) (bare_is name other same.0) goal; other = to }),
        same.1,
        same.2,
      )

  targets_same : (s t : Option ℕ) (f g x y : List Word) → EncodesPart a (Target s) f → EncodesPart b (Target t) g → f ++ x ≡ g ++ y → AreTied a b (Target s) (Target t) × (f ≡ g) × (x ≡ y)
  targets_same None None f g x y h k e = let same = first_words (Bare (codes "any")) (Bare (codes "any")) f g x y h k e in (inl refl, same.1, same.2)
  targets_same None (Some m) f g x y h (ds, k, has) e =
      let same = first_words (Bare (codes "any")) (Bare ds) f g x y h has e in
      absurd (any_is_no_digits m ds (bare_is (codes "any") ds same.0) k)
  targets_same (Some n) None f g x y (ds, h, is) k e =
      let same = first_words (Bare ds) (Bare (codes "any")) f g x y is k e in
      absurd (any_is_no_digits n ds (sym (bare_is ds (codes "any") same.0)) h)
  targets_same (Some n) (Some m) f g x y h k e = let same = digits_same [] n m f g x y h k e in (inl (ap (λ (i : ℕ). Target (Some i)) same.0), same.1, same.2)

  -- the first words denote one part of a sort
  one_part : (p q : Part) (f g x y : List Word) → sort_of p ≡ sort_of q → EncodesPart a p f → EncodesPart b q g → f ++ x ≡ g ++ y → AreTied a b p q × (f ≡ g) × (x ≡ y)
  one_part (Name v) (Name w) f g x y s h k e = let same = first_words (Bare v) (Bare w) f g x y h k e in (inl (ap Name (bare_is v w same.0)), same.1, same.2)
  one_part (Value n) (Value m) f g x y s h k e = let same = digits_same (codes "v") n m f g x y h k e in (inl (ap Value same.0), same.1, same.2)
  one_part (Right n) (Right m) f g x y s h k e = let same = digits_same (codes "d") n m f g x y h k e in (inl (ap Right same.0), same.1, same.2)
  one_part (Number n) (Number m) f g x y s (v, h, is) (w, k, has) e =
      let same = first_words (Bare v) (Bare w) f g x y is has e in
      (inl (ap Number (one_number n m w (subst (EncodesNumber n) (bare_is v w same.0) h) k)), same.1, same.2)
  one_part (Natural n) (Natural m) f g x y s h k e = let same = digits_same [] n m f g x y h k e in (inl (ap Natural same.0), same.1, same.2)
  one_part (Literal v) (Literal w) f g x y s h k e = let same = first_words (Quoted v) (Quoted w) f g x y h k e in (inl (ap Literal (quoted_is v w same.0)), same.1, same.2)
  one_part (TypeOf t) (TypeOf u) f g x y s h k e =
      let same = one_type t u x y (ap (λ (ws : List Word). ws ++ x) (sym h) ∙ e ∙ ap (λ (ws : List Word). ws ++ y) k) in
      (inl (ap TypeOf same.0), h ∙ ap (λ (ty : NestedScalar). words_of ty.containers ty.map ty.scalar) same.0 ∙ sym k, same.1)
  one_part (Skip n) (Skip m) f g x y s h k e = skips_same n m f g x y h k e
  one_part (Target t) (Target u) f g x y s h k e = targets_same t u f g x y h k e
  one_part p q f g x y s h k e = different (sort_of p) (sort_of q) s refl

  some_word : (q : Part) (g y : List Word) → EncodesPart b q g → g ++ y ≡ [] → ⊥
  some_word (Name w) g y k e = never_cons (Bare w) y (ap (λ (ws : List Word). ws ++ y) (sym k) ∙ e)
  some_word (Value m) g y (ds, k, has) e = never_cons (Bare (codes "v" ++ ds)) y (ap (λ (ws : List Word). ws ++ y) (sym has) ∙ e)
  some_word (Right m) g y (ds, k, has) e = never_cons (Bare (codes "d" ++ ds)) y (ap (λ (ws : List Word). ws ++ y) (sym has) ∙ e)
  some_word (Number m) g y (w, k, has) e = never_cons (Bare w) y (ap (λ (ws : List Word). ws ++ y) (sym has) ∙ e)
  some_word (Natural m) g y (ds, k, has) e = never_cons (Bare ds) y (ap (λ (ws : List Word). ws ++ y) (sym has) ∙ e)
  some_word (Literal t) g y k e = never_cons (Quoted t) y (ap (λ (ws : List Word). ws ++ y) (sym k) ∙ e)
  some_word (TypeOf ty) g y k e = some_words ty.containers ty.map ty.scalar y (ap (λ (ws : List Word). ws ++ y) (sym k) ∙ e)
  some_word (Skip m) g y (inl (ds, k, has)) e = never_cons (Bare (codes "+" ++ ds)) y (ap (λ (ws : List Word). ws ++ y) (sym has) ∙ e)
  some_word (Skip m) g y (inr (name, k, has)) e = never_cons (Bare name) y (ap (λ (ws : List Word). ws ++ y) (sym has) ∙ e)
  some_word (Target None) g y k e = never_cons (Bare (codes "any")) y (ap (λ (ws : List Word). ws ++ y) (sym k) ∙ e)
  some_word (Target (Some m)) g y (ds, k, has) e = never_cons (Bare ds) y (ap (λ (ws : List Word). ws ++ y) (sym has) ∙ e)

module _ (a b : Goals) (names : AreNames a) (others : AreNames b) where
  -- the same words denote one list of parts, except for named skips
  pub all_tied : (ps qs : List Part) (words ends : List Word) → AreAlike ps qs → words ≡ ends → EncodeParts a ps words → EncodeParts b qs ends → AllTied a b ps qs
  all_tied [] [] words ends alike e h k = tt
  all_tied [] (q ∷ qs) words ends alike e h (g, y, has, k, ks) = absurd (some_word a b names others q g y k (sym has ∙ sym e ∙ h))
  all_tied (p ∷ ps) [] words ends alike e (f, x, is, h, hs) k = absurd (some_word b a others names p f x h (sym is ∙ e ∙ k))
  all_tied (p ∷ ps) (q ∷ qs) words ends alike e (f, x, is, h, hs) (g, y, has, k, ks) =
      let one = one_part a b names others p q f g x y alike.0 h k (sym is ∙ e ∙ has) in
      (one.0, all_tied ps qs x y alike.1 one.2 hs ks)

  -- the parts are equal if a name denotes one skip
  pub tied_are : ((n m : ℕ) (name : List ℕ) → a n name → b m name → n ≡ m) → (ps qs : List Part) → AllTied a b ps qs → ps ≡ qs
  tied_are alone [] [] h = refl
  tied_are alone [] (q ∷ qs) h = absurd h
  tied_are alone (p ∷ ps) [] h = absurd h
  tied_are alone (p ∷ ps) (q ∷ qs) (inl e, h) = ap (λ (r : Part). r ∷ ps) e ∙ ap (λ (rs : List Part). q ∷ rs) (tied_are alone ps qs h)
  tied_are alone (p ∷ ps) (q ∷ qs) (inr n, h) =
      ap (λ (r : Part). r ∷ ps) (n.first ∙ ap Skip (alone n.n n.m n.name n.goal n.other) ∙ sym n.second) ∙ ap (λ (rs : List Part). q ∷ rs) (tied_are alone ps qs h)

-- ---- other goals

part_more : (a b : Goals) → ((skip : ℕ) (name : List ℕ) → a skip name → b skip name) → (p : Part) (words : List Word) → EncodesPart a p words → EncodesPart b p words
part_more a b more (Skip n) words (inl h) = inl h
part_more a b more (Skip n) words (inr (name, goal, is)) = inr (name, more n name goal, is)
part_more a b more (Target None) words h = h
part_more a b more (Target (Some n)) words h = h
part_more a b more p words h = h

pub parts_more : (a b : Goals) → ((skip : ℕ) (name : List ℕ) → a skip name → b skip name) → (ps : List Part) (words : List Word) → EncodeParts a ps words → EncodeParts b ps words
parts_more a b more [] words h = h
parts_more a b more (p ∷ ps) words (f, x, is, h, hs) = (f, x, is, part_more a b more p f h, parts_more a b more ps x hs)

-- ---- a skip by its name

last_is : (parts : List Part) → is_last parts ≡ true → parts ≡ []
last_is [] e = refl
last_is (p ∷ ps) e = absurd cc

-- the words of parts with a name as the skip are those of the parts with the skip that it denotes
pub data Resolved (goals : Goals) (skip : ℕ) (ps : List Part) (words : List Word) : Type 0 where
  as_is : EncodeParts NoName ps words → Resolved goals skip ps words
  with_goal : EncodeParts goals (map (reskip skip) ps) words → Resolved goals skip ps words

module _ (goals : Goals) (name : List ℕ) (skip : ℕ) (goal : goals skip name) where
  kept : (p : Part) → (sort_of p ≡ 7 → ⊥) → (f : List Word) → EncodesPart (OnlyName name) p f → EncodesPart NoName p f × EncodesPart goals (reskip skip p) f
  kept (Skip n) not f h = absurd (not refl)
  kept (Target None) not f h = (h, h)
  kept (Target (Some n)) not f h = (h, h)
  kept p not f h = (h, h)

  after_kept : (p : Part) (ps : List Part) (f x words : List Word) → (sort_of p ≡ 7 → ⊥) → words ≡ f ++ x → EncodesPart (OnlyName name) p f → Resolved goals skip ps x → Resolved goals skip (p ∷ ps) words
  after_kept p ps f x words not is h (as_is hs) = as_is (f, x, is, (kept p not f h).0, hs)
  after_kept p ps f x words not is h (with_goal hs) = with_goal (f, x, is, (kept p not f h).1, hs)

  at_goal : (n : ℕ) (ps : List Part) (f x words : List Word) → ps ≡ [] → words ≡ f ++ x → EncodesPart (OnlyName name) (Skip n) f → EncodeParts (OnlyName name) ps x → Resolved goals skip (Skip n ∷ ps) words
  at_goal n [] f x words none is (inl h) hs = as_is (f, x, is, inl h, hs)
  at_goal n [] f x words none is (inr (word, (zero_is, same), has)) hs = with_goal (f, x, is, inr (name, goal, has ∙ ap (λ (w : List ℕ). Bare w ∷ []) same), hs)
  at_goal n (p ∷ ps) f x words none is h hs = absurd (never_cons p ps none)

  pub resolved : (ps : List Part) (words : List Word) → skips_last ps ≡ true → EncodeParts (OnlyName name) ps words → Resolved goals skip ps words
  resolved [] words last h = as_is h
  resolved (Skip n ∷ ps) words last (f, x, is, h, hs) = at_goal n ps f x words (last_is ps last) is h hs
  resolved (p ∷ ps) words last (f, x, is, h, hs) = after_kept p ps f x words (λ seven. different (sort_of p) 7 seven refl) is h (resolved ps x last hs)
