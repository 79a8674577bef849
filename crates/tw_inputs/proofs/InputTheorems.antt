-- A word encodes at most one input, and at most one input word is the first that encodes none.
use Rattle.std.proofs.Common.{◌≡◌, ◌<◌, ◌+◌, ℕ, suc, false, eqb, Bor, List, [], ◌∷◌, ◌++◌, drop, get_or, length, map, take, refl, sym, ap, subst, ◌∙◌, append_assoc, arith, codes, inl, inr}
use Rattle.std.proofs.lemmas.List.{append_cancel_left, length-map, length-take, map-append, take-append-drop, take-map, take_more}
use Rattle.std.proofs.lemmas.Bool.{eqb-false}
use Rattle.tw_types.specs.declared.input.Input.{Input}
use Rattle.tw_types.specs.declared.input.Input.TheVariants as input
use Rattle.tw_lexer.specs.Quoted.{EncodesQuoted}
use Rattle.tw_inputs.specs.InputWords.{AreSeparated, AreJoined, AreEncoded, IsRejectedWord, OneInput, OneRejectedWord, RejectedWord, EncodesInput, EncodesInt, EncodesMember, EncodesMembers, EncodesRest, head_of}
use Rattle.tw_inputs.specs.WordErrors.{IsInputReason, IsRejection}
use Rattle.tw_inputs.specs.declared.words.WordError.{WordError}
use Rattle.tw_inputs.specs.declared.words.WordError.TheVariants.{NoMemory, Refused}
use Rattle.tw_inputs.proofs.InputReading.{IsOne, one_int, one_int_first, one_member, one_text_first}
use Rattle.tw_inputs.proofs.Members.{stops}

-- ---- lists

module _ {A : Type 0} (Spells : A → List ℕ → Type 0) (one : IsOne 44 Spells) where
  comma_is : (xs ys : List ℕ) → 44 ∷ xs ≡ 44 ∷ ys → xs ≡ ys
  comma_is xs ys e = cc

  never_comma : {Z : Type 0} (xs : List ℕ) → [] ≡ 44 ∷ xs → Z
  never_comma xs e = absurd cc

  one_separated : (xs ys : List A) (text : List ℕ) → AreSeparated Spells xs text → AreSeparated Spells ys text → xs ≡ ys
  one_separated [] [] text h k = refl
  one_separated [] (y ∷ ys) text h k = never_comma (k.0 ++ k.1) (sym h ∙ k.4)
  one_separated (x ∷ xs) [] text h k = never_comma (h.0 ++ h.1) (sym k ∙ h.4)
  one_separated (x ∷ xs) (y ∷ ys) text h k =
      let same = one x y h.0 k.0 h.1 k.1 h.2 k.2 (stops Spells xs h.1 h.3) (stops Spells ys k.1 k.3) (comma_is _ _ (sym h.4 ∙ k.4)) in
      ap (λ (z : A). z ∷ xs) same.0 ∙ ap (λ (zs : List A). y ∷ zs) (one_separated xs ys k.1 (subst (AreSeparated Spells xs) same.1 h.3) k.3)

  pub one_list : (nonempty : (x : A) (text : List ℕ) → Spells x text → text ≡ [] → ⊥) (xs ys : List A) (text : List ℕ) → AreJoined Spells xs text → AreJoined Spells ys text → xs ≡ ys
  one_list some [] [] text h k = refl
  one_list some [] (y ∷ ys) text h k = absurd (some y k.0 k.2 (front_none k.0 k.1 (sym k.4 ∙ h)))
    where
      front_none : (xs ys : List ℕ) → xs ++ ys ≡ [] → xs ≡ []
      front_none [] ys e = refl
      front_none (x ∷ xs) ys e = absurd cc
  one_list some (x ∷ xs) [] text h k = absurd (some x h.0 h.2 (front_none h.0 h.1 (sym h.4 ∙ k)))
    where
      front_none : (xs ys : List ℕ) → xs ++ ys ≡ [] → xs ≡ []
      front_none [] ys e = refl
      front_none (x ∷ xs) ys e = absurd cc
  one_list some (x ∷ xs) (y ∷ ys) text h k =
      let same = one x y h.0 k.0 h.1 k.1 h.2 k.2 (stops Spells xs h.1 h.3) (stops Spells ys k.1 k.3) (sym h.4 ∙ k.4) in
      ap (λ (z : A). z ∷ xs) same.0 ∙ ap (λ (zs : List A). y ∷ zs) (one_separated xs ys k.1 (subst (AreSeparated Spells xs) same.1 h.3) k.3)

-- a member has its `=`
some_member : {S A : Type 0} (SpellsSubscript : S → List ℕ → Type 0) (Spells : A → List ℕ → Type 0) (x : S × A) (text : List ℕ) → EncodesMember SpellsSubscript Spells x text → text ≡ [] → ⊥
some_member SpellsSubscript Spells x text (subscript, value, h, k, e) none = never subscript (sym e ∙ none)
  where
    never : (xs : List ℕ) → xs ++ 61 ∷ value ≡ [] → ⊥
    never [] f = cc
    never (b ∷ xs) f = cc

one_members : {S A : Type 0} (SpellsSubscript : S → List ℕ → Type 0) (Spells : A → List ℕ → Type 0) → IsOne 61 SpellsSubscript → IsOne 44 Spells → (xs ys : List (S × A)) (list other : List ℕ) → list ≡ other
    → EncodesMembers SpellsSubscript Spells xs list → EncodesMembers SpellsSubscript Spells ys other → xs ≡ ys
one_members SpellsSubscript Spells one only xs ys list other e h k =
    one_list (EncodesMember SpellsSubscript Spells) (one_member SpellsSubscript Spells one only) (some_member SpellsSubscript Spells) xs ys other (subst (EncodesMembers SpellsSubscript Spells xs) e h) k

-- ---- a word

-- words with different letters at one index
apart : {xs ys : List ℕ} {Z : Type 0} (k : ℕ) → eqb (get_or xs k 0) (get_or ys k 0) ≡ false → xs ≡ ys → Z
apart {xs} {ys} k differ e = absurd (eqb-false (get_or xs k 0) (get_or ys k 0) differ (ap (λ (t : List ℕ). get_or t k 0) e))

-- the rests after two heads of one word
one_rest : (given other : Input) (x y : List ℕ) → head_of given ++ x ≡ head_of other ++ y → EncodesRest given x → EncodesRest other y → given ≡ other
one_rest (input.Int n) (input.Int m) x y e h k = ap input.Int (one_int n m y (subst (EncodesInt n) (append_cancel_left (codes "int:") x y e) h) k)
one_rest (input.Int n) (input.Text text) x y e h k = apart 0 refl e
one_rest (input.Int n) (input.Ints ms) x y e h k = apart 3 refl e
one_rest (input.Int n) (input.Texts ms) x y e h k = apart 0 refl e
one_rest (input.Int n) (input.IntsByText ms) x y e h k = apart 0 refl e
one_rest (input.Int n) (input.TextsByText ms) x y e h k = apart 0 refl e
one_rest (input.Text text) (input.Int n) x y e h k = apart 0 refl e
one_rest (input.Text text) (input.Text other) x y e h k = ap input.Text (sym h ∙ append_cancel_left (codes "text:") x y e ∙ k)
one_rest (input.Text text) (input.Ints ms) x y e h k = apart 0 refl e
one_rest (input.Text text) (input.Texts ms) x y e h k = apart 4 refl e
one_rest (input.Text text) (input.IntsByText ms) x y e h k = apart 1 refl e
one_rest (input.Text text) (input.TextsByText ms) x y e h k = apart 1 refl e
one_rest (input.Ints ms) (input.Int n) x y e h k = apart 3 refl e
one_rest (input.Ints ms) (input.Text text) x y e h k = apart 0 refl e
one_rest (input.Ints ms) (input.Ints ns) x y e h k = ap input.Ints (one_members EncodesInt EncodesInt (one_int_first 61 (inl refl)) (one_int_first 44 (inr refl)) ms ns x y (append_cancel_left (codes "ints:") x y e) h k)
one_rest (input.Ints ms) (input.Texts ns) x y e h k = apart 0 refl e
one_rest (input.Ints ms) (input.IntsByText ns) x y e h k = apart 0 refl e
one_rest (input.Ints ms) (input.TextsByText ns) x y e h k = apart 0 refl e
one_rest (input.Texts ms) (input.Int n) x y e h k = apart 0 refl e
one_rest (input.Texts ms) (input.Text text) x y e h k = apart 4 refl e
one_rest (input.Texts ms) (input.Ints ns) x y e h k = apart 0 refl e
one_rest (input.Texts ms) (input.Texts ns) x y e h k = ap input.Texts (one_members EncodesInt EncodesQuoted (one_int_first 61 (inl refl)) (one_text_first 44) ms ns x y (append_cancel_left (codes "texts:") x y e) h k)
one_rest (input.Texts ms) (input.IntsByText ns) x y e h k = apart 1 refl e
one_rest (input.Texts ms) (input.TextsByText ns) x y e h k = apart 1 refl e
one_rest (input.IntsByText ms) (input.Int n) x y e h k = apart 0 refl e
one_rest (input.IntsByText ms) (input.Text text) x y e h k = apart 1 refl e
one_rest (input.IntsByText ms) (input.Ints ns) x y e h k = apart 0 refl e
one_rest (input.IntsByText ms) (input.Texts ns) x y e h k = apart 1 refl e
one_rest (input.IntsByText ms) (input.IntsByText ns) x y e h k = ap input.IntsByText (one_members EncodesQuoted EncodesInt (one_text_first 61) (one_int_first 44 (inr refl)) ms ns x y (append_cancel_left (codes "tints:") x y e) h k)
one_rest (input.IntsByText ms) (input.TextsByText ns) x y e h k = apart 1 refl e
one_rest (input.TextsByText ms) (input.Int n) x y e h k = apart 0 refl e
one_rest (input.TextsByText ms) (input.Text text) x y e h k = apart 1 refl e
one_rest (input.TextsByText ms) (input.Ints ns) x y e h k = apart 0 refl e
one_rest (input.TextsByText ms) (input.Texts ns) x y e h k = apart 1 refl e
one_rest (input.TextsByText ms) (input.IntsByText ns) x y e h k = apart 1 refl e
one_rest (input.TextsByText ms) (input.TextsByText ns) x y e h k = ap input.TextsByText (one_members EncodesQuoted EncodesQuoted (one_text_first 61) (one_text_first 44) ms ns x y (append_cancel_left (codes "ttexts:") x y e) h k)

pub one_input : OneInput
one_input word given other (x, e, h) (y, f, k) = one_rest given other x y (sym e ∙ f) h k

-- ---- all words

heads : (w v : List ℕ) (ws vs : List (List ℕ)) → w ∷ ws ≡ v ∷ vs → (w ≡ v) × (ws ≡ vs)
heads w v ws vs e = (cc, cc)

-- two words that encode nothing have equally many words before them, if each of those encodes an input
as_many : (before others : List (List ℕ)) (word other : List ℕ) (later after : List (List ℕ)) (inputs given : List Input) → before ++ word ∷ later ≡ others ++ other ∷ after
    → AreEncoded inputs before → AreEncoded given others → ((x : Input) → EncodesInput x word → ⊥) → ((x : Input) → EncodesInput x other → ⊥) → length before ≡ length others
as_many [] [] word other later after inputs given e h k none nothing = refl
as_many [] (w ∷ others) word other later after inputs [] e h k none nothing = absurd k
as_many [] (w ∷ others) word other later after inputs (x ∷ given) e h k none nothing = absurd (none x (subst (EncodesInput x) (sym (heads word w later (others ++ other ∷ after) e).0) k.0))
as_many (w ∷ before) [] word other later after [] given e h k none nothing = absurd h
as_many (w ∷ before) [] word other later after (x ∷ inputs) given e h k none nothing = absurd (nothing x (subst (EncodesInput x) (heads w other (before ++ word ∷ later) after e).0 h.0))
as_many (w ∷ before) (v ∷ others) word other later after [] given e h k none nothing = absurd h
as_many (w ∷ before) (v ∷ others) word other later after (x ∷ inputs) [] e h k none nothing = absurd k
as_many (w ∷ before) (v ∷ others) word other later after (x ∷ inputs) (y ∷ given) e h k none nothing =
    ap suc (as_many before others word other later after inputs given (heads w v (before ++ word ∷ later) (others ++ other ∷ after) e).1 h.1 k.1 none nothing)

pub one_refused_word : OneRejectedWord
one_refused_word words refused other (before, inputs, word, later, e, h, none, is) (others, given, second, after, f, k, nothing, also) =
    is ∙ ap suc (as_many before others word second later after inputs given (sym e ∙ f) h k none nothing) ∙ sym also

-- if each word encodes an input, none is rejected
pub none_refused : (words : List (List ℕ)) (inputs : List Input) (number : RejectedWord) → AreEncoded inputs words → IsRejectedWord words number → ⊥
none_refused words inputs number all (before, given, word, later, e, h, none, is) = by before inputs (subst (AreEncoded inputs) e all)
  where
    by : (before : List (List ℕ)) (inputs : List Input) → AreEncoded inputs (before ++ word ∷ later) → ⊥
    by [] [] k = k
    by [] (x ∷ inputs) k = none x k.0
    by (w ∷ before) [] k = k
    by (w ∷ before) (x ∷ inputs) k = by before inputs k.1

-- ---- in the order of reading

-- one word more
pub encoded_more : (inputs : List Input) (words : List (List ℕ)) (x : Input) (word : List ℕ) → AreEncoded inputs words → EncodesInput x word → AreEncoded (inputs ++ x ∷ []) (words ++ word ∷ [])
encoded_more [] [] x word h k = (k, tt)
encoded_more [] (w ∷ words) x word h k = absurd h
encoded_more (y ∷ inputs) [] x word h k = absurd h
encoded_more (y ∷ inputs) (w ∷ words) x word h k = (h.0, encoded_more inputs words x word h.1 k)

-- the words that were read, and the next one
word_at : (words : List (Bor (List ℕ))) (i : ℕ) (d : Bor (List ℕ)) → i < length words → take (i + 1) (map (λ w. w.now) words) ≡ take i (map (λ w. w.now) words) ++ (get_or words i d).now ∷ []
word_at words i d lt =
    take-map (λ w. w.now) (i + 1) words
    ∙ ap (map (λ w. w.now)) (take_more words i d lt)
    ∙ map-append (λ w. w.now) (take i words) (get_or words i d ∷ [])
    ∙ ap (λ (t : List (List ℕ)). t ++ (get_or words i d).now ∷ []) (sym (take-map (λ w. w.now) i words))

pub one_word_more : (inputs new : List Input) (words : List (Bor (List ℕ))) (i : ℕ) (d : Bor (List ℕ)) (x : Input) → i < length words → AreEncoded inputs (take i (map (λ w. w.now) words))
    → EncodesInput x (get_or words i d).now → new ≡ inputs ++ x ∷ [] → AreEncoded new (take (i + 1) (map (λ w. w.now) words))
one_word_more inputs new words i d x lt h k is =
    subst (λ (xs : List Input). AreEncoded xs (take (i + 1) (map (λ w. w.now) words))) (sym is)
    (subst (AreEncoded (inputs ++ x ∷ [])) (sym (word_at words i d lt)) (encoded_more inputs (take i (map (λ w. w.now) words)) x (get_or words i d).now h k))

-- the first word that encodes no input
pub refused_at : (inputs : List Input) (words : List (Bor (List ℕ))) (i : ℕ) (d : Bor (List ℕ)) → i < length words → AreEncoded inputs (take i (map (λ w. w.now) words))
    → ((given : Input) → EncodesInput given (get_or words i d).now → ⊥) → (why : WordError) → IsRejection (i + 1) why → IsInputReason (map (λ w. w.now) words) why
refused_at inputs words i d lt h none NoMemory is = tt
refused_at inputs words i d lt h none (Refused at reason) is =
    let texts = map (λ (w : Bor (List ℕ)). w.now) words in
    let all : length texts ≡ length words = length-map words (λ (w : Bor (List ℕ)). w.now) in
    let parts : texts ≡ take i texts ++ (get_or words i d).now ∷ drop (i + 1) texts =
    sym (take-append-drop (i + 1) texts) ∙ ap (λ (t : List (List ℕ)). t ++ drop (i + 1) texts) (word_at words i d lt) ∙ append_assoc (take i texts) ((get_or words i d).now ∷ []) (drop (i + 1) texts) in
    (take i texts, inputs, (get_or words i d).now, drop (i + 1) texts, parts, h, none, is ∙ omega (arith, lt, all, length-take i texts))
