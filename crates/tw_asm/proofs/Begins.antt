-- The statement that the first word of a line begins.
use Rattle.tw_asm.proofs.AsmNames.{Bare, Begins, Code, Encodes, First, Goals, Head, IsExpected, IsFirstWord, IsLine, Label, List, MayBegin, OfVersion, ParserState, Registers, Statement, Version, Word, expectation, refl, subst, ℕ, ◌∷◌, ◌≡◌}
use Rattle.tw_asm.proofs.Once.{begins, first_word, expected_of, expected}

-- the kind of a statement, as its first word shows it
expectation_is : (statement : Statement) → expected_of statement ≡ expectation statement
expectation_is (OfVersion number) = refl
expectation_is (Head kind params) = refl
expectation_is (Registers registers) = refl
expectation_is (Label name) = refl
expectation_is (Code i) = refl

pub record FirstOf (version : Version) (statement : Statement) (words : List Word) : Type 0 where
  pub word : List ℕ
  pub others : List Word
  pub parts : words ≡ Bare word ∷ others
  pub expected : IsExpected version (expectation statement) word

pub first_of_words : {version : Version} (goals : Goals) (statement : Statement) (words : List Word) → Encodes version goals statement words → FirstOf version statement words
first_of_words {version} goals statement words s =
    let word = (begins statement).word in
    let f = first_word goals statement words s in
    record {
      word = word;
      others = f.0;
      parts = f.1;
      expected = subst (λ (p : First). IsExpected version p word) (expectation_is statement) (expected goals statement word f.0 (subst (λ (ws : List Word). Encodes version goals statement ws) f.1 s));
    }

pub record FirstIn (version : Version) (statement : Statement) (line : List ℕ) : Type 0 where
  pub word : List ℕ
  pub rest : List ℕ
  pub first : IsFirstWord (Bare word) line rest
  pub expected : IsExpected version (expectation statement) word

pub front_of : (word : Word) (others : List Word) (line : List ℕ) → IsLine (word ∷ others) line → (rest : List ℕ) × IsFirstWord word line rest
front_of word others line l = (l.1.0, l.1.1)

pub first_in_line : {version : Version} (goals : Goals) (statement : Statement) (words : List Word) (line : List ℕ) → IsLine words line → Encodes version goals statement words → FirstIn version statement line
first_in_line goals statement words line l s =
    let f = first_of_words goals statement words s in
    let r = front_of (Bare f.word) f.others line (subst (λ (ws : List Word). IsLine ws line) f.parts l) in
    record { word = f.word; rest = r.0; first = r.1; expected = f.expected }

pub line_begins : (goals : Goals) (statement : Statement) (words : List Word) (s : ParserState) (line : List ℕ) → IsLine words line → Encodes s.version goals statement words
    → MayBegin s.stage (expectation statement) → Begins s line (expectation statement)
line_begins goals statement words s line l spells may =
    let f = first_in_line goals statement words line l spells in
    (f.word, f.rest, f.first, f.expected, may)
