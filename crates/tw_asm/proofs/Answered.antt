-- The words of a line are read as a statement that they denote, or they denote none.
use Rattle.std.proofs.Common.{◌≡◌, ℕ, List, [], ◌∷◌, ◌++◌, map, codes, Option, Some, None, Result, Ok, Err, true, refl, sym, ap, subst, ◌∙◌}
use Rattle.tw_asm.proofs.AsmNames.{AllByRecursion, AnyName, AnyShortName, Bare, Code, EncodeParts, Encodes, Form, Goals, HasForm, HasInstr, Head, Instr, IsFlawed, IsInLimits, IsName, IsRead, Label, Limit, Line, LineContent, Name, Natural, NoName, OfVersion, OnlyName, Opcode, Part, Read, Reads, Registers, Statement, TokenError, Version, Word, as_is, before_colon, code_read, draft_in, flat_map, has_opcode, instr_parts, kind_word, label_in, line_in, opcode_in, param_parts, register_part, statement_parts}
use Rattle.tw_lexer.proofs.Colons.{before}
use Rattle.tw_asm.proofs.Lined.{Had, HasLine, MayLine, found, goals_by, label_named, line_had, line_read, parts_may, parts_of, spelled, unnumbered}
use Rattle.tw_asm.proofs.OperandWords.{IsFine}
use Rattle.tw_asm.proofs.Spelled.{bare_is, parts_more}
use Rattle.tw_asm.proofs.Table.{draft_is, found_back, had_made, instr_of, line_of, made, made_had, named_in, no_colon, parts_are, row_opcode, within, within_back}
use Rattle.tw_code.specs.format.Table.{opcode_of, word_of}

abbrev pub Judged : Version → Result Read TokenError → List Word → Type 0
Judged version (Ok read) ws = IsRead version read ws
Judged version (Err flaw) ws = IsFlawed version flaw ws

-- the first word of a statement is its name
pub first_is : (G : Goals) (name : List ℕ) (parts : List Part) (w : Word) (ws : List Word) → EncodeParts G (Name name ∷ parts) (w ∷ ws) → (w ≡ Bare name) × EncodeParts G parts ws
first_is G name parts w ws (first, others, cut, h, rest) =
    let whole : w ∷ ws ≡ Bare name ∷ others = cut ∙ ap (λ (vs : List Word). vs ++ others) h in
    (head_is whole, subst (EncodeParts G parts) (sym (tail_is whole)) rest)
  where
    head_is : w ∷ ws ≡ Bare name ∷ others → w ≡ Bare name
    head_is e = cc

    tail_is : w ∷ ws ≡ Bare name ∷ others → ws ≡ others
    tail_is e = cc

-- ---- instructions

-- holds if the statement is made of this opcode, and of operands that its line has
abbrev IsCode : (version : Version) (G : Goals) → Opcode → List Word → Statement → Type 0
IsCode version G o ws statement =
    (x : LineContent (line_of version o)) × (statement ≡ Code (instr_of version o x)) × EncodeParts G (parts_of (line_of version o) x) ws × Had (line_of version o) x

pub none_some : {A : Type 0} (a : A) → None ≡ Some a → ⊥
none_some a e = cc

one_code : (a b : Opcode) → Some a ≡ Some b → a ≡ b
one_code a b e = cc

pub proc_is_none : (version : Version) → opcode_in version (codes "proc") ≡ None
unfolding opcode_of
proc_is_none version = refl

pub regs_is_none : (version : Version) → opcode_in version (codes "regs") ≡ None
unfolding opcode_of
regs_is_none version = refl

pub version_is_none : (version : Version) → opcode_in version (codes "version") ≡ None
unfolding opcode_of
version_is_none version = refl

module _ (version : Version) (G : Goals) where
  code_parts : (o p : Opcode) (x : LineContent (line_of version p)) (word : List ℕ) (ws : List Word) → opcode_in version word ≡ Some o → HasInstr version (instr_of version p x)
      → EncodeParts G (instr_parts (instr_of version p x)) (Bare word ∷ ws) → IsCode version G o ws (Code (instr_of version p x))
  code_parts o p x word ws is had h =
      let k = first_is G (word_of p) (parts_of (line_of version p) x) (Bare word) ws (subst (λ (ps : List Part). EncodeParts G ps (Bare word ∷ ws)) (parts_are version p x) h) in
      let has : has_opcode version p ≡ true = ap (has_opcode version) (sym (row_opcode version p x)) ∙ had.0 in
      let same : p ≡ o = one_code p o (sym (ap (opcode_in version) (bare_is word (word_of p) k.0) ∙ named_in version p has) ∙ is) in
      at p o same x k.1 (had_made version p x had)
    where
      at : (p o : Opcode) → p ≡ o → (x : LineContent (line_of version p)) → EncodeParts G (parts_of (line_of version p) x) ws → Had (line_of version p) x → IsCode version G o ws (Code (instr_of version p x))
      at p o same =
          subst (λ (q : Opcode). (x : LineContent (line_of version p)) → EncodeParts G (parts_of (line_of version p) x) ws → Had (line_of version p) x → IsCode version G q ws (Code (instr_of version p x))) same
          (λ x s had. (x, refl, s, had))

  -- a word that isn't the name of an instruction in this version isn't the first word of one
  other_first : (o : Opcode) (word name : List ℕ) (parts : List Part) (ws : List Word) → opcode_in version word ≡ Some o → opcode_in version name ≡ None → EncodeParts G (Name name ∷ parts) (Bare word ∷ ws) → ⊥
  other_first o word name parts ws is none h = none_some o (sym none ∙ (sym (ap (opcode_in version) (bare_is word name (first_is G name parts (Bare word) ws h).0)) ∙ is))

  is_code : (o : Opcode) (word : List ℕ) (ws : List Word) → opcode_in version word ≡ Some o → (statement : Statement) → HasForm version statement → EncodeParts G (statement_parts statement) (Bare word ∷ ws) → IsCode version G o ws statement
  is_code o word ws is (OfVersion number) form h = absurd (other_first o word (codes "version") (Natural number ∷ []) ws is (version_is_none version) h)
  is_code o word ws is (Head kind params) form h = absurd (other_first o word (codes "proc") (Name (kind_word kind) ∷ flat_map param_parts params) ws is (proc_is_none version) h)
  is_code o word ws is (Registers registers) form h = absurd (other_first o word (codes "regs") (map register_part registers) ws is (regs_is_none version) h)
  is_code o word ws is (Label name) form h =
      let e : word ≡ name ++ codes ":" = bare_is word (name ++ codes ":") (first_is G (name ++ codes ":") [] (Bare word) ws h).0 in
      absurd (no_name (sym (no_colon o) ∙ (ap before_colon (sym (found_back version word o is).0 ∙ e) ∙ before name)))
    where
      no_name : None ≡ Some name → ⊥
      no_name e = cc
  is_code o word ws is (Code i) form h = by (made version i)
    where
      by : (p : Opcode) × (x : LineContent (line_of version p)) × (i ≡ instr_of version p x) → IsCode version G o ws (Code i)
      by (p, x, e) =
          subst (λ (j : Instr). IsCode version G o ws (Code j)) (sym e)
          (code_parts o p x word ws is (subst (HasInstr version) e form) (subst (λ (j : Instr). EncodeParts G (instr_parts j) (Bare word ∷ ws)) e h))

any_is_name : (skip : ℕ) (name : List ℕ) → AnyName skip name → IsName name
any_is_name skip name h = h

short_is_name : (skip : ℕ) (name : List ℕ) → AnyShortName skip name → IsName name
short_is_name skip name h = h.0

-- the name and the operands denote the instruction
with_name : (version : Version) (G : Goals) (o : Opcode) (x : LineContent (line_of version o)) (word : List ℕ) (ws : List Word) → word ≡ word_of o → HasInstr version (instr_of version o x)
    → EncodeParts G (parts_of (line_of version o) x) ws → Encodes version G (Code (instr_of version o x)) (Bare word ∷ ws)
with_name version G o x word ws is had h =
    record { form = had; parts = subst (λ (ps : List Part). EncodeParts G ps (Bare word ∷ ws)) (sym (parts_are version o x)) (Bare word ∷ [], ws, refl, ap (λ (t : List ℕ). Bare t ∷ []) is, h) }

module _ (version : Version) (o : Opcode) (word : List ℕ) (ws : List Word) (is : opcode_in version word ≡ Some o) where
  abbrev line : Line
  line = line_of version o

  abbrev make : LineContent line → Instr
  make x = instr_of version o x

  name_is : word ≡ word_of o
  name_is = (found_back version word o is).0

  read_had : (x : LineContent line) → HasLine line ws x → HasInstr version (make x)
  read_had x has = made_had version o x (found_back version word o is).1 (line_had line ws x has)

  code_read_so : (x : LineContent line) → HasLine line ws x → MayLine line x → IsRead version (code_read (make x, label_in line x)) (Bare word ∷ ws)
  code_read_so x has may = by (label_in line x) refl
    where
      by : (label : Option (List ℕ)) → label_in line x ≡ label → IsRead version (code_read (make x, label)) (Bare word ∷ ws)
      by None e =
          let parts = subst (λ (l : Option (List ℕ)). EncodeParts (goals_by l) (parts_of line x) ws) e (spelled line ws x has) in
          (within version o x (parts_may line ws x has may), with_name version NoName o x word ws name_is (read_had x has) parts)
      by (Some name) e =
          let parts = subst (λ (l : Option (List ℕ)). EncodeParts (goals_by l) (parts_of line x) ws) e (spelled line ws x has) in
          let found = label_named line ws x name has e in (
            within version o x (parts_may line ws x has may),
            (
              (found.0, found.1 may),
              with_name version (OnlyName name) o x word ws name_is (read_had x has) parts,
              record {
                i = make x;
                spells = with_name version (λ skip w. w ≡ name) o x word ws name_is (read_had x has) (parts_more (OnlyName name) (λ skip w. w ≡ name) (λ _ _ k. k.1) (parts_of line x) ws parts);
                names = λ other s. let c = is_code version (λ _ _. ⊥) o word ws is (Code other) s.form s.parts in unnumbered line ws x c.0 name has e c.2;
              },
            ),
          )

  code_has_form : (x : LineContent line) → HasLine line ws x → Encodes version AnyName (Code (make x)) (Bare word ∷ ws)
  code_has_form x has = by (label_in line x) refl (spelled line ws x has)
    where
      by : (label : Option (List ℕ)) → label_in line x ≡ label → EncodeParts (goals_by label) (parts_of line x) ws → Encodes version AnyName (Code (make x)) (Bare word ∷ ws)
      by None e parts = with_name version AnyName o x word ws name_is (read_had x has) (parts_more NoName AnyName (λ _ _ k. absurd k) (parts_of line x) ws parts)
      by (Some name) e parts =
          let found = label_named line ws x name has e in
          with_name version AnyName o x word ws name_is (read_had x has) (parts_more (OnlyName name) AnyName (λ _ n k. subst IsName (sym k.1) found.0) (parts_of line x) ws parts)

  code_judged : (r : Result (LineContent line) TokenError) → Reads (HasLine line ws) (MayLine line) r → Judged version (as_is code_read (as_is (λ x. (make x, label_in line x)) r)) (Bare word ∷ ws)
  code_judged (Ok x) h = code_read_so x h.0 h.1
  code_judged (Err Form) h = λ form. no_form form.0 form.1.form form.1.parts
    where
      no_form : (statement : Statement) → HasForm version statement → EncodeParts AnyName (statement_parts statement) (Bare word ∷ ws) → ⊥
      no_form statement form s =
          let c = is_code version AnyName o word ws is statement form s in
          let y = found AnyName any_is_name line ws c.0 c.3 c.2 in
          h y.0 y.1
  code_judged (Err Limit) h = ((Code (make h.0.0), code_has_form h.0.0 h.0.1), λ statement say. none statement say.0.form say.0.parts say.1)
    where
      none : (statement : Statement) → HasForm version statement → EncodeParts AnyShortName (statement_parts statement) (Bare word ∷ ws) → IsInLimits statement → ⊥
      none statement form s limits =
          let c = is_code version AnyShortName o word ws is statement form s in
          let y = found AnyShortName short_is_name line ws c.0 c.3 c.2 in
          h.1 y.0 y.1 (y.2 (λ _ _ k. k.1) (within_back version o c.0 (subst IsInLimits c.1 limits)))

  -- a line that begins with the name of an instruction
  pub code_answered : AllByRecursion IsFine ws → Judged version (as_is code_read (draft_in version o ws)) (Bare word ∷ ws)
  code_answered fine =
      subst (λ (r : Result (Instr × Option (List ℕ)) TokenError). Judged version (as_is code_read r) (Bare word ∷ ws)) (sym (draft_is version o ws)) (code_judged (line_in line ws) (line_read line ws fine))
