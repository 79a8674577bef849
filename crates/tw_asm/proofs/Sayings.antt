-- Registers, the version and labels: the words are read as a statement that they denote, or they denote none.
use Rattle.std.proofs.Common.{◌≡◌, ◌≢◌, ◌==◌, ℕ, zero, suc, ◌≤◌, Bool, true, false, inl, inr, arith, List, [], ◌∷◌, ◌++◌, length, map, codes, Option, Some, None, Result, Ok, Err, refl, sym, ap, subst, ◌∙◌}
use Rattle.tw_asm.proofs.AsmNames.{AllByRecursion, AnyName, AnyShortName, Bare, Code, EncodeParts, Encodes, EncodesWith, Form, Goals, HasForm, Head, Instr, IsInLimits, IsList, IsName, IsRead, IsVersionNumber, IsWithin, Label, Limit, Name, Natural, NoName, OfVersion, Opcode, Part, Reads, Registers, Scalar, Statement, TokenError, Version, Word, as_is, before_colon, eqb-true, flat_map, if◌then◌else◌, kind_word, name_in, natural_in, opcode_in, operand_parts, param_parts, register_part, row, scalar_in, scalar_word, version_known, word_of}
use Rattle.tw_asm.proofs.Answered.{Judged, first_is, none_some, regs_is_none, version_is_none}
use Rattle.tw_lexer.proofs.Colons.{before, found_before}
use Rattle.tw_asm.proofs.Names.{IsThisName, name_read}
use Rattle.tw_asm.proofs.OperandWords.{Free, natural_read, scalar_read}
use Rattle.tw_asm.proofs.Sequences.{HaveEach, each_long, each_read, few_read}
use Rattle.tw_asm.proofs.Spelled.{bare_is, digits_same}
use Rattle.tw_asm.proofs.Table as tables
use Rattle.tw_asm.proofs.TypeWords.{other_bytes}
use Rattle.tw_asm.proofs.Versions.{by_number}
use Rattle.tw_asm.specs.reading.Lines.{each, few, label_line, label_read, named_in, registers_in, registers_read, version_in, version_read}

-- the table finds the name of an instruction
pub code_first : (version : Version) (G : Goals) (i : Instr) (word : List ℕ) (ws : List Word) → Encodes version G (Code i) (Bare word ∷ ws) → (o : Opcode) × (opcode_in version word ≡ Some o)
code_first version G i word ws h =
    let k = first_is G (word_of (row i).0) (flat_map operand_parts (row i).1) (Bare word) ws h.parts in
    ((row i).0, ap (opcode_in version) (bare_is word (word_of (row i).0) k.0) ∙ tables.named_in version (row i).0 h.form.0)

pub nonempty : (G : Goals) (name : List ℕ) (parts : List Part) → EncodeParts G (Name name ∷ parts) [] → ⊥
nonempty G name parts (first, others, cut, h, rest) = no_word (cut ∙ ap (λ (vs : List Word). vs ++ others) h)
  where
    no_word : [] ≡ Bare name ∷ others → ⊥
    no_word e = cc

-- a word without `:` is no label
pub no_label : (word name : List ℕ) → before_colon word ≡ None → word ≡ name ++ codes ":" → ⊥
no_label word name none e = none_some name (sym none ∙ (ap before_colon e ∙ before name))

-- ---- registers

abbrev pub IsScalarWord : Word → Scalar → Type 0
IsScalarWord w s = w ≡ Bare (scalar_word s)

scalars_up : (G : Goals) (ws : List Word) (rs : List Scalar) → HaveEach IsScalarWord ws rs → EncodeParts G (map register_part rs) ws
scalars_up G [] [] h = refl
scalars_up G [] (r ∷ rs) h = absurd h
scalars_up G (w ∷ ws) [] h = absurd h
scalars_up G (w ∷ ws) (r ∷ rs) h = (w ∷ [], ws, refl, ap (λ (v : Word). v ∷ []) h.0, scalars_up G ws rs h.1)

scalars_down : (G : Goals) (ws : List Word) (rs : List Scalar) → EncodeParts G (map register_part rs) ws → HaveEach IsScalarWord ws rs
scalars_down G [] [] h = tt
scalars_down G [] (r ∷ rs) h = nonempty G (scalar_word r) (map register_part rs) h
scalars_down G (w ∷ ws) [] h = none h
  where
    none : w ∷ ws ≡ [] → ⊥
    none e = cc
scalars_down G (w ∷ ws) (r ∷ rs) h = let k = first_is G (scalar_word r) (map register_part rs) w ws h in (k.0, scalars_down G ws rs k.1)

regs_first : codes "regs" ≡ codes "proc" → ⊥
regs_first e = other_bytes (codes "regs") (codes "proc") refl (ap (λ (t : List ℕ). Bare t) e)

regs_version : codes "regs" ≡ codes "version" → ⊥
regs_version e = other_bytes (codes "regs") (codes "version") refl (ap (λ (t : List ℕ). Bare t) e)

regs_no_label : before_colon (codes "regs") ≡ None
regs_no_label = refl

is_registers : (version : Version) (G : Goals) (ws : List Word) (statement : Statement) → Encodes version G statement (Bare (codes "regs") ∷ ws) → (rs : List Scalar) × (statement ≡ Registers rs) × HaveEach IsScalarWord ws rs
is_registers version G ws (OfVersion number) h = absurd (regs_version (bare_is (codes "regs") (codes "version") (first_is G (codes "version") (Natural number ∷ []) (Bare (codes "regs")) ws h.parts).0))
is_registers version G ws (Head kind params) h = absurd (regs_first (bare_is (codes "regs") (codes "proc") (first_is G (codes "proc") (Name (kind_word kind) ∷ flat_map param_parts params) (Bare (codes "regs")) ws h.parts).0))
is_registers version G ws (Registers rs) h = (rs, refl, scalars_down G ws rs (first_is G (codes "regs") (map register_part rs) (Bare (codes "regs")) ws h.parts).1)
is_registers version G ws (Label name) h = absurd (no_label (codes "regs") name regs_no_label (bare_is (codes "regs") (name ++ codes ":") (first_is G (name ++ codes ":") [] (Bare (codes "regs")) ws h.parts).0))
is_registers version G ws (Code i) h = let k = code_first version G i (codes "regs") ws h in absurd (none_some k.0 (sym (regs_is_none version) ∙ k.1))

registers_encoded : (version : Version) (G : Goals) (ws : List Word) (rs : List Scalar) → HaveEach IsScalarWord ws rs → Encodes version G (Registers rs) (Bare (codes "regs") ∷ ws)
registers_encoded version G ws rs h = record { form = tt; parts = (Bare (codes "regs") ∷ [], ws, refl, refl, scalars_up G ws rs h) }

all_free : (rs : List Scalar) → AllByRecursion Free rs
all_free [] = tt
all_free (r ∷ rs) = (tt, all_free rs)

registers_judged : (version : Version) (ws : List Word) (r : Result (List Scalar) TokenError) → Reads (HaveEach IsScalarWord ws) (IsList 0 16 Free) r → Judged version (as_is registers_read r) (Bare (codes "regs") ∷ ws)
registers_judged version ws (Ok rs) h = (h.1.0, registers_encoded version NoName ws rs h.0)
registers_judged version ws (Err Form) h = λ form. let k = is_registers version AnyName ws form.0 form.1 in h k.0 k.2
registers_judged version ws (Err Limit) h = (
  (Registers h.0.0, registers_encoded version AnyName ws h.0.0 h.0.1),
  λ statement say. let k = is_registers version AnyShortName ws statement say.0 in h.1 k.0 k.2 (subst IsInLimits k.1 say.1, all_free k.0),
)

pub registers_answered : (version : Version) (ws : List Word) → Judged version (registers_in ws) (Bare (codes "regs") ∷ ws)
registers_answered version ws =
    registers_judged version ws (few 16 (each scalar_in ws))
    (few_read (HaveEach IsScalarWord ws) Free 16 (each scalar_in ws) (λ xs ys h k. each_long IsScalarWord ws xs h ∙ sym (each_long IsScalarWord ws ys k)) (each_read IsScalarWord Free scalar_in scalar_read ws))

-- ---- the version

version_first : codes "version" ≡ codes "proc" → ⊥
version_first e = other_bytes (codes "version") (codes "proc") refl (ap (λ (t : List ℕ). Bare t) e)

version_regs : codes "version" ≡ codes "regs" → ⊥
version_regs e = other_bytes (codes "version") (codes "regs") refl (ap (λ (t : List ℕ). Bare t) e)

version_no_label : before_colon (codes "version") ≡ None
version_no_label = refl

-- a single number has one word
number_alone : (G : Goals) (n : ℕ) (ws : List Word) → EncodeParts G (Natural n ∷ []) ws → (w : Word) × (ws ≡ w ∷ []) × EncodesWith [] n (w ∷ [])
number_alone G n ws (first, others, cut, (digits, spells, is), none) =
    (Bare digits, cut ∙ ap (λ (vs : List Word). vs ++ others) is ∙ ap (λ (vs : List Word). Bare digits ∷ vs) none, (digits, spells, refl))

is_version : (version : Version) (G : Goals) (ws : List Word) (statement : Statement) → Encodes version G statement (Bare (codes "version") ∷ ws)
    → (n : ℕ) × (statement ≡ OfVersion n) × ((w : Word) × (ws ≡ w ∷ []) × EncodesWith [] n (w ∷ []))
is_version version G ws (OfVersion number) h = (number, refl, number_alone G number ws (first_is G (codes "version") (Natural number ∷ []) (Bare (codes "version")) ws h.parts).1)
is_version version G ws (Head kind params) h = absurd (version_first (bare_is (codes "version") (codes "proc") (first_is G (codes "proc") (Name (kind_word kind) ∷ flat_map param_parts params) (Bare (codes "version")) ws h.parts).0))
is_version version G ws (Registers rs) h = absurd (version_regs (bare_is (codes "version") (codes "regs") (first_is G (codes "regs") (map register_part rs) (Bare (codes "version")) ws h.parts).0))
is_version version G ws (Label name) h = absurd (no_label (codes "version") name version_no_label (bare_is (codes "version") (name ++ codes ":") (first_is G (name ++ codes ":") [] (Bare (codes "version")) ws h.parts).0))
is_version version G ws (Code i) h = let k = code_first version G i (codes "version") ws h in absurd (none_some k.0 (sym (version_is_none version) ∙ k.1))

version_encoded : (version : Version) (G : Goals) (w : Word) (n : ℕ) → EncodesWith [] n (w ∷ []) → Encodes version G (OfVersion n) (Bare (codes "version") ∷ w ∷ [])
version_encoded version G w n h = record { form = tt; parts = (Bare (codes "version") ∷ [], w ∷ [], refl, refl, (w ∷ [], [], refl, h, refl)) }

version_judged : (version : Version) (w : Word) (r : Result ℕ TokenError) → Reads (λ n. EncodesWith [] n (w ∷ [])) IsVersionNumber r → Judged version (as_is version_read r) (Bare (codes "version") ∷ w ∷ [])
version_judged version w (Ok n) h =
    subst (λ (k : ℕ). IsRead version (record { statement = OfVersion k; goal = None }) (Bare (codes "version") ∷ w ∷ [])) (sym (by_number n h.1)) (h.1, version_encoded version NoName w n h.0)
version_judged version w (Err Form) h = λ form. let k = is_version version AnyName (w ∷ []) form.0 form.1 in h k.0 (same k.0 k.2.0 k.2.1 k.2.2)
  where
    same : (n : ℕ) (v : Word) → w ∷ [] ≡ v ∷ [] → EncodesWith [] n (v ∷ []) → EncodesWith [] n (w ∷ [])
    same n v e s = subst (EncodesWith [] n) (sym e) s
version_judged version w (Err Limit) h = (
  (OfVersion h.0.0, version_encoded version AnyName w h.0.0 h.0.1),
  λ statement say.
      let k = is_version version AnyShortName (w ∷ []) statement say.0 in
      h.1 k.0 (subst (EncodesWith [] k.0) (sym k.2.1) k.2.2) (subst IsInLimits k.1 say.1),
)

-- from 1 to 5, but not 3
known_read : (w : Word) (r : Result ℕ TokenError) → Reads (λ n. EncodesWith [] n (w ∷ [])) (IsWithin 1 5) r → Reads (λ n. EncodesWith [] n (w ∷ [])) IsVersionNumber (version_known r)
known_read w (Ok n) h = by (n == 3) refl
  where
    number : (n : ℕ) → IsWithin 1 5 n → (n == 3) ≡ false → IsVersionNumber n
    number zero k e = absurd (omega (arith, k.0))
    number (suc zero) k e = inl (omega arith, omega arith)
    number (suc (suc zero)) k e = inl (omega arith, omega arith)
    number (suc (suc (suc zero))) k e = absurd cc
    number (suc (suc (suc (suc zero)))) k e = inr (omega arith, omega arith)
    number (suc (suc (suc (suc (suc zero))))) k e = inr (omega arith, omega arith)
    number (suc (suc (suc (suc (suc (suc n)))))) k e = absurd (omega (arith, k.1))

    no_third : (k : ℕ) → k ≡ 3 → IsVersionNumber k → ⊥
    no_third k e (inl m) = omega (arith, e, m.1)
    no_third k e (inr m) = omega (arith, e, m.0)

    by : (t : Bool) → (n == 3) ≡ t → Reads (λ n. EncodesWith [] n (w ∷ [])) IsVersionNumber (if t then Err Limit else Ok n)
    by true e = ((n, h.0), λ k s m. no_third k ((digits_same [] k n (w ∷ []) (w ∷ []) [] [] s h.0 refl).0 ∙ eqb-true n 3 e) m)
    by false e = (h.0, number n h.1 e)
known_read w (Err Form) h = h
known_read w (Err Limit) h = (h.0, λ n s m. h.1 n s (small n m))
  where
    small : (n : ℕ) → IsVersionNumber n → IsWithin 1 5 n
    small n (inl m) = (m.0, omega (arith, m.1))
    small n (inr m) = (omega (arith, m.0), m.1)

no_one : (w : Word) → [] ≡ w ∷ [] → ⊥
no_one w e = cc

no_more : (v w x : Word) (ws : List Word) → w ∷ x ∷ ws ≡ v ∷ [] → ⊥
no_more v w x ws e = cc

pub version_answered : (version : Version) (ws : List Word) → Judged version (version_in ws) (Bare (codes "version") ∷ ws)
version_answered version [] = λ form. let k = is_version version AnyName [] form.0 form.1 in no_one k.2.0 k.2.1
version_answered version (w ∷ []) = version_judged version w (version_known (natural_in 1 5 w)) (known_read w (natural_in 1 5 w) (natural_read 1 5 w))
version_answered version (w ∷ x ∷ ws) = λ form. let k = is_version version AnyName (w ∷ x ∷ ws) form.0 form.1 in no_more k.2.0 w x ws k.2.1

-- ---- labels

is_label : (version : Version) (G : Goals) (word : List ℕ) (ws : List Word) → word ≢ codes "proc" → word ≢ codes "regs" → word ≢ codes "version" → opcode_in version word ≡ None → (statement : Statement)
    → Encodes version G statement (Bare word ∷ ws) → (name : List ℕ) × (statement ≡ Label name) × (word ≡ name ++ codes ":") × (ws ≡ [])
is_label version G word ws no_proc no_regs no_version no_code (OfVersion number) h = absurd (no_version (bare_is word (codes "version") (first_is G (codes "version") (Natural number ∷ []) (Bare word) ws h.parts).0))
is_label version G word ws no_proc no_regs no_version no_code (Head kind params) h = absurd (no_proc (bare_is word (codes "proc") (first_is G (codes "proc") (Name (kind_word kind) ∷ flat_map param_parts params) (Bare word) ws h.parts).0))
is_label version G word ws no_proc no_regs no_version no_code (Registers rs) h = absurd (no_regs (bare_is word (codes "regs") (first_is G (codes "regs") (map register_part rs) (Bare word) ws h.parts).0))
is_label version G word ws no_proc no_regs no_version no_code (Label name) h = let k = first_is G (name ++ codes ":") [] (Bare word) ws h.parts in (name, refl, bare_is word (name ++ codes ":") k.0, k.1)
is_label version G word ws no_proc no_regs no_version no_code (Code i) h = let k = code_first version G i word ws h in absurd (none_some k.0 (sym no_code ∙ k.1))

module _ (version : Version) (word : List ℕ) (no_proc : word ≢ codes "proc") (no_regs : word ≢ codes "regs") (no_version : word ≢ codes "version") (no_code : opcode_in version word ≡ None) where
  only_label : (G : Goals) (ws : List Word) (statement : Statement) → Encodes version G statement (Bare word ∷ ws) → (name : List ℕ) × (statement ≡ Label name) × (word ≡ name ++ codes ":") × (ws ≡ [])
  only_label G ws statement h = is_label version G word ws no_proc no_regs no_version no_code statement h

  label_encoded : (G : Goals) (name : List ℕ) → word ≡ name ++ codes ":" → IsName name → Encodes version G (Label name) (Bare word ∷ [])
  label_encoded G name e is = record { form = is; parts = (Bare word ∷ [], [], refl, ap (λ (t : List ℕ). Bare t ∷ []) e, refl) }

  inner : (a b : List ℕ) → Some a ≡ Some b → a ≡ b
  inner a b e = cc

  -- the name before the `:`
  one_name : (found name : List ℕ) → before_colon word ≡ Some found → word ≡ name ++ codes ":" → found ≡ name
  one_name found name is e = inner found name (sym is ∙ (ap before_colon e ∙ before name))

  encoded_name : (G : Goals) (found : List ℕ) → before_colon word ≡ Some found → (statement : Statement) → Encodes version G statement (Bare word ∷ []) → (statement ≡ Label found) × IsName found
  encoded_name G found is statement spells =
      let k = only_label G [] statement spells in
      let is_label_of : statement ≡ Label found = k.1 ∙ ap (λ (name : List ℕ). Label name) (sym (one_name found k.0 is k.2)) in
      (is_label_of, subst (HasForm version) is_label_of spells.form)

  label_judged : (found : List ℕ) → before_colon word ≡ Some found → (r : Result (List ℕ) TokenError) → Reads (IsThisName found) (λ name. length name ≤ 64) r → Judged version (as_is label_read r) (Bare word ∷ [])
  label_judged found is (Ok name) h = (h.1, label_encoded NoName name (found_before word found is ∙ ap (λ (t : List ℕ). t ++ codes ":") h.0.1) h.0.0)
  label_judged found is (Err Form) h = λ form. h found ((encoded_name AnyName found is form.0 form.1).1, refl)
  label_judged found is (Err Limit) h = (
    (Label h.0.0, label_encoded AnyName h.0.0 (found_before word found is ∙ ap (λ (t : List ℕ). t ++ codes ":") h.0.1.1) h.0.1.0),
    λ statement say. let k = encoded_name AnyShortName found is statement say.0 in h.1 found (k.1, refl) (subst IsInLimits k.0 say.1),
  )

  none_judged : before_colon word ≡ None → Judged version (Err Form) (Bare word ∷ [])
  none_judged none = λ form. let k = only_label AnyName [] form.0 form.1 in no_label word k.0 none k.2

  pub label_answered : (ws : List Word) → Judged version (label_line word ws) (Bare word ∷ ws)
  label_answered [] = by (before_colon word) refl
    where
      by : (found : Option (List ℕ)) → before_colon word ≡ found → Judged version (named_in found) (Bare word ∷ [])
      by None e = none_judged e
      by (Some found) e = label_judged found e (name_in found) (name_read found)
  label_answered (w ∷ ws) = λ form. let k = only_label AnyName (w ∷ ws) form.0 form.1 in some k.3
    where
      some : w ∷ ws ≡ [] → ⊥
      some e = cc
