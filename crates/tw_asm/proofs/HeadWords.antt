-- Procedures' heads: the words are read as a statement that they denote, or they denote none.
use Rattle.std.proofs.Common.{◌≡◌, ℕ, List, [], ◌∷◌, ◌++◌, length, map, codes, None, Result, Ok, Err, refl, sym, ap, subst, ◌∙◌}
use Rattle.tw_asm.proofs.AsmNames.{AllByRecursion, AnyName, AnyShortName, Bare, Closed, Code, EncodeParts, Encodes, Form, Four, Goals, HasParam, HasType, Head, IsInLimits, IsList, IsParam, IsTypeOfMode, IsTypeUnderOf, Kind, Label, Limit, Mode, Name, Natural, NestedScalar, NoName, OfVersion, Param, Reads, Ref, Registers, Statement, TokenError, Val, Version, Word, Write, as_is, before_colon, both, flat_map, is_scalar, kind_word, last_version, mode_word, param_parts, register_part}
use Rattle.tw_asm.proofs.Answered.{Judged, first_is, none_some, proc_is_none}
use Rattle.tw_asm.proofs.OperandWords.{Free, kind_read}
use Rattle.tw_asm.proofs.ParamWords.{AreParams, IsShallowParam, one_params, param_words, params_read}
use Rattle.tw_asm.proofs.Readings.{both_read}
use Rattle.tw_asm.proofs.Sayings.{code_first, no_label, nonempty}
use Rattle.tw_asm.proofs.Sequences.{IsShallow, few_read}
use Rattle.tw_asm.proofs.Spelled.{bare_is}
use Rattle.tw_asm.proofs.TypeWords.{other_bytes, words_of}
use Rattle.tw_asm.proofs.Versions.{any_type, under_shallow}
use Rattle.tw_asm.specs.reading.Lines.{ended, few, head_in, head_read, kind_in, params_from}

-- ---- the words of parameters

up : (G : Goals) (ps : List Param) → EncodeParts G (flat_map param_parts ps) (flat_map param_words ps)
up G [] = refl
up G (p ∷ ps) =
    let ty = words_of p.ty.containers p.ty.map p.ty.scalar in
    (Bare (mode_word p.mode) ∷ [], ty ++ flat_map param_words ps, refl, refl, (ty, flat_map param_words ps, refl, refl, up G ps))

down : (G : Goals) (ps : List Param) (ws : List Word) → EncodeParts G (flat_map param_parts ps) ws → ws ≡ flat_map param_words ps
down G [] ws e = e
down G (p ∷ ps) ws (first, others, cut, is, (words, rest, parts, has, whole)) =
    cut
    ∙ (
    ap (λ (vs : List Word). vs ++ others) is
    ∙ ap (λ (vs : List Word). Bare (mode_word p.mode) ∷ vs)
    (parts ∙ (ap (λ (vs : List Word). vs ++ rest) has ∙ ap (λ (vs : List Word). words_of p.ty.containers p.ty.map p.ty.scalar ++ vs) (down G ps rest whole)))
    )

-- ---- limits

params_within : (version : Version) (ps : List Param) → AllByRecursion (HasParam version) ps → AllByRecursion IsShallowParam ps → AllByRecursion IsParam ps
params_within version [] f m = tt
params_within version (p ∷ ps) f m = (by p.mode p.ty f.0.0 f.0.1 m.0, params_within version ps f.1 m.1)
  where
    by : (mode : Mode) (ty : NestedScalar) → IsTypeOfMode mode (is_scalar ty) → HasType version ty → IsShallow ty → IsTypeUnderOf last_version mode ty
    by Val ty f has m = f
    by Closed ty f has m = (m, any_type version ty has)
    by Ref ty f has m = (m, any_type version ty has)
    by Write ty f has m = (m, any_type version ty has)

params_shallow : (ps : List Param) → AllByRecursion IsParam ps → AllByRecursion IsShallowParam ps
params_shallow [] h = tt
params_shallow (p ∷ ps) h = (under_shallow p.mode p.ty h.0, params_shallow ps h.1)

-- ---- heads

proc_first : codes "proc" ≡ codes "regs" → ⊥
proc_first e = other_bytes (codes "proc") (codes "regs") refl (ap (λ (t : List ℕ). Bare t) e)

proc_version : codes "proc" ≡ codes "version" → ⊥
proc_version e = other_bytes (codes "proc") (codes "version") refl (ap (λ (t : List ℕ). Bare t) e)

proc_no_label : before_colon (codes "proc") ≡ None
proc_no_label = refl

module _ (version : Version) where
  abbrev IsHeadOf : Word → List Word → Kind × List Param → Type 0
  IsHeadOf w ws x = (w ≡ Bare (kind_word x.0)) × AreParams version ws x.1

  head_parts_of : (G : Goals) (ws : List Word) (statement : Statement) → Encodes version G statement (Bare (codes "proc") ∷ ws)
      → (kind : Kind) × (params : List Param) × (statement ≡ Head kind params) × AllByRecursion (HasParam version) params × EncodeParts G (Name (kind_word kind) ∷ flat_map param_parts params) ws
  head_parts_of G ws (OfVersion number) h = absurd (proc_version (bare_is (codes "proc") (codes "version") (first_is G (codes "version") (Natural number ∷ []) (Bare (codes "proc")) ws h.parts).0))
  head_parts_of G ws (Head kind params) h = (kind, params, refl, h.form, (first_is G (codes "proc") (Name (kind_word kind) ∷ flat_map param_parts params) (Bare (codes "proc")) ws h.parts).1)
  head_parts_of G ws (Registers rs) h = absurd (proc_first (bare_is (codes "proc") (codes "regs") (first_is G (codes "regs") (map register_part rs) (Bare (codes "proc")) ws h.parts).0))
  head_parts_of G ws (Label name) h = absurd (no_label (codes "proc") name proc_no_label (bare_is (codes "proc") (name ++ codes ":") (first_is G (name ++ codes ":") [] (Bare (codes "proc")) ws h.parts).0))
  head_parts_of G ws (Code i) h = let k = code_first version G i (codes "proc") ws h in absurd (none_some k.0 (sym (proc_is_none version) ∙ k.1))

  is_head : (G : Goals) (w : Word) (ws : List Word) (statement : Statement) → Encodes version G statement (Bare (codes "proc") ∷ w ∷ ws) → (x : Kind × List Param) × (statement ≡ Head x.0 x.1) × IsHeadOf w ws x
  is_head G w ws statement h =
      let k = head_parts_of G (w ∷ ws) statement h in
      let f = first_is G (kind_word k.0) (flat_map param_parts k.1) w ws k.4 in
      ((k.0, k.1), k.2, (f.0, (down G k.1 ws f.1, k.3)))

  head_encoded : (G : Goals) (w : Word) (ws : List Word) (x : Kind × List Param) → IsHeadOf w ws x → Encodes version G (Head x.0 x.1) (Bare (codes "proc") ∷ w ∷ ws)
  head_encoded G w ws x h =
      record { form = h.1.1; parts = (Bare (codes "proc") ∷ [], w ∷ ws, refl, refl, (w ∷ [], ws, refl, ap (λ (v : Word). v ∷ []) h.0, subst (EncodeParts G (flat_map param_parts x.1)) (sym h.1.0) (up G x.1))) }

  abbrev MayHead : Kind × List Param → Type 0
  MayHead x = Free x.0 × IsList 0 8 IsShallowParam x.1

  head_judged : (w : Word) (ws : List Word) (r : Result (Kind × List Param) TokenError) → Reads (IsHeadOf w ws) MayHead r → Judged version (as_is head_read r) (Bare (codes "proc") ∷ w ∷ ws)
  head_judged w ws (Ok x) h = ((h.1.1.0, params_within version x.1 h.0.1.1 h.1.1.1), head_encoded NoName w ws x h.0)
  head_judged w ws (Err Form) h = λ form. let k = is_head AnyName w ws form.0 form.1 in h k.0 k.2
  head_judged w ws (Err Limit) h = (
    (Head h.0.0.0 h.0.0.1, head_encoded AnyName w ws h.0.0 h.0.1),
    λ statement say.
        let k = is_head AnyShortName w ws statement say.0 in
        let limits = subst IsInLimits k.1 say.1 in
        h.1 k.0 k.2 (tt, (limits.0, params_shallow k.0.1 limits.1)),
  )

  as_many : (ws : List Word) (ps qs : List Param) → AreParams version ws ps → AreParams version ws qs → length ps ≡ length qs
  as_many ws ps qs h k = ap length (one_params ps qs (sym h.0 ∙ k.0))

  pub head_answered : (ws : List Word) → Judged version (head_in version ws) (Bare (codes "proc") ∷ ws)
  head_answered [] = λ form. let k = head_parts_of AnyName [] form.0 form.1 in nonempty AnyName (kind_word k.0) (flat_map param_parts k.1) k.4
  head_answered (w ∷ ws) =
      head_judged w ws (both (kind_in w) (few 8 (ended (params_from version ws))))
      (both_read (λ k. w ≡ Bare (kind_word k)) Free (AreParams version ws) (IsList 0 8 IsShallowParam) (kind_in w) (few 8 (ended (params_from version ws))) (kind_read w)
      (few_read (AreParams version ws) IsShallowParam 8 (ended (params_from version ws)) (as_many ws) (params_read version ws)))
