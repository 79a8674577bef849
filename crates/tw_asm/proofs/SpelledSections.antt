-- The procedures that are read, and the words that denote them.
use Rattle.tw_asm.proofs.AsmNames.{AllByRecursion, AllPairs, AnyShortName, AreCode, AreLinkedCode, AreLinkedProcedures, AtStart, Bare, Code, Contains, Drafted, EncodeProcedures, Encodes, EncodesProcedure, EncodesProgram, EncodesVersion, Four, Goals, HasInstr, HasLabelsWithin, HasSections, HaveWords, Head, HeadRead, Instr, IsGoalOf, IsInLimits, IsInstr, IsInstrOf, IsLine, IsLinkedProcedure, IsLinkedTo, IsOperand, IsProcedureOf, IsProgramOf, IsRead, IsWhole, Kind, Label, LinesRead, List, MayFollow, NoName, None, OfVersion, One, Opcode, Operand, Option, Param, Place, Placed, Procedure, Progress, Read, Registers, Scalar, Section, SkipsTo, Some, Statement, Version, VersionRead, Within, Word, [], all_pairs_push, ap, append-nil, append_assoc, arith, begun, ended, get_or_default, goals_in, has_opcode, holds, inl, inr, last_version, length, length-append, line_step, lines, map, map-append, outset, progress_from, refl, row, situation_of, step, subst, suc, sym, true, version_by, with_skip, ℕ, ◌++◌, ◌+◌, ◌<◌, ◌∙◌, ◌∷◌, ◌≡◌, ◌≢◌, ◌≤◌}
use Rattle.tw_code.specs.declared.form.Form.TheVariants as form
use Rattle.tw_asm.proofs.Once.{had_still, resolved_encodes, encodes_more}
use Rattle.tw_asm.proofs.Begins.{first_of_words}
use Rattle.tw_asm.proofs.Rows.{others, reskip_operand}
use Rattle.tw_asm.proofs.Stages.{body_head, body_start, head_body, head_start, progress, start_body, start_head, version_body, version_head, version_start}
use Rattle.tw_asm.proofs.Steps.{read_says}
use Rattle.tw_asm.proofs.Versions.{by_number, narrowed, params_narrowed}
use Rattle.tw_asm.proofs.Walk.{higher}

-- ---- bodies whose goals aren't resolved yet

pub data AreDrafts (version : Version) : ℕ → List Placed → List Drafted → List (List Word) → Type 0 where
  no_drafts : (place : ℕ) → AreDrafts version place [] [] []
  a_label : (place : ℕ) (name : List ℕ) (words : List Word) (labels : List Placed) (drafts : List Drafted) (others : List (List Word))
      → Encodes version NoName (Label name) words → IsInLimits (Label name) → AreDrafts version place labels drafts others
      → AreDrafts version place (record { name = name; place = place } ∷ labels) drafts (words ∷ others)
  a_draft : (place : ℕ) (draft : Drafted) (words : List Word) (labels : List Placed) (drafts : List Drafted) (others : List (List Word))
      → IsRead version (record { statement = Code draft.instr; goal = draft.goal }) words → AreDrafts version (place + 1) labels drafts others
      → AreDrafts version place labels (draft ∷ drafts) (words ∷ others)

label_more : (version : Version) (place : ℕ) (labels : List Placed) (drafts : List Drafted) (body : List (List Word)) (name : List ℕ) (words : List Word)
    → AreDrafts version place labels drafts body → Encodes version NoName (Label name) words → IsInLimits (Label name)
    → AreDrafts version place (labels ++ (record { name = name; place = place + length drafts } ∷ [])) drafts (body ++ (words ∷ []))
label_more version place _ _ _ name words (no_drafts _) s l =
    let e : place ≡ place + 0 = omega arith in
    subst (λ (k : ℕ). AreDrafts version place (record { name = name; place = k } ∷ []) [] (words ∷ [])) e (a_label place name words [] [] [] s l (no_drafts place))
label_more version place _ _ _ name words (a_label _ n ws labels drafts others a b more) s l =
    a_label place n ws (labels ++ (record { name = name; place = place + length drafts } ∷ [])) drafts (others ++ (words ∷ [])) a b (label_more version place labels drafts others name words more s l)
label_more version place _ _ _ name words (a_draft _ draft ws labels drafts others r more) s l =
    let e : (place + 1) + length drafts ≡ place + suc (length drafts) = omega arith in
    a_draft place draft ws (labels ++ (record { name = name; place = place + suc (length drafts) } ∷ [])) drafts (others ++ (words ∷ [])) r
    (subst (λ (k : ℕ). AreDrafts version (place + 1) (labels ++ (record { name = name; place = k } ∷ [])) drafts (others ++ (words ∷ []))) e (label_more version (place + 1) labels drafts others name words more s l))

draft_more : (version : Version) (place : ℕ) (labels : List Placed) (drafts : List Drafted) (body : List (List Word)) (draft : Drafted) (words : List Word)
    → AreDrafts version place labels drafts body → IsRead version (record { statement = Code draft.instr; goal = draft.goal }) words
    → AreDrafts version place labels (drafts ++ (draft ∷ [])) (body ++ (words ∷ []))
draft_more version place _ _ _ draft words (no_drafts _) r = a_draft place draft words [] [] [] r (no_drafts (place + 1))
draft_more version place _ _ _ draft words (a_label _ n ws labels drafts others a b more) r =
    a_label place n ws labels (drafts ++ (draft ∷ [])) (others ++ (words ∷ [])) a b (draft_more version place labels drafts others draft words more r)
draft_more version place _ _ _ draft words (a_draft _ d ws labels drafts others q more) r =
    a_draft place d ws labels (drafts ++ (draft ∷ [])) (others ++ (words ∷ [])) q (draft_more version (place + 1) labels drafts others draft words more r)

-- labels are in the code, or after its last instruction
pub labels_within : (version : Version) (place : ℕ) (labels : List Placed) (drafts : List Drafted) (body : List (List Word)) → AreDrafts version place labels drafts body → AllByRecursion (λ label. label.place ≤ place + length drafts) labels
labels_within version place _ _ _ (no_drafts _) = tt
labels_within version place _ _ _ (a_label _ n ws labels drafts others a b more) = (omega arith, labels_within version place labels drafts others more)
labels_within version place _ _ _ (a_draft _ d ws labels drafts others q more) =
    let e : (place + 1) + length drafts ≡ place + suc (length drafts) = omega arith in
    subst (λ (k : ℕ). AllByRecursion (λ (label : Placed). label.place ≤ k) labels) e (labels_within version (place + 1) labels drafts others more)

-- ---- skips for goals

no_name : {version : Version} (goals : Goals) (statement : Statement) (words : List Word) → Encodes version NoName statement words → Encodes version goals statement words
no_name goals statement words s = encodes_more NoName goals (λ skip name n. absurd n) statement words s

linked_encodes : (version : Version) (all : List Placed) (place : ℕ) (draft : Instr) (goal : Option (List ℕ)) (i : Instr) (words : List Word)
    → IsRead version (record { statement = Code draft; goal = goal }) words → IsLinkedTo all place goal draft i → Encodes version (SkipsTo all place) (Code i) words
linked_encodes version all place draft None i words r l =
    subst (λ (x : Instr). Encodes version (SkipsTo all place) (Code x) words) (sym l) (no_name (SkipsTo all place) (Code draft) words r.1)
linked_encodes version all place draft (Some name) i words r l =
    subst (λ (x : Instr). Encodes version (SkipsTo all place) (Code x) words) (sym l.3) (resolved_encodes version (SkipsTo all place) name l.0 draft words r l.1)

pub linked_code : (version : Version) (all : List Placed) (place : ℕ) (labels : List Placed) (drafts : List Drafted) (body : List (List Word)) (code : List Instr)
    → AreDrafts version place labels drafts body → AreLinkedCode (goals_in all place drafts) code → AreCode version all place labels code body
linked_code version all place _ _ _ [] (no_drafts _) l = AreCode.end place
linked_code version all place _ _ _ (i ∷ code) (no_drafts _) l = absurd l
linked_code version all place _ _ _ is (a_label _ n ws labels drafts others a b more) l =
    AreCode.label place n ws labels is others (no_name (SkipsTo all place) (Label n) ws a) b (linked_code version all place labels drafts others is more l)
linked_code version all place _ _ _ [] (a_draft _ d ws labels drafts others q more) l = absurd l
linked_code version all place _ _ _ (i ∷ is) (a_draft _ d ws labels drafts others q more) l =
    AreCode.instruction place i ws labels is others (linked_encodes version all place d.instr d.goal i ws q l.0) (linked_code version all (place + 1) labels drafts others is more l.1)

operands_fit : (skip : ℕ) (os : List Operand) → skip ≤ 65535 → AllByRecursion IsOperand os → AllByRecursion IsOperand (map (reskip_operand skip) os)
operands_fit skip [] f l = tt
operands_fit skip ((holds form.Skip old) ∷ os) f l = ((omega arith, f), operands_fit skip os f l.1)
operands_fit skip (o ∷ os) f l = (l.0, operands_fit skip os f l.1)

skip_fits : (skip : ℕ) (i : Instr) → skip ≤ 65535 → IsInstr i → IsInstr (with_skip skip i)
skip_fits skip i f l =
    subst (λ (r : Opcode × List Operand). (has_opcode last_version r.0 ≡ true) × AllByRecursion IsOperand r.1) (sym (others skip i)) (l.0, operands_fit skip (row i).1 f l.1)

linked_fits : (all : List Placed) (place : ℕ) (draft : Instr) (goal : Option (List ℕ)) (i : Instr) → IsInstr draft → IsLinkedTo all place goal draft i → IsInstr i
linked_fits all place draft None i f l = subst IsInstr (sym l) f
linked_fits all place draft (Some name) i f l = subst IsInstr (sym l.3) (skip_fits l.0 draft (omega (arith, l.2)) f)

linked_had : (version : Version) (all : List Placed) (place : ℕ) (draft : Instr) (goal : Option (List ℕ)) (i : Instr) → HasInstr version draft → IsLinkedTo all place goal draft i → HasInstr version i
linked_had version all place draft None i f l = subst (HasInstr version) (sym l) f
linked_had version all place draft (Some name) i f l = subst (HasInstr version) (sym l.3) (had_still version l.0 draft f)

read_had : (version : Version) (i : Instr) (goal : Option (List ℕ)) (words : List Word) → IsRead version (record { statement = Code i; goal = goal }) words → HasInstr version i
read_had version i None words r = r.1.form
read_had version i (Some name) words r = r.1.1.form

read_limits : (version : Version) (statement : Statement) (goal : Option (List ℕ)) (words : List Word) → IsRead version (record { statement = statement; goal = goal }) words → IsInLimits statement
read_limits version statement None words r = r.0
read_limits version statement (Some name) words r = r.0

pub linked_limits : (version : Version) (all : List Placed) (place : ℕ) (labels : List Placed) (drafts : List Drafted) (body : List (List Word)) (is : List Instr)
    → AreDrafts version place labels drafts body → AreLinkedCode (goals_in all place drafts) is → AllByRecursion (IsInstrOf version) is × (length is ≡ length drafts)
linked_limits version all place _ _ _ [] (no_drafts _) l = (tt, refl)
linked_limits version all place _ _ _ (i ∷ is) (no_drafts _) l = absurd l
linked_limits version all place _ _ _ is (a_label _ n ws labels drafts others a b more) l = linked_limits version all place labels drafts others is more l
linked_limits version all place _ _ _ [] (a_draft _ d ws labels drafts others q more) l = absurd l
linked_limits version all place _ _ _ (i ∷ is) (a_draft _ d ws labels drafts others q more) l =
    let m = linked_limits version all (place + 1) labels drafts others is more l.1 in
    let has = linked_had version all place d.instr d.goal i (read_had version d.instr d.goal ws q) l.0 in
    let fits = linked_fits all place d.instr d.goal i (read_limits version (Code d.instr) d.goal ws q) l.0 in
    ((narrowed version i has fits, m.0), ap suc m.1)

-- ---- sections

-- the words of a section, within the limits; it may have no instruction
pub record IsSection (version : Version) (section : Section) (words : List (List Word)) : Type 0 where
  pub head : List Word
  pub registers : List Word
  pub body : List (List Word)
  pub parts : words ≡ head ∷ registers ∷ body
  pub head_is : Encodes version NoName (Head section.kind section.params) head
  pub params_fit : IsInLimits (Head section.kind section.params)
  pub registers_are : Encodes version NoName (Registers section.registers) registers
  pub registers_fit : IsInLimits (Registers section.registers)
  pub drafts_are : AreDrafts version 0 section.labels section.drafts body
  pub once : AllPairs (λ a b. a ≢ b) (map (λ label. label.name) section.labels)
  pub few : length section.drafts ≤ 4096

linked_procedure : (version : Version) (section : Section) (words : List (List Word)) (procedure : Procedure) → IsSection version section words → IsLinkedProcedure section procedure → EncodesProcedure version procedure words
linked_procedure version section words procedure s l = record {
  head = s.head;
  registers = s.registers;
  body = s.body;
  labels = section.labels;
  parts = s.parts;
  head_is = rw (l.kind, l.params) (no_name (SkipsTo [] 0) (Head section.kind section.params) s.head s.head_is);
  registers_are = rw l.registers (no_name (SkipsTo [] 0) (Registers section.registers) s.registers s.registers_are);
  body_is = linked_code version section.labels 0 section.labels section.drafts s.body procedure.code s.drafts_are l.code;
  once = s.once;
}

linked_within : (version : Version) (section : Section) (words : List (List Word)) (procedure : Procedure) → IsSection version section words → 0 < length section.drafts → IsLinkedProcedure section procedure → IsProcedureOf version procedure
linked_within version section words procedure s some l =
    let m = linked_limits version section.labels 0 section.labels section.drafts s.body procedure.code s.drafts_are l.code in
    record {
      params = rw l.params (s.params_fit.0, params_narrowed version section.params s.head_is.form s.params_fit.1);
      registers = rw l.registers s.registers_fit;
      code = ((omega (arith, m.1), omega (arith, m.1, s.few)), m.0);
    }

-- sections, one after another, each with an instruction
pub data AreSections (version : Version) : List Section → List (List Word) → Type 0 where
  no_sections : AreSections version [] []
  a_section : (section : Section) (others : List Section) (first after : List (List Word)) → IsSection version section first → 0 < length section.drafts
      → AreSections version others after → AreSections version (section ∷ others) (first ++ after)

section_more : (version : Version) (sections : List Section) (words : List (List Word)) (section : Section) (last : List (List Word)) → AreSections version sections words → IsSection version section last → 0 < length section.drafts
    → AreSections version (sections ++ (section ∷ [])) (words ++ last)
section_more version _ _ section last no_sections s some = subst (AreSections version (section ∷ [])) (append-nil last) (a_section section [] last [] s some no_sections)
section_more version _ _ section last (a_section x others first after a n more) s some =
    subst (AreSections version (x ∷ (others ++ (section ∷ [])))) (sym (append_assoc first after last)) (a_section x (others ++ (section ∷ [])) first (after ++ last) a n (section_more version others after section last more s some))

pub linked_sections : (version : Version) (sections : List Section) (words : List (List Word)) (procedures : List Procedure) → AreSections version sections words → AreLinkedProcedures sections procedures → EncodeProcedures version procedures words
linked_sections version _ _ [] no_sections l = EncodeProcedures.end
linked_sections version _ _ (p ∷ ps) no_sections l = absurd l
linked_sections version _ _ [] (a_section x others first after a n more) l = absurd l
linked_sections version _ _ (p ∷ ps) (a_section x others first after a n more) l =
    EncodeProcedures.one_more p ps first after (linked_procedure version x first p a l.0) (linked_sections version others after ps more l.1)

pub linked_procedures : (version : Version) (sections : List Section) (words : List (List Word)) (procedures : List Procedure) → AreSections version sections words → AreLinkedProcedures sections procedures
    → AllByRecursion (IsProcedureOf version) procedures × (length procedures ≡ length sections)
linked_procedures version _ _ [] no_sections l = (tt, refl)
linked_procedures version _ _ (p ∷ ps) no_sections l = absurd l
linked_procedures version _ _ [] (a_section x others first after a n more) l = absurd l
linked_procedures version _ _ (p ∷ ps) (a_section x others first after a n more) l =
    let m = linked_procedures version others after ps more l.1 in
    ((linked_within version x first p a n l.0, m.0), ap suc m.1)

-- ---- the words denote what is read

abbrev pub IsPlace : Version → Place → List (List Word) → Type 0
IsPlace version AtStart words = words ≡ []
IsPlace version VersionRead words = words ≡ []
IsPlace version (HeadRead kind params) words = (head : List Word) × (words ≡ head ∷ []) × Encodes version NoName (Head kind params) head × IsInLimits (Head kind params)
IsPlace version (Within section) words = IsSection version section words

-- holds if the version's words are before all others; at the start there are none
abbrev pub IsFront : Place → Version → List Section → List (List Word) → List (List Word) → Type 0
IsFront AtStart version sections front done = (version ≡ One) × (sections ≡ []) × (front ≡ []) × (done ≡ [])
IsFront VersionRead version sections front done = EncodesVersion version front
IsFront (HeadRead kind params) version sections front done = EncodesVersion version front
IsFront (Within section) version sections front done = EncodesVersion version front

pub record IsSpelled (p : Progress) (words : List (List Word)) : Type 0 where
  pub front : List (List Word)
  pub done : List (List Word)
  pub current : List (List Word)
  pub parts : words ≡ front ++ (done ++ current)
  pub front_is : IsFront p.place p.version p.sections front done
  pub sections_are : AreSections p.version p.sections done
  pub place_is : IsPlace p.version p.place current
  pub few : length p.sections + begun p.place ≤ 64

plain : (version : Version) (statement : Statement) (goal : Option (List ℕ)) (words : List Word) → goal ≡ None → IsRead version (record { statement = statement; goal = goal }) words → Encodes version NoName statement words
plain version statement None words e r = r.1
plain version statement (Some name) words e r = absurd cc

word_more : (all front done current : List (List Word)) (words : List Word) → all ≡ front ++ (done ++ current) → all ++ (words ∷ []) ≡ front ++ (done ++ (current ++ (words ∷ [])))
word_more all front done current words e =
    ap (λ (x : List (List Word)). x ++ (words ∷ [])) e
    ∙ (append_assoc front (done ++ current) (words ∷ []) ∙ ap (λ (x : List (List Word)). front ++ x) (append_assoc done current (words ∷ [])))

-- a line after all complete sections
first_word : (all front done current : List (List Word)) (words : List Word) → all ≡ front ++ (done ++ current) → current ≡ [] → all ++ (words ∷ []) ≡ front ++ (done ++ (words ∷ []))
first_word all front done current words e none =
    word_more all front done current words e ∙ ap (λ (x : List (List Word)). front ++ (done ++ (x ++ (words ∷ [])))) none

next_word : (all front done current : List (List Word)) (words : List Word) → all ≡ front ++ (done ++ current) → all ++ (words ∷ []) ≡ front ++ ((done ++ current) ++ (words ∷ []))
next_word all front done current words e = ap (λ (x : List (List Word)). x ++ (words ∷ [])) e ∙ append_assoc front (done ++ current) (words ∷ [])

nothing_there : (all front done current : List (List Word)) → all ≡ front ++ (done ++ current) → front ≡ [] → done ≡ [] → current ≡ [] → all ≡ []
nothing_there all front done current e f d c = e ∙ (ap (λ (x : List (List Word)). x ++ (done ++ current)) f ∙ (ap (λ (x : List (List Word)). x ++ current) d ∙ c))

unsaid_there : (version : Version) (front : List (List Word)) → version ≡ One → front ≡ [] → EncodesVersion version front
unsaid_there version front v f = subst (λ (x : Version). EncodesVersion x front) (sym v) (subst (EncodesVersion One) (sym f) EncodesVersion.unsaid)

version_step : (number n : ℕ) (goal : Option (List ℕ)) (version : Version) (sections : List Section) (head_line : ℕ) (place : Place) (all : List (List Word)) (words : List Word)
    → IsSpelled (progress version sections head_line place) all → IsRead version (record { statement = OfVersion n; goal = goal }) words → MayFollow (OfVersion n) (situation_of (progress version sections head_line place)) → goal ≡ None
    → IsSpelled (step number (OfVersion n) goal (progress version sections head_line place)) (all ++ (words ∷ []))
version_step number n goal version sections head_line AtStart all words s r m g =
    let fits = read_limits version (OfVersion n) goal words r in
    let line : Encodes One NoName (OfVersion n) words = subst (λ (v : Version). Encodes v NoName (OfVersion n) words) s.front_is.0 (plain version (OfVersion n) goal words g r) in
    record {
      front = words ∷ [];
      done = [];
      current = [];
      parts = ap (λ (x : List (List Word)). x ++ (words ∷ [])) (nothing_there all s.front s.done s.current s.parts s.front_is.2 s.front_is.3 s.place_is);
      front_is = EncodesVersion.said (version_by n) words (subst (λ (k : ℕ). Encodes One (SkipsTo [] 0) (OfVersion k) words) (sym (by_number n fits)) (no_name (SkipsTo [] 0) (OfVersion n) words line));
      sections_are = subst (λ (x : List Section). AreSections (version_by n) x []) (sym s.front_is.1) no_sections;
      place_is = refl;
      few = s.few;
    }
version_step number n goal version sections head_line VersionRead all words s r m g = version_start m
version_step number n goal version sections head_line (HeadRead kind params) all words s r m g = head_start m
version_step number n goal version sections head_line (Within section) all words s r m g = body_start m

head_step : (number : ℕ) (kind : Kind) (params : List Param) (goal : Option (List ℕ)) (version : Version) (sections : List Section) (head_line : ℕ) (place : Place) (all : List (List Word)) (words : List Word)
    → IsSpelled (progress version sections head_line place) all → IsRead version (record { statement = Head kind params; goal = goal }) words → MayFollow (Head kind params) (situation_of (progress version sections head_line place)) → goal ≡ None
    → IsSpelled (step number (Head kind params) goal (progress version sections head_line place)) (all ++ (words ∷ []))
head_step number kind params goal version sections head_line AtStart all words s r m g = record {
  front = s.front;
  done = s.done;
  current = words ∷ [];
  parts = first_word all s.front s.done s.current words s.parts s.place_is;
  front_is = unsaid_there version s.front s.front_is.0 s.front_is.2;
  sections_are = s.sections_are;
  place_is = (words, refl, plain version (Head kind params) goal words g r, read_limits version (Head kind params) goal words r);
  few = omega (arith, m.1);
}
head_step number kind params goal version sections head_line VersionRead all words s r m g = record {
  front = s.front;
  done = s.done;
  current = words ∷ [];
  parts = first_word all s.front s.done s.current words s.parts s.place_is;
  front_is = s.front_is;
  sections_are = s.sections_are;
  place_is = (words, refl, plain version (Head kind params) goal words g r, read_limits version (Head kind params) goal words r);
  few = omega (arith, m.1);
}
head_step number kind params goal version sections head_line (HeadRead k ps) all words s r m g = elim (m.0) [ inl e ↦ absurd e | inr e ↦ head_body e.0 ]
head_step number kind params goal version sections head_line (Within section) all words s r m g =
    let some : 0 < length section.drafts = elim (m.0) [ inl e ↦ absurd e | inr e ↦ e.1 ] in
    record {
      front = s.front;
      done = s.done ++ s.current;
      current = words ∷ [];
      parts = next_word all s.front s.done s.current words s.parts;
      front_is = s.front_is;
      sections_are = section_more version sections s.done section s.current s.sections_are s.place_is some;
      place_is = (words, refl, plain version (Head kind params) goal words g r, read_limits version (Head kind params) goal words r);
      few = omega (arith, m.1, length-append sections (section ∷ []));
    }

none_pairs : AllPairs (λ (a b : List ℕ). a ≢ b) []
none_pairs = λ i j d a b. absurd (omega (arith, b))

registers_step : (number : ℕ) (registers : List Scalar) (goal : Option (List ℕ)) (version : Version) (sections : List Section) (head_line : ℕ) (place : Place) (all : List (List Word)) (words : List Word)
    → IsSpelled (progress version sections head_line place) all → IsRead version (record { statement = Registers registers; goal = goal }) words → MayFollow (Registers registers) (situation_of (progress version sections head_line place)) → goal ≡ None
    → IsSpelled (step number (Registers registers) goal (progress version sections head_line place)) (all ++ (words ∷ []))
registers_step number registers goal version sections head_line AtStart all words s r m g = start_head m
registers_step number registers goal version sections head_line VersionRead all words s r m g = version_head m
registers_step number registers goal version sections head_line (HeadRead kind params) all words s r m g =
    let h = s.place_is in
    record {
      front = s.front;
      done = s.done;
      current = h.0 ∷ words ∷ [];
      parts = word_more all s.front s.done s.current words s.parts ∙ ap (λ (x : List (List Word)). s.front ++ (s.done ++ (x ++ (words ∷ [])))) h.1;
      front_is = s.front_is;
      sections_are = s.sections_are;
      place_is = record {
        head = h.0;
        registers = words;
        body = [];
        parts = refl;
        head_is = h.2;
        params_fit = h.3;
        registers_are = plain version (Registers registers) goal words g r;
        registers_fit = read_limits version (Registers registers) goal words r;
        drafts_are = no_drafts 0;
        once = none_pairs;
        few = omega arith;
      };
      few = s.few;
    }
registers_step number registers goal version sections head_line (Within section) all words s r m g = body_head m

body_more : (words : List (List Word)) (head registers : List Word) (body : List (List Word)) (more : List Word) → words ≡ head ∷ registers ∷ body → words ++ (more ∷ []) ≡ head ∷ registers ∷ (body ++ (more ∷ []))
body_more words head registers body more e = ap (λ (x : List (List Word)). x ++ (more ∷ [])) e

new_name : (labels : List Placed) (name : List ℕ) (place : ℕ) → AllPairs (λ a b. a ≢ b) (map (λ (label : Placed). label.name) labels) → (Contains (map (λ (label : Placed). label.name) labels) name → ⊥)
    → AllPairs (λ a b. a ≢ b) (map (λ (label : Placed). label.name) (labels ++ (record { name = name; place = place } ∷ [])))
new_name labels name place once new =
    let names = map (λ (label : Placed). label.name) labels in
    subst (AllPairs (λ (a b : List ℕ). a ≢ b)) (sym (map-append (λ (label : Placed). label.name) labels (record { name = name; place = place } ∷ [])))
    (all_pairs_push (λ (a b : List ℕ). a ≢ b) names name once (λ k d low e. new (k, low, get_or_default names k name d low ∙ e)))

-- one more line in a section, which then has these labels and drafts
body_step : (version : Version) (sections : List Section) (head_line : ℕ) (section : Section) (labels : List Placed) (drafts : List Drafted) (all : List (List Word)) (words : List Word)
    → IsSpelled (progress version sections head_line (Within section)) all → ((body : List (List Word)) → AreDrafts version 0 section.labels section.drafts body → AreDrafts version 0 labels drafts (body ++ (words ∷ [])))
    → AllPairs (λ a b. a ≢ b) (map (λ (label : Placed). label.name) labels) → length drafts ≤ 4096
    → IsSpelled (progress version sections head_line (Within (record section { labels = labels; drafts = drafts }))) (all ++ (words ∷ []))
body_step version sections head_line section labels drafts all words s more once few =
    let x = s.place_is in
    record {
      front = s.front;
      done = s.done;
      current = s.current ++ (words ∷ []);
      parts = word_more all s.front s.done s.current words s.parts;
      front_is = s.front_is;
      sections_are = s.sections_are;
      place_is = record {
        head = x.head;
        registers = x.registers;
        body = x.body ++ (words ∷ []);
        parts = body_more s.current x.head x.registers x.body words x.parts;
        head_is = x.head_is;
        params_fit = x.params_fit;
        registers_are = x.registers_are;
        registers_fit = x.registers_fit;
        drafts_are = more x.body x.drafts_are;
        once = once;
        few = few;
      };
      few = s.few;
    }

label_step : (number : ℕ) (name : List ℕ) (goal : Option (List ℕ)) (version : Version) (sections : List Section) (head_line : ℕ) (place : Place) (all : List (List Word)) (words : List Word)
    → IsSpelled (progress version sections head_line place) all → IsRead version (record { statement = Label name; goal = goal }) words → MayFollow (Label name) (situation_of (progress version sections head_line place)) → goal ≡ None
    → IsSpelled (step number (Label name) goal (progress version sections head_line place)) (all ++ (words ∷ []))
label_step number name goal version sections head_line AtStart all words s r m g = start_body m.0
label_step number name goal version sections head_line VersionRead all words s r m g = version_body m.0
label_step number name goal version sections head_line (HeadRead kind params) all words s r m g = head_body m.0
label_step number name goal version sections head_line (Within section) all words s r m g =
    let here : 0 + length section.drafts ≡ length section.drafts = omega arith in
    body_step version sections head_line section (section.labels ++ (record { name = name; place = length section.drafts } ∷ [])) section.drafts all words s
    (λ body d.
    subst (λ (k : ℕ). AreDrafts version 0 (section.labels ++ (record { name = name; place = k } ∷ [])) section.drafts (body ++ (words ∷ []))) here
    (label_more version 0 section.labels section.drafts body name words d (plain version (Label name) goal words g r) (read_limits version (Label name) goal words r)))
    (new_name section.labels name (length section.drafts) s.place_is.once m.1) s.place_is.few

code_step : (number : ℕ) (i : Instr) (goal : Option (List ℕ)) (version : Version) (sections : List Section) (head_line : ℕ) (place : Place) (all : List (List Word)) (words : List Word)
    → IsSpelled (progress version sections head_line place) all → IsRead version (record { statement = Code i; goal = goal }) words → MayFollow (Code i) (situation_of (progress version sections head_line place))
    → IsSpelled (step number (Code i) goal (progress version sections head_line place)) (all ++ (words ∷ []))
code_step number i goal version sections head_line AtStart all words s r m = start_body m.0
code_step number i goal version sections head_line VersionRead all words s r m = version_body m.0
code_step number i goal version sections head_line (HeadRead kind params) all words s r m = head_body m.0
code_step number i goal version sections head_line (Within section) all words s r m =
    let draft : Drafted = record { instr = i; goal = goal; number = number } in
    body_step version sections head_line section section.labels (section.drafts ++ (draft ∷ [])) all words s
    (λ body d. draft_more version 0 section.labels section.drafts body draft words d r) s.place_is.once (omega (arith, m.1, length-append section.drafts (draft ∷ [])))

encoded_step : (number : ℕ) (statement : Statement) (goal : Option (List ℕ)) (p : Progress) (all : List (List Word)) (words : List Word)
    → IsSpelled p all → IsRead p.version (record { statement = statement; goal = goal }) words → MayFollow statement (situation_of p) → IsGoalOf statement goal → IsSpelled (step number statement goal p) (all ++ (words ∷ []))
encoded_step number (OfVersion n) goal p all words s r m g = version_step number n goal p.version p.sections p.head_line p.place all words s r m g
encoded_step number (Head kind params) goal p all words s r m g = head_step number kind params goal p.version p.sections p.head_line p.place all words s r m g
encoded_step number (Registers registers) goal p all words s r m g = registers_step number registers goal p.version p.sections p.head_line p.place all words s r m g
encoded_step number (Label name) goal p all words s r m g = label_step number name goal p.version p.sections p.head_line p.place all words s r m g
encoded_step number (Code i) goal p all words s r m g = code_step number i goal p.version p.sections p.head_line p.place all words s r m

pub record AreSpelledLines (number : ℕ) (p : Progress) (ls : List (List ℕ)) (reads : List (Option Read)) (all : List (List Word)) : Type 0 where
  pub words : List (List Word)
  pub lines_are : HaveWords ls words
  pub spelled : IsSpelled (progress_from number p reads) (all ++ words)

one_line : (ls : List (List ℕ)) (line : List ℕ) (ws : List Word) (words : List (List Word)) (first : Word) (after : List Word) → ws ≡ first ∷ after → IsLine ws line → HaveWords ls words → HaveWords (line ∷ ls) (ws ∷ words)
one_line ls line ws words first after e l h =
    subst (λ (x : List Word). HaveWords (line ∷ ls) (x ∷ words)) (sym e) (HaveWords.one_more line ls first after words (subst (λ (x : List Word). IsLine x line) e l) h)

pub encoded_lines : (number : ℕ) (p : Progress) (ls : List (List ℕ)) (reads : List (Option Read)) (all : List (List Word)) → LinesRead number p ls reads → IsSpelled p all → AreSpelledLines number p ls reads all
encoded_lines number p [] [] all r s = record { words = []; lines_are = HaveWords.end; spelled = subst (IsSpelled p) (sym (append-nil all)) s }
encoded_lines number p [] (read ∷ others) all r s = absurd r
encoded_lines number p (line ∷ after) [] all r s = absurd r
encoded_lines number p (line ∷ after) (None ∷ others) all r s =
    let t = encoded_lines (number + 1) p after others all r.1 s in
    record { words = t.words; lines_are = HaveWords.blank line after t.words r.0 t.lines_are; spelled = t.spelled }
encoded_lines number p (line ∷ after) (Some read ∷ others) all r s =
    let f = first_of_words AnyShortName read.statement r.0.0.0 (read_says p.version read r.0.0.0 r.0.0.2).0 in
    let t = encoded_lines (number + 1) (line_step number (Some read) p) after others (all ++ (r.0.0.0 ∷ [])) r.1 (encoded_step number read.statement read.goal p all r.0.0.0 s r.0.0.2 r.0.1 r.0.2) in
    record {
      words = r.0.0.0 ∷ t.words;
      lines_are = one_line after line r.0.0.0 t.words (Bare f.word) f.others f.parts r.0.0.1 t.lines_are;
      spelled = subst (IsSpelled (progress_from (number + 1) (line_step number (Some read) p) others)) (append_assoc all (r.0.0.0 ∷ []) t.words) t.spelled;
    }

-- ---- the whole program

pub record AreEnded (version : Version) (sections : List Section) (words : List (List Word)) : Type 0 where
  pub front : List (List Word)
  pub following : List (List Word)
  pub parts : words ≡ front ++ following
  pub version_is : EncodesVersion version front
  pub sections_are : AreSections version sections following
  pub some : 1 ≤ length sections
  pub few : length sections ≤ 64

ended_at : (version : Version) (sections : List Section) (head_line : ℕ) (place : Place) (words : List (List Word)) → IsSpelled (progress version sections head_line place) words → IsWhole (situation_of (progress version sections head_line place))
    → AreEnded version (ended sections place) words
ended_at version sections head_line AtStart words s w = start_body w.0
ended_at version sections head_line VersionRead words s w = version_body w.0
ended_at version sections head_line (HeadRead kind params) words s w = head_body w.0
ended_at version sections head_line (Within section) words s w = record {
  front = s.front;
  following = s.done ++ s.current;
  parts = s.parts;
  version_is = s.front_is;
  sections_are = section_more version sections s.done section s.current s.sections_are s.place_is w.1;
  some = omega (arith, length-append sections (section ∷ []));
  few = omega (arith, s.few, length-append sections (section ∷ []));
}

outset_encoded : IsSpelled outset []
outset_encoded = record { front = []; done = []; current = []; parts = refl; front_is = (refl, refl, refl, refl); sections_are = no_sections; place_is = refl; few = omega arith }

pub record AreSpelled (text : List ℕ) (version : Version) (sections : List Section) : Type 0 where
  pub words : List (List Word)
  pub lines_are : HaveWords (lines text) words
  pub ended : AreEnded version sections words

pub sections_encoded : (text : List ℕ) (version : Version) (all : List Section) → HasSections text version all → AreSpelled text version all
sections_encoded text version all h =
    let t = encoded_lines 1 outset (lines text) h.read.reads [] h.read.are_read outset_encoded in
    let s = subst (λ (p : Progress). IsSpelled p t.words) (sym h.read.progress) t.spelled in
    let e = ended_at h.p.version h.p.sections h.p.head_line h.p.place t.words s h.whole in
    record {
      words = t.words;
      lines_are = t.lines_are;
      ended = subst (λ (v : Version). AreEnded v all t.words) (sym h.version_is) (subst (λ (x : List Section). AreEnded h.p.version x t.words) (sym h.sections_are) e);
    }

pub is_program : (text : List ℕ) (version : Version) (all : List Section) (procedures : List Procedure) → HasSections text version all → AreLinkedProcedures all procedures → IsProgramOf version procedures
is_program text version all procedures h l =
    let s = sections_encoded text version all h in
    let m = linked_procedures version all s.ended.following procedures s.ended.sections_are l in
    ((omega (arith, m.1, s.ended.some), omega (arith, m.1, s.ended.few)), m.0)

pub encodes_program : (text : List ℕ) (version : Version) (all : List Section) (procedures : List Procedure) → HasSections text version all → AreLinkedProcedures all procedures
    → EncodesProgram (record { version = version; procedures = procedures }) text
encodes_program text version all procedures h l =
    let s = sections_encoded text version all h in
    record {
      front = s.ended.front;
      words = s.ended.following;
      lines_are = subst (HaveWords (lines text)) s.ended.parts s.lines_are;
      version_is = s.ended.version_is;
      procedures_are = linked_sections version all s.ended.following procedures s.ended.sections_are l;
      is_program = is_program text version all procedures h l;
    }

sections_within : (version : Version) (sections : List Section) (words : List (List Word)) → AreSections version sections words → AllByRecursion HasLabelsWithin sections
sections_within version _ _ no_sections = tt
sections_within version _ _ (a_section x others first after a n more) =
    (higher (0 + length x.drafts) 4096 x.labels (omega (arith, a.few)) (labels_within version 0 x.labels x.drafts a.body a.drafts_are), sections_within version others after more)

pub labels_fit : (text : List ℕ) (version : Version) (all : List Section) → HasSections text version all → AllByRecursion HasLabelsWithin all
labels_fit text version all h = let s = sections_encoded text version all h in sections_within version all s.ended.following s.ended.sections_are
