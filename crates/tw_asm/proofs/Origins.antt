-- The line numbers that are kept for instructions are those of their lines.
use Rattle.tw_asm.proofs.AsmNames.{AreLinkedProcedures, AtStart, Code, Drafted, HasSections, Head, HeadRead, Instr, Kind, Label, LineRead, LinesRead, List, MatchOption, MayFollow, None, OfVersion, Option, Param, ParserState, Place, Procedure, Progress, Read, Registers, Section, Some, Statement, Version, VersionRead, Within, [], after_line, ap, append-nil, append_assoc, arith, ended, get_or, inl, inr, length, length-append, length-map, line_step, lines, map, map-append, outset, progress_from, refl, section_numbers, situation, situation_from, situation_of, slice_get, step, subst, suc, sym, take, zero, ℕ, ◌++◌, ◌+◌, ◌<◌, ◌∙◌, ◌∷◌, ◌≡◌, ◌⊎◌}
use Rattle.tw_asm.specs.Origins.{AreOrigins, ComesFrom, at_place, instr_at}
use Rattle.tw_asm.proofs.Linked.{linked_length}
use Rattle.tw_asm.proofs.Stages.{body_head, body_start, head_body, head_start, progress, start_body, start_head, version_body, version_head, version_start}
use Rattle.tw_asm.proofs.Steps.{line_after, lines_say, said_by, statement_of}

-- ---- a list of lists that grows at its end

-- one more item in the last list: the other items are unchanged
pub last_more : {X : Type 0} (lists : List (List X)) (items : List X) (item x : X) (k j : ℕ) → at_place (lists ++ ((items ++ (item ∷ [])) ∷ [])) k j ≡ Some x
    → (at_place (lists ++ (items ∷ [])) k j ≡ Some x) ⊎ ((k ≡ length lists) × (j ≡ length items) × (x ≡ item))
last_more {X} [] items item x zero j e = elim (within items j e) [ inl old ↦ inl old | inr new ↦ inr (refl, new.0, new.1) ]
  where
    within : (xs : List X) (n : ℕ) → slice_get (xs ++ (item ∷ [])) n ≡ Some x → (slice_get xs n ≡ Some x) ⊎ ((n ≡ length xs) × (x ≡ item))
    within [] zero e = inr (refl, sym cc)
    within [] (suc n) e = absurd cc
    within (y ∷ ys) zero e = inl e
    within (y ∷ ys) (suc n) e = elim (within ys n e) [ inl old ↦ inl old | inr new ↦ inr (ap suc new.0, new.1) ]
last_more {X} [] items item x (suc k) j e = absurd cc
last_more {X} (list ∷ lists) items item x zero j e = inl e
last_more {X} (list ∷ lists) items item x (suc k) j e = elim (last_more lists items item x k j e) [ inl old ↦ inl old | inr new ↦ inr (ap suc new.0, new.1, new.2) ]

-- one more empty list: all items are unchanged
pub empty_more : {X : Type 0} (lists : List (List X)) (x : X) (k j : ℕ) → at_place (lists ++ ([] ∷ [])) k j ≡ Some x → at_place lists k j ≡ Some x
empty_more [] x zero j e = absurd cc
empty_more [] x (suc k) j e = absurd cc
empty_more (list ∷ lists) x zero j e = e
empty_more (list ∷ lists) x (suc k) j e = empty_more lists x k j e

-- ---- a list that is mapped item by item

taken : {A B C : Type 0} (v : A → B) (f : B → C) (xs : List A) (i : ℕ) (x : A) → i < length xs → x ≡ get_or xs i x → take (suc i) (map f (map v xs)) ≡ take i (map f (map v xs)) ++ (f (v x) ∷ [])
taken v f [] i x low e = absurd (omega (arith, low))
taken v f (y ∷ xs) zero x low e = ap (λ z. f (v z) ∷ []) (sym e)
taken v f (y ∷ xs) (suc i) x low e = ap (λ ys. f (v y) ∷ ys) (taken v f xs i x (omega (arith, low)) e)

pub one_taken : {A B C : Type 0} (v : A → B) (f : B → C) (xs : List A) (i : ℕ) (x : A) (done more : List C) → i < length xs → x ≡ get_or xs i x → done ≡ take i (map f (map v xs)) → more ≡ done ++ (f (v x) ∷ [])
    → more ≡ take (i + 1) (map f (map v xs))
one_taken {A} {B} {C} v f xs i x done more low e is grown =
    let next : i + 1 ≡ suc i = omega arith in
    grown ∙ ap (λ (ys : List C). ys ++ (f (v x) ∷ [])) is ∙ sym (taken v f xs i x low e) ∙ ap (λ (n : ℕ). take n (map f (map v xs))) (sym next)

-- ---- statements of lines

-- these statements have the instruction at this place of this procedure in the line with this number
pub record IsSaid (said : List (Option Statement)) (procedure place number : ℕ) : Type 0 where
  pub before : List (Option Statement)
  pub i : Instr
  pub after : List (Option Statement)
  pub parts : said ≡ before ++ (Some (Code i) ∷ after)
  pub number_is : number ≡ length before + 1
  pub procedure_is : (situation before).procedures ≡ procedure + 1
  pub place_is : (situation before).instructions ≡ place

said_before : (said : List (Option Statement)) (more : Option Statement) (procedure place number : ℕ) → IsSaid said procedure place number → IsSaid (said ++ (more ∷ [])) procedure place number
said_before said more procedure place number s = record {
  before = s.before;
  i = s.i;
  after = s.after ++ (more ∷ []);
  parts = ap (λ (x : List (Option Statement)). x ++ (more ∷ [])) s.parts ∙ append_assoc s.before (Some (Code s.i) ∷ s.after) (more ∷ []);
  number_is = s.number_is;
  procedure_is = s.procedure_is;
  place_is = s.place_is;
}

situation_more : (number : ℕ) (s : ParserState) (said : List (Option Statement)) (more : Option Statement) → situation_from number s (said ++ (more ∷ [])) ≡ after_line (number + length said) more (situation_from number s said)
situation_more number s [] more =
    let e : number ≡ number + 0 = omega arith in
    ap (λ (n : ℕ). after_line n more s) e
situation_more number s (x ∷ said) more =
    let e : (number + 1) + length said ≡ number + suc (length said) = omega arith in
    situation_more (number + 1) (after_line number x s) said more ∙ ap (λ (n : ℕ). after_line n more (situation_from (number + 1) (after_line number x s) said)) e

-- ---- the state of the reader

abbrev kept : List Section → Place → List (List ℕ)
kept sections place = map section_numbers (ended sections place)

-- holds if each number is that of the instruction's line
abbrev AreSaid : List (Option Statement) → List (List ℕ) → Type 0
AreSaid said numbers = (k j n : ℕ) → at_place numbers k j ≡ Some n → IsSaid said k j n

saids_more : (said : List (Option Statement)) (more : Option Statement) (numbers others : List (List ℕ)) → AreSaid said numbers → ((k j n : ℕ) → at_place others k j ≡ Some n → at_place numbers k j ≡ Some n)
    → AreSaid (said ++ (more ∷ [])) others
saids_more said more numbers others a back k j n e = said_before said more k j n (a k j n (back k j n e))

kept_within : (sections : List Section) (section : Section) → kept sections (Within section) ≡ map section_numbers sections ++ (section_numbers section ∷ [])
kept_within sections section = map-append section_numbers sections (section ∷ [])

head_said : (number : ℕ) (kind : Kind) (params : List Param) (goal : Option (List ℕ)) (sections : List Section) (head_line : ℕ) (place : Place) (said : List (Option Statement)) → AreSaid said (kept sections place)
    → AreSaid (said ++ (Some (Head kind params) ∷ [])) (kept (ended sections place) (HeadRead kind params))
head_said number kind params goal sections head_line place said a = saids_more said (Some (Head kind params)) (kept sections place) (kept sections place) a (λ k j n e. e)

code_said : (i : Instr) (goal : Option (List ℕ)) (number : ℕ) (version : Version) (sections : List Section) (head_line : ℕ) (section : Section) (said : List (Option Statement)) → AreSaid said (kept sections (Within section))
    → number ≡ length said + 1 → situation_of (progress version sections head_line (Within section)) ≡ situation said
    → AreSaid (said ++ (Some (Code i) ∷ [])) (kept sections (Within (record section { drafts = section.drafts ++ (record { instr = i; goal = goal; number = number } ∷ []) })))
code_said i goal number version sections head_line section said a number_is is k j n e =
    let draft : Drafted = record { instr = i; goal = goal; number = number } in
    let grown = kept_within sections (record section { drafts = section.drafts ++ (draft ∷ []) }) ∙ ap (λ (ns : List ℕ). map section_numbers sections ++ (ns ∷ [])) (map-append (λ (d : Drafted). d.number) section.drafts (draft ∷ [])) in
    let there = subst (λ (ns : List (List ℕ)). at_place ns k j ≡ Some n) grown e in
    elim (last_more (map section_numbers sections) (section_numbers section) number n k j there) [
      | inl old ↦ said_before said (Some (Code i)) k j n (a k j n (subst (λ (ns : List (List ℕ)). at_place ns k j ≡ Some n) (sym (kept_within sections section)) old))
      | inr new ↦ record {
        before = said;
        i = i;
        after = [];
        parts = refl;
        number_is = new.2 ∙ number_is;
        procedure_is = ap (λ (s : ParserState). s.procedures) (sym is) ∙ ap (λ (c : ℕ). c + 1) (sym (new.0 ∙ length-map sections section_numbers));
        place_is = ap (λ (s : ParserState). s.instructions) (sym is) ∙ sym (new.1 ∙ length-map section.drafts (λ (d : Drafted). d.number));
      }
    ]

statement_said : (number : ℕ) (statement : Statement) (goal : Option (List ℕ)) (version : Version) (sections : List Section) (head_line : ℕ) (place : Place) (said : List (Option Statement)) → AreSaid said (kept sections place)
    → MayFollow statement (situation_of (progress version sections head_line place)) → number ≡ length said + 1 → situation_of (progress version sections head_line place) ≡ situation said
    → AreSaid (said ++ (Some statement ∷ [])) (kept (step number statement goal (progress version sections head_line place)).sections (step number statement goal (progress version sections head_line place)).place)
statement_said number (OfVersion n) goal version sections head_line AtStart said a m number_is is = saids_more said (Some (OfVersion n)) (kept sections AtStart) (kept sections AtStart) a (λ k j n e. e)
statement_said number (OfVersion n) goal version sections head_line VersionRead said a m number_is is = version_start m
statement_said number (OfVersion n) goal version sections head_line (HeadRead kind params) said a m number_is is = head_start m
statement_said number (OfVersion n) goal version sections head_line (Within section) said a m number_is is = body_start m
statement_said number (Head kind params) goal version sections head_line place said a m number_is is = head_said number kind params goal sections head_line place said a
statement_said number (Registers registers) goal version sections head_line AtStart said a m number_is is = start_head m
statement_said number (Registers registers) goal version sections head_line VersionRead said a m number_is is = version_head m
statement_said number (Registers registers) goal version sections head_line (HeadRead kind params) said a m number_is is =
    let new : Section = record { kind = kind; params = params; registers = registers; labels = []; drafts = [] } in
    saids_more said (Some (Registers registers)) (map section_numbers sections) (kept sections (Within new)) a
    (λ k j n e. empty_more (map section_numbers sections) n k j (subst (λ (ns : List (List ℕ)). at_place ns k j ≡ Some n) (kept_within sections new) e))
statement_said number (Registers registers) goal version sections head_line (Within section) said a m number_is is = body_head m
statement_said number (Label name) goal version sections head_line AtStart said a m number_is is = start_body m.0
statement_said number (Label name) goal version sections head_line VersionRead said a m number_is is = version_body m.0
statement_said number (Label name) goal version sections head_line (HeadRead kind params) said a m number_is is = head_body m.0
statement_said number (Label name) goal version sections head_line (Within section) said a m number_is is =
    let new : Section = record section { labels = section.labels ++ (record { name = name; place = length section.drafts } ∷ []) } in
    saids_more said (Some (Label name)) (kept sections (Within section)) (kept sections (Within new)) a
    (λ k j n e. subst (λ (ns : List (List ℕ)). at_place ns k j ≡ Some n) (kept_within sections new ∙ sym (kept_within sections section)) e)
statement_said number (Code i) goal version sections head_line AtStart said a m number_is is = start_body m.0
statement_said number (Code i) goal version sections head_line VersionRead said a m number_is is = version_body m.0
statement_said number (Code i) goal version sections head_line (HeadRead kind params) said a m number_is is = head_body m.0
statement_said number (Code i) goal version sections head_line (Within section) said a m number_is is = code_said i goal number version sections head_line section said a number_is is

line_said : (number : ℕ) (line : List ℕ) (read : Option Read) (p : Progress) (said : List (Option Statement)) → AreSaid said (kept p.sections p.place) → LineRead (situation_of p) line read
    → number ≡ length said + 1 → situation_of p ≡ situation said → AreSaid (said ++ (statement_of read ∷ [])) (kept (line_step number read p).sections (line_step number read p).place)
line_said number line None p said a r number_is is = saids_more said None (kept p.sections p.place) (kept p.sections p.place) a (λ k j n e. e)
line_said number line (Some read) p said a r number_is is = statement_said number read.statement read.goal p.version p.sections p.head_line p.place said a r.1 number_is is

lines_said : (number : ℕ) (p : Progress) (said : List (Option Statement)) (ls : List (List ℕ)) (reads : List (Option Read)) → AreSaid said (kept p.sections p.place) → LinesRead number p ls reads
    → number ≡ length said + 1 → situation_of p ≡ situation said → AreSaid (said ++ said_by reads) (kept (progress_from number p reads).sections (progress_from number p reads).place)
lines_said number p said [] [] a r number_is is = subst (λ (x : List (Option Statement)). AreSaid x (kept p.sections p.place)) (sym (append-nil said)) a
lines_said number p said [] (read ∷ others) a r number_is is = absurd r
lines_said number p said (line ∷ more) [] a r number_is is = absurd r
lines_said number p said (line ∷ more) (read ∷ others) a r number_is is =
    let next = line_step number read p in
    let on : number ≡ 1 + length said = omega (arith, number_is) in
    let now : situation_of next ≡ situation (said ++ (statement_of read ∷ [])) =
    line_after number p line read r.0 ∙ ap (λ (s : ParserState). after_line number (statement_of read) s) is
    ∙ ap (λ (n : ℕ). after_line n (statement_of read) (situation said)) on ∙ sym (situation_more 1 situation_start said (statement_of read)) in
    subst (λ (x : List (Option Statement)). AreSaid x (kept (progress_from (number + 1) next others).sections (progress_from (number + 1) next others).place)) (append_assoc said (statement_of read ∷ []) (said_by others))
    (lines_said (number + 1) next (said ++ (statement_of read ∷ [])) more others (line_said number line read p said a r.0 number_is is) r.1
    (omega (arith, number_is, length-append said (statement_of read ∷ []))) now)
  where
    situation_start : ParserState
    situation_start = situation []

none_said : AreSaid [] (kept [] AtStart)
none_said k j n e = absurd cc

-- ---- the whole text

text_said : (text : List ℕ) (version : Version) (all : List Section) → HasSections text version all → (k j n : ℕ) → at_place (map section_numbers all) k j ≡ Some n → ComesFrom text k j n
text_said text version all h k j n e =
    let reads = h.read.reads in
    let s = lines_said 1 outset [] (lines text) reads none_said h.read.are_read refl refl k j n
    (subst (λ (p : Progress). at_place (kept p.sections p.place) k j ≡ Some n) h.read.progress (subst (λ (x : List Section). at_place (map section_numbers x) k j ≡ Some n) h.sections_are e)) in
    record {
      said = said_by reads;
      say = lines_say 1 outset (lines text) reads h.read.are_read;
      before = s.before;
      i = s.i;
      after = s.after;
      parts = s.parts;
      number_is = s.number_is;
      procedure_is = s.procedure_is;
      place_is = s.place_is;
    }

-- ---- without a number there is no instruction

none_there : {X Y : Type 0} (xs : List X) (ys : List Y) (k : ℕ) → length ys ≡ length xs → slice_get xs k ≡ None → slice_get ys k ≡ None
none_there [] [] k e n = refl
none_there [] (y ∷ ys) k e n = absurd (omega (arith, e))
none_there (x ∷ xs) [] k e n = refl
none_there (x ∷ xs) (y ∷ ys) zero e n = absurd cc
none_there (x ∷ xs) (y ∷ ys) (suc k) e n = none_there xs ys k (omega (arith, e)) n

no_instr : (sections : List Section) (procedures : List Procedure) → AreLinkedProcedures sections procedures → (k j : ℕ) → at_place (map section_numbers sections) k j ≡ None → instr_at procedures k j ≡ None
no_instr [] [] l k j n = refl
no_instr [] (p ∷ ps) l k j n = absurd l
no_instr (s ∷ ss) [] l k j n = absurd l
no_instr (s ∷ ss) (p ∷ ps) l zero j n =
    none_there (section_numbers s) p.code j (linked_length s.labels 0 s.drafts p.code l.0.code ∙ sym (length-map s.drafts (λ (d : Drafted). d.number))) n
no_instr (s ∷ ss) (p ∷ ps) l (suc k) j n = no_instr ss ps l.1 k j n

either : {X : Type 0} {N : Type 0} {S : X → Type 0} (o : Option X) → (o ≡ None → N) → ((x : X) → o ≡ Some x → S x) → MatchOption o N S
either None none some = none refl
either (Some x) none some = some x refl

pub origins : (text : List ℕ) (version : Version) (all : List Section) (procedures : List Procedure) → HasSections text version all → AreLinkedProcedures all procedures → AreOrigins text procedures (map section_numbers all)
origins text version all procedures h l k j = either (at_place (map section_numbers all) k j) (no_instr all procedures l k j) (text_said text version all h k j)
