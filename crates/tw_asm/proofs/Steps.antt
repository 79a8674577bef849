-- Reading one more line.
use Rattle.std.proofs.Common.{◌≡◌, ◌⊎◌, ℕ, suc, ◌+◌, List, [], ◌∷◌, ◌++◌, length, map, Option, Some, None, Result, Ok, Err, MatchResult, inl, inr, refl, sym, subst, ap, ◌∙◌, arith}
use Rattle.tw_asm.proofs.AsmNames.{AfterHead, AnyShortName, AreNotRead, AreTextRead, AsmFault, AtStart, Code, EncodesInLimits, FaultNo, HasStatement, HaveStatements, Head, HeadRead, InBody, IsAtLine, IsLineFault, IsMemory, IsNotFinished, IsRead, IsShortName, IsUnfinished, Label, LineFault, LineRead, LinesRead, MayFollow, NoName, OfVersion, OnlyName, ParserState, Place, Placed, Progress, Read, Registers, Section, Stage, Statement, Version, VersionRead, Within, Word, after, after_line, all_lines, enumerate_from, length-append, line_step, lines, map-append, outset, progress_from, situation_from, situation_of, step}
use denote.Ref.{Bor}
use Rattle.tw_asm.proofs.Once.{encodes_more}
use Rattle.tw_asm.proofs.Stages.{body_head, body_start, head_body, head_start, progress, start_body, start_head, version_body, version_head, version_start}

-- ---- the state after a statement

abbrev counted : Version → Stage → ℕ → List (List ℕ) → ℕ → ℕ → ParserState
counted version stage head_line labels procedures instructions = record { version = version; stage = stage; procedures = procedures; head_line = head_line; labels = labels; instructions = instructions }

step_at : (number : ℕ) (statement : Statement) (goal : Option (List ℕ)) (version : Version) (sections : List Section) (head_line : ℕ) (place : Place) → MayFollow statement (situation_of (progress version sections head_line place))
    → situation_of (step number statement goal (progress version sections head_line place)) ≡ after number statement (situation_of (progress version sections head_line place))
step_at number (OfVersion n) goal version sections head_line AtStart m = refl
step_at number (OfVersion n) goal version sections head_line VersionRead m = version_start m
step_at number (OfVersion n) goal version sections head_line (HeadRead kind params) m = head_start m
step_at number (OfVersion n) goal version sections head_line (Within section) m = body_start m
step_at number (Head kind params) goal version sections head_line AtStart m =
    let e : length sections + 1 ≡ (length sections + 0) + 1 = omega arith in
    ap (λ (n : ℕ). counted version AfterHead number [] n 0) e
step_at number (Head kind params) goal version sections head_line VersionRead m =
    let e : length sections + 1 ≡ (length sections + 0) + 1 = omega arith in
    ap (λ (n : ℕ). counted version AfterHead number [] n 0) e
step_at number (Head kind params) goal version sections head_line (HeadRead k ps) m = elim (m.0) [ inl e ↦ absurd e | inr e ↦ head_body e.0 ]
step_at number (Head kind params) goal version sections head_line (Within section) m =
    let e : length (sections ++ (section ∷ [])) + 1 ≡ (length sections + 1) + 1 = omega (arith, length-append sections (section ∷ [])) in
    ap (λ (n : ℕ). counted version AfterHead number [] n 0) e
step_at number (Registers registers) goal version sections head_line AtStart m = start_head m
step_at number (Registers registers) goal version sections head_line VersionRead m = version_head m
step_at number (Registers registers) goal version sections head_line (HeadRead kind params) m = refl
step_at number (Registers registers) goal version sections head_line (Within section) m = body_head m
step_at number (Label name) goal version sections head_line AtStart m = start_body m.0
step_at number (Label name) goal version sections head_line VersionRead m = version_body m.0
step_at number (Label name) goal version sections head_line (HeadRead kind params) m = head_body m.0
step_at number (Label name) goal version sections head_line (Within section) m =
    ap (λ (names : List (List ℕ)). counted version InBody head_line names (length sections + 1) (length section.drafts)) (map-append (λ (label : Placed). label.name) section.labels (record { name = name; place = length section.drafts } ∷ []))
step_at number (Code i) goal version sections head_line AtStart m = start_body m.0
step_at number (Code i) goal version sections head_line VersionRead m = version_body m.0
step_at number (Code i) goal version sections head_line (HeadRead kind params) m = head_body m.0
step_at number (Code i) goal version sections head_line (Within section) m =
    let e : length (section.drafts ++ (record { instr = i; goal = goal; number = number } ∷ [])) ≡ length section.drafts + 1 = omega (arith, length-append section.drafts (record { instr = i; goal = goal; number = number } ∷ [])) in
    ap (λ (n : ℕ). counted version InBody head_line (map (λ (label : Placed). label.name) section.labels) (length sections + 1) n) e

pub step_after : (number : ℕ) (statement : Statement) (goal : Option (List ℕ)) (p : Progress) → MayFollow statement (situation_of p) → situation_of (step number statement goal p) ≡ after number statement (situation_of p)
step_after number statement goal p m = step_at number statement goal p.version p.sections p.head_line p.place m

-- ---- statements that are read are those of the text

only_short : (name : List ℕ) → IsShortName name → (skip : ℕ) (word : List ℕ) → OnlyName name skip word → AnyShortName skip word
only_short name short skip word only = subst IsShortName (sym only.1) short

said_at : (version : Version) (statement : Statement) (goal : Option (List ℕ)) (words : List Word) → IsRead version (record { statement = statement; goal = goal }) words → EncodesInLimits version statement words
said_at version statement None words r = (encodes_more NoName AnyShortName (λ skip name n. absurd n) statement words r.1, r.0)
said_at version statement (Some name) words r = (encodes_more (OnlyName name) AnyShortName (only_short name r.1.0) statement words r.1.1, r.0)

pub read_says : (version : Version) (read : Read) (words : List Word) → IsRead version read words → EncodesInLimits version read.statement words
read_says version read words r = said_at version read.statement read.goal words r

-- ---- lines

abbrev pub statement_of : Option Read → Option Statement
statement_of None = None
statement_of (Some read) = Some read.statement

abbrev pub said_by : List (Option Read) → List (Option Statement)
said_by reads = map statement_of reads

pub line_says : (s : ParserState) (line : List ℕ) (read : Option Read) → LineRead s line read → HasStatement s line (statement_of read)
line_says s line None r = r
line_says s line (Some read) r = ((r.0.0, r.0.1, read_says s.version read r.0.0 r.0.2), r.1)

pub line_after : (number : ℕ) (p : Progress) (line : List ℕ) (read : Option Read) → LineRead (situation_of p) line read → situation_of (line_step number read p) ≡ after_line number (statement_of read) (situation_of p)
line_after number p line None r = refl
line_after number p line (Some read) r = step_after number read.statement read.goal p r.1

pub lines_say : (number : ℕ) (p : Progress) (ls : List (List ℕ)) (reads : List (Option Read)) → LinesRead number p ls reads → HaveStatements number (situation_of p) ls (said_by reads)
lines_say number p [] [] r = tt
lines_say number p [] (read ∷ others) r = absurd r
lines_say number p (line ∷ after) [] r = absurd r
lines_say number p (line ∷ after) (read ∷ others) r =
    (line_says (situation_of p) line read r.0, subst (λ (s : ParserState). HaveStatements (number + 1) s after (said_by others)) (line_after number p line read r.0) (lines_say (number + 1) (line_step number read p) after others r.1))

pub situation_is : (number : ℕ) (p : Progress) (ls : List (List ℕ)) (reads : List (Option Read)) → LinesRead number p ls reads → situation_of (progress_from number p reads) ≡ situation_from number (situation_of p) (said_by reads)
situation_is number p [] [] r = refl
situation_is number p [] (read ∷ others) r = absurd r
situation_is number p (line ∷ after) [] r = absurd r
situation_is number p (line ∷ after) (read ∷ others) r =
    situation_is (number + 1) (line_step number read p) after others r.1 ∙ ap (λ (s : ParserState). situation_from (number + 1) s (said_by others)) (line_after number p line read r.0)

progress_more : (number : ℕ) (p : Progress) (reads : List (Option Read)) (read : Option Read) → progress_from number p (reads ++ (read ∷ [])) ≡ line_step (number + length reads) read (progress_from number p reads)
progress_more number p [] read =
    let e : number ≡ number + 0 = omega arith in
    ap (λ (n : ℕ). line_step n read p) e
progress_more number p (r ∷ reads) read =
    let e : (number + 1) + length reads ≡ number + suc (length reads) = omega arith in
    progress_more (number + 1) (line_step number r p) reads read ∙ ap (λ (n : ℕ). line_step n read (progress_from (number + 1) (line_step number r p) reads)) e

lines_more : (number : ℕ) (p : Progress) (ls : List (List ℕ)) (reads : List (Option Read)) (line : List ℕ) (read : Option Read) → LinesRead number p ls reads
    → LineRead (situation_of (progress_from number p reads)) line read → LinesRead number p (ls ++ (line ∷ [])) (reads ++ (read ∷ []))
lines_more number p [] [] line read r here = (here, tt)
lines_more number p [] (q ∷ others) line read r here = absurd r
lines_more number p (l ∷ after) [] line read r here = absurd r
lines_more number p (l ∷ after) (q ∷ others) line read r here = (r.0, lines_more (number + 1) (line_step number q p) after others line read r.1 here)

pub reads_length : (number : ℕ) (p : Progress) (ls : List (List ℕ)) (reads : List (Option Read)) → LinesRead number p ls reads → length reads ≡ length ls
reads_length number p [] [] r = refl
reads_length number p [] (read ∷ others) r = absurd r
reads_length number p (line ∷ after) [] r = absurd r
reads_length number p (line ∷ after) (read ∷ others) r = ap suc (reads_length (number + 1) (line_step number read p) after others r.1)

-- one more line is read
pub one_more : (ls : List (List ℕ)) (line : List ℕ) (p q : Progress) (read : Option Read) → AreTextRead ls p → LineRead (situation_of p) line read → q ≡ line_step (length ls + 1) read p → AreTextRead (ls ++ (line ∷ [])) q
one_more ls line p q read a r e =
    let here = subst (λ (x : Progress). LineRead (situation_of x) line read) a.progress r in
    let n : 1 + length a.reads ≡ length ls + 1 = omega (arith, reads_length 1 outset ls a.reads a.are_read) in
    record {
      reads = a.reads ++ (read ∷ []);
      are_read = lines_more 1 outset ls a.reads line read a.are_read here;
      progress = e ∙ ap (λ (x : Progress). line_step (length ls + 1) read x) a.progress ∙ ap (λ (k : ℕ). line_step k read (progress_from 1 outset a.reads)) (sym n) ∙ sym (progress_more 1 outset a.reads read);
    }

-- the next line has the fault
pub fault_there : (text : List ℕ) (before : List (List ℕ)) (line : List ℕ) (others : List (List ℕ)) (p : Progress) (which : FaultNo) (at : ℕ)
    → lines text ≡ before ++ (line ∷ others) → AreTextRead before p → LineFault (length before + 1) (situation_of p) line which at → IsLineFault text which at (Some (length before + 1))
fault_there text before line others p which at parts a f = record {
  before = before;
  line = line;
  others = others;
  parts = parts;
  said = said_by a.reads;
  say = lines_say 1 outset before a.reads a.are_read;
  wrong = subst (λ (s : ParserState). LineFault (length before + 1) s line which at) (ap situation_of a.progress ∙ situation_is 1 outset before a.reads a.are_read) f;
  found_is = refl;
}

-- the text may not end there
pub not_finished : (text : List ℕ) (p : Progress) (f : AsmFault) → AreTextRead (lines text) p → IsNotFinished p f → AreNotRead text f
not_finished text p f a (inl m) = inl m
not_finished text p f a (inr e) = inr (inr (
  e.2,
  record {
    said = said_by a.reads;
    say = lines_say 1 outset (lines text) a.reads a.are_read;
    number = e.0;
    unfinished = subst (λ (s : ParserState). IsUnfinished s f.line) (ap situation_of a.progress ∙ situation_is 1 outset (lines text) a.reads a.are_read) e.1;
  },
))

pub match_more : {A E : Type 0} {P Q : A → Type 0} {R S : E → Type 0} (r : Result A E) → ((a : A) → P a → Q a) → ((e : E) → R e → S e) → MatchResult r P R → MatchResult r Q S
match_more (Ok a) good bad m = good a m
match_more (Err e) good bad m = bad e m

taken_more : (ls : List (List ℕ)) (line : List ℕ) (index : ℕ) (p q : Progress) → index ≡ length ls → AreTextRead ls p → ((read : Option Read) × LineRead (situation_of p) line read × (q ≡ line_step (index + 1) read p)) → AreTextRead (ls ++ (line ∷ [])) q
taken_more ls line index p q e a t = one_more ls line p q t.0 a t.1 (t.2 ∙ ap (λ (k : ℕ). line_step (k + 1) t.0 p) e)

pub items_more : (items : List (ℕ × Bor (List ℕ))) (item : ℕ × Bor (List ℕ)) (p q : Progress) → item.0 ≡ length (map (λ (x : ℕ × Bor (List ℕ)). x.1.now) items) → AreTextRead (map (λ x. x.1.now) items) p
    → ((read : Option Read) × LineRead (situation_of p) item.1.now read × (q ≡ line_step (item.0 + 1) read p)) → AreTextRead (map (λ x. x.1.now) (items ++ (item ∷ []))) q
items_more items item p q e a t =
    subst (λ (ls : List (List ℕ)). AreTextRead ls q) (sym (map-append (λ (x : ℕ × Bor (List ℕ)). x.1.now) items (item ∷ []))) (taken_more (map (λ (x : ℕ × Bor (List ℕ)). x.1.now) items) item.1.now item.0 p q e a t)

pub line_stopped : (text : List ℕ) (before : List (List ℕ)) (line : List ℕ) (index : ℕ) (p : Progress) (f : AsmFault) → IsAtLine (lines text) before index line → AreTextRead before p
    → IsMemory f ⊎ LineFault (index + 1) (situation_of p) line f.no f.line → IsMemory f ⊎ IsLineFault text f.no f.line (Some (index + 1))
line_stopped text before line index p f s a (inl m) = inl m
line_stopped text before line index p f s a (inr x) =
    inr (subst (λ (k : ℕ). IsLineFault text f.no f.line (Some (k + 1))) (sym s.index_is) (fault_there text before line s.others p f.no f.line s.parts a (subst (λ (k : ℕ). LineFault (k + 1) (situation_of p) line f.no f.line) s.index_is x)))

pub lines_end : (ls : List (List ℕ)) (items : List (ℕ × Bor (List ℕ))) (p : Progress) → map (λ (item : ℕ × Bor (List ℕ)). (item.0, item.1.now)) items ≡ enumerate_from 0 ls → AreTextRead (map (λ item. item.1.now) items) p → AreTextRead ls p
lines_end ls items p e a = subst (λ (x : List (List ℕ)). AreTextRead x p) (all_lines ls items e) a
