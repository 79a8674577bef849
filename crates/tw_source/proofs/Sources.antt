-- The line of a text that is printed.
use Rattle.std.proofs.Common.{◌≡◌, ℕ, zero, suc, ◌+◌, ◌-◌, ◌<◌, ◌≤◌, Bool, true, false, cond, List, [], ◌∷◌, ◌++◌, filter, length, take, Option, Some, None, MatchOption, inl, inr, refl, subst, ap, ◌∙◌, arith}
use Rattle.std.specs.Prelude.{IfSome, String, string_bytes}
use Rattle.std.specs.declared.alloc.Global.{Global}
use Rattle.tw_source.proofs.ReplyNames.{AreOrigins, ComesFrom, HaveStatements, Procedure, ParserState, ExpandsTo, after_line, at_place, at_start, instr_at, length-append, lines}
use Rattle.std.specs.List.{slice_get}
use Rattle.tw_asm.specs.Fault.{situation, situation_from}
use Rattle.tw_asm.specs.Statement.{Statement, Code, Head, Label, OfVersion, Registers}
use Rattle.tw_diagnostics.specs.FirstHead.{HasNoHead, IsFirstHead, is_head}
use Rattle.tw_symbols.proofs.RenamedLines.{as_many}
use Rattle.tw_source.specs.Source.{IsExpanded, plain_or, written}
use Rattle.tw_source.specs.Program.{IsKept}
use Rattle.tw_source.specs.Text.{IsFromLine, IsLineOfError}
use Rattle.tw_symbols.specs.Expansion.{HasNames, IsWrittenAt, written_line}
use Rattle.tw_symbols.specs.Renamed.{IsRenamed, is_written}
use Rattle.tw_verify.specs.declared.rejection.VerifyError.{VerifyError}
use Rattle.tw_verify.specs.declared.rejection.VerifyError.TheVariants as rejection

-- the lines are as many as their statements
pub said_length : (number : ℕ) (s : ParserState) (ls : List (List ℕ)) (said : List (Option Statement)) → HaveStatements number s ls said → length said ≡ length ls
said_length number s [] [] h = refl
said_length number s [] (x ∷ said) h = absurd h
said_length number s (line ∷ ls) [] h = absurd h
said_length number s (line ∷ ls) (x ∷ said) h = ap suc (said_length (number + 1) (after_line number x s) ls said h.1)

none_past : {X : Type 0} (xs : List X) (k : ℕ) → slice_get xs k ≡ None → length xs < k + 1
none_past [] k e = omega arith
none_past (x ∷ xs) zero e = absurd cc
none_past (x ∷ xs) (suc k) e = let h = none_past xs k e in omega (arith, h)

-- ---- the written line of a line of the expanded text

pub expands : (text : List ℕ) (found : Option (String Global)) → IsExpanded text found → ExpandsTo text (plain_or text found)
expands text None none = inr (none, refl)
expands text (Some plain) is = inl is

pub expanded : (text : List ℕ) (found : Option (String Global)) → IsKept text found → IfSome found (λ plain. IsRenamed text (string_bytes plain)) → IsExpanded text found
expanded text None kept is = kept
expanded text (Some plain) kept is = (kept.0, is)

pub written_at : (text : List ℕ) (found : Option (String Global)) (number : ℕ) → IsExpanded text found → IsWrittenAt text (plain_or text found) number (written found number)
written_at text None number none = inr (none, refl)
written_at text (Some plain) number is = inl (is.0, refl)

some_lines : (ls : List (List ℕ)) → HasNames ls → 1 ≤ length ls
some_lines [] names = absurd names
some_lines (line ∷ ls) names = omega arith

few_written : (n : ℕ) (ls : List (List ℕ)) → length (filter is_written (take n ls)) ≤ length (filter is_written ls)
few_written zero ls = omega arith
few_written (suc n) [] = omega arith
few_written (suc n) (line ∷ ls) = by (is_written line) (filter is_written (take n ls)) (filter is_written ls) (few_written n ls)
  where
    by : (t : Bool) (a b : List (List ℕ)) → length a ≤ length b → length (cond t (line ∷ a) a) ≤ length (cond t (line ∷ b) b)
    by true a b h = omega (arith, h)
    by false a b h = h

-- the line from which an instruction comes is there
pub line_there : (text : List ℕ) (procedure place number : ℕ) → IsFromLine text procedure place number → slice_get (lines text) (number - 1) ≡ None → ⊥
line_there text procedure place number (plain, at, inl (names, is), c, inl (_, same)) gone =
    let past = none_past (lines text) (number - 1) gone in
    let few : written_line plain at ≤ length (filter is_written (lines plain)) = few_written at (lines plain) in
    let all = as_many text plain is in
    let some = some_lines (lines text) names in
    absurd (omega (arith, past, few, all, some, same))
line_there text procedure place number (plain, at, inl (names, is), c, inr (none, same)) gone = absurd (none names)
line_there text procedure place number (plain, at, inr (none, same), c, inl (names, also)) gone = absurd (none names)
line_there text procedure place number (plain, at, inr (none, same), c, inr (_, also)) gone =
    let past = none_past (lines text) (number - 1) gone in
    let all = said_length 1 at_start (lines plain) c.said c.say ∙ ap (λ (t : List ℕ). length (lines t)) same in
    let long = ap length c.parts ∙ length-append c.before (Some (Code c.i) ∷ c.after) in
    absurd (omega (arith, past, all, long, c.number_is, also))

-- the line of an instruction at a place
pub comes_from : (text : List ℕ) (program : List Procedure) (numbers : List (List ℕ)) (procedure place number : ℕ) → AreOrigins text program numbers → at_place numbers procedure place ≡ Some number
    → ComesFrom text procedure place number
comes_from text program numbers procedure place number o e =
    subst (λ (x : Option ℕ). MatchOption x (instr_at program procedure place ≡ None) (ComesFrom text procedure place)) e (o procedure place)

-- an instruction that is there comes from a line
pub some_origin : (text : List ℕ) (program : List Procedure) (numbers : List (List ℕ)) (procedure place : ℕ) → AreOrigins text program numbers → (instr_at program procedure place ≡ None → ⊥)
    → (number : ℕ) × ComesFrom text procedure place number × (at_place numbers procedure place ≡ Some number)
some_origin text program numbers procedure place o there = by (at_place numbers procedure place) (o procedure place)
  where
    by : (x : Option ℕ) → MatchOption x (instr_at program procedure place ≡ None) (ComesFrom text procedure place) → (number : ℕ) × ComesFrom text procedure place number × (x ≡ Some number)
    by None h = absurd (there h)
    by (Some number) h = (number, h, refl)

untrue : true ≡ false → ⊥
untrue e = cc

none_begun : (number : ℕ) (s : ParserState) (said : List (Option Statement)) → HasNoHead said → (situation_from number s said).procedures ≡ s.procedures
none_begun number s [] h = refl
none_begun number s (x ∷ said) h = none_begun (number + 1) (after_line number x s) said h.1 ∙ by x h.0
  where
    by : (y : Option Statement) → is_head y ≡ false → (after_line number y s).procedures ≡ s.procedures
    by None e = refl
    by (Some (OfVersion version)) e = refl
    by (Some (Head kind params)) e = absurd (untrue e)
    by (Some (Registers registers)) e = refl
    by (Some (Label name)) e = refl
    by (Some (Code i)) e = refl

front_none : (xs ys : List (Option Statement)) → HasNoHead (xs ++ ys) → HasNoHead xs
front_none [] ys h = tt
front_none (x ∷ xs) ys h = (h.0, front_none xs ys h.1)

-- no procedure begins before a line if none begins at all
front_no_procedure : (before after : List (Option Statement)) → HasNoHead (before ++ after) → (situation before).procedures ≡ 0
front_no_procedure before after h = none_begun 1 at_start before (front_none before after h)

-- a line before an instruction begins a procedure
pub some_head : (text : List ℕ) (procedure place number : ℕ) (c : ComesFrom text procedure place number) → HasNoHead c.said → ⊥
some_head text procedure place number c none =
    let zero' = front_no_procedure c.before (Some (Code c.i) ∷ c.after) (subst HasNoHead c.parts none) in
    absurd (omega (arith, zero', c.procedure_is))

-- the line of the first head is there, if an instruction comes from a line
pub main_line : (text : List ℕ) (procedure place number : ℕ) (found : Option ℕ) → ComesFrom text procedure place number
    → ((said : List (Option Statement)) → HaveStatements 1 at_start (lines text) said → MatchOption found (HasNoHead said) (IsFirstHead text)) → (first : ℕ) × IsFirstHead text first × (found ≡ Some first)
main_line text procedure place number None c h = absurd (some_head text procedure place number c (h c.said c.say))
main_line text procedure place number (Some first) c h = (first, h c.said c.say, refl)

pub other_line : (which : VerifyError) (plain : List ℕ) (procedure place number : ℕ) → (which ≡ rejection.MainShape → ⊥) → ComesFrom plain procedure place number → IsLineOfError which plain procedure place number
other_line rejection.MainShape plain procedure place number other h = absurd (other refl)
other_line which plain procedure place number other h = h

pub from_line : (text : List ℕ) (found : Option (String Global)) (procedure place number : ℕ) → IsExpanded text found → ComesFrom (plain_or text found) procedure place number → IsFromLine text procedure place (written found number)
from_line text found procedure place number is c = (plain_or text found, number, expands text found is, c, written_at text found number is)
