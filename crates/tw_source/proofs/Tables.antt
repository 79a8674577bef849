-- Lines that are looked up by those of the expanded text.
use Rattle.std.proofs.Common.{◌≡◌, ◌∙◌, ℕ, suc, zero, ◌+◌, ◌-◌, ◌<◌, ◌≤◌, Bool, true, false, List, [], ◌∷◌, ◌++◌, Option, Some, None, MatchOption, ap, arith, cond, filter, get_or, length, map, refl, subst, sym, take}
use denote.Ref.{Bor}
use Rattle.std.specs.Prelude.{String, string_bytes, unwrap_or}
use Rattle.std.specs.Str.Lines.{lines}
use Rattle.std.specs.declared.alloc.Global.{Global}
use Rattle.tw_source.proofs.ReplyNames.{ComesFrom, HaveStatements, Procedure, at_start, instr_at, length-append, slice_get}
use Rattle.tw_source.proofs.Sources.{from_line, line_there, said_length}
use Rattle.tw_asm.specs.Statement.{Code}
use Rattle.tw_source.specs.Source.{IsExpanded, plain_or, written}
use Rattle.tw_source.specs.Text.{IsFromLine, IsLineAt, IsLineOf}
use Rattle.tw_source.specs.WrittenLines.{AreNumbers, AreWritten, IsTable, number_at}
use Rattle.tw_source.specs.declared.text_lines.TextLines.{TextLines}
use Rattle.tw_symbols.specs.Expansion.{written_line}
use Rattle.tw_symbols.specs.Renamed.{is_written}

some_at : (numbers : List ℕ) (index other : ℕ) → index < length numbers → slice_get numbers index ≡ Some (get_or numbers index other)
some_at [] index other low = absurd (omega (arith, low))
some_at (n ∷ numbers) zero other low = refl
some_at (n ∷ numbers) (suc index) other low = some_at numbers index other (omega (arith, low))

-- the number in the table is that of the written line
number_is : (text : List ℕ) (found : Option (String Global)) (numbers : List ℕ) (procedure place own : ℕ) → AreWritten found numbers → ComesFrom (plain_or text found) procedure place own → number_at numbers own ≡ written found own
number_is text None numbers procedure place own none c = ap (λ (ns : List ℕ). number_at ns own) none
number_is text (Some plain) numbers procedure place own are c =
    let all = said_length 1 at_start (lines (string_bytes plain)) c.said c.say in
    let long = ap length c.parts ∙ length-append c.before (Some (Code c.i) ∷ c.after) in
    let low : own - 1 < length (lines (string_bytes plain)) = omega (arith, all, long, c.number_is) in
    let here = some_at numbers (own - 1) 0 (omega (arith, low, are.count)) in
    let back : (own - 1) + 1 ≡ own = omega (arith, c.number_is) in
    ap (λ (x : Option ℕ). unwrap_or x own) here ∙ are.each (own - 1) low ∙ ap (written_line (string_bytes plain)) back

pub found_in : (table : TextLines) (text : List ℕ) (plain : Option (String Global)) (program : List Procedure) (procedure place own : ℕ) → IsTable table text plain → IsExpanded text plain → ComesFrom (plain_or text plain) procedure place own
    → (found : Option (ℕ × Bor (List ℕ)))
    → MatchOption found (slice_get (map (λ (line : Bor (List ℕ)). line.now) table.lines.items) (number_at table.written.items own - 1) ≡ None)
    (λ f. (f.0 ≡ number_at table.written.items own) × IsLineAt (map (λ (line : Bor (List ℕ)). line.now) table.lines.items) f.0 f.1.now)
    → MatchOption found (instr_at program procedure place ≡ None) (λ f. IsFromLine text procedure place f.0 × IsLineOf text f.0 f.1.now)
found_in table text plain program procedure place own is expanded comes None gone =
    let same = number_is text plain table.written.items procedure place own is.numbers comes in
    let from = from_line text plain procedure place own expanded comes in
    absurd (line_there text procedure place (written plain own) from (subst (λ (n : ℕ). slice_get (lines text) (n - 1) ≡ None) same (subst (λ (ls : List (List ℕ)). slice_get ls (number_at table.written.items own - 1) ≡ None) is.lines_are gone)))
found_in table text plain program procedure place own is expanded comes (Some (number, line)) (at, here) =
    let same = number_is text plain table.written.items procedure place own is.numbers comes in (
      subst (IsFromLine text procedure place) (sym (at ∙ same)) (from_line text plain procedure place own expanded comes),
      subst (λ (ls : List (List ℕ)). IsLineAt ls number line.now) is.lines_are here,
    )

-- ---- the numbers of written lines, one by one

abbrev pub step : ℕ → List ℕ → ℕ
step count line = count + length (filter is_written (line ∷ []))

pub few_more : (line : List ℕ) → length (filter is_written (line ∷ [])) ≤ 1
few_more line = by (is_written line)
  where
    by : (t : Bool) → length (cond t (line ∷ []) []) ≤ 1
    by true = omega arith
    by false = omega arith

abbrev pub count_from : ℕ → List (List ℕ) → ℕ
count_from count [] = count
count_from count (line ∷ ls) = count_from (step count line) ls

abbrev pub numbers_from : ℕ → List (List ℕ) → List ℕ
numbers_from count [] = []
numbers_from count (line ∷ ls) = step count line ∷ numbers_from (step count line) ls

pub one_more : (count : ℕ) (ls : List (List ℕ)) (line : List ℕ) → numbers_from count (ls ++ line ∷ []) ≡ numbers_from count ls ++ step (count_from count ls) line ∷ []
one_more count [] line = refl
one_more count (l ∷ ls) line = ap (λ (ns : List ℕ). step count l ∷ ns) (one_more (step count l) ls line)

pub count_more : (count : ℕ) (ls : List (List ℕ)) (line : List ℕ) → count_from count (ls ++ line ∷ []) ≡ step (count_from count ls) line
count_more count [] line = refl
count_more count (l ∷ ls) line = count_more (step count l) ls line

as_long : (count : ℕ) (ls : List (List ℕ)) → length (numbers_from count ls) ≡ length ls
as_long count [] = refl
as_long count (l ∷ ls) = ap suc (as_long (step count l) ls)

stepped : (t : Bool) (count : ℕ) (line : List ℕ) (ls : List (List ℕ)) → (count + length (cond t (line ∷ []) [])) + length ls ≡ count + length (cond t (line ∷ ls) ls)
stepped true count line ls = omega arith
stepped false count line ls = omega arith

number_there : (count : ℕ) (ls : List (List ℕ)) (index : ℕ) → index < length ls → get_or (numbers_from count ls) index 0 ≡ count + length (filter is_written (take (index + 1) ls))
number_there count [] index low = absurd (omega (arith, low))
number_there count (l ∷ ls) zero low = refl
number_there count (l ∷ ls) (suc index) low =
    let e : suc index + 1 ≡ suc (index + 1) = omega arith in
    rw e (number_there (step count l) ls index (omega (arith, low)) ∙ stepped (is_written l) count l (filter is_written (take (index + 1) ls)))

pub are_numbers : (plain numbers : List ℕ) → numbers ≡ numbers_from 0 (lines plain) → AreNumbers plain numbers
are_numbers plain numbers same = record {
  count = ap length same ∙ as_long 0 (lines plain);
  each = λ index low.
      let e : 0 + written_line plain (index + 1) ≡ written_line plain (index + 1) = omega arith in
      ap (λ (ns : List ℕ). get_or ns index 0) same ∙ number_there 0 (lines plain) index low ∙ e;
}
