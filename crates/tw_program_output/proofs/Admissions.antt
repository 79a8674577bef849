-- Whether there are lines of bounds above their caps, and that a run is within the caps if there are none.
use Rattle.tw_program_output.proofs.ReplyNames.{AreExcessLines, Bool, IsJudged, IsLargestBudget, LeastRuns, List, Option, Procedure, StaysWithinCaps, [], ap, arith, codes, excess, excess_lines, false, has_cap, is_within, length, nat_lt, refl, subst, sym, true, ℕ, ◌++◌, ◌+◌, ◌<◌, ◌==◌, ◌||◌, ◌∙◌, ◌∷◌, ◌≡◌, ◌≢◌, ◌≤◌}
use Rattle.std.proofs.lemmas.Bool.{eq-eqb, eqb-true, leb-true, lt-ltb}
use Rattle.std.proofs.lemmas.Option.{slice_get_within}
use Rattle.tw_code.specs.machine.Opening.{opening}
use Rattle.tw_order.specs.declared.caps.Caps.{Caps}
use Rattle.tw_order.specs.Orders.{greatest_cap}
use Rattle.tw_bounds.specs.declared.bound.Bound.{Bound}
use Rattle.tw_bounds.specs.declared.bound.Bound.TheVariants.{AtMost, Over, Endless}
use Rattle.tw_bounds.specs.declared.limited.LimitedBounds.{LimitedBounds}
use Rattle.tw_bounds.specs.Contents.{bytes_held, members_held}
use Rattle.tw_bounds.specs.Runs.{instructions_in, tasks_in}

pub no_lines : (lines : List ℕ) (b : Bool) → b ≡ (length lines == 0) → b ≡ true → lines ≡ []
no_lines [] b is e = refl
no_lines (x ∷ lines) b is e = let same = eqb-true (length (x ∷ lines)) 0 (sym is ∙ e) in absurd (omega arith)

pub some_lines : (lines : List ℕ) (b : Bool) → b ≡ (length lines == 0) → b ≡ false → lines ≢ []
some_lines lines b is e none = let same : (length lines == 0) ≡ true = eq-eqb (length lines) 0 (ap length none) in let no : false ≡ true = sym e ∙ is ∙ same in cc

-- ---- no lines

first_none : (a b : List ℕ) → a ++ b ≡ [] → a ≡ []
first_none [] b e = refl
first_none (x ∷ a) b e = cc

second_none : (a b : List ℕ) → a ++ b ≡ [] → b ≡ []
second_none [] b e = e
second_none (x ∷ a) b e = cc

some_line : (kind more : List ℕ) → kind ++ (codes ": " ++ more) ≡ [] → ⊥
some_line [] more e = cc
some_line (x ∷ kind) more e = cc

is_within_if_none : (kind : List ℕ) (bound : Bound) (most : ℕ) → excess kind bound most ≡ [] → is_within bound most ≡ true
is_within_if_none kind bound most e = by (is_within bound most) refl
  where
    by : (b : Bool) → is_within bound most ≡ b → is_within bound most ≡ true
    by true is = is
    by false is = absurd (some_line kind _ (rw is at e))

-- a bound within a cap that is given is a number up to it
number_within : (bound : Bound) (most : ℕ) → is_within bound most ≡ true → most < greatest_cap → (n : ℕ) × (bound ≡ AtMost n) × (n ≤ most)
number_within (AtMost n) most is given = (n, refl, leb-true n most is)
number_within Over most is given = let h = leb-true greatest_cap most is in absurd (omega arith)
number_within Endless most is given = let h = leb-true greatest_cap most is in absurd (omega arith)

number_of : {a b : ℕ} → AtMost a ≡ AtMost b → a ≡ b
number_of e = cc

both_false : (a b : Bool) → (a || b) ≡ false → (a ≡ false) × (b ≡ false)
both_false false b e = (refl, e)
both_false true b e = cc

isnt_given : (n : ℕ) → nat_lt n greatest_cap ≡ false → n < greatest_cap → ⊥
isnt_given n none is = let both : false ≡ true = sym none ∙ lt-ltb n greatest_cap is in cc

-- what holds for the number of each bound holds for the cap
module _ (P : ℕ → Type 0) (up : (n m : ℕ) → n ≤ m → P n → P m) where
  within_cap : (kind : List ℕ) (bound : Bound) (most : ℕ) → excess kind bound most ≡ [] → ((n : ℕ) → bound ≡ AtMost n → P n) → most < greatest_cap → P most
  within_cap kind bound most none each given =
      let found = number_within bound most (is_within_if_none kind bound most none) given in
      up found.0 most found.2 (each found.0 found.1)

module _ (program : List Procedure) (limit : Option ℕ) (caps : Caps) where
  pub stays_within : (bounds : LimitedBounds) (budget : ℕ) → LeastRuns program limit bounds → IsLargestBudget program budget → excess_lines caps bounds budget ≡ [] → StaysWithinCaps program limit caps
  stays_within bounds budget least largest none =
      let tasks = codes "tasks" in
      let t = excess tasks bounds.tasks caps.tasks in
      let i = excess (codes "instructions") bounds.instructions caps.instructions in
      let d = excess (codes "data") bounds.«data» caps.«data» in
      let y = excess (codes "bytes") bounds.bytes caps.bytes in
      let b = excess (codes "budget") (AtMost budget) caps.budget in
      let m = excess (codes "members") bounds.members caps.members in
      let no_t = first_none t _ none in
      let rest = second_none t _ none in
      let no_i = first_none i _ rest in
      let last = second_none i _ rest in
      let no_d = first_none d _ last in
      let end = second_none d _ last in
      let no_y = first_none y _ end in
      let others = second_none y _ end in
      let r = excess (codes "rules") bounds.rules caps.rules in
      let no_b = first_none b _ others in
      let both = second_none b _ others in
      let no_m = first_none m r both in
      let no_r = second_none m r both in
      record {
        runs = λ inputs layout events s given short e.
            let w = least.within inputs layout events s given short e in
            record {
              tasks = within_cap (λ m. tasks_in events ≤ m) (λ n m le h. omega arith) tasks bounds.tasks caps.tasks no_t w.tasks;
              instructions = within_cap (λ m. instructions_in events ≤ m) (λ n m le h. omega arith) (codes "instructions") bounds.instructions caps.instructions no_i w.instructions;
              new_data = within_cap (λ m. s.store.next ≤ (opening program inputs).store.next + m) (λ n m le h. omega arith) (codes "data") bounds.«data» caps.«data» no_d w.new_data;
              bytes = within_cap (λ m. bytes_held s ≤ bytes_held (opening program inputs) + m) (λ n m le h. omega arith) (codes "bytes") bounds.bytes caps.bytes no_y w.bytes;
              members = within_cap (λ x. members_held s.store ≤ members_held (opening program inputs).store + x) (λ n x le h. omega arith) (codes "members") bounds.members caps.members no_m w.members;
              rules = within_cap (λ x. s.next_rule ≤ (opening program inputs).next_rule + x) (λ n x le h. omega arith) (codes "rules") bounds.rules caps.rules no_r w.rules;
            };
        budgets = λ given k p n here is.
            let most : n ≤ budget = largest.each k p n (slice_get_within program k p here) here is in
            within_cap (λ m. n ≤ m) (λ x y le h. omega arith) (codes "budget") (AtMost budget) caps.budget no_b (λ m e. subst (λ x. n ≤ x) (number_of e) most) given;
      }

  pub judged : (lines : List ℕ) (b : Bool) → b ≡ (length lines == 0) → AreExcessLines (has_cap caps) program limit caps lines → (lines ≡ [] → StaysWithinCaps program limit caps) → IsJudged program limit caps b
  judged lines true is text stays = let none = no_lines lines true is refl in (subst (AreExcessLines (has_cap caps) program limit caps) none text, stays none)
  judged lines false is text stays = (lines, text, some_lines lines false is refl)

  pub uncapped_stays : has_cap caps ≡ false → StaysWithinCaps program limit caps
  uncapped_stays none =
      let tasks = both_false _ _ none in
      let instructions = both_false _ _ tasks.1 in
      let new_data = both_false _ _ instructions.1 in
      let bytes = both_false _ _ new_data.1 in
      let others = both_false _ _ bytes.1 in
      let last = both_false _ _ others.1 in
      record {
        runs = λ inputs layout events s given short e. record {
          tasks = λ is. absurd (isnt_given caps.tasks tasks.0 is);
          instructions = λ is. absurd (isnt_given caps.instructions instructions.0 is);
          new_data = λ is. absurd (isnt_given caps.«data» new_data.0 is);
          bytes = λ is. absurd (isnt_given caps.bytes bytes.0 is);
          members = λ is. absurd (isnt_given caps.members last.0 is);
          rules = λ is. absurd (isnt_given caps.rules last.1 is);
        };
        budgets = λ is k p n here b. absurd (isnt_given caps.budget others.0 is);
      }
