-- Marks that are as the program requires, with no insertion by a marked register, are marks by places that fit.
use Rattle.tw_copies.proofs.Names.{Action, AllMet, AreRight, ArgsRequire, Bool, CopyRequires, DataInstr, Instr, IsCopyInsertion, IsFirst, IsMarked, IsMarkedInsertion, IsMet, IsProgram, List, MatchOption, NeverContests, None, Nowhere, OnlyCopies, Option, Param, Passes, Procedure, Requires, Some, Typings, [], and_parts, arith, eqb-true, false, if◌then◌else◌, inl, inr, is_marked, is_val, not, params_of, refl, subst, suc, true, ℕ, ◌+◌, ◌==◌, ◌||◌, ◌∷◌, ◌≡◌}
use Rattle.tw_code.specs.declared.instr.DataInstr.TheVariants as on_data
use Rattle.tw_code.specs.declared.instr.Instr.TheVariants as instr
use Rattle.tw_copies.specs.declared.check.CopyInsertion.{CopyInsertion}
use Rattle.tw_copies.proofs.Marked.{first_is, nowhere_is}
use Rattle.tw_copies.proofs.Tracking.{never_contests}
use Rattle.tw_copies.proofs.Marking.{AreHanded, IsMarkable, Marked, marked_after, marked_by}

module _ (program : List Procedure) (marks : List Bool) where
  module _ (number callee : ℕ) where
    handed : (next : ℕ) (to : Marked) (params : List Param) (args : List ℕ) → ((j : ℕ) → IsMarked marks callee (next + j) → to j ≡ true)
        → ((from into : ℕ) → IsMarked marks number from → Passes next params args from into → IsMarked marks callee into) → AreHanded (is_marked marks number) to params args
    handed next to [] args h met = tt
    handed next to (p ∷ params) [] h met = tt
    handed next to (p ∷ params) (arg ∷ args) h met = (
      λ right marked. h 0 (let here : next ≡ next + 0 = omega arith in subst (IsMarked marks callee) here (met arg next marked (inl (right, refl, refl)))),
      handed (if is_val p.mode then next else next + 1) (if is_val p.mode then to else (λ k. to (suc k))) params args (shifted (is_val p.mode)) (λ from into marked passes. met from into marked (inr passes)),
    )
      where
        shifted : (b : Bool) (j : ℕ) → IsMarked marks callee ((if b then next else next + 1) + j) → (if b then to else (λ k. to (suc k))) j ≡ true
        shifted true j marked = h j marked
        shifted false j marked = let same : next + 1 + j ≡ next + suc j = omega arith in h (suc j) (subst (IsMarked marks callee) same marked)

    from_first : (action : Action) → action.procedure ≡ callee → IsMet marks (ArgsRequire marks number action.procedure 0 (params_of program action.procedure) action.args)
        → AreHanded (is_marked marks number) (is_marked marks callee) (params_of program callee) action.args
    from_first action same met = subst (λ (c : ℕ). AreHanded (is_marked marks number) (is_marked marks callee) (params_of program c) action.args) same (
        handed 0 (is_marked marks callee) (params_of program action.procedure) action.args
        (λ j marked. let zero_more : 0 + j ≡ j = omega arith in subst (IsMarked marks callee) zero_more marked)
        (λ from into marked passes. subst (λ (c : ℕ). IsMarked marks c into) same (met action.procedure into (refl, from, marked, passes))))

  -- what is marked after an instruction whose requirements are met was marked before
  data_kept : (number : ℕ) (i : DataInstr) (r : ℕ) → IsMet marks (CopyRequires number i) → marked_by i (is_marked marks number) r ≡ true → IsMarked marks number r
  data_kept number (on_data.New write read ty) r met e = (and_parts (not (r == write)) (is_marked marks number r) e).1
  data_kept number (on_data.Store datum from) r met e = e
  data_kept number (on_data.Get to datum) r met e = e
  data_kept number (on_data.Insert by container subscript member skip) r met e = e
  data_kept number (on_data.Look by member container subscript skip) r met e = e
  data_kept number (on_data.Size to container) r met e = e
  data_kept number (on_data.SubscriptAt by to container index skip) r met e = e
  data_kept number (on_data.InsertValue map subscript from skip) r met e = e
  data_kept number (on_data.AddValue map subscript from) r met e = e
  data_kept number (on_data.GetValue to map subscript skip) r met e = e
  data_kept number (on_data.CopyRead to from) r met e = e
  data_kept number (on_data.CopyWrite to from) r met e = by (r == to) (r == from) refl refl e
    where
      by : (a b : Bool) → (r == to) ≡ a → (r == from) ≡ b → (a || (b || is_marked marks number r)) ≡ true → IsMarked marks number r
      by true b is_to is_from e = met number r (refl, inl (eqb-true r to is_to))
      by false true is_to is_from e = met number r (refl, inr (eqb-true r from is_from))
      by false false is_to is_from e = e
  data_kept number (on_data.DropRead right) r met e = e
  data_kept number (on_data.DropWrite right) r met e = e

  kept : (number : ℕ) (i : Instr) (r : ℕ) → IsMet marks (Requires program marks number i) → marked_after i (is_marked marks number) r ≡ true → IsMarked marks number r
  kept number (instr.Local i) r met e = e
  kept number (instr.Data i) r met e = data_kept number i r met e
  kept number (instr.Rule action) r met e = e
  kept number (instr.Put action) r met e = e
  kept number instr.Ret r met e = e

  pub markable : AllMet program marks → Nowhere (IsMarkedInsertion program marks) → IsMarkable program
  markable met none = record {
    marks = λ number place register. is_marked marks number register;
    closed = record {
      later = λ number place next register p i way here at goes marked. kept number i register (met number place i (p, here, at)) marked;
      loops = λ number place first register p here end marked. marked;
      rules = λ number place p action here at. from_first number action.procedure action refl (met number place (instr.Rule action) (p, here, at));
      puts = λ number place p action here at. from_first number action.procedure action refl (met number place (instr.Put action) (p, here, at));
    };
    inserts = λ number place register i p here at into.
        unmarked number register (is_marked marks number register) refl (λ marked. none number place (record { p = p; here = here; inserts = record { i = i; at = at; container = register; inserts = into; marked = marked } }));
  }
    where
      unmarked : (number container : ℕ) (b : Bool) → is_marked marks number container ≡ b → (is_marked marks number container ≡ true → ⊥) → is_marked marks number container ≡ false
      unmarked number container true is never = absurd (never is)
      unmarked number container false is never = is

-- ---- the answer

pub never_if : (program : List Procedure) (typings : Typings) → IsProgram program → AreRight program typings → (marks : List Bool) → AllMet program marks → (found : Option CopyInsertion)
    → MatchOption found (Nowhere (IsMarkedInsertion program marks)) (λ at. IsFirst (IsMarkedInsertion program marks) at.procedure at.place) → found ≡ None → NeverContests program
never_if program typings proper are marks met None none e = never_contests program typings proper are (markable program marks met none)
never_if program typings proper are marks met (Some at) first e = cc

pub answer : (program : List Procedure) → IsProgram program → (marks : List Bool) → AllMet program marks → OnlyCopies program marks → (found : Option CopyInsertion)
    → MatchOption found (Nowhere (IsMarkedInsertion program marks)) (λ at. IsFirst (IsMarkedInsertion program marks) at.procedure at.place)
    → MatchOption found (Nowhere (IsCopyInsertion program)) (λ at. IsFirst (IsCopyInsertion program) at.procedure at.place)
answer program proper marks met only None none = nowhere_is program proper marks met only none
answer program proper marks met only (Some at) first = first_is program proper marks met only at.procedure at.place first
