-- Marks that grow until all requirements are met are exactly the registers that may hold copies.
use Rattle.tw_copies.proofs.Names.{AllMet, Bool, CodeMet, CopyRequires, DataInstr, InsertsMarked, Instr, IsAt, IsCopyInsertion, IsFirst, IsMarked, IsMarkedInsertion, IsMet, IsProgram, IsUnmet, List, MayBeCopy, Nowhere, OnlyCopies, Procedure, Requires, Some, SomeUnmet, [], ap, arith, by_put, by_rule, cases_eq, copied_from, copied_to, false, inl, inr, is_set, length, params_of, refl, same_Some, set, slice_get, slice_get_within, slot, subst, suc, sym, true, zero, ℕ, ◌*◌, ◌+◌, ◌<◌, ◌∙◌, ◌∷◌, ◌≡◌, ◌⊎◌}
use Rattle.tw_code.specs.declared.instr.DataInstr.TheVariants as on_data
use Rattle.tw_code.specs.declared.instr.Instr.TheVariants as instr
use Rattle.tw_copies.proofs.Registers.{callee_within, copy_within, from_within, inserted_within, into_within, params_few, put_args, rule_args}

-- ---- lists of marks

get_set_same : (marks : List Bool) (k : ℕ) (b : Bool) → k < length marks → slice_get (set marks k b) k ≡ Some b
get_set_same [] k b less = absurd (omega (arith, less))
get_set_same (x ∷ marks) zero b less = refl
get_set_same (x ∷ marks) (suc k) b less = get_set_same marks k b (omega (arith, less))

get_set_other : (marks : List Bool) (k j : ℕ) (b : Bool) → (j ≡ k → ⊥) → slice_get (set marks k b) j ≡ slice_get marks j
get_set_other [] k j b apart = refl
get_set_other (x ∷ marks) zero zero b apart = absurd (apart refl)
get_set_other (x ∷ marks) zero (suc j) b apart = refl
get_set_other (x ∷ marks) (suc k) zero b apart = refl
get_set_other (x ∷ marks) (suc k) (suc j) b apart = get_set_other marks k j b (λ e. apart (ap suc e))

pub length_set : (marks : List Bool) (k : ℕ) (b : Bool) → length (set marks k b) ≡ length marks
length_set [] k b = refl
length_set (x ∷ marks) zero b = refl
length_set (x ∷ marks) (suc k) b = ap suc (length_set marks k b)

-- how many aren't marked
abbrev pub unset : Bool → ℕ
unset true = 0
unset false = 1

abbrev pub left : List Bool → ℕ
left [] = 0
left (x ∷ marks) = unset x + left marks

pub left_less : (marks : List Bool) (k : ℕ) → k < length marks → (is_set (slice_get marks k) ≡ true → ⊥) → left (set marks k true) < left marks
left_less [] k less not = absurd (omega (arith, less))
left_less (true ∷ marks) zero less not = absurd (not refl)
left_less (false ∷ marks) zero less not = omega arith
left_less (x ∷ marks) (suc k) less not = let rest = left_less marks k (omega (arith, less)) not in omega (arith, rest)

-- ---- slots

pub slot_apart : (n r m s : ℕ) → r < 16 → s < 16 → n * 16 + r ≡ m * 16 + s → (n ≡ m) × (r ≡ s)
slot_apart n r m s one two e = let same : n ≡ m = omega (arith, one, two, e) in (same, omega (arith, same, e))

-- ---- what is required is a copy

module _ (program : List Procedure) (proper : IsProgram program) (marks : List Bool) where
  -- the register and its procedure, with the register that it comes from
  pub record Wanted (owner register : ℕ) : Type 0 where
    pub p : Procedure
    pub here : slice_get program owner ≡ Some p
    pub within : register < 16
    pub copy : OnlyCopies program marks → MayBeCopy program owner register

  data_wanted : (number place : ℕ) (i : DataInstr) → IsAt program number place (instr.Data i) → (owner register : ℕ) → CopyRequires number i owner register → Wanted owner register
  data_wanted number place (on_data.New write read ty) at owner register h = absurd h
  data_wanted number place (on_data.Store datum from) at owner register h = absurd h
  data_wanted number place (on_data.Get to datum) at owner register h = absurd h
  data_wanted number place (on_data.Insert by container subscript member skip) at owner register h = absurd h
  data_wanted number place (on_data.Look by member container subscript skip) at owner register h = absurd h
  data_wanted number place (on_data.Size to container) at owner register h = absurd h
  data_wanted number place (on_data.SubscriptAt by to container index skip) at owner register h = absurd h
  data_wanted number place (on_data.InsertValue map subscript from skip) at owner register h = absurd h
  data_wanted number place (on_data.AddValue map subscript from) at owner register h = absurd h
  data_wanted number place (on_data.GetValue to map subscript skip) at owner register h = absurd h
  data_wanted number place (on_data.CopyRead to from) at owner register h = absurd h
  data_wanted number place (on_data.CopyWrite to from) at owner register h = subst (λ n. Wanted n register) (sym h.0) (by h.1)
    where
      within : (to < 16) × (from < 16)
      within = copy_within program proper number place to from at

      by : (register ≡ to) ⊎ (register ≡ from) → Wanted number register
      by (inl same) = record { p = at.0; here = at.1; within = subst (λ k. k < 16) (sym same) within.0; copy = λ only. subst (MayBeCopy program number) (sym same) (copied_to at) }
      by (inr same) = record { p = at.0; here = at.1; within = subst (λ k. k < 16) (sym same) within.1; copy = λ only. subst (MayBeCopy program number) (sym same) (copied_from at) }
  data_wanted number place (on_data.DropRead right) at owner register h = absurd h
  data_wanted number place (on_data.DropWrite right) at owner register h = absurd h

  pub wanted : (number place : ℕ) (i : Instr) → IsAt program number place i → (owner register : ℕ) → Requires program marks number i owner register → Wanted owner register
  wanted number place (instr.Local i) at owner register h = absurd h
  wanted number place (instr.Data i) at owner register h = data_wanted number place i at owner register h
  wanted number place (instr.Rule action) at owner register h = subst (λ n. Wanted n register) (sym h.0) (
      let callee = callee_within program proper action.procedure action.args h.1 register h.3 in
      let few = params_few program proper action.procedure in
      let low = into_within 0 (params_of program action.procedure) action.args h.1 register h.3 in
      record {
        p = callee.0;
        here = callee.1;
        within = omega (arith, few, low);
        copy = λ only. by_rule action at h.3 (only number h.1 (from_within 0 (params_of program action.procedure) action.args h.1 register (rule_args program proper number place action at) h.3) h.2);
      })
  wanted number place (instr.Put action) at owner register h = subst (λ n. Wanted n register) (sym h.0) (
      let callee = callee_within program proper action.procedure action.args h.1 register h.3 in
      let few = params_few program proper action.procedure in
      let low = into_within 0 (params_of program action.procedure) action.args h.1 register h.3 in
      record {
        p = callee.0;
        here = callee.1;
        within = omega (arith, few, low);
        copy = λ only. by_put action at h.3 (only number h.1 (from_within 0 (params_of program action.procedure) action.args h.1 register (put_args program proper number place action at) h.3) h.2);
      })
  wanted number place instr.Ret at owner register h = absurd h

-- ---- one more mark

module _ (program : List Procedure) (proper : IsProgram program) (marks : List Bool) (long : length marks ≡ length program * 16) (k : ℕ) (some : SomeUnmet program marks k) where
  abbrev unmet : IsUnmet marks (Requires program marks some.0 some.2) k
  unmet = some.4

  abbrev want : Wanted program proper marks unmet.owner unmet.register
  want = wanted program proper marks some.0 some.1 some.2 some.3 unmet.owner unmet.register unmet.required

  pub inside : k < length marks
  inside = let low = slice_get_within program unmet.owner want.p want.here in let at = unmet.at in let within = want.within in omega (arith, low, at, within, long)

  pub fewer : left (set marks k true) < left marks
  fewer = left_less marks k inside (subst (λ j. is_set (slice_get marks j) ≡ true → ⊥) (sym unmet.at) unmet.unmarked)

  pub still_copies : OnlyCopies program marks → OnlyCopies program (set marks k true)
  still_copies only number register low marked = elim (cases_eq (slot number register) k) [
    | inl same ↦ (let one = slot_apart number register unmet.owner unmet.register low want.within (same ∙ unmet.at) in
        subst (λ n. MayBeCopy program n register) (sym one.0) (subst (MayBeCopy program unmet.owner) (sym one.1) (want.copy only)))
    | inr other ↦ only number register low (subst (λ o. is_set o ≡ true) (get_set_other marks k (slot number register) true other) marked)
  ]

-- ---- all are met

module _ (program : List Procedure) (proper : IsProgram program) (marks : List Bool) (met : AllMet program marks) where
  -- each register that may hold a copy is marked
  pub copy_marked : {number register : ℕ} → MayBeCopy program number register → IsMarked marks number register
  copy_marked (copied_to {number = number} {place = place} {to = to} {from = from} at) = met number place (instr.Data (on_data.CopyWrite to from)) at number to (refl, inl refl)
  copy_marked (copied_from {number = number} {place = place} {to = to} {from = from} at) = met number place (instr.Data (on_data.CopyWrite to from)) at number from (refl, inr refl)
  copy_marked (by_rule {number = number} {place = place} {from = from} {into = into} action at hands copy) = met number place (instr.Rule action) at action.procedure into (refl, from, copy_marked copy, hands)
  copy_marked (by_put {number = number} {place = place} {from = from} {into = into} action at hands copy) = met number place (instr.Put action) at action.procedure into (refl, from, copy_marked copy, hands)

  module _ (only : OnlyCopies program marks) where
    insertion_of : (number place : ℕ) → IsMarkedInsertion program marks number place → IsCopyInsertion program number place
    insertion_of number place m =
        let at : IsAt program number place m.inserts.i = (m.p, m.here, m.inserts.at) in
        record {
          i = m.inserts.i;
          at = at;
          container = m.inserts.container;
          inserts = m.inserts.inserts;
          copy = only number m.inserts.container (inserted_within program proper number place m.inserts.i m.inserts.container at m.inserts.inserts) m.inserts.marked;
        }

    marked_of : (number place : ℕ) → IsCopyInsertion program number place → IsMarkedInsertion program marks number place
    marked_of number place c = record {
      p = c.at.0;
      here = c.at.1;
      inserts = record { i = c.i; at = c.at.2; container = c.container; inserts = c.inserts; marked = copy_marked c.copy };
    }

    pub first_is : (number place : ℕ) → IsFirst (IsMarkedInsertion program marks) number place → IsFirst (IsCopyInsertion program) number place
    first_is number place f = record { is = insertion_of number place f.is; first = λ n q c. f.first n q (marked_of n q c) }

    pub nowhere_is : Nowhere (IsMarkedInsertion program marks) → Nowhere (IsCopyInsertion program)
    nowhere_is none number place c = none number place (marked_of number place c)

-- ---- one procedure

module _ (program : List Procedure) (marks : List Bool) (number : ℕ) (p : Procedure) (here : slice_get program number ≡ Some p) where
  same_procedure : (n : ℕ) (q : Procedure) → n ≡ number → slice_get program n ≡ Some q → q ≡ p
  same_procedure n q same there = same_Some q p (sym there ∙ subst (λ k. slice_get program k ≡ Some p) (sym same) here)

  pub met_here : CodeMet program marks number p.code → (n place : ℕ) (i : Instr) → n ≡ number → IsAt program n place i → IsMet marks (Requires program marks n i)
  met_here met n place i same at =
      let code = ap (λ (q : Procedure). slice_get q.code place) (same_procedure n at.0 same at.1) in
      subst (λ k. IsMet marks (Requires program marks k i)) (sym same) (met place i (sym code ∙ at.2))

  pub insertion_here : (n place : ℕ) → n ≡ number → IsMarkedInsertion program marks n place → InsertsMarked marks number p.code place
  insertion_here n place same m =
      subst (λ (q : Procedure). InsertsMarked marks number q.code place) (same_procedure n m.p same m.here) (subst (λ k. InsertsMarked marks k m.p.code place) same m.inserts)
