-- A relation between the names before and after a line, if each name that it adds keeps it.
use Rattle.std.proofs.Common.{[], ◌≡◌, ◌+◌, ◌-◌, ◌==◌, ◌⊎◌, ℕ, Bool, true, false, cond, inl, inr, List, ◌∷◌, ◌++◌, length, take, Option, Some, None, refl, subst, sym}
use Rattle.tw_symbols.proofs.TextNames.{Bank, Binding, IsLine, Listed, Names, Origin, Procedures, and_then, at_head, before_colon, begins, begins_first, counted, filter, flat_map, is_listed, is_unnamed, list_name, may_name, name_before, name_register, names_after_reading, names_after_constant, names_after_let, names_after_list, nat_lt, number_in, number_of, parameters, pieces, register_of, value_after, with_constant, with_hidden, with_listed, with_read, with_register, ◌&&◌, Expected}
use Rattle.tw_symbols.specs.LineNames.{kind_of, makes}
use Rattle.tw_symbols.specs.Renamed.{AreMade, AreOperands, AreOthers, IsHead, IsMade, IsOperand, OnlyNames, value_at}
use Rattle.tw_symbols.specs.declared.line_kind.LineKind.{LineKind}
use Rattle.tw_symbols.specs.declared.line_kind.LineKind.TheVariants as kind
use Rattle.tw_symbols.specs.declared.meaning.Bank.TheVariants as bank
use Rattle.tw_symbols.specs.declared.meaning.Listed.TheVariants as listed
use Rattle.tw_symbols.specs.declared.meaning.Origin.TheVariants as origin
use Rattle.tw_symbols.specs.declared.meaning.Binding.TheVariants as binding

-- a relation between names and those after something that adds some
pub record IsStep (R : Names → Names → Type 0) : Type 0 where
  pub same : (n : Names) → R n n
  pub both : (a b c : Names) → R a b → R b c → R a c
  pub constant : (n : Names) (entry : List ℕ × Binding) → R n (record n { constants = n.constants ++ entry ∷ [] })
  pub register : (n : Names) (name : List ℕ) (b : Bank) (number : ℕ) (by : Origin) → (by ≡ origin.Chosen) ⊎ (is_listed b number n.registers ≡ false) → R n (name_register n name b number by)
  pub hidden : (n : Names) (count : ℕ) (more : List (List ℕ)) → R n (with_hidden n count more)
  pub read : (n : Names) → R n (record n { read = n.read + 1 })

some_is : (a b : Names) → Some a ≡ Some b → a ≡ b
some_is a b e = cc

module _ (R : Names → Names → Type 0) (step : IsStep R) where
  abbrev StepTo : Names → Option Names → Type 0
  StepTo names r = (after : Names) → r ≡ Some after → R names after

  stays : (names after : Names) → after ≡ names → R names after
  stays names after e = subst (R names) (sym e) (step.same names)

  test_step : (t : Bool) (names more : Names) → R names more → StepTo names (cond t (Some more) None)
  test_step true names more h after e = subst (R names) (some_is more after e) h
  test_step false names more h after e = absurd cc

  then_step : {A : Type 0} (names : Names) (r : Option A) (next : A → Option Names) → ((a : A) → StepTo names (next a)) → StepTo names (and_then r next)
  then_step names None next each after e = absurd cc
  then_step names (Some a) next each after e = each a after e

  both_step : (names : Names) (r : Option Names) (next : Names → Option Names) → StepTo names r → ((n : Names) → StepTo n (next n)) → StepTo names (and_then r next)
  both_step names None next h each after e = absurd cc
  both_step names (Some n) next h each after e = step.both names n after (h n refl) (each n after e)

  listed_step : (p : Procedures) (names : Names) (name : List ℕ) (b : Bank) (number : ℕ) → StepTo names (with_listed p names name b number)
  listed_step p names name b number after e = by (is_listed b number names.registers) refl e
    where
      by : (t : Bool) → is_listed b number names.registers ≡ t → cond t None (with_register p names name b number origin.Listed) ≡ Some after → R names after
      by true h f = absurd cc
      by false h f = test_step (may_name p names name && nat_lt number 16) names (name_register names name b number origin.Listed) (step.register names name b number origin.Listed (inr h)) after f

  const_step : (p : Procedures) (names : Names) (words : List (List ℕ)) → StepTo names (names_after_constant p names words)
  const_step p names [] after e = absurd cc
  const_step p names (name ∷ words) after e =
      then_step names (value_after number_of words) (λ number. with_constant p names name (binding.Constant number)) (λ number. test_step (may_name p names name) names _ (step.constant names (name, binding.Constant number))) after e

  let_step : (p : Procedures) (names : Names) (words : List (List ℕ)) → StepTo names (names_after_let p names words)
  let_step p names [] after e = absurd cc
  let_step p names (name ∷ words) after e =
      then_step names (value_after register_of words) (λ register. with_register p names name register.0 register.1 origin.Chosen)
      (λ register. test_step (may_name p names name && nat_lt register.1 16) names _ (step.register names name register.0 register.1 origin.Chosen (inl refl))) after e

  -- ---- lines `proc` and `regs`

  name_step : (p : Procedures) (names : Names) (values rights : ℕ) (name : List ℕ) (b : Option Bank) → StepTo names (list_name p names values rights name b)
  name_step p names values rights [] b after e = absurd cc
  name_step p names values rights (c ∷ name) None after e = absurd cc
  name_step p names values rights (c ∷ name) (Some b) after e = listed_step p names (c ∷ name) b (number_in b values rights) after e

  before_step : (p : Procedures) (l : Listed) (names : Names) (values rights : ℕ) (words : List (List ℕ)) (name : Option (List ℕ)) → StepTo names (name_before p l names values rights words name)
  before_step p l names values rights words None after e = subst (R names) (some_is names after e) (step.same names)
  before_step p l names values rights words (Some name) after e = name_step p names values rights name (begins_first l words) after e

  list_step : (p : Procedures) (l : Listed) (names : Names) (values rights : ℕ) (words : List (List ℕ)) → StepTo names (names_after_list p l names values rights words)
  list_step p l names values rights [] after e = subst (R names) (some_is names after e) (step.same names)
  list_step p l names values rights (word ∷ words) after e =
      both_step names (name_before p l names values rights words (before_colon word)) (λ n. names_after_list p l n (counted bank.Value (begins l word) values) (counted bank.Right (begins l word) rights) words)
      (before_step p l names values rights words (before_colon word)) (λ n. list_step p l n (counted bank.Value (begins l word) values) (counted bank.Right (begins l word) rights) words) after e

  -- the names after a head are those that it lists
  pub head_step : (p : Procedures) (number : ℕ) (names : Names) (words plains : List (List ℕ)) (after : Names) → IsHead p number names words plains after → R (at_head names words) after
  head_step p number names words plains after (_, _, is, _) = list_step p listed.Parameters (at_head names words) 0 0 (parameters words) after is

  -- ---- instructions

  made_step : (p : Procedures) (names : Names) (word plain : List ℕ) (after : Names) → IsMade p names word plain after → R names after
  made_step p names word plain after (inl (same, _)) = stays names after same
  made_step p names word plain after (inr (number, _, _, is)) = listed_step p names word bank.Right number after is

  all_made_step : (p : Procedures) (names : Names) (words plains : List (List ℕ)) (after : Names) → AreMade p names words plains after → R names after
  all_made_step p names [] [] after is = stays names after is
  all_made_step p names [] (plain ∷ plains) after is = absurd is
  all_made_step p names (word ∷ words) [] after is = absurd is
  all_made_step p names (word ∷ words) (plain ∷ plains) after (next, first, more) = step.both names next after (made_step p names word plain next first) (all_made_step p next words plains after more)

  read_step : (names : Names) (index : ℕ) → StepTo names (with_read names index)
  read_step names index after e = by (nat_lt index names.read) (index == names.read) e
    where
      by : (t u : Bool) → cond t (Some names) (cond u (Some (record names { read = names.read + 1 })) None) ≡ Some after → R names after
      by true u f = subst (R names) (some_is names after f) (step.same names)
      by false true f = subst (R names) (some_is (record names { read = names.read + 1 }) after f) (step.read names)
      by false false f = absurd cc

  reading_step : (names : Names) (first number : Option ℕ) → StepTo names (names_after_reading names first number)
  reading_step names None number after e = absurd cc
  reading_step names (Some first) None after e = absurd cc
  reading_step names (Some first) (Some number) after e = read_step names (number - first) after e

  operand_step : (p : Procedures) (names : Names) (place : Expected) (word plain : List ℕ) (after : Names) → IsOperand p names place word plain after → R names after
  unfolding IsOperand
  operand_step p names place word plain after (inl (same, _, _, _)) = stays names after same
  operand_step p names place word plain after (inr (_, _, _, _, is)) = reading_step names names.first (value_at place plain) after is

  operands_step : (p : Procedures) (names : Names) (places : List Expected) (words plains : List (List ℕ)) (after : Names) → AreOperands p names places words plains after → R names after
  operands_step p names places [] [] after is = stays names after is
  operands_step p names places [] (plain ∷ plains) after is = absurd is
  operands_step p names places (word ∷ words) [] after is = absurd is
  operands_step p names places (word ∷ words) (plain ∷ plains) after (next, first, more) =
      step.both names next after (operand_step p names _ word plain next first) (operands_step p next _ words plains after more)

  -- ---- a line

  only_step : (k : LineKind) (p : Procedures) (names : Names) (words : List (List ℕ)) (after : Names) → OnlyNames k p names words after → R names after
  only_step kind.Names p names words after is = stays names after is
  only_step kind.Constant p names words after is = const_step p names words after is
  only_step kind.Let p names words after is = let_step p names words after is
  only_step kind.Head p names words after is = absurd is
  only_step kind.Registers p names words after is = absurd is
  only_step (kind.Instruction o) p names words after is = absurd is
  only_step kind.Other p names words after is = absurd is

  others_step : (k : LineKind) (p : Procedures) (number : ℕ) (names : Names) (words plains : List (List ℕ)) (after : Names) → AreOthers k p number names words plains after
      → (k ≡ kind.Head → IsHead p number names (flat_map pieces words) plains after → R names after) → R names after
  others_step kind.Names p number names words plains after is head = absurd is
  others_step kind.Constant p number names words plains after is head = absurd is
  others_step kind.Let p number names words plains after is head = absurd is
  others_step kind.Head p number names words plains after is head = head refl is
  others_step kind.Registers p number names words plains after (next, more, lists, _, _, same) head =
      let count = length names.types + length (filter is_unnamed (flat_map pieces words)) in
      subst (R names) (sym same) (step.both names next (with_hidden next count more) (list_step p listed.Registers names (length names.types) 0 (flat_map pieces words) next lists) (step.hidden next count more))
  others_step (kind.Instruction o) p number names words plains after (made, makes_them, are) head =
      step.both names made after (all_made_step p names (take (makes o) (flat_map pieces words)) (take (makes o) plains) made makes_them) (operands_step p made _ _ _ after are)
  others_step kind.Other p number names words plains after is head = stays names after is.1

  -- proves the step of a line from that of a head, if it is one
  pub line_step : (p : Procedures) (number : ℕ) (names : Names) (words plains : List (List ℕ)) (after : Names) → IsLine p number names words plains after
      → ((first : List ℕ) (others more : List (List ℕ)) → words ≡ first ∷ others → kind_of first others ≡ kind.Head → IsHead p number names (flat_map pieces others) more after → R names after) → R names after
  line_step p number names [] plains after is head = stays names after is.1
  line_step p number names (first ∷ words) [] after is head = only_step (kind_of first words) p names words after is
  line_step p number names (first ∷ words) (plain ∷ plains) after is head = others_step (kind_of first words) p number names words plains after is.1 (head first words plains refl)
