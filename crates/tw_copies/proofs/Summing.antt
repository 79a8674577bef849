-- Unmarked write rights of a whole state, and what an event does to their number.
use Rattle.tw_copies.proofs.Names.{Action, DataInstr, FinMap, Frame, Instr, IsAntisymmetric, IsEndOf, IsTotalOrder, List, Ordering, Param, Procedure, Rule, Some, State, Task, Typings, Way, [], and_parts, ap, arith, false, flow_of, get, if◌then◌else◌, insert, is_val, not, onward, params_of, part, remove, slice_get, suc, total-insert, total-remove, true, typing_of, ℕ, ◌+◌, ◌==◌, ◌∷◌, ◌≡◌, ◌≤◌}
use Rattle.tw_types.specs.Totals.{total}
use Rattle.tw_code.specs.declared.instr.DataInstr.TheVariants as on_data
use Rattle.tw_code.specs.declared.instr.Instr.TheVariants as instr
use Rattle.tw_copies.proofs.Copying.{copies_write, is_copy}
use Rattle.tw_copies.proofs.Marking.{AreClosed, AreHanded, HandsMarks, Marked, Marks, marked_after, marked_by}
use Rattle.tw_copies.proofs.Spare.{spare, spare_args, unmarked}

-- ---- sums

module _ (program : List Procedure) (typings : Typings) (marks : Marks) (d : ℕ) where
  abbrev pub frame_spare : Frame → ℕ
  frame_spare f = spare d (marks f.procedure f.position.place) (typing_of typings f) f.rights

  abbrev pub task_spare : Task → ℕ
  task_spare t = spare_args d (marks t.procedure 0) (params_of program t.procedure) t.args

  abbrev pub rule_spare : Rule → ℕ
  rule_spare t = spare_args d (marks t.procedure 0) (params_of program t.procedure) t.args

  abbrev pub spare_of : State → ℕ
  spare_of s = total frame_spare s.frames + (total task_spare s.tasks + total rule_spare s.rules)

-- ---- marks that are carried along, except by DUPW

pub record IsCarried (program : List Procedure) (marks : Marks) : Type 0 where
  pub later : (number place next register : ℕ) (p : Procedure) (i : Instr) (way : Way) → slice_get program number ≡ Some p → slice_get p.code place ≡ Some i → copies_write i ≡ false → onward way place (flow_of i) ≡ Some next
      → marked_after i (marks number place) register ≡ true → marks number next register ≡ true
  pub loops : (number place first register : ℕ) (p : Procedure) → slice_get program number ≡ Some p → IsEndOf p.code first place → marks number place register ≡ true → marks number first register ≡ true
  pub rules : (number place : ℕ) (p : Procedure) (action : Action) → slice_get program number ≡ Some p → slice_get p.code place ≡ Some (instr.Rule action) → HandsMarks program marks (marks number place) action
  pub puts : (number place : ℕ) (p : Procedure) (action : Action) → slice_get program number ≡ Some p → slice_get p.code place ≡ Some (instr.Put action) → HandsMarks program marks (marks number place) action

pub closed_carried : (program : List Procedure) (marks : Marks) → AreClosed program marks → IsCarried program marks
closed_carried program marks h = record {
  later = λ number place next register p i way here at calm goes. h.later number place next register p i way here at goes;
  loops = h.loops;
  rules = h.rules;
  puts = h.puts;
}

-- no marks at all
abbrev pub no_marks : Marks
no_marks number place = unmarked

pub never_by : (i : DataInstr) → is_copy i ≡ false → (register : ℕ) → marked_by i unmarked register ≡ true → ⊥
never_by (on_data.New write read ty) calm register e = let no : false ≡ true = (and_parts (not (register == write)) false e).1 in cc
never_by (on_data.Store datum from) calm register e = cc
never_by (on_data.Get to datum) calm register e = cc
never_by (on_data.Insert by container subscript member skip) calm register e = cc
never_by (on_data.Look by member container subscript skip) calm register e = cc
never_by (on_data.Size to container) calm register e = cc
never_by (on_data.SubscriptAt by to container index skip) calm register e = cc
never_by (on_data.InsertValue map subscript from skip) calm register e = cc
never_by (on_data.AddValue map subscript from) calm register e = cc
never_by (on_data.GetValue to map subscript skip) calm register e = cc
never_by (on_data.CopyRead to from) calm register e = cc
never_by (on_data.CopyWrite to from) calm register e = cc
never_by (on_data.DropRead right) calm register e = cc
never_by (on_data.DropWrite right) calm register e = cc

pub never_marked : (i : Instr) → copies_write i ≡ false → (register : ℕ) → marked_after i unmarked register ≡ true → ⊥
never_marked (instr.Local i) calm register e = cc
never_marked (instr.Data i) calm register e = never_by i calm register e
never_marked (instr.Rule action) calm register e = cc
never_marked (instr.Put action) calm register e = cc
never_marked instr.Ret calm register e = cc

nothing_handed : (to : Marked) (params : List Param) (args : List ℕ) → AreHanded unmarked to params args
nothing_handed to [] args = tt
nothing_handed to (p ∷ params) [] = tt
nothing_handed to (p ∷ params) (arg ∷ args) = (λ right e. cc, nothing_handed (if is_val p.mode then to else (λ k. to (suc k))) params args)

pub none_carried : (program : List Procedure) → IsCarried program no_marks
none_carried program = record {
  later = λ number place next register p i way here at calm goes e. absurd (never_marked i calm register e);
  loops = λ number place first register p here end e. e;
  rules = λ number place p action here at. nothing_handed unmarked (params_of program action.procedure) action.args;
  puts = λ number place p action here at. nothing_handed unmarked (params_of program action.procedure) action.args;
}

-- ---- sums over maps

module _ {K X : Type 0} (R : K → K → Ordering) (o : IsTotalOrder R) (same : IsAntisymmetric R) (g : X → ℕ) (m : FinMap R X) (k : K) where
  -- one entry more, or another in its place
  pub put_less : (x : X) → total g (insert m k x) ≤ total g m + g x
  put_less x = let h = total-insert R o g m k x in omega (arith, h)

  pub replaced_less : (x y : X) → get m k ≡ Some x → total g (insert m k y) + g x ≤ total g m + g y
  replaced_less x y at = let h = total-insert R o g m k y in let p : part g (get m k) ≡ g x = ap (part g) at in omega (arith, h, p)

  pub removed_less : (x : X) → get m k ≡ Some x → total g (remove m k) + g x ≤ total g m
  removed_less x at = let h = total-remove R o same g m k in let p : part g (get m k) ≡ g x = ap (part g) at in omega (arith, h, p)

  pub removed_some : total g (remove m k) ≤ total g m
  removed_some = let h = total-remove R o same g m k in omega (arith, h)
