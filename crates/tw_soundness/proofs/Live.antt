-- A datum is live if something holds it: a register, an argument of a task or of a rule, an output, a container or a notice.
use Rattle.std.proofs.Common.{[], ◌≡◌, ℕ, zero, suc, ◌+◌, ◌≤◌, Bool, true, false, List, ◌∷◌, slice_get, if◌then◌else◌, Option, Some, None, refl, sym, ap, subst, ◌∙◌, arith, nat_cmp}
use Rattle.tw_soundness.proofs.MachineNames.{Actor, Arg, ArgFits, ArgsFit, Datum, Frame, Free, IsHeld, Notice, Param, Procedure, Ready, Ref, RightArg, RightType, Rights, RightsFit, Rule, RuleArgsFit, Stage, State, Store, Task, Typing, Typings, Unasked, Waiting, context_of, count_of, get, held_is_there, hits, hits_same, is_val, is_write, nat_cmp-IsAntisymmetric, nat_cmp_total, option_flatten, params_in, part, part-le-total, read_by, read_until, reads_of, right_at, right_of, right_until, rule_reads, rule_writes, same_Some, task_reads, task_writes, total, typing_of, write_by, writes_of}
use Rattle.std.specs.FinSet as set
use Rattle.tw_soundness.proofs.Named.{notice_wants}
use Rattle.tw_soundness.proofs.Over.{over_params}
use Rattle.tw_soundness.proofs.Registers.{at_right}
use Rattle.tw_soundness.proofs.TaskEvents.{fits_of, other_reads, other_writes}
use Rattle.tw_soundness.proofs.Wanted.{wanted_is_there}

-- ---- one right, one count

right_counts : (d : ℕ) (right : RightType) → read_by d (Some right) (Some d) + write_by d (Some right) (Some d) ≡ 1
right_counts d right = by (is_write right.mode)
  where
    by : (b : Bool) → (if b then 0 else hits d d) + (if b then hits d d else 0) ≡ 1
    by true = let one = hits_same d in omega arith
    by false = let one = hits_same d in omega arith

arg_counts : (s : Store) (p : Param) (right : Option RightType) (d : ℕ) → ArgFits s p right (RightArg d) → read_by d right (Some d) + write_by d right (Some d) ≡ 1
arg_counts s p None d fit = absurd fit
arg_counts s p (Some right) d fit = right_counts d right

read_until_counts : (s : Store) (p : Param) (d : ℕ) → ArgFits s p (read_until p) (RightArg d) → read_by d (right_of p) (Some d) + write_by d (right_of p) (Some d) ≡ 1
read_until_counts s p d fit = until (is_val p.mode) fit
  where
    until : (b : Bool) → ArgFits s p (if b then None else Some (record { mode = Ref; ty = p.ty })) (RightArg d)
        → read_by d (if b then None else Some (record { mode = p.mode; ty = p.ty })) (Some d) + write_by d (if b then None else Some (record { mode = p.mode; ty = p.ty })) (Some d) ≡ 1
    until true fit = absurd fit
    until false fit = right_counts d (record { mode = p.mode; ty = p.ty })

-- also the datum of a rule's argument, at any stage
staged_right : (s : Store) (stage : Stage) (p : Param) (d : ℕ) → ArgFits s p (right_until stage p) (RightArg d) → read_by d (right_of p) (Some d) + write_by d (right_of p) (Some d) ≡ 1
staged_right s Free p d fit = arg_counts s p (right_of p) d fit
staged_right s Unasked p d fit = read_until_counts s p d fit
staged_right s Waiting p d fit = read_until_counts s p d fit
staged_right s Ready p d fit = arg_counts s p (right_of p) d fit

args_count : (s : Store) (params : List Param) (args : List Arg) (k d : ℕ) → ArgsFit s params args → slice_get args k ≡ Some (RightArg d) → 1 ≤ over_params (read_by d) params args + over_params (write_by d) params args
args_count s [] [] k d fit at = cc
args_count s [] (arg ∷ args) k d fit at = absurd fit
args_count s (p ∷ params) [] k d fit at = absurd fit
args_count s (p ∷ params) (arg ∷ args) zero d fit at =
    let arg_is : arg ≡ RightArg d = same_Some arg (RightArg d) at in
    let one = arg_counts s p (right_of p) d (subst (ArgFits s p (right_of p)) arg_is fit.0) in
    rw arg_is (omega arith)
args_count s (p ∷ params) (arg ∷ args) (suc k) d fit at = let rest = args_count s params args k d fit.1 at in omega arith

rule_args_count : (s : Store) (params : List Param) (stages : List Stage) (args : List Arg) (k d : ℕ) → RuleArgsFit s params stages args → slice_get args k ≡ Some (RightArg d)
    → 1 ≤ over_params (read_by d) params args + over_params (write_by d) params args
rule_args_count s [] [] [] k d fit at = cc
rule_args_count s [] [] (arg ∷ args) k d fit at = absurd fit
rule_args_count s [] (stage ∷ stages) args k d fit at = absurd fit
rule_args_count s (p ∷ params) [] args k d fit at = absurd fit
rule_args_count s (p ∷ params) (stage ∷ stages) [] k d fit at = absurd fit
rule_args_count s (p ∷ params) (stage ∷ stages) (arg ∷ args) zero d fit at =
    let arg_is : arg ≡ RightArg d = same_Some arg (RightArg d) at in
    let one = staged_right s stage p d (subst (ArgFits s p (right_until stage p)) arg_is fit.1) in
    rw arg_is (omega arith)
rule_args_count s (p ∷ params) (stage ∷ stages) (arg ∷ args) (suc k) d fit at = let rest = rule_args_count s params stages args k d fit.2 at in omega arith

-- if a register has an id, its typing has a right
pub typed_where_held : (s : Store) (typing : Typing) (rights : Rights) (k d : ℕ) → RightsFit s typing rights → right_at rights k ≡ Some d → (right : RightType) × (right_at typing k ≡ Some right)
typed_where_held s [] [] k d fit at = cc
typed_where_held s [] (r ∷ rights) k d fit at = absurd fit
typed_where_held s (t ∷ typing) [] k d fit at = absurd fit
typed_where_held s (Some right ∷ typing) (r ∷ rights) zero d fit at = (right, refl)
typed_where_held s (None ∷ typing) (Some id ∷ rights) zero d fit at = absurd fit.0
typed_where_held s (None ∷ typing) (None ∷ rights) zero d fit at = cc
typed_where_held s (t ∷ typing) (r ∷ rights) (suc k) d fit at = typed_where_held s typing rights k d fit.1 at

output_counts : (ids : List ℕ) (k d : ℕ) → slice_get ids k ≡ Some d → 1 ≤ count_of d ids
output_counts [] k d at = cc
output_counts (id ∷ ids) zero d at = let one : hits d id ≡ 1 = ap (hits d) (same_Some id d at) ∙ hits_same d in omega arith
output_counts (id ∷ ids) (suc k) d at = let rest = output_counts ids k d at in omega arith

-- ---- in a state

module _ (program : List Procedure) (typings : Typings) (s : State) (held : IsHeld program typings s) where
  abbrev pub IsLive : ℕ → Type 0
  IsLive d = (x : Datum) × (get s.store.live d ≡ Some x)

  there : (d : ℕ) → 1 ≤ reads_of program typings s d + writes_of program typings s d → IsLive d
  there d some = held_is_there s.store.live (reads_of program typings s) (writes_of program typings s) d held.counts.balanced some

  pub register_is_live : (a : Actor) (f : Frame) (k d : ℕ) → get s.frames a ≡ Some f → right_at f.rights k ≡ Some d → IsLive d
  register_is_live a f k d is at =
      let right = typed_where_held s.store (typing_of typings f) f.rights k d (held.types.rights a f is) at in
      let h = at_right k (typing_of typings f) (context_of s f) (other_reads program typings s a) (other_writes program typings s a) right.0 (fits_of program typings s held a f is) right.1 in
      let same : h.id ≡ d = same_Some h.id d (sym (ap option_flatten h.register) ∙ at) in
      (h.x, ap (get s.store.live) (sym same) ∙ h.live)

  pub task_is_live : (number : ℕ) (task : Task) (k d : ℕ) → get s.tasks number ≡ Some task → slice_get task.args k ≡ Some (RightArg d) → IsLive d
  task_is_live number task k d is at =
      let p = held.types.procedures.tasks number task is in
      let some = args_count s.store p.0.params task.args k d (held.types.args number task p.0 is p.1) at in
      let reads : task_reads program d task ≡ over_params (read_by d) p.0.params task.args = ap (λ o. over_params (read_by d) (params_in o) task.args) p.1 in
      let writes : task_writes program d task ≡ over_params (write_by d) p.0.params task.args = ap (λ o. over_params (write_by d) (params_in o) task.args) p.1 in
      let l : task_reads program d task ≤ total (task_reads program d) s.tasks = subst (λ o. part (task_reads program d) o ≤ total (task_reads program d) s.tasks) is (part-le-total nat_cmp nat_cmp_total nat_cmp-IsAntisymmetric (task_reads program d) s.tasks number) in
      let m : task_writes program d task ≤ total (task_writes program d) s.tasks = subst (λ o. part (task_writes program d) o ≤ total (task_writes program d) s.tasks) is (part-le-total nat_cmp nat_cmp_total nat_cmp-IsAntisymmetric (task_writes program d) s.tasks number) in
      there d (omega arith)

  pub rule_is_live : (number : ℕ) (rule : Rule) (k d : ℕ) → get s.rules number ≡ Some rule → slice_get rule.args k ≡ Some (RightArg d) → IsLive d
  rule_is_live number rule k d is at =
      let p = held.types.procedures.rules number rule is in
      let some = rule_args_count s.store p.0.params rule.stages rule.args k d (held.types.rules number rule p.0 is p.1) at in
      let reads : rule_reads program d rule ≡ over_params (read_by d) p.0.params rule.args = ap (λ o. over_params (read_by d) (params_in o) rule.args) p.1 in
      let writes : rule_writes program d rule ≡ over_params (write_by d) p.0.params rule.args = ap (λ o. over_params (write_by d) (params_in o) rule.args) p.1 in
      let l : rule_reads program d rule ≤ total (rule_reads program d) s.rules = subst (λ o. part (rule_reads program d) o ≤ total (rule_reads program d) s.rules) is (part-le-total nat_cmp nat_cmp_total nat_cmp-IsAntisymmetric (rule_reads program d) s.rules number) in
      let m : rule_writes program d rule ≤ total (rule_writes program d) s.rules = subst (λ o. part (rule_writes program d) o ≤ total (rule_writes program d) s.rules) is (part-le-total nat_cmp nat_cmp_total nat_cmp-IsAntisymmetric (rule_writes program d) s.rules number) in
      there d (omega arith)

  pub output_is_live : (k d : ℕ) → slice_get s.outputs k ≡ Some d → IsLive d
  output_is_live k d at = let one = output_counts s.outputs k d at in there d (omega arith)

  -- the datum of a notice
  pub notice_is_live : (n : Notice) → set.contains s.notices n ≡ true → IsLive n.datum
  notice_is_live n waits = wanted_is_there program typings s held.types held.counts n.datum (notice_wants s.store.live s.notices s.rules held.notices n waits)
