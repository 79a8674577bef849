-- A datum that is waited for has a read, so it is live.
use Rattle.std.proofs.Common.{◌≡◌, ℕ, zero, suc, ◌≤◌, true, false, if◌then◌else◌, List, [], ◌∷◌, slice_get, Option, Some, None, refl, sym, ap, subst, ◌∙◌, arith, nat_cmp}
use Rattle.tw_soundness.proofs.MachineNames.{Arg, Closed, CountsHeld, Datum, Free, Mode, Param, Procedure, Ready, Ref, RightArg, Rule, RuleArgsFit, Stage, State, Store, TypesHeld, Typings, Unasked, Val, Waiting, Write, arg_at, get, held_is_there, hits, hits_same, is_asked_for, is_closed_mode, is_val, is_write, nat_cmp-IsAntisymmetric, nat_cmp_total, params_in, part, part-le-total, read_by, reads_of, right_of, rule_reads, same_Some, stage_at, times_at, total, writes_of}
use Rattle.tw_soundness.proofs.Over.{over_params}
use Rattle.tw_soundness.proofs.Named.{Wanted}

closed_is_no_value : (mode : Mode) → is_closed_mode mode ≡ true → is_val mode ≡ false
closed_is_no_value Val e = cc
closed_is_no_value Closed e = refl
closed_is_no_value Ref e = cc
closed_is_no_value Write e = cc

closed_is_no_write : (mode : Mode) → is_closed_mode mode ≡ true → is_write mode ≡ false
closed_is_no_write Val e = cc
closed_is_no_write Closed e = refl
closed_is_no_write Ref e = cc
closed_is_no_write Write e = cc

-- an argument for a `closed` parameter is a read
pub closed_reads : (p : Param) (d : ℕ) → is_closed_mode p.mode ≡ true → read_by d (right_of p) (Some d) ≡ 1
closed_reads p d e =
    let one = hits_same d in
    let right : right_of p ≡ Some (record { mode = p.mode; ty = p.ty }) = ap (λ b. if b then None else Some (record { mode = p.mode; ty = p.ty })) (closed_is_no_value p.mode e) in
    ap (λ r. read_by d r (Some d)) right ∙ ap (λ b. if b then 0 else hits d d) (closed_is_no_write p.mode e) ∙ one

-- a parameter that is asked for has a read right since its rule was made
pub asked_reads : (s : Store) (params : List Param) (stages : List Stage) (args : List Arg) (k d : ℕ) (asked : Stage) → is_asked_for asked ≡ true → RuleArgsFit s params stages args → slice_get stages k ≡ Some asked → slice_get args k ≡ Some (RightArg d)
    → 1 ≤ over_params (read_by d) params args
asked_reads s [] [] [] k d asked known h e g = cc
asked_reads s [] [] (arg ∷ args) k d asked known h e g = absurd h
asked_reads s [] (stage ∷ stages) args k d asked known h e g = absurd h
asked_reads s (p ∷ params) [] args k d asked known h e g = absurd h
asked_reads s (p ∷ params) (stage ∷ stages) [] k d asked known h e g = absurd h
asked_reads s (p ∷ params) (stage ∷ stages) (arg ∷ args) zero d asked known h e g =
    let stage_is : stage ≡ asked = same_Some stage asked e in
    let arg_is : arg ≡ RightArg d = same_Some arg (RightArg d) g in
    let closed : is_closed_mode p.mode ≡ true = sym h.0 ∙ ap is_asked_for stage_is ∙ known in
    let one = closed_reads p d closed in
    rw arg_is (omega arith)
asked_reads s (p ∷ params) (stage ∷ stages) (arg ∷ args) (suc k) d asked known h e g =
    let rest = asked_reads s params stages args k d asked known h.2 e g in
    omega arith

module _ (program : List Procedure) (typings : Typings) (s : State) (types : TypesHeld program typings s) (counts : CountsHeld program typings s) where
  rule_held : (number : ℕ) (rule : Rule) (d : ℕ) → get s.rules number ≡ Some rule → rule_reads program d rule ≤ reads_of program typings s d
  rule_held number rule d is =
      let l : rule_reads program d rule ≤ total (rule_reads program d) s.rules = subst (λ o. part (rule_reads program d) o ≤ total (rule_reads program d) s.rules) is (part-le-total nat_cmp nat_cmp_total nat_cmp-IsAntisymmetric (rule_reads program d) s.rules number) in
      omega arith

  -- the datum of a parameter that is asked for is therefore live
  pub asked_is_there : (number : ℕ) (rule : Rule) (k d : ℕ) (stage : Stage) → get s.rules number ≡ Some rule → slice_get rule.stages k ≡ Some stage → is_asked_for stage ≡ true → slice_get rule.args k ≡ Some (RightArg d)
      → (x : Datum) × (get s.store.live d ≡ Some x)
  asked_is_there number rule k d stage is at known arg =
      let p = types.procedures.rules number rule is in
      let fit = types.rules number rule p.0 is p.1 in
      let one = asked_reads s.store p.0.params rule.stages rule.args k d stage known fit at arg in
      let of : rule_reads program d rule ≡ over_params (read_by d) p.0.params rule.args = ap (λ o. over_params (read_by d) (params_in o) rule.args) p.1 in
      let l = rule_held number rule d is in
      held_is_there s.store.live (reads_of program typings s) (writes_of program typings s) d counts.balanced (omega arith)

  -- a datum for which a parameter waits is live
  pub wanted_is_there : (d : ℕ) → Wanted s.rules d → (x : Datum) × (get s.store.live d ≡ Some x)
  wanted_is_there d w = by (get s.rules w.rule) refl
    where
      waits : (o : Option Stage) → times_at o ≡ 1 → o ≡ Some Waiting
      waits None e = cc
      waits (Some Free) e = cc
      waits (Some Unasked) e = cc
      waits (Some Waiting) e = refl
      waits (Some Ready) e = cc

      by : (o : Option Rule) → get s.rules w.rule ≡ o → (x : Datum) × (get s.store.live d ≡ Some x)
      by None e = let z : None ≡ Some (RightArg d) = sym (ap (λ o. arg_at o w.parameter) e) ∙ w.arg in cc
      by (Some rule) e =
          let stage = waits (slice_get rule.stages w.parameter) (sym (ap (λ o. times_at (stage_at o w.parameter)) e) ∙ w.waits) in
          let arg : slice_get rule.args w.parameter ≡ Some (RightArg d) = sym (ap (λ o. arg_at o w.parameter) e) ∙ w.arg in
          asked_is_there w.rule rule w.parameter d Waiting e stage refl arg
