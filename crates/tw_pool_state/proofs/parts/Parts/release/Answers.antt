use Rattle.std.proofs.Common.{◌≡◌, ◌∙◌, sym, ap, refl, Some, arith, to_z-of_z, to_z, of_z, w64, IsSome, subst, List, slice_get, option_map}
use Rattle.tw_pool_state.proofs.PartNames.{Arg, IsTarget, Procedure, RuleOf, action_of, get, insert, same_Some, task_from, waiting}
use Rattle.std.specs.declared.option.Option.{Option}
use Rattle.tw_rules.specs.declared.planned.PlannedTask.{PlannedTask}
use Rattle.tw_pool_state.proofs.Releases.{its, fresh, releasable, procedure, releases, target}
use Rattle.tw_pool_state.proofs.parts.Parts.release.Goals as goal

-- the action of the rule that is there
its_action : (o : Option (RuleOf Arg)) (r : RuleOf Arg) (a : PlannedTask) → o ≡ Some r → option_map action_of o ≡ Some a → action_of r ≡ a
its_action o r a at e = same_Some (action_of r) a (sym (ap (option_map action_of) at) ∙ e)

its_args : (o : Option (RuleOf Arg)) (r : RuleOf Arg) (args : List Arg) → o ≡ Some r → option_map (λ (r : RuleOf Arg). r.args) o ≡ Some args → r.args ≡ args
its_args o r args at e = same_Some r.args args (sym (ap (option_map (λ (r : RuleOf Arg). r.args)) at) ∙ e)

-- its procedure, looked up by that action
callee_is : (procedures program : List Procedure) (r : RuleOf Arg) (a : PlannedTask) (p : Procedure) → procedures ≡ program → action_of r ≡ a → slice_get program r.procedure ≡ Some p → slice_get procedures a.procedure ≡ Some p
callee_is procedures program r a p same is here = ap (λ ps. slice_get ps a.procedure) same ∙ ap (λ (x : PlannedTask). slice_get program x.procedure) (sym is) ∙ here

pub action-action-requires : goal.action-action-requires
action-action-requires c =
    let p = c.requires.parts in
    subst IsSome (sym (its c.args.verified.now p.0 c.args.self.now p.1 p.2 c.args.engine c.in-Some.rule (sym c.in-Some.ensures)).there) refl

pub procedure_at-callee-requires : goal.procedure_at-callee-requires
procedure_at-callee-requires c =
    let p = c.requires.parts in
    let it = its c.args.verified.now p.0 c.args.self.now p.1 p.2 c.args.engine c.in-Some.rule (sym c.in-Some.ensures) in
    let q = procedure c.args.verified.now p.0 c.args.self.now p.1 p.2 c.args.engine c.in-Some.rule (sym c.in-Some.ensures) in
    let a = its_action _ it.x c.action-action.result it.there c.action-action.ensures in
    subst IsSome (sym (callee_is c.procedures.result.now c.args.verified.now.program it.x c.action-action.result q.0 (c.procedures.ensures.is ∙ c.program.ensures.is) a q.1)) refl

pub reserve-requires : goal.reserve-requires
reserve-requires c =
    let p = c.requires.parts in
    let it = its c.args.verified.now p.0 c.args.self.now p.1 p.2 c.args.engine c.in-Some.rule (sym c.in-Some.ensures) in
    let a = its_action _ it.x c.action-action.result it.there c.action-action.ensures in
    subst (λ (x : PlannedTask). IsTarget x.target) a (target c.args.verified.now p.0 c.args.self.now p.1 p.2 c.args.engine c.in-Some.rule (sym c.in-Some.ensures))

pub release-args-requires : goal.release-args-requires
release-args-requires c =
    let p = c.requires.parts in
    releasable c.args.verified.now p.0 c.args.self.now p.1 p.2 c.args.engine c.in-Some.rule (sym c.in-Some.ensures)

pub put-requires-clause-new : goal.put-requires-clause-new
put-requires-clause-new c =
    let p = c.requires.parts in
    ap (λ ts. get ts c.new.result) c.in-Ok.ensures.same ∙ ap (get c.args.self.now.tasks.tasks) c.new.ensures
    ∙ fresh c.args.verified.now p.0 c.args.self.now p.1 p.2

pub put-requires-clause-target : goal.put-requires-clause-target
put-requires-clause-target c =
    let p = c.requires.parts in
    let it = its c.args.verified.now p.0 c.args.self.now p.1 p.2 c.args.engine c.in-Some.rule (sym c.in-Some.ensures) in
    let a = its_action _ it.x c.action-action.result it.there c.action-action.ensures in
    subst (λ (x : PlannedTask). IsTarget x.target) a (target c.args.verified.now p.0 c.args.self.now p.1 p.2 c.args.engine c.in-Some.rule (sym c.in-Some.ensures))

pub returns : goal.returns
returns c = (
  sym c.in-Some.ensures,
  λ layout notices h.
      let old = c.args.self.now in
      let verified = c.args.verified.now in
      let it = its verified layout old notices h c.args.engine c.in-Some.rule (sym c.in-Some.ensures) in
      let q = procedure verified layout old notices h c.args.engine c.in-Some.rule (sym c.in-Some.ensures) in
      let a = its_action _ it.x c.action-action.result it.there c.action-action.ensures in
      let args = its_args _ it.x c.release-args.result it.there c.release-args.ensures.args in
      let callee = same_Some q.0 c.procedure_at-callee.result.now (sym (callee_is c.procedures.result.now verified.program it.x c.action-action.result q.0 (c.procedures.ensures.is ∙ c.program.ensures.is) a q.1) ∙ c.procedure_at-callee.ensures) in
      let kind = c.procedure_at-callee.result.now.kind in
      let task : waiting kind c.action-action.result.priority c.action-action.result.target (record { no = c.new.result; procedure = c.action-action.result.procedure; args = c.release-args.result }) ≡ task_from kind it.x =
      λ i. record { kind = kind; procedure = (sym a i).procedure; priority = (sym a i).priority; target = (sym a i).target; args = sym args i } in
      let key : to_z w64 (of_z w64 c.action-action.result.priority) ≡ c.action-action.result.priority = grind (arith, to_z-of_z) in
      releases verified layout old notices h c.args.engine c.in-Some.rule (sym c.in-Some.ensures) c.requires.free _ kind (ap (λ (p : Procedure). p.kind) callee)
      refl c.release-args.ensures.rules c.release-args.ensures.next
      (c.in-Ok-put.ensures.put ∙ ap (λ z. insert c.reserve.new.self.tasks c.new.result (waiting kind z c.action-action.result.target (record { no = c.new.result; procedure = c.action-action.result.procedure; args = c.release-args.result }))) key
      ∙ ap (insert c.reserve.new.self.tasks c.new.result) task
      ∙ ap (λ ts. insert ts c.new.result (task_from kind it.x)) c.in-Ok.ensures.same
      ∙ ap (λ n. insert old.tasks.tasks n (task_from kind it.x)) c.new.ensures)
      refl refl refl,
)
