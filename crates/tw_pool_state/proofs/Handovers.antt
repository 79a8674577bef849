-- RULE and PUT: arguments that leave the frame, and the rest of it.
use Rattle.std.proofs.Common.{map as each, ◌≡◌, ◌+◌, ◌<◌, ◌≤◌, ◌∙◌, ℕ, List, Option, Some, IsSome, refl, sym, ap, subst, slice_get, length, arith}
use Rattle.tw_pool_state.proofs.PartNames.{Action, Actor, ActorCounts, AreParts, ArePlaced, Arg, ArgsMatch, Bundled, FrameFits, FrameView, Held, Instr, IsProcedure, IsProgram, Notices, Parts, Procedure, TypedProgram, Typing, Value, all_found, at_next_place, bare_arg, bare_file, bare_frame, bundled, context_of, frame_after_call, frame_at_next, get, kinds_in, kinds_of, named_values, params_in, params_of, same_Some, slice_get_within, state_of, typing_at, typings_of, without_args}
use Rattle.tw_pool_state.proofs.Copied.{are_vals}
use Rattle.tw_pool_state.proofs.Handing.{Handed, handed}
use Rattle.tw_pool_state.proofs.Kinding.{kinds_left}
use Rattle.tw_pool_state.proofs.Naming.{IsNamed}

-- a place in the code is a small number
pub low_place : (program : List Procedure) → IsProgram program → (k : ℕ) (p : Procedure) → slice_get program k ≡ Some p → (place : ℕ) (i : Instr) → slice_get p.code place ≡ Some i → place < 4096
low_place program is k p here place i at =
    let limits = all_found IsProcedure program k p is.1 here in
    omega (arith, slice_get_within p.code place i at, limits.code.0.1)

-- a procedure has few parameters
pub few_params : (program : List Procedure) → IsProgram program → (k : ℕ) (p : Procedure) → slice_get program k ≡ Some p → length p.params ≤ 8
few_params program is k p here = (all_found IsProcedure program k p is.1 here).params.0.1

module _ (verified : TypedProgram) (layout : ActorCounts) (old : Parts) (notices : Notices) (h : AreParts verified layout old notices)
    (actor : Actor) (f : FrameView) (p : Procedure) (action : Action) (runs : get old.running_tasks.tasks actor ≡ Some f)
    (u : IsNamed verified.program p.kind (context_of (state_of old notices) (bare_frame f)) action f.held)
    (vals : List Value) (are : each Some vals ≡ named_values f.position.values u.procedure.params action.args) where
  fits : FrameFits verified old.store.places actor f
  fits = h.rights_fit.frames actor f runs

  abbrev pub typing : Typing
  typing = typing_at (typings_of verified) f.procedure f.position.place

  all_handed : Handed old.store.places u.procedure.params action.args f.held vals u.given
  all_handed = handed old.store.places f.position.values f.held u.procedure.params action.args vals u.given u.long u.handed u.suits (are_vals f.position.values u.procedure.params action.args vals are) fits.placed

  pub may_bundle : IsSome (bundled f.held u.procedure.params action.args vals)
  may_bundle = subst IsSome (sym all_handed.goes) refl

  module _ (args : List Arg) (file : List (Option Held)) (over : bundled f.held u.procedure.params action.args vals ≡ Some (record { args = args; file = file })) where
    same : all_handed.over ≡ record { args = args; file = file }
    same = same_Some all_handed.over (record { args = args; file = file }) (sym all_handed.goes ∙ over)

    pub bare_args : each bare_arg args ≡ u.given.args
    bare_args = ap (λ (o : Bundled). each bare_arg o.args) (sym same) ∙ all_handed.args

    pub frame_is : bare_frame (frame_at_next f file) ≡ frame_after_call (bare_frame f) u.given.rights
    frame_is =
        let rights : bare_file file ≡ u.given.rights = ap (λ (o : Bundled). bare_file o.file) (sym same) ∙ all_handed.rights in
        λ i. record { task = f.task; procedure = f.procedure; position = at_next_place f.position; rights = rights i; spent = f.spent + 1 }

    pub args_match : ArgsMatch old.store.places (params_of verified.program action.procedure) args
    args_match = subst (λ ps. ArgsMatch old.store.places ps args) (sym (ap params_in u.is)) (subst (λ (o : Bundled). ArgsMatch old.store.places u.procedure.params o.args) same all_handed.rights_fit)

    pub fits_after : typing_at (typings_of verified) f.procedure (f.position.place + 1) ≡ without_args (params_of verified.program action.procedure) action.args typing → FrameFits verified old.store.places actor (frame_at_next f file)
    fits_after following_is = record {
      program = fits.program;
      own = fits.own;
      placed = subst (λ (o : Bundled). ArePlaced old.store.places o.file) same all_handed.placed;
      kinds = ap (λ (o : Bundled). kinds_of o.file) (sym same) ∙ ap kinds_of all_handed.gone ∙ kinds_left u.procedure.params action.args f.held typing fits.kinds
          ∙ ap (λ ps. kinds_in (without_args ps action.args typing)) (sym (ap params_in u.is)) ∙ ap kinds_in (sym following_is);
    }
