use Rattle.tw_verify.proofs.VerifierNames.{AreUpTo, HasChanged, Instr, IsEndOf, IsWellTyped, List, Option, Reached, Some, Typing, [], ap, arith, drop, first_row, length, lowest_at, option_map, refl, rejection_in, requires_at, slice_get, slice_get_read, start_typing, subst, sym, take, verify_error_code, ℕ, ◌++◌, ◌+◌, ◌∙◌, ◌∷◌, ◌≡◌}
use Rattle.tw_verify.proofs.Causes.{nothing_at}
use Rattle.tw_verify.proofs.Mistakes.{none_typed, typed_more, unreached, rejection_at}
use Rattle.tw_verify.proofs.Reaching.{IsRow, HasReached, start_row, rows_more, whole_slice}
use Rattle.tw_verify.proofs.Stops.{up_to_reached, up_to_unreached}
use Rattle.tw_verify.proofs.pass.typing_pass.Goals as goal

pub loop-place-init : goal.loop-place-init
loop-place-init c =
    let program = c.args.procedures.now in
    let p = c.args.procedure.now in
    let start : c.start.result ≡ start_typing p.params = c.start.ensures ∙ ap start_typing c.as_slice.ensures in
    record {
      typed = subst (λ (xs : List Typing). IsWellTyped program p xs 0) (sym c.new-all.ensures.items) (none_typed program p);
      long = c.in_ok-rows.ensures.0;
      rows = λ k row at.
          let is : row ≡ first_row (start_typing p.params) k = c.in_ok-rows.ensures.1 k row at ∙ ap (λ (t : Typing). first_row t k) start in
          subst (λ (xs : List Typing). IsRow program p xs 0 k row) (sym c.new-all.ensures.items) (subst (λ (x : Option Reached). IsRow program p [] 0 k x) (sym is) (start_row program p k));
    }

pub returns-in_default : goal.returns-in_default
returns-in_default c =
    let program = c.args.procedures.now in
    let p = c.args.procedure.now in
    let all = c.loop-place.all.items in
    let place = c.loop-place.place in
    let typed = c.loop-place.invariant.typed in
    let at = subst (λ (xs : List (Option Reached)). slice_get xs place ≡ Some c.row_at.result) c.deref.ensures.value c.row_at.ensures in
    let row = subst (λ (x : Option Reached). IsRow program p all (place + place) place x) c.in_default.is (c.loop-place.invariant.rows place c.row_at.result at) in (
      unreached program p all place typed row (omega (arith, ap (length {A = Instr}) c.as_slice-code.ensures)),
      subst (λ (ts : List Typing). AreUpTo program p place ts) (sym c.from.ensures) (up_to_unreached program p all place typed row),
    )

pub returns-in-Some-typing_rejection : goal.returns-in-Some-typing_rejection
returns-in-Some-typing_rejection c =
    let program = c.args.procedures.now in
    let p = c.args.procedure.now in
    let all = c.loop-place.all.items in
    let place = c.loop-place.place in
    let typed = c.loop-place.invariant.typed in
    let r = c.in-Some.reached in
    let code = c.as_slice-code.result.now in
    let i = c.index-code-place.result in
    let changed = c.is_changed-changed.result in
    let at = subst (λ (xs : List (Option Reached)). slice_get xs place ≡ Some c.row_at.result) c.deref.ensures.value c.row_at.ensures in
    let row : HasReached program p all (place + place) place r = subst (λ (x : Option Reached). IsRow program p all (place + place) place x) c.in-Some.is (c.loop-place.invariant.rows place c.row_at.result at) in
    let here : slice_get p.code place ≡ Some i = ap (λ (xs : List Instr). slice_get xs place) (sym c.as_slice-code.ensures) ∙ slice_get_read code (length code) place i refl c.loop-place-test.true c.index-code-place.is in
    let is : lowest_at (rejection_in (requires_at program p place i r.typing)) r.differs changed ≡ Some (verify_error_code c.in-Some-typing_rejection.no) = sym c.typing_rejection.ensures ∙ ap (option_map verify_error_code) c.in-Some-typing_rejection.is in (
      rejection_at program p all place (verify_error_code c.in-Some-typing_rejection.no) r i changed typed row here
          (λ e. subst (λ (ts : List Typing). HasChanged p.code ts place r.typing) c.deref-in-loop-place.ensures.value (subst (λ (xs : List Instr). HasChanged xs c.deref-in-loop-place.result.now place r.typing) c.as_slice-code.ensures (c.is_changed-changed.ensures.found e)))
          (λ first begun e end there. c.is_changed-changed.ensures.all first begun e (subst (λ (xs : List Instr). IsEndOf xs first place) (sym c.as_slice-code.ensures) end) (subst (λ (ts : List Typing). slice_get ts first ≡ Some begun) (sym c.deref-in-loop-place.ensures.value) there))
          is,
      up_to_reached program p all c.from-in-Some-typing_rejection.result place r.typing typed row.first (c.from-in-Some-typing_rejection.ensures ∙ c.in_ok-keep.ensures),
    )

pub loop-place-preserved : goal.loop-place-preserved
loop-place-preserved c =
    let program = c.args.procedures.now in
    let p = c.args.procedure.now in
    let all = c.loop-place.all.items in
    let place = c.loop-place.place in
    let r = c.in-Some.reached in
    let code = c.as_slice-code.result.now in
    let i = c.index-code-place.result in
    let changed = c.is_changed-changed.result in
    let old = c.loop-place.rows.items in
    let new = c.send_both.new.rows in
    let at = subst (λ (xs : List (Option Reached)). slice_get xs place ≡ Some c.row_at.result) c.deref.ensures.value c.row_at.ensures in
    let row : HasReached program p all (place + place) place r = subst (λ (x : Option Reached). IsRow program p all (place + place) place x) c.in-Some.is (c.loop-place.invariant.rows place c.row_at.result at) in
    let here : slice_get p.code place ≡ Some i = ap (λ (xs : List Instr). slice_get xs place) (sym c.as_slice-code.ensures) ∙ slice_get_read code (length code) place i refl c.loop-place-test.true c.index-code-place.is in
    let nothing = nothing_at (rejection_in (requires_at program p place i r.typing)) r.differs changed (sym c.typing_rejection.ensures ∙ ap (option_map verify_error_code) c.in_default-typing_rejection.is) in
    let kept : c.keep.new.list.items ≡ all ++ r.typing ∷ [] = c.in_ok-keep.ensures in
    let same : length new ≡ length old = c.send_both.auto.rows ∙ ap length c.deref_mut.ensures.value in
    let whole : take c.loop-place.rows.len (new ++ drop (length new) old) ≡ new = whole_slice new old c.loop-place.rows.len same c.loop-place.rows.ok.0 in
    let typed = typed_more program p all place r i c.loop-place.invariant.typed row here nothing.0 nothing.1 (λ first begun end there. c.is_changed-changed.ensures.all first begun nothing.2 (subst (λ (xs : List Instr). IsEndOf xs first place) (sym c.as_slice-code.ensures) end) (subst (λ (ts : List Typing). slice_get ts first ≡ Some begun) (sym c.deref-in-loop-place.ensures.value) there)) in
    let rows = rows_more program p all place i r.typing old new c.loop-place.invariant.typed.long here same (λ k x was. c.send_both.ensures k x (subst (λ (xs : List (Option Reached)). slice_get xs k ≡ Some x) (sym c.deref_mut.ensures.value) was)) c.loop-place.invariant.rows in
    record {
      typed = subst (λ (xs : List Typing). IsWellTyped program p xs (place + 1)) (sym kept) typed;
      long = ap length whole ∙ same ∙ c.loop-place.invariant.long;
      rows = subst (λ (xs : List (Option Reached)). (k : ℕ) (x : Option Reached) → slice_get xs k ≡ Some x → IsRow program p c.keep.new.list.items (place + 1 + (place + 1)) k x) (sym whole)
          (subst (λ (ts : List Typing). (k : ℕ) (x : Option Reached) → slice_get new k ≡ Some x → IsRow program p ts (place + 1 + (place + 1)) k x) (sym kept) rows);
    }
