use Rattle.tw_instr.proofs.Names.{Frame, IfOk, Instr, List, Position, Some, Went, ap, local_step, local_steps, slice_get, slice_get-get_or, subst, sym, ◌<◌, ◌∙◌, ◌≡◌}
use Rattle.tw_instr.proofs.Stretches.{stretched}
use Rattle.tw_instr.proofs.frame.Frame.local_steps.Goals as goal

pub returns : goal.returns
returns c =
    let program = c.args.program.now in
    let p = c.in-Some.procedure.now in
    let lookup = c.in-Some.ensures.lookup in
    let number = c.from.ensures ∙ ap (λ (f : Frame). f.procedure) c.self.view_is in
    let here = ap (slice_get program) (sym number) ∙ slice_get-get_or program c.from.result p lookup.3.0 ∙ ap Some (sym (lookup.3.1 p)) in
    stretched program c.args.self.now p c.args.most c.in_ok-position.position c.count_local.new.position c.count_local.result here
    (c.in_ok-position.ensures ∙ ap (λ (f : Frame). f.position) c.self.view_is) c.count_local.ensures.few
    (subst (λ (code : List Instr). IfOk c.count_local.result (λ n. local_steps n code c.in_ok-position.position ≡ Went c.count_local.new.position)) c.as_slice.ensures c.count_local.ensures.go)
    (subst (λ (code : List Instr). IfOk c.count_local.result (λ n. n < c.args.most → (at : Position) → local_step code c.count_local.new.position ≡ Went at → ⊥)) c.as_slice.ensures c.count_local.ensures.whole)
