use Rattle.std.proofs.Common.{◌∙◌, ap, sym, subst, ◌≡◌, false, option_map}
use Rattle.serde_json.specs.Data as json
use Rattle.serde_json.specs.Written.{members_have_float}
use Rattle.tw_json_output.specs.Run.{with_circle, with_pending}
use Rattle.tw_json_output.proofs.Floats.{of_run}
use Rattle.tw_json_output.proofs.run_object.end_members.Goals as goal

pub returns-clause-whole : goal.returns-clause-whole
returns-clause-whole g c =
    let end = c.args.end.now in
    let is = c.in_ok-put_pending.ensures ∙ ap (λ (ms : json.Members). with_circle (option_map (λ v. v.items) end.circle) (with_pending end.pending ms)) c.in_ok-members.ensures in
    subst (λ (ms : json.Members). members_have_float ms ≡ false) (sym is) (of_run end.status.now end.pending (option_map (λ v. v.items) end.circle) c.args.numbers.events c.args.numbers.instructions (g.T.ReportSource.live c.args.shown.now) (g.T.ReportSource.ids c.args.shown.now))
