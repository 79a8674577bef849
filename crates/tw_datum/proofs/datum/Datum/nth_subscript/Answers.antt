use Rattle.std.proofs.Common.{sym, ap, ◌∙◌, slice_get, option_map}
use Rattle.tw_types.specs.StoreCalls.{subscripts_of}
use Rattle.tw_datum.specs.Kept.{KeptDatum, content_of}
use Rattle.tw_datum.proofs.Subscripts.{nth_key, nth_subscript}
use Rattle.tw_datum.proofs.datum.Datum.nth_subscript.Goals as goal

pub returns-in-Contains : goal.returns-in-Contains
returns-in-Contains g c =
    let id = g.M.Member.id in
    c.subscript_of.ensures ∙ ap (option_map (λ e. e.0)) c.nth.ensures ∙ nth_subscript id c.in-Contains.members c.args.index
    ∙ ap (λ x. slice_get (subscripts_of (content_of id x)) c.args.index) (sym c.in-Contains.is) ∙ ap (λ (d : KeptDatum g.row.M.Denot). slice_get (subscripts_of d.datum.content) c.args.index) c.self.view_is

pub returns-in-Maps : goal.returns-in-Maps
returns-in-Maps g c =
    let id = g.M.Member.id in
    c.subscript_of-in-Maps.ensures ∙ ap (option_map (λ e. e.0)) c.nth-in-Maps.ensures ∙ nth_key c.in-Maps.values c.args.index
    ∙ ap (λ x. slice_get (subscripts_of (content_of id x)) c.args.index) (sym c.in-Maps.is) ∙ ap (λ (d : KeptDatum g.row.M.Denot). slice_get (subscripts_of d.datum.content) c.args.index) c.self.view_is
