use Rattle.tw_handles.proofs.Names.{List, Some, ap, arith, length, named, refl, slice_get, slice_get_past, slice_get_read, sym, ℕ, ◌∙◌, ◌≡◌}
use Rattle.tw_handles.proofs.Search.{nowhere_freed, nowhere_past, there_in}
use Rattle.tw_handles.proofs.finding.place_of.Goals as goal

pub returns-in-Some : goal.returns-in-Some
returns-in-Some c =
    let outs = c.outputs-outputs.result.now in
    let read : slice_get outs c.args.index ≡ Some c.index-outputs-index.result = slice_get_read outs (length outs) c.args.index c.index-outputs-index.result refl c.if-index-outputs.true c.index-outputs-index.is in
    let at = ap (λ (xs : List ℕ). slice_get xs c.args.index) (sym c.outputs-outputs.ensures) ∙ read in
    there_in c.args.outcome.now c.args.index (named c.args.subscript) c.index-outputs-index.result c.in-Some.datum.now.datum c.place_in.result at (sym c.in-Some.ensures.datum) c.place_in.ensures

pub returns-in-None : goal.returns-in-None
returns-in-None c =
    let outs = c.outputs-outputs.result.now in
    let read : slice_get outs c.args.index ≡ Some c.index-outputs-index.result = slice_get_read outs (length outs) c.args.index c.index-outputs-index.result refl c.if-index-outputs.true c.index-outputs-index.is in
    let at = ap (λ (xs : List ℕ). slice_get xs c.args.index) (sym c.outputs-outputs.ensures) ∙ read in
    nowhere_freed c.args.outcome.now c.args.index (named c.args.subscript) c.index-outputs-index.result at (sym c.in-None.ensures.datum)

pub returns-else-index-outputs : goal.returns-else-index-outputs
returns-else-index-outputs c =
    let outs = c.outputs-outputs.result.now in
    let past = ap (λ (xs : List ℕ). slice_get xs c.args.index) (sym c.outputs-outputs.ensures) ∙ slice_get_past outs c.args.index (omega (arith, c.if-index-outputs.false)) in
    nowhere_past c.args.outcome.now c.args.index (named c.args.subscript) past
