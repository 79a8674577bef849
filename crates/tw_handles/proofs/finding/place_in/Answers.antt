use Rattle.tw_handles.proofs.Names.{arith, named, refl, subscripts_of, ◌+◌, ◌-◌, ◌/◌}
use Rattle.tw_handles.proofs.Search.{count_of, found_at, found_none, narrowed_from, narrowed_to, rising_in, whole}
use Rattle.tw_handles.proofs.finding.place_in.Goals as goal

pub loop-low-init : goal.loop-low-init
loop-low-init c =
    let content = c.args.datum.now.datum.content in
    whole (subscripts_of content) (named c.args.subscript) 0 c.count-high.result refl (omega (arith, c.count-high.ensures, count_of content))

pub loop-low-preserved-in-Less : goal.loop-low-preserved-in-Less
loop-low-preserved-in-Less c =
    let content = c.args.datum.now.datum.content in let low = c.loop-low.low in let high = c.loop-low.high in
    narrowed_to (subscripts_of content) (named c.args.subscript) (rising_in content) low high (low + (high - low) / 2) c.loop-low.invariant c.in-Less.ensures

pub returns-in-Equal : goal.returns-in-Equal
returns-in-Equal c =
    let content = c.args.datum.now.datum.content in let low = c.loop-low.low in let high = c.loop-low.high in
    found_at (subscripts_of content) (named c.args.subscript) (rising_in content) (low + (high - low) / 2) c.in-Equal.ensures

pub loop-low-preserved : goal.loop-low-preserved
loop-low-preserved c =
    let content = c.args.datum.now.datum.content in let low = c.loop-low.low in let high = c.loop-low.high in
    narrowed_from (subscripts_of content) (named c.args.subscript) (rising_in content) low high (low + (high - low) / 2) c.loop-low.invariant c.in-Greater.ensures

pub returns : goal.returns
returns c =
    let content = c.args.datum.now.datum.content in
    found_none (subscripts_of content) (named c.args.subscript) (rising_in content) c.loop-low.low c.loop-low.high c.loop-low.invariant (omega (arith, c.loop-low-test.false))
