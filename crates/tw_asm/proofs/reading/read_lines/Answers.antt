use Rattle.tw_asm.proofs.AsmNames.{None, YieldsList-at, YieldsList-end, YieldsList-from_enumerate, YieldsList-so_far, YieldsList-turn, line_turn, lines, map, refl, rules, seen_reading, sym, ◌∙◌}
use Rattle.std.proofs.lemmas.Iterator.Splits.{YieldsList-from_lines}
use Rattle.tw_asm.proofs.Steps.{items_more, line_stopped, lines_end}
use Rattle.tw_asm.proofs.Blank.{no_words}
use Rattle.tw_asm.proofs.reading.read_lines.Goals as goal

pub returns-in-Err : goal.returns-in-Err
returns-in-Err c =
    let road = YieldsList-at c.into_iter-index-iterator.ensures.into_iter_gives (YieldsList-from_enumerate (YieldsList-at c.enumerate-index-items.ensures.source (YieldsList-from_lines c.args.text.now c.lines.ensures.rest)) c.enumerate-index-items.ensures.count) in
    let t = YieldsList-turn road c.loop-index.yielded _ c.loop-index.yielded_by _ _ (c.in-Some.index, c.in-Some.line) c.in-Some.is c.next.ensures.steps in
    let at = line_turn (lines c.args.text.now) c.loop-index.yielded c.in-Some.index c.in-Some.line.now (YieldsList-so_far road c.loop-index.yielded _ c.loop-index.yielded_by) t.0 t.1 in
    line_stopped c.args.text.now (map (λ item. item.1.now) c.loop-index.yielded) c.in-Some.line.now c.in-Some.index (seen_reading c.loop-index.reading) c.in-Err.fault at c.loop-index.invariant.read c.in-Err.ensures

pub loop-index-preserved-then-not-is_plainly_blank : goal.loop-index-preserved-then-not-is_plainly_blank
loop-index-preserved-then-not-is_plainly_blank c =
    let road = YieldsList-at c.into_iter-index-iterator.ensures.into_iter_gives (YieldsList-from_enumerate (YieldsList-at c.enumerate-index-items.ensures.source (YieldsList-from_lines c.args.text.now c.lines.ensures.rest)) c.enumerate-index-items.ensures.count) in
    let t = YieldsList-turn road c.loop-index.yielded _ c.loop-index.yielded_by _ _ (c.in-Some.index, c.in-Some.line) c.in-Some.is c.next.ensures.steps in
    let at = line_turn (lines c.args.text.now) c.loop-index.yielded c.in-Some.index c.in-Some.line.now (YieldsList-so_far road c.loop-index.yielded _ c.loop-index.yielded_by) t.0 t.1 in
    record {
      next = search rules;
      finite = search rules;
      read = items_more c.loop-index.yielded (c.in-Some.index, c.in-Some.line) (seen_reading c.loop-index.reading) (seen_reading c.in-Ok.next) at.index_is c.loop-index.invariant.read c.in-Ok.ensures;
    }

pub loop-index-preserved : goal.loop-index-preserved
loop-index-preserved c =
    let road = YieldsList-at c.into_iter-index-iterator.ensures.into_iter_gives (YieldsList-from_enumerate (YieldsList-at c.enumerate-index-items.ensures.source (YieldsList-from_lines c.args.text.now c.lines.ensures.rest)) c.enumerate-index-items.ensures.count) in
    let t = YieldsList-turn road c.loop-index.yielded _ c.loop-index.yielded_by _ _ (c.in-Some.index, c.in-Some.line) c.in-Some.is c.next.ensures.steps in
    let at = line_turn (lines c.args.text.now) c.loop-index.yielded c.in-Some.index c.in-Some.line.now (YieldsList-so_far road c.loop-index.yielded _ c.loop-index.yielded_by) t.0 t.1 in
    record {
      next = search rules;
      finite = search rules;
      read = items_more c.loop-index.yielded (c.in-Some.index, c.in-Some.line) (seen_reading c.loop-index.reading) (seen_reading c.loop-index.reading) at.index_is c.loop-index.invariant.read
          (None, no_words c.in-Some.line.now (sym c.is_plainly_blank.ensures ∙ c.if-not-is_plainly_blank.false), refl);
    }

pub returns : goal.returns
returns c =
    let road = YieldsList-at c.into_iter-index-iterator.ensures.into_iter_gives (YieldsList-from_enumerate (YieldsList-at c.enumerate-index-items.ensures.source (YieldsList-from_lines c.args.text.now c.lines.ensures.rest)) c.enumerate-index-items.ensures.count) in
    let t = YieldsList-end road c.loop-index.yielded _ c.loop-index.yielded_by _ _ c.in-None.is c.next.ensures.steps in
    lines_end (lines c.args.text.now) c.loop-index.yielded (seen_reading c.loop-index.reading) t.0 c.loop-index.invariant.read
