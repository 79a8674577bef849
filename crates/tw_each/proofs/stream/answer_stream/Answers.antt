use Rattle.tw_each.proofs.Names.{Consumes, List, Read, ap, arith, err_from_is_err_and, length, subst, sym, take, way, ℕ, ◌<◌, ◌∙◌, ◌≡◌}
use Rattle.tw_each.proofs.Chunks.{all_answered, as_far_same, chunk_stops, one_more_chunk, read_stops, still_as_far}
use Rattle.tw_each.proofs.Room.{at_end, whole_room}
use Rattle.tw_each.proofs.Written.{keeps_same}
use Rattle.tw_each.proofs.stream.answer_stream.Goals as goal
use Rattle.tw_each.proofs.stream.answer_stream.Goals.{in-Ok+in_ok-answered-in-Ok, in-Err}

pub returns-in-Ok-eq0 : goal.returns-in-Ok-eq0
returns-in-Ok-eq0 g c =
    let long : length c.read.new.buf ≡ length c.loop.chunk.items = c.read.auto.buf ∙ ap length c.as_mut_slice.ensures.value in
    let some : 0 < length c.read.new.buf = omega (arith, long, c.loop.invariant.0) in
    let end = at_end _ _ c.read.result c.in-Ok-eq0.field-0 c.read.new.buf c.read.ensures.bytes c.in-Ok-eq0.is c.in-Ok-eq0.field-0-test some in
    all_answered (way c.args.crew.now.run.now) c.loop.answered c.loop.begun.items (g.R.Read.remaining c.args.reader.now) (g.R.Read.remaining c.loop.reader) (g.R.Read.remaining c.read.new.self)
    (g.W.Write.contents c.args.writer.now) (g.W.Write.contents c.loop.writer) (g.W.Write.contents c.finish.new.writer) c.finish.result c.loop.invariant.1 end.0 end.1
    (λ bytes at. c.finish.ensures bytes (at.0, c.deref.ensures.value ∙ at.1))

pub slice_bounds-take_chunk-end : goal.slice_bounds-take_chunk-end
slice_bounds-take_chunk-end g c =
    let whole = c.deref-in-Ok.ensures.value ∙ whole_room c.read.new.buf c.loop.chunk.items c.loop.chunk.len (c.read.auto.buf ∙ c.as_mut_slice.ensures.len) in
    c.in-Ok.ensures.bound.1 ∙ ap (λ (room : List ℕ). length (take c.in-Ok.count room)) (sym whole)

pub returns-in_err-answered-in-Ok : goal.returns-in_err-answered-in-Ok
returns-in_err-answered-in-Ok g c =
    let whole = c.deref-in-Ok.ensures.value ∙ whole_room c.read.new.buf c.loop.chunk.items c.loop.chunk.len (c.read.auto.buf ∙ c.as_mut_slice.ensures.len) in
    let before = g.R.Read.remaining c.loop.reader in
    let after = g.R.Read.remaining c.read.new.self in
    let read = subst (λ (room : List ℕ). Consumes before after (take c.in-Ok.count room)) (sym whole) c.in-Ok.ensures.bytes.0 in
    let p = err_from_is_err_and c.from_residual-in_err-answered-in-Ok.result c.from_residual-in_err-answered-in-Ok.ensures.1 in
    rw (p.1, p.2) (chunk_stops (way c.args.crew.now.run.now) c.loop.answered c.loop.begun.items c.take_chunk.new.begun.items (take c.in-Ok.count c.deref-in-Ok.result.now)
    (g.R.Read.remaining c.args.reader.now) before after (g.W.Write.contents c.args.writer.now) (g.W.Write.contents c.loop.writer) (g.W.Write.contents c.take_chunk.new.writer) c.in_err-answered-in-Ok.field-0.0
    c.loop.invariant.1 read c.in_err-answered-in-Ok.ensures)

pub returns-in-Err-2 : goal.returns-in-Err-2
returns-in-Err-2 g c = read_stops (way c.args.crew.now.run.now) c.loop.answered c.loop.begun.items _ _ _ _ _ Read c.loop.invariant.1 c.in-Err-2.ensures.bytes

pub returns : goal.returns
returns g c = read_stops (way c.args.crew.now.run.now) c.loop.answered c.loop.begun.items _ _ _ _ _ Read c.loop.invariant.1 (keeps_same (g.R.Read.remaining c.loop.reader))

pub loop-preserved : goal.loop-preserved
loop-preserved g c =
    let w = way c.args.crew.now.run.now in
    let long : length c.read.new.buf ≡ length c.loop.chunk.items = c.read.auto.buf ∙ ap length c.as_mut_slice.ensures.value in
    let some : 0 < length c.read.new.buf = omega (arith, long, c.loop.invariant.0) in
    let room = whole_room c.read.new.buf c.loop.chunk.items c.loop.chunk.len (c.read.auto.buf ∙ c.as_mut_slice.ensures.len) in
    let from = g.R.Read.remaining c.args.reader.now in
    let before = g.R.Read.remaining c.loop.reader in
    let after = g.R.Read.remaining c.read.new.self in
    let old = g.W.Write.contents c.args.writer.now in (
      subst (λ (r : List ℕ). 0 < length r) (sym room) some,
      elim c.match-read.branch [
        | in-Ok+in_ok-answered-in-Ok k ↦
            let read = subst (λ (r : List ℕ). Consumes before after (take k.in-Ok.count r)) (sym (k.deref-in-Ok.ensures.value ∙ room)) k.in-Ok.ensures.bytes.0 in
            as_far_same w k.in_ok-answered-in-Ok.answered _ k.take_chunk.new.begun.items _ from after old (g.W.Write.contents k.take_chunk.new.writer) _ k.answered-is (ap (λ b. b.items) k.begun-is) (ap g.W.Write.contents k.writer-is)
            (one_more_chunk w c.loop.answered k.in_ok-answered-in-Ok.answered c.loop.begun.items k.take_chunk.new.begun.items (take k.in-Ok.count k.deref-in-Ok.result.now) from before after old
            (g.W.Write.contents c.loop.writer) (g.W.Write.contents k.take_chunk.new.writer) c.loop.invariant.1 read k.in_ok-answered-in-Ok.ensures)
        | in-Err k ↦
            as_far_same w c.loop.answered _ c.loop.begun.items _ from after old (g.W.Write.contents c.loop.writer) _ k.answered-is (ap (λ b. b.items) k.begun-is) (ap g.W.Write.contents k.writer-is)
            (still_as_far w c.loop.answered c.loop.begun.items from before after old (g.W.Write.contents c.loop.writer) c.loop.invariant.1 k.in-Err.ensures.bytes)
      ],
    )
