use Rattle.tw_each.proofs.Names.{NoMemory, err_from_is_err_and, way}
use Rattle.tw_each.proofs.Chunks.{takes_nothing}
use Rattle.tw_each.proofs.stream.take_chunk.Goals as goal

pub returns-in_err-parts : goal.returns-in_err-parts
returns-in_err-parts g c bytes at =
    let p = err_from_is_err_and c.from_residual.result c.from_residual.ensures.1 in
    rw (p.1, p.2) (takes_nothing (way c.args.crew.now.run.now) c.args.answered c.args.begun.now.items c.args.begun.now.items c.args.chunk.now (g.W.Write.contents c.args.writer.now) NoMemory bytes at)
