use Rattle.tw_each.proofs.Names.{Answers, AreAnswers, Bor, IfOk-weaker, List, Result, arith, drop, length, map, subst, take, way, ℕ, ◌+◌}
use Prim.Native.Nat.{◌*◌}
use Rattle.std.specs.Prelude.{IfOk, slice_index_or}
use Rattle.tw_each.specs.Shares.{AreChunks}
use Rattle.tw_each.proofs.Sharing.{chunks_answered}
use Rattle.tw_each.proofs.threads.divided.Goals as goal

pub each_chunk-requires-clause-accepts : goal.each_chunk-requires-clause-accepts
each_chunk-requires-clause-accepts g c κs within = λ size start chunk is. omega (arith, c.requires, is.in_bounds)

pub returns : goal.returns
returns g c =
    let w = way c.args.crew.now.run.now in
    let lines = c.args.lines.now in
    let now = map (λ (line : Bor (List ℕ)). line.now) in
    let results = c.in_ok-answers.answers in
    let each = c.in_ok-answers.ensures.each in
    let size = each.0 in
    let chunks = subst (λ (n : ℕ). AreChunks size (length lines) n) (omega (arith, results.ok.0)) each.1 in
    IfOk-weaker _ _ (λ (a : Answers). AreAnswers w c.args.before (now lines) a.text.items a.worst)
    (λ a h. chunks_answered w c.args.before size lines results.items a.text.items a.worst chunks
    (λ n r lt r_is.
    let k = (each.2 n r lt).1 in
    subst (λ (q : Result Answers _). IfOk q (λ (b : Answers). AreAnswers w (c.args.before + n * size) (now (take size (drop (n * size) lines))) b.text.items b.worst)) r_is
    (subst (λ (ls : List (Bor (List ℕ))). IfOk (slice_index_or results.items n r) (λ (b : Answers). AreAnswers w (c.args.before + n * size) (now ls) b.text.items b.worst)) k.argument_is.value k.call)) h) c.merged.ensures
