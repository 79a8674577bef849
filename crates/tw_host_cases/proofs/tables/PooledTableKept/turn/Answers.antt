use Rattle.std.proofs.Common.{sym, subst}
use Rattle.tw_host.specs.Sees.{IsAnswerOf, IsDoneOf}
use Rattle.tw_host.proofs.Owning.{is_answer_of}
use Rattle.tw_host_cases.proofs.tables.PooledTableKept.turn.Goals as goal

pub answer_of-requires : goal.answer_of-requires
answer_of-requires g c =
    let s = c.args.self.now in
    let done = c.done_of-done.result in
    let owed : IsDoneOf s.pool.program done = subst (λ program. IsDoneOf program done) (sym s.of) c.done_of-done.ensures in
    subst (λ program. IsAnswerOf program c.turn-turn.result) s.of (is_answer_of s.pool c.turn-turn.new.self c.args.actor done c.turn-turn.result c.turn-turn.ensures owed)
