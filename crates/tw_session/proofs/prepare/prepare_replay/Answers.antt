use Rattle.tw_session.proofs.SessionNames.{Awaits, IfOk, Input, List, Option, RepliesByReplay, RepliesByTexts, RepliesByTrace, RepliesByWords, Reply, inl, lines, replay_with, seen, subst, sym, words_in}
use Rattle.tw_source.specs.Text.{RepliesByUtf8}
use Rattle.tw_session.proofs.Leading.{awaits}
use Rattle.tw_session.proofs.prepare.prepare_replay.Goals as goal

pub returns-in-Some : goal.returns-in-Some
returns-in-Some c =
    let p = seen c.args.parts in
    let Answers : Reply → Type 0 = RepliesByTrace c.args.source (replay_with c.args.answer c.args.layout c.in-Some.inputs) p in
    subst (λ (g : Option (List Input)). IfOk c.replay.result (Awaits (RepliesByReplay c.args.source c.args.answer c.args.layout g p))) (sym c.in-Some.is)
    (awaits c.replay.result Answers (λ r. RepliesByUtf8 p.trace (Answers r) r) (λ r answers. inl (c.is_text.ensures.0 c.if-is_text.true, answers)) c.replay.ensures)

pub returns-in-Some-inputs_text : goal.returns-in-Some-inputs_text
returns-in-Some-inputs_text c =
    let p = seen c.args.parts in
    let Answers : Reply → Type 0 = RepliesByWords (words_in (lines p.inputs)) (λ given. RepliesByTrace c.args.source (replay_with c.args.answer c.args.layout given) p) in
    subst (λ (g : Option (List Input)). IfOk c.replay_on_words.result (Awaits (RepliesByReplay c.args.source c.args.answer c.args.layout g p))) (sym c.in-None.is)
    (awaits c.replay_on_words.result Answers (RepliesByTexts p Answers) (λ r answers. inl (c.in-Some-inputs_text.ensures.0, answers)) c.replay_on_words.ensures)
