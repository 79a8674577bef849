use Rattle.tw_session.proofs.SessionNames.{AreEncoded, Bor, List, ap, lines, map, subst, words_in, ℕ, ◌∙◌, ◌≡◌}
use Rattle.clap.specs.Words.{Text}
use Rattle.tw_inputs.specs.WordErrors.{IsInputReason}
use Rattle.tw_session.proofs.prepare.words_given.Goals as goal

pub returns-in-Ok : goal.returns-in-Ok
returns-in-Ok c =
    let words : map (λ (w : Bor (List ℕ)). w.now) c.deref.result.now ≡ words_in (lines c.args.inputs.now) = ap (map (λ (w : Bor (List ℕ)). w.now)) c.deref.ensures.value ∙ c.in_ok-words.ensures in
    subst (λ (ws : List Text). AreEncoded c.in-Ok.inputs ws) words c.in-Ok.ensures.spelled

pub returns : goal.returns
returns c =
    let words : map (λ (w : Bor (List ℕ)). w.now) c.deref.result.now ≡ words_in (lines c.args.inputs.now) = ap (map (λ (w : Bor (List ℕ)). w.now)) c.deref.ensures.value ∙ c.in_ok-words.ensures in
    c.in_ok-reply-in-Err.ensures (words_in (lines c.args.inputs.now)) (subst (λ (ws : List Text). IsInputReason ws c.in-Err.why) words c.in-Err.ensures.refused)
