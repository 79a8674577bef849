use Rattle.std.proofs.Common.{List, ℕ, subst}
use Rattle.std.proofs.lemmas.Result.{IfOk-weaker}
use Rattle.clap.specs.Words.{Text}
use Rattle.tw_inputs.specs.InputWords.{IsRejectedWord, RejectedWord, refused_word}
use Rattle.tw_inputs.specs.WordErrors.{IsInputReason}
use Rattle.tw_inputs.specs.declared.words.WordError.{WordError}
use Rattle.tw_source.specs.Inputs.{PrintsInputWord}
use Rattle.tw_source.specs.Reply.{reply}
use Rattle.tw_source.specs.declared.reply.Reply.{Reply as MadeReply}
use Rattle.tw_source.proofs.inputs.refused_words_reply.Goals as goal

pub returns-in-Refused : goal.returns-in-Refused
returns-in-Refused c =
    let number = c.in-Refused.number in
    let reason = c.in-Refused.reason.items in
    IfOk-weaker c.input_word_reply.result (λ (r : MadeReply). PrintsInputWord (refused_word number c.as_slice.result.now) (reply r.text.items r.close))
    (λ (r : MadeReply). (words : List Text) → IsInputReason words c.args.why → (refused : RejectedWord) × IsRejectedWord words refused × PrintsInputWord refused (reply r.text.items r.close))
    (λ (r : MadeReply) printed words is. (
      refused_word number reason,
      subst (λ (why : WordError). IsInputReason words why) c.in-Refused.is is,
      subst (λ (line : List ℕ). PrintsInputWord (refused_word number line) (reply r.text.items r.close)) c.as_slice.ensures.value printed,
    )) c.input_word_reply.ensures
