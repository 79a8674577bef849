use Rattle.tw_session.proofs.SessionNames.{IfOk-weaker, List, PrintsInputWord, RepliesByReason, refused_word, reply, subst, sym, ℕ}
use Rattle.tw_cli.specs.declared.command.NoOrder.{NoOrder}
use Rattle.tw_source.specs.declared.reply.Reply.{Reply as MadeReply}
use Rattle.tw_session.proofs.shell.unordered_reply.Goals as goal

pub returns-in-InputWord : goal.returns-in-InputWord
returns-in-InputWord c =
    IfOk-weaker _ _ _
    (λ (r : MadeReply) printed. subst (λ (why : NoOrder). RepliesByReason why (reply r.text.items r.close)) (sym c.in-InputWord.is)
    (subst (λ (line : List ℕ). PrintsInputWord (refused_word c.in-InputWord.number line) (reply r.text.items r.close)) c.as_slice.ensures.value printed)) c.input_word_reply.ensures
