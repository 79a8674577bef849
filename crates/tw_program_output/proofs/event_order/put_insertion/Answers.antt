use Rattle.tw_program_output.proofs.ReplyNames.{on_ok_weaker, ◌∙◌}
use Rattle.tw_binary.proofs.Types.{appended}
use Rattle.tw_program_output.proofs.event_order.put_insertion.Goals as goal

pub returns : goal.returns
returns c = λ program source i is.
    let text = c.in_ok-text.ensures program source i is in
    on_ok_weaker c.extend_from_slice.result (λ added. (text.0, text.1, added))
    (appended c.extend_from_slice.result c.args.out.now.items _ _ _ _ c.extend_from_slice.ensures.items (c.deref.ensures.value ∙ text.2))
