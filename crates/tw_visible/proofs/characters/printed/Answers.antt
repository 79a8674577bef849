use Rattle.std.proofs.Common.{append_assoc}
use Rattle.std.proofs.lemmas.Str.{IsUtf8-past_char}
use Rattle.tw_visible.proofs.Visibles.{hides_nothing, printed_step, printed_whole}
use Rattle.tw_visible.proofs.characters.printed.Goals as goal

pub loop-c-preserved : goal.loop-c-preserved
loop-c-preserved c =
    let held = c.loop-c.invariant in
    let parts = c.in-Some.ensures.steps.0 in
    let step = printed_step c.args.kind _ _ c.in-Some.c held.0 parts in
    (IsUtf8-past_char _ _ c.in-Some.c held.0 parts, rw (c.in_ok-put_character.ensures, append_assoc) (rw step at held.1))

pub returns-clause-is : goal.returns-clause-is
returns-clause-is c = printed_whole c.args.kind c.args.text.now _ _ c.in-None.ensures.steps.0.0 c.loop-c.invariant.1

pub returns-clause-seen : goal.returns-clause-seen
returns-clause-seen c = hides_nothing c.args.kind c.args.text.now _ (printed_whole c.args.kind c.args.text.now _ _ c.in-None.ensures.steps.0.0 c.loop-c.invariant.1)
