use Rattle.tw_binary.proofs.Joined.{args_written}
use Rattle.tw_binary.proofs.writing.put_args.Goals as goal

pub returns : goal.returns
returns c = args_written c.args.args.now _ _ _ (c.in_ok-push.ensures).items (c.in_ok-extend_from_slice.ensures).items
