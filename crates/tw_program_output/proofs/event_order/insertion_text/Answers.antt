use Rattle.tw_program_output.proofs.Insertions.{insertion_at}
use Rattle.tw_program_output.proofs.event_order.insertion_text.Goals as goal

pub returns : goal.returns
returns c = λ program source i is. c.placed_text.ensures program (insertion_at c.args.source.now program c.args.at source i is)
