use Rattle.std.proofs.Common.{arith}
use Rattle.tw_writer.proofs.Pieces.{same_added}
use Rattle.tw_timeline.proofs.Printed.{number_same}
use Rattle.tw_timeline.proofs.page.put_number.Goals as goal

pub returns : goal.returns
returns c = same_added _ _ _ _ (number_same c.args.number (omega (arith, c.ranges.number))) c.put_decimal.ensures
