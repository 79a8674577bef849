use Rattle.std.proofs.Common.{length}
use Rattle.tw_workers.proofs.threads.+drive_each.Given as goal

abbrev pub decreases-drive_each : goal.decreases-drive_each
decreases-drive_each g l = length l.seats.now.items
