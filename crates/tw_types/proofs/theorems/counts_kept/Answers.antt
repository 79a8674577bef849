use Rattle.tw_types.proofs.Freeing.{read_loss, setting, write_loss}
use Rattle.tw_types.proofs.theorems.counts_kept.Goals as goal

pub returns-clause-reads : goal.returns-clause-reads
returns-clause-reads c = read_loss

pub returns-clause-stored : goal.returns-clause-stored
returns-clause-stored c = setting

pub returns-clause-writes : goal.returns-clause-writes
returns-clause-writes c = write_loss
