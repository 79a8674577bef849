use Rattle.tw_host.proofs.Naming.{with_seat}
use Rattle.tw_host.proofs.host.Host.close.Goals as goal

pub returns-clause-difference : goal.returns-clause-difference
returns-clause-difference g c = with_seat g.N.Named.run _ _ c.close.ensures
