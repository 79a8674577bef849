use Rattle.tw_pool.proofs.Names.{KnowsPlaces, subst, sym}
use Rattle.tw_pool.specs.Ends.{FinalView}
use Rattle.tw_pool.proofs.ends.Final.member.Goals as goal

pub member-requires : goal.member-requires
member-requires c = subst (λ (f : FinalView). KnowsPlaces f.store c.args.container.now) (sym c.self.view_is) c.requires
