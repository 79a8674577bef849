use Rattle.tw_host.proofs.Names.{PoolView, ap, length, run_of, subst, sym, ◌∙◌, ◌≤◌}
use Rattle.tw_host.proofs.Reported.{stopped}
use Rattle.tw_host.proofs.Settling.{all_awake}
use Rattle.tw_host.proofs.locked.Locked.stop.Goals as goal

pub invariant_of-self : goal.invariant_of-self
invariant_of-self g c =
    let inv = c.self.invariant in
    let is = c.stop.ensures in
    record {
      of_run = ap run_of is ∙ inv.of_run;
      layout = inv.layout;
      given = inv.given;
      targets = inv.targets;
      within = subst (λ (p : PoolView). length p.history ≤ g.N.Named.run.limit) (sym is) inv.within;
      counted = inv.counted ∙ ap (λ (p : PoolView). length p.history) (sym is);
      seats = inv.seats;
      no_part = inv.no_part;
      no_amount = inv.no_amount;
      woken = all_awake c.stop.new.self _ _ _ c.end.ensures.asleep (λ e. stopped c.stop.new.self (ap (λ (p : PoolView). p.stopped) is)) (λ e. c.end.ensures.over);
    }
