use Rattle.tw_host.proofs.Names.{Actor, Control, Leaf, Wakes, bit_or, subst, sym}
use Rattle.tw_host.proofs.Waking.{kind_first, kind_second, servers_first, servers_second}
use Rattle.tw_host.proofs.sleepers.Sleepers.due_by.Goals as goal

pub returns-in-Engine : goal.returns-in-Engine
returns-in-Engine c =
    let p = c.args.pool.now in
    let s = c.args.self.now.asleep in
    let o = c.args.self.now.out in
    let a = c.due_engines.result in
    let b = c.due_servers.result in
    let d = c.due_workers.result in
    subst (λ (actor : Actor). Wakes p s o (bit_or (bit_or a b) d) actor c.args.is_out) (sym c.in-Engine.is) (
      kind_first p s o (bit_or a b) d Control (kind_first p s o a b Control c.due_engines.ensures),
      servers_first p s o (bit_or a b) d (servers_second p s o a b c.due_servers.ensures),
      kind_second p s o (bit_or a b) d Leaf c.due_workers.ensures,
    )

pub returns-then-is_out : goal.returns-then-is_out
returns-then-is_out c =
    let p = c.args.pool.now in
    let s = c.args.self.now.asleep in
    let o = c.args.self.now.out in
    let a = c.due_servers-then-is_out.result in
    let b = c.due_workers-then-is_out.result in
    subst (λ (actor : Actor). Wakes p s o (bit_or a b) actor c.args.is_out) (sym c.in-Worker.is) (servers_first p s o a b c.due_servers-then-is_out.ensures, λ is. kind_second p s o a b Leaf c.due_workers-then-is_out.ensures)
