use Rattle.tw_instr.proofs.Names.{List, Notice, is_among, is_in, map, notice_to, subst, sym, ◌||◌, ◌≡◌}
use Rattle.tw_instr.proofs.NoticeSets.{notified_is, refused_is}
use Rattle.tw_instr.proofs.notices.Notices.add_for.Goals as goal

pub returns-clause-notified : goal.returns-clause-notified
returns-clause-notified c =
    let ns = map (notice_to c.args.id) c.args.subscribers.now in
    let old = c.self.inside.keys in
    notified_is c.add_all.result old c.add_all.new.keys c.args.self.now c.deref.result.now ns c.self.view_is
    (subst (λ (more : List Notice). (n : Notice) → (is_among more n || is_in old n) ≡ (is_among ns n || is_in old n)) (sym c.deref.ensures.value) c.in_ok-more.ensures.all)
    c.add_all.ensures.added

pub returns-clause-refused : goal.returns-clause-refused
returns-clause-refused c = refused_is c.add_all.result c.self.inside.keys c.add_all.new.keys c.args.self.now c.self.view_is c.add_all.ensures.refused
