use Rattle.tw_instr.proofs.Names.{Notice, Notices, Updates, ap, contains, contains-from_list, false, is_in, notice_cmp, notice_cmp_total, subst, sym, ◌∙◌}
use Rattle.tw_instr.proofs.NoticeSets.{removed_notice}
use Rattle.tw_instr.proofs.notices.Notices.remove.Goals as goal

pub returns-clause-was : goal.returns-clause-was
returns-clause-was c =
    c.remove.ensures.test ∙ ap (is_in c.self.inside.keys) c.of.ensures
    ∙ sym (contains-from_list notice_cmp_total c.self.inside.keys.keys c.args.notice.now)
    ∙ ap (λ (s : Notices). contains s c.args.notice.now) c.self.view_is

pub returns-clause-removed : goal.returns-clause-removed
returns-clause-removed c =
    rw (← c.self.view_is) (removed_notice c.self.inside.keys c.remove.new.self c.args.notice.now
    (subst (λ (n : Notice). Updates notice_cmp c.self.inside.keys c.remove.new.self n false) c.of.ensures c.remove.ensures.updates))
