use Rattle.std.proofs.Common.{ℕ, List, subst}
use Rattle.tw_writer.specs.Appended.{IsAppended}
use Rattle.tw_timeline.proofs.Forests.{page_noted}
use Rattle.tw_timeline.proofs.page.Page.put_page.Goals as goal

pub invariant_of-self : goal.invariant_of-self
invariant_of-self c =
    let added = subst (λ (t : List ℕ). IsAppended c.args.self.now.text c.put_bytes.new.self t) c.deref.ensures.value c.put_bytes.ensures in
    record {
      form = page_noted c.args.self.now.text c.put_bytes.new.self c.note_of.new.self c.within-inside.result.text c.note_of.ensures.same c.note_of.ensures.before c.note_of.ensures.other
          c.args.self.now.form c.within-inside.result.form added;
    }
