use Rattle.std.proofs.Common.{ℕ, List, subst}
use Rattle.tw_writer.specs.Appended.{IsAppended}
use Rattle.tw_timeline.specs.Xml.{close_text, open_text}
use Rattle.tw_timeline.proofs.Forests.{three_added, within_noted}
use Rattle.tw_timeline.proofs.page.Page.within.Goals as goal

pub invariant_of-result : goal.invariant_of-result
invariant_of-result c =
    let inside = subst (λ (t : List ℕ). IsAppended c.put_open.new.out c.put_bytes.new.self t) c.deref.ensures.value c.put_bytes.ensures in
    let added = three_added c.new-whole.result c.put_open.new.out c.put_bytes.new.self c.put_close.new.out (open_text c.args.name.now c.args.attributes.now) c.args.self.text.bytes.items (close_text c.args.name.now) c.put_open.ensures inside c.put_close.ensures in
    record {
      form = within_noted c.new-whole.result c.put_close.new.out c.note_of.new.self c.args.self.text c.args.name.now c.args.attributes.now c.new-whole.ensures.empty c.args.self.form added
          c.note_of.ensures.same c.note_of.ensures.before c.note_of.ensures.other;
    }
