use Rattle.std.proofs.Common.{[]}
use Rattle.tw_timeline.proofs.Forests.{words_added}
use Rattle.tw_timeline.proofs.page.Page.put.Goals as goal

pub invariant_of-self : goal.invariant_of-self
invariant_of-self c = record { form = words_added c.args.self.now.text c.put_words.new.out c.args.name.now c.args.attributes.now [] c.args.self.now.form c.put_words.ensures }
