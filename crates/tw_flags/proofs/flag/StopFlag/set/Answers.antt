use Rattle.std.proofs.Common.{◌≡◌, sym, ap, ◌∙◌}
use Rattle.logbook.specs.Pages.{Named}
use Rattle.tw_flags.specs.Values.{word_in}
use Rattle.tw_flags.proofs.Setting.{sets_moves}
use Rattle.tw_flags.proofs.flag.StopFlag.set.Goals as goal

pub compare_exchange-found-requires : goal.compare_exchange-found-requires
compare_exchange-found-requires c =
    let word : c.deref.result.now ≡ word_in c.args.self.now.seen.book = c.deref.ensures ∙ c.args.self.now.is_tracked in
    let offer = c.plain-offer.ensures in
    let pen = c.no_pen-pen.ensures in (
      ap (λ (w : Named). w.tracked) word,
      sym (ap (λ (w : Named). w.book) word),
      pen.0 ∙ sym (ap (λ (w : Named). w.book) word),
      offer.0,
      rw (ap (λ (w : Named). w.key) word, pen.1, offer.1, offer.3, c.from-word.ensures) (sets_moves c.args.self.now.seen.log c.args.raised),
    )
