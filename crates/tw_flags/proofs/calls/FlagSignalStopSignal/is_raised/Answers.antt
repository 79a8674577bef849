use Rattle.std.proofs.Common.{◌≡◌, false, sym, ap}
use Rattle.logbook.specs.Pages.{Named}
use Rattle.tw_flags.specs.Values.{word_in}
use Rattle.tw_flags.proofs.Setting.{looks_moves}
use Rattle.tw_flags.proofs.calls.FlagSignalStopSignal.is_raised.Goals as goal

pub load-requires : goal.load-requires
load-requires c =
    let word : c.args.self.now.word.now ≡ word_in c.args.self.now.seen.book = c.args.self.now.is_tracked in
    let offer = c.plain-offer.ensures in (
      ap (λ (w : Named). w.tracked) word,
      sym (ap (λ (w : Named). w.book) word),
      offer.0,
      rw (ap (λ (w : Named). w.key) word, offer.3) (looks_moves c.args.self.now.seen.log false),
    )
