use Rattle.std.proofs.Common.{◌≡◌, ◌<◌, ◌++◌, ◌∷◌, [], List, ℕ, length, IsUtf8, refl, ap, sym, subst, ◌∙◌}
use Rattle.tw_symbols.proofs.TextNames.{Broken, IfOk-weaker, IsBlank, IsBroken, StartWith, StartsWith, Worded, map-append, now, texts}
use Rattle.tw_symbols.proofs.Taking.{first_more}
use Rattle.tw_symbols.proofs.line.take_words.Goals as goal

pub returns-in-End : goal.returns-in-End
returns-in-End c =
    let blank : IsBlank c.loop-words.rest.now = rw c.in-End.is at c.in_ok-first_text.ensures in
    (Worded (texts c.loop-words.words.items) c.loop-words.rest.now, (c.loop-words.invariant.first, blank), refl)

pub returns-in-Broken : goal.returns-in-Broken
returns-in-Broken c =
    let broken : IsBroken c.loop-words.rest.now = rw c.in-Broken.is at c.in_ok-first_text.ensures in
    IfOk-weaker c.broken.result _ _
    (λ taken is. (
      Broken (texts c.loop-words.words.items) is.0,
      (c.loop-words.rest.now, c.loop-words.invariant.first, record { broken = broken; gap = is.1.gap; parts = is.1.parts; is_gap = is.1.is_gap; at_word = is.1.at_word }),
      is.2,
    ))
    c.broken.ensures

pub loop-words-preserved : goal.loop-words-preserved
loop-words-preserved c =
    let step : StartsWith c.in-Text.word.now c.loop-words.rest.now c.in-Text.after.now × IsUtf8 c.in-Text.after.now × (length c.in-Text.after.now < length c.loop-words.rest.now) = rw c.in-Text.is at c.in_ok-first_text.ensures in
    let grown : texts c.push.new.self.items ≡ texts c.loop-words.words.items ++ (c.in-Text.word.now ∷ []) = ap texts c.in_ok-push-in-Text.ensures.items ∙ map-append now c.loop-words.words.items (c.in-Text.word ∷ []) in
    record {
      first = subst (λ (words : List (List ℕ)). StartWith words c.args.line.now c.in-Text.after.now) (sym grown)
          (first_more (texts c.loop-words.words.items) c.in-Text.word.now c.args.line.now c.loop-words.rest.now c.in-Text.after.now c.loop-words.invariant.first step.0);
      utf8 = step.1;
    }
