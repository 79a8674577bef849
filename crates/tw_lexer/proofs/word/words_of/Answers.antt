use Rattle.std.proofs.Common.{◌≡◌, ◌∷◌, [], List, map, ap, sym, subst, ◌∙◌}
use Rattle.std.proofs.lemmas.List.{map-append}
use Rattle.tw_lexer.specs.Seen.{seen}
use Rattle.tw_lexer.specs.Words.{AreFirstWords, IsFirstWord, Word}
use Rattle.tw_lexer.proofs.Once.{first_words_more}
use Rattle.tw_lexer.proofs.Texts.{rest_utf8}
use Rattle.tw_lexer.proofs.word.words_of.Goals as goal

pub loop-words-preserved : goal.loop-words-preserved
loop-words-preserved c =
    let first : IsFirstWord (seen c.in-Found.word) c.loop-words.rest.now c.in-Found.after.now = rw c.in-Found.is at c.in_ok-next_word.ensures in
    let grown : map seen c.push.new.self.items ≡ _ = ap (map seen) c.in_ok-push-in-Found.ensures.items ∙ map-append seen c.loop-words.words.items (c.in-Found.word ∷ []) in
    record {
      first = subst (λ (ws : List Word). AreFirstWords ws c.args.line.now c.in-Found.after.now) (sym grown)
          (first_words_more (map seen c.loop-words.words.items) (seen c.in-Found.word) c.args.line.now c.loop-words.rest.now c.in-Found.after.now c.loop-words.invariant.first first);
      utf8 = rest_utf8 (seen c.in-Found.word) c.loop-words.rest.now c.in-Found.after.now first c.loop-words.invariant.utf8;
    }
