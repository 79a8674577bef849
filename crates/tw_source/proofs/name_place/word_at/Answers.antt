use Rattle.std.proofs.Common.{◌+◌, ℕ, List, ap, arith}
use Rattle.tw_lexer.proofs.Texts.{rest_utf8}
use Rattle.tw_lexer.specs.Words.{IsFirstWord, Word}
use Rattle.tw_source.proofs.NamePlaces.{ends_later, first_room, one_passed, one_room}
use Rattle.tw_source.proofs.name_place.word_at.Goals as goal

pub returns-in-None : goal.returns-in-None
returns-in-None c =
    let passed = c.loop-after.invariant.passed in
    let none : (word : Word) (rest : List ℕ) → IsFirstWord word c.loop-after.rest.now rest → ⊥ = rw c.in-None.is at c.in_ok-after_word.ensures in
    record {
      before = passed.0;
      after = c.loop-after.rest.now;
      words = passed.1;
      count = ap (λ (n : ℕ). n + 1) passed.2;
      ended = c.loop-after.invariant.ended;
      next = λ word rest is. absurd (none word rest is);
    }

pub overflow_sub-line : goal.overflow_sub-line
overflow_sub-line c =
    let first : (word : Word) × IsFirstWord word c.loop-after.rest.now c.in-Some.after.now = rw c.in-Some.is at c.in_ok-after_word.ensures in
    omega (arith, c.loop-after.invariant.room, first_room first.0 c.loop-after.rest.now c.in-Some.after.now first.1)

pub returns-then-index-line : goal.returns-then-index-line
returns-then-index-line c =
    let passed = c.loop-after.invariant.passed in
    let first : (word : Word) × IsFirstWord word c.loop-after.rest.now c.in-Some.after.now = rw c.in-Some.is at c.in_ok-after_word.ensures in
    record {
      before = passed.0;
      after = c.loop-after.rest.now;
      words = passed.1;
      count = ap (λ (n : ℕ). n + 1) passed.2;
      ended = c.loop-after.invariant.ended;
      next = ends_later c.args.line.now c.loop-after.rest.now c.in-Some.after.now c.args.index first.0 first.1 (omega arith);
    }

pub loop-after-preserved : goal.loop-after-preserved
loop-after-preserved c =
    let first : (word : Word) × IsFirstWord word c.loop-after.rest.now c.in-Some.after.now = rw c.in-Some.is at c.in_ok-after_word.ensures in
    record {
      utf8 = rest_utf8 first.0 c.loop-after.rest.now c.in-Some.after.now first.1 c.loop-after.invariant.utf8;
      passed = one_passed first.0 c.args.line.now c.loop-after.rest.now c.in-Some.after.now c.loop-after.count c.loop-after.invariant.passed first.1;
      ended = omega arith;
      room = one_room first.0 c.args.line.now c.loop-after.rest.now c.in-Some.after.now c.loop-after.count c.loop-after.invariant.room first.1;
    }
