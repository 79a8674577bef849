use Rattle.std.proofs.Common.{◌∙◌, ℕ, List, map, Err, inl, inr, subst, ap}
use Rattle.tw_asm.proofs.AsmNames.{Answers, IsBrokenLine, IsLine, IsLineRead, Rejection, Word, seen as seen_word, seen_reading, seen_stage, situation_of, slice_get, stage_of}
use Rattle.tw_asm.specs.declared.rejection.Rejection.TheVariants as rejection
use Rattle.tw_asm.specs.Seen.{IsRead, seen}
use Rattle.tw_asm.proofs.Taking.{a_first, any_word_fault, broken_fault, broken_operand, flaw_fault, may_follow, no_first}
use Rattle.tw_asm.proofs.reading.read_words.Goals as goal
use Rattle.tw_asm.proofs.reading.read_words.Goals.{then-read, else-read}

pub returns-in_default : goal.returns-in_default
returns-in_default c =
    let all = subst (λ (b : List ℕ). IsLineRead (map seen_word c.in_ok-read.read.words.items) c.in_ok-read.read.whole b) c.as_bytes.ensures.value c.in_ok-read.ensures in
    let none = no_first c.in_ok-read.read.words.items (c.in_default.ensures.value ∙ ap (λ xs. slice_get xs 0) c.deref.ensures.value) in
    let words = ap (map seen_word) none in
    elim (c.if-read.branch) [
      | then-read w ↦ rw w.result-is (subst (λ (ws : List Word). IsLine ws c.args.line.now) words (rw w.if-read.true at all))
      | else-read w ↦ rw w.result-is (inr (rw (w.new.ensures.no, w.new.ensures.line) (broken_fault c.args.number (situation_of (seen_reading c.args.reading.now)) c.args.line.now (subst (λ (ws : List Word). IsBrokenLine ws c.args.line.now) words (rw w.if-read.false at all)))))
    ]

pub returns-in_default-expected_of : goal.returns-in_default-expected_of
returns-in_default-expected_of c =
    let all = subst (λ (b : List ℕ). IsLineRead (map seen_word c.in_ok-read.read.words.items) c.in_ok-read.read.whole b) c.as_bytes.ensures.value c.in_ok-read.ensures in
    let first = a_first c.in_ok-read.read.words.items c.in-Some.word.now (c.in-Some.ensures.value ∙ ap (λ xs. slice_get xs 0) c.deref.ensures.value) in
    let words = ap (map seen_word) first.1 in
    inr (rw (c.new-in_default-expected_of.ensures.no, c.new-in_default-expected_of.ensures.line) (any_word_fault c.args.number (situation_of (seen_reading c.args.reading.now)) c.args.line.now (seen_word c.in-Some.word.now) (map seen_word first.0) c.in_ok-read.read.whole
    (subst (λ (ws : List Word). IsLineRead ws c.in_ok-read.read.whole c.args.line.now) words all) c.in_default-expected_of.ensures))

pub returns-then-not-read : goal.returns-then-not-read
returns-then-not-read c =
    let all = subst (λ (b : List ℕ). IsLineRead (map seen_word c.in_ok-read.read.words.items) c.in_ok-read.read.whole b) c.as_bytes.ensures.value c.in_ok-read.ensures in
    let first = a_first c.in_ok-read.read.words.items c.in-Some.word.now (c.in-Some.ensures.value ∙ ap (λ xs. slice_get xs 0) c.deref.ensures.value) in
    let words = ap (map seen_word) first.1 in
    elim (c.broken_fault.ensures) [
      | inl memory ↦ inl memory
      | inr at ↦ inr (rw (at.0, at.1) (broken_operand c.args.number (situation_of (seen_reading c.args.reading.now)) c.args.line.now (seen_word c.in-Some.word.now) (map seen_word first.0) c.in-Some-expected_of.expected
          (subst (λ (ws : List Word). IsBrokenLine ws c.args.line.now) words (rw c.if-not-read.true at all)) c.in-Some-expected_of.ensures.0 c.in-Some-expected_of.ensures.1))
    ]

pub returns-in-Ok : goal.returns-in-Ok
returns-in-Ok c =
    let all = subst (λ (b : List ℕ). IsLineRead (map seen_word c.in_ok-read.read.words.items) c.in_ok-read.read.whole b) c.as_bytes.ensures.value c.in_ok-read.ensures in
    let first = a_first c.in_ok-read.read.words.items c.in-Some.word.now (c.in-Some.ensures.value ∙ ap (λ xs. slice_get xs 0) c.deref.ensures.value) in
    let words = ap (map seen_word) first.1 in
    let read = subst (IsRead c.args.reading.now.version (seen c.in-Ok.statement)) (ap (map seen_word) c.deref-2.ensures.value) c.in-Ok.ensures in (
      (map seen_word c.in_ok-read.read.words.items, rw c.if-not-read.false at all, read),
      may_follow c.args.reading.now.version (stage_of (seen_stage c.args.reading.now.stage)) (seen c.in-Ok.statement) (seen_word c.in-Some.word.now) (map seen_word first.0) c.in-Some-expected_of.expected
          (subst (IsRead c.args.reading.now.version (seen c.in-Ok.statement)) words read) c.in-Some-expected_of.ensures.0 c.in-Some-expected_of.ensures.1,
    )

pub returns : goal.returns
returns c =
    let all = subst (λ (b : List ℕ). IsLineRead (map seen_word c.in_ok-read.read.words.items) c.in_ok-read.read.whole b) c.as_bytes.ensures.value c.in_ok-read.ensures in
    let first = a_first c.in_ok-read.read.words.items c.in-Some.word.now (c.in-Some.ensures.value ∙ ap (λ xs. slice_get xs 0) c.deref.ensures.value) in
    let words = ap (map seen_word) first.1 in
    let flawed = subst (λ (r : Rejection). Answers c.args.reading.now.version (Err r) (map seen_word c.deref-2.result.now)) c.in-Err-Flawed.field-0-is c.in-Err-Flawed.ensures in
    let here = subst (λ (ws : List Word). Answers c.args.reading.now.version (Err (rejection.Flawed c.in-Err-Flawed.flaw)) ws) (ap (map seen_word) c.deref-2.ensures.value ∙ words) flawed in
    inr (flaw_fault c.args.number (seen_reading c.args.reading.now) c.args.line.now (seen_word c.in-Some.word.now) (map seen_word first.0) c.in-Some-expected_of.expected c.in-Err-Flawed.flaw c.flaw_fault.result
    (subst (λ (ws : List Word). IsLine ws c.args.line.now) words (rw c.if-not-read.false at all)) c.in-Some-expected_of.ensures.0 c.in-Some-expected_of.ensures.1 here c.flaw_fault.ensures)
