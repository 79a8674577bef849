use Rattle.std.proofs.Common.{[], ◌≡◌, ◌∙◌, List, ℕ, true, map, refl, subst, sym}
use Rattle.tw_diagnostics.proofs.RoleNames.{IsRead, EncodesInLimits, seen}
use Rattle.tw_asm.proofs.Blank.{no_words}
use Rattle.tw_lexer.specs.declared.word.Word as words
use Rattle.tw_diagnostics.proofs.Saying.{said_of_line}
use Rattle.tw_diagnostics.proofs.role.is_head.Goals as goal

pub returns-then-is_plainly_blank : goal.returns-then-is_plainly_blank
returns-then-is_plainly_blank c =
    said_of_line [] true c.args.line.now c.are_head.result (no_words c.args.line.now (sym c.is_plainly_blank.ensures ∙ c.if-is_plainly_blank.true)) (λ none. c.are_head.ensures.nothing refl)
    (λ version statement say. c.are_head.ensures.says version statement say)

pub returns : goal.returns
returns c =
    let read = subst (λ (b : List ℕ). IsRead (map seen c.in_ok-read.read.words.items) c.in_ok-read.read.whole b) c.as_bytes.ensures.value c.in_ok-read.ensures in
    let same : c.deref.result.now ≡ c.in_ok-read.read.words.items = c.deref.ensures.value in
    said_of_line c.in_ok-read.read.words.items c.in_ok-read.read.whole c.args.line.now c.are_head-2.result read (λ none. c.are_head-2.ensures.nothing (same ∙ none))
    (λ version statement say. c.are_head-2.ensures.says version statement (subst (λ (ws : List words.Word). EncodesInLimits version statement (map seen ws)) (sym same) say))
