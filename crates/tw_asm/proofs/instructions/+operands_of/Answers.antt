use Rattle.tw_asm.proofs.AsmNames.{ap, as_is, map, plain, seen as seen_word, split, sym, ◌∙◌}
use Rattle.tw_asm.proofs.ByForms.{goal_last, no_forms, no_word_left, none_read, one_read, type_last, words_split}
use Rattle.tw_asm.proofs.instructions.+operands_of.Goals as goal

pub returns-in-empty : goal.returns-in-empty
returns-in-empty t c = c.no_operands.ensures c.args.version ∙ sym (no_forms c.args.version c.args.forms.now (map seen_word c.args.words.now) c.in-empty.len_below)

pub returns-in-Skip : goal.returns-in-Skip
returns-in-Skip t c =
    c.only_goal.ensures
    ∙ sym (goal_last c.args.version _ _ c.args.forms.now (split c.args.forms.now _ c.in-len1-up.len_at_least) c.requires (map seen_word c.args.words.now) c.in-Skip.is)

pub returns-in-TypeOf : goal.returns-in-TypeOf
returns-in-TypeOf t c =
    c.only_type.ensures
    ∙ sym (type_last c.args.version _ _ c.args.forms.now (split c.args.forms.now _ c.in-len1-up.len_at_least) c.requires (map seen_word c.args.words.now) c.in-TypeOf.is)

pub returns-in-empty-words : goal.returns-in-empty-words
returns-in-empty-words t c =
    rw c.form.ensures (sym (none_read c.args.version _ _ c.args.forms.now (split c.args.forms.now _ c.in-len1-up.len_at_least) c.requires c.in_default.not-Skip c.in_default.not-TypeOf
    (map seen_word c.args.words.now) (no_word_left seen_word c.args.words.now c.in-empty-words.len_below)))

pub returns-in-len1-up-words : goal.returns-in-len1-up-words
returns-in-len1-up-words t c =
    one_read c.args.version _ _ c.args.forms.now (split c.args.forms.now _ c.in-len1-up.len_at_least) c.requires c.in_default.not-Skip c.in_default.not-TypeOf
    _ _ (map seen_word c.args.words.now) (words_split seen_word c.args.words.now c.word-item.result c.in-len1-up-words.len_at_least c.word-item.is)
    c.at-first.result (ap (as_is plain) c.at-first.ensures ∙ c.operand_of.ensures) _ _ c.operands_of.ensures c.with_first.ensures
