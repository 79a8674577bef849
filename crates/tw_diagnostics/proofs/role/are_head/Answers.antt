use Rattle.std.proofs.Common.{◌≡◌, ◌-◌, ◌∙◌, List, codes, drop, length, map, rules, subst, take}
use Rattle.tw_asm.proofs.ByForms.{words_split}
use Rattle.tw_diagnostics.proofs.RoleNames.{EncodesInLimits, Word, bytes_eq, seen}
use Rattle.tw_diagnostics.proofs.Saying.{bare_said, other_said}
use Rattle.tw_diagnostics.proofs.role.are_head.Goals as goal

pub returns-in-Bare-clause-says : goal.returns-in-Bare-clause-says
returns-in-Bare-clause-says c = λ version statement say.
    let parts = words_split seen c.args.words.now c.first-item.result c.in-len1-up.len_at_least c.first-item.is in
    let front = rw c.in-Bare.is at parts in
    let is : c.eq.result ≡ bytes_eq c.in-Bare.word.now (codes "proc") = search rules in
    is ∙ bare_said version statement c.in-Bare.word.now (map seen (take (length c.args.words.now - 1) (drop 1 c.args.words.now))) (subst (λ (ws : List Word). EncodesInLimits version statement ws) front say)

pub returns-in-Quoted-clause-says : goal.returns-in-Quoted-clause-says
returns-in-Quoted-clause-says c = λ version statement say.
    let parts = words_split seen c.args.words.now c.first-item.result c.in-len1-up.len_at_least c.first-item.is in
    let front = rw c.in-Quoted.is at parts in
    other_said version statement _ (map seen (take (length c.args.words.now - 1) (drop 1 c.args.words.now))) (λ e. cc) (subst (λ (ws : List Word). EncodesInLimits version statement ws) front say)
