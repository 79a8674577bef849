use Rattle.std.proofs.Common.{◌≡◌, None, Some, true, false, rules, subst}
use Rattle.tw_machine.proofs.Names.{IsLeast, has_rank_at, is_lt, rank_cmp}
use Rattle.tw_machine.proofs.Leasts.{neither, one_first, only_one, only_other, other_first}
use Rattle.tw_machine.proofs.ranks.first_for.Goals as goal

pub returns-in-None-None : goal.returns-in-None-None
returns-in-None-None c =
    let none : c.first_at.result ≡ None = search rules in
    neither (has_rank_at c.args.sets.now None) (has_rank_at c.args.sets.now (Some c.args.number)) (subst (IsLeast (has_rank_at c.args.sets.now None)) none c.first_at.ensures) c.in-None-None.ensures

pub returns-in-Some-None : goal.returns-in-Some-None
returns-in-Some-None c = only_one (has_rank_at c.args.sets.now None) (has_rank_at c.args.sets.now (Some c.args.number)) c.in-Some-None.any c.in-Some-None.ensures c.in-Some-None.ensures'

pub returns-in-None-Some : goal.returns-in-None-Some
returns-in-None-Some c =
    let none : c.first_at.result ≡ None = search rules in
    only_other (has_rank_at c.args.sets.now None) (has_rank_at c.args.sets.now (Some c.args.number)) c.in-None-Some.own (subst (IsLeast (has_rank_at c.args.sets.now None)) none c.first_at.ensures) c.in-None-Some.ensures

pub returns-then-lt : goal.returns-then-lt
returns-then-lt c =
    let lower : is_lt (rank_cmp c.in-Some-Some.own c.in-Some-Some.any) ≡ true = search rules in
    other_first (has_rank_at c.args.sets.now None) (has_rank_at c.args.sets.now (Some c.args.number)) c.in-Some-Some.any c.in-Some-Some.own lower c.in-Some-Some.ensures c.in-Some-Some.ensures'

pub returns-else-lt : goal.returns-else-lt
returns-else-lt c =
    let higher : is_lt (rank_cmp c.in-Some-Some.own c.in-Some-Some.any) ≡ false = search rules in
    one_first (has_rank_at c.args.sets.now None) (has_rank_at c.args.sets.now (Some c.args.number)) c.in-Some-Some.any c.in-Some-Some.own higher c.in-Some-Some.ensures c.in-Some-Some.ensures'
