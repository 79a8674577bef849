use Rattle.std.proofs.Common.{Result, Ok, Err, ◌≡◌, true, false, is_err, sym, OnErr, OnOk}
use Rattle.tw_instr.proofs.NoticeSets.{added_next, undone}
use Rattle.tw_instr.proofs.notices.add_all.Goals as goal

on_ok : {A E : Type 0} (r : Result A E) (P : Type 0) → is_err r ≡ false → OnOk r P → P
on_ok (Ok x) P e p = p
on_ok (Err x) P e p = cc

on_err : {A E : Type 0} (r : Result A E) (P : Type 0) → is_err r ≡ true → OnErr r P → P
on_err (Ok x) P e p = cc
on_err (Err x) P e p = p

pub returns-then-is_err-clause-refused : goal.returns-then-is_err-clause-refused
returns-then-is_err-clause-refused c =
    undone c.args.more.now c.loop-key.key-index c.args.keys.now c.loop-key.keys c.insert.new.self c.remove_all.new.keys c.requires c.loop-key.invariant
    (on_err c.insert.result _ (sym c.if-is_err.ensures.value) c.insert.ensures.err) c.remove_all.ensures

pub loop-key-preserved : goal.loop-key-preserved
loop-key-preserved c =
    added_next c.args.more.now c.loop-key.key-index c.key-item.result c.args.keys.now c.loop-key.keys c.insert.new.self c.loop-key-test.true c.key-item.is c.loop-key.invariant
    (on_ok c.insert.result _ (sym c.if-is_err.ensures.value) c.insert.ensures.updates)
