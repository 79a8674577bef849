use Rattle.std.proofs.Common.{Ok, Err, sym, subst, List, ◌+◌, arith}
use Rattle.tw_binary.proofs.Loop.{HasRead, begins, goes_on, ends, whole}
use Rattle.tw_binary.proofs.many.many.Goals as goal

pub loop-init : goal.loop-init
loop-init g c = λ read are. subst (λ (xs : List g.row.T.Denot). HasRead read c.args.count 0 xs c.args.bytes.now c.args.bytes.now) (sym c.new-items.ensures.items) (begins read c.args.count c.args.bytes.now)

pub returns-in-Err : goal.returns-in-Err
returns-in-Err g c = λ read are.
    ends read c.args.count c.loop.counter c.loop.items.items c.loop.rest.now c.args.bytes.now (c.loop.invariant read are) c.in-Err.e c.loop-test.true (are c.loop.rest (Err c.in-Err.e) c.in-Err.ensures)

pub loop-preserved : goal.loop-preserved
loop-preserved g c = λ read are.
    subst (λ (xs : List g.row.T.Denot). HasRead read c.args.count (c.loop.counter + 1) xs c.in-Ok.after.now c.args.bytes.now) (sym c.in_ok-push-in-Ok.ensures.items)
    (goes_on read c.args.count c.loop.counter c.loop.items.items c.loop.rest.now c.args.bytes.now (c.loop.invariant read are) c.in-Ok.item c.in-Ok.after.now c.loop-test.true (are c.loop.rest (Ok (c.in-Ok.item, c.in-Ok.after)) c.in-Ok.ensures))

pub returns : goal.returns
returns g c = λ read are.
    whole read c.args.count c.loop.counter c.loop.items.items c.loop.rest.now c.args.bytes.now (c.loop.invariant read are) (omega (arith, c.loop-test.false))
