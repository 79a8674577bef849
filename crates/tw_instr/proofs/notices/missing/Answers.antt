use Rattle.tw_instr.proofs.Names.{ap, arith, false, is_in, notice_to, sym, true, ◌∙◌, ◌≡◌}
use Rattle.tw_instr.proofs.NoticeSets.{one_missing, one_there}
use Rattle.tw_instr.proofs.notices.missing.Goals as goal
use Rattle.tw_instr.proofs.notices.missing.Goals.{then-not-contains+in_ok-push, else-not-contains}

pub loop-subscriber-preserved : goal.loop-subscriber-preserved
loop-subscriber-preserved c =
    let f = notice_to c.args.id in
    let item = c.subscriber-item.result in
    let more = c.loop-subscriber.more.items in
    let key : is_in c.args.keys.now (f item) ≡ c.contains.result = ap (is_in c.args.keys.now) (sym c.of-key.ensures) ∙ sym c.contains.ensures in
    elim c.if-not-contains.branch [
      | then-not-contains+in_ok-push w ↦
          let no : c.contains.result ≡ false = grind (arith, w.if-not-contains.true) in
          let both = one_missing f c.args.subscribers.now c.loop-subscriber.subscriber-index item c.loop-subscriber-test.true c.subscriber-item.is c.args.keys.now more (key ∙ no) c.loop-subscriber.invariant.apart c.loop-subscriber.invariant.all in
          rw (w.more-is, w.in_ok-push.ensures.items, c.of-key.ensures) (record { apart = both.0; all = both.1 })
      | else-not-contains w ↦
          let yes : c.contains.result ≡ true = grind (arith, w.if-not-contains.false) in
          rw w.more-is (record {
            apart = c.loop-subscriber.invariant.apart;
            all = one_there f c.args.subscribers.now c.loop-subscriber.subscriber-index item c.loop-subscriber-test.true c.subscriber-item.is c.args.keys.now more (key ∙ yes) c.loop-subscriber.invariant.all;
          })
    ]
