use Rattle.tw_store.proofs.Names.{capped, ◌≡◌}
use Rattle.tw_store.proofs.Texts.{bytes_before}
use Rattle.tw_store.proofs.amounts.datum_bytes.Given as goal

abbrev pub invariant-loop-index : goal.invariant-loop-index
invariant-loop-index l = l.bytes ≡ capped (bytes_before l.datum.datum.content l.index)
