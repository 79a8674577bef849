use Rattle.tw_each.proofs.Names.{Global, IsJsonLine, Vec, refl, subst, sym, ℕ}
use Rattle.tw_each.proofs.reply.json_reply.Goals as goal

pub returns : goal.returns
returns c = (refl, subst (λ (v : Vec ℕ Global). IsJsonLine v.items) (sym c.into_bytes.ensures.value) c.in_ok-line.ensures)
