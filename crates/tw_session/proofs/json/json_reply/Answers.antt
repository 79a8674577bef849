use Rattle.std.proofs.Common.{Global, Vec, refl, subst, sym, ℕ}
use Rattle.tw_json_output.specs.Lines.{IsJsonLine}
use Rattle.tw_session.proofs.json.json_reply.Goals as goal

pub returns-in-Ok : goal.returns-in-Ok
returns-in-Ok c = (refl, subst (λ (v : Vec ℕ Global). IsJsonLine v.items) (sym c.into_bytes.ensures.value) (rw c.in-Ok.is at c.requires))
