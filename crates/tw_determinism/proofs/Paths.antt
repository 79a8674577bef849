-- If a path leads to where no task can make a step, whatever a task can do comes in it, and may come first.
use Rattle.std.proofs.Common.{◌≡◌, inl, inr, ℕ, zero, suc, List, refl, sym, subst}
use Rattle.tw_code.specs.declared.procedure.Procedure.{Procedure}
use Rattle.tw_determinism.proofs.Names.{Name}
use Rattle.tw_determinism.proofs.CoreEffects.{Net}
use Rattle.tw_determinism.proofs.CoreMachine.{IsMade, IsOver, Path, Steps, Wills}
use Rattle.tw_determinism.proofs.Persisting.{name_dec, wills_kept}
use Rattle.tw_determinism.proofs.Growing.{made_kept}
use Rattle.tw_determinism.proofs.Swapping.{swaps}

-- the step of a task, and the rest of a path of so many steps
pub record Begins (program : List Procedure) (k : ℕ) (m end : Net) (t : Name) : Type 0 where
  pub left : ℕ
  pub is : k ≡ suc left
  pub next : Net
  pub step : Steps program m t next
  pub rest : Path program left next end

pub comes_first : (program : List Procedure) (k : ℕ) (m end : Net) → IsMade m → Path program k m end → IsOver program end → (t : Name) → Wills program m t → Begins program k m end t
comes_first program zero m end made path over t v = absurd (over t (subst (λ z. Wills program z t) path v))
comes_first program (suc k) m end made path over t v = elim (name_dec t path.0) [
  | inl same ↦ record { left = k; is = refl; next = path.1; step = subst (λ z. Steps program m z path.1) (sym same) path.2; rest = path.3 }
  | inr other ↦
      let later = comes_first program k path.1 end (made_kept program m path.1 made path.0 path.2) path.3 over t (wills_kept program m path.1 made path.0 path.2 t other v) in
      let s = swaps program m path.1 made path.0 path.2 t other v later.next later.step in
      record { left = k; is = refl; next = s.0; step = s.1; rest = subst (λ z. Path program z s.0 end) (sym later.is) (path.0, later.next, s.2, later.rest) }
]

-- so where no task can make a step, the path is over
pub path_over : (program : List Procedure) (k : ℕ) (m end : Net) → Path program k m end → IsOver program m → m ≡ end
path_over program zero m end path over = path
path_over program (suc k) m end path over = absurd (over path.0 path.2.wills)
