-- The result of losing a write, over the finite map.
use Rattle.tw_instr.proofs.Names.{Data, Datum, IfSome, Some, Store, ap, get, here, here_is, insert, settled, settled_written, store_after, subscribers_cleared, subst, sym, with_live, ℕ, ◌∙◌, ◌≡◌}

-- a datum that was written, and then freed where nobody holds it
pub closes : (m w n : Data) (id : ℕ) (x : Datum) → w ≡ insert m id x → IfSome (get w id) (λ y. n ≡ settled w id y) → n ≡ settled m id x
closes m w n id x e h =
    let there : get w id ≡ Some x = ap (λ y. get y id) e ∙ here m id x in
    let k = subst (λ r. IfSome r (λ y. n ≡ settled w id y)) there h in
    k ∙ ap (λ y. settled y id x) e ∙ settled_written m id x

module _ (s : Store) (m w n : Data) (id : ℕ) (x : Datum) (f : Datum → Datum) where
  pub after_is : s.live ≡ m → get m id ≡ Some x → w ≡ insert m id (subscribers_cleared (f x)) → IfSome (get w id) (λ y. n ≡ settled w id y) → with_live s.next n ≡ store_after s id f
  after_is view there written left =
      let here = here_is s m id (Some x) view there in
      rw here (ap (with_live s.next) (closes m w n id _ written left ∙ ap (λ y. settled y id (subscribers_cleared (f x))) (sym view)))
