-- The store after a change of one datum, described by the live data alone.
use Rattle.std.proofs.Common.{◌≡◌, ℕ, Bool, true, false, cond, Some, None, refl, sym, ap, ◌∙◌, fold}
use Rattle.std.specs.declared.option.Option.{Option}
use Rattle.std.specs.Cmp.{nat_cmp_total}
use Rattle.std.specs.FinMap.{FinMap, nat_cmp-IsAntisymmetric, get, insert, remove}
use Rattle.std.specs.Ordering.{nat_cmp}
use Rattle.tw_types.proofs.Maps.{insert_same, get_here, remove_insert}
use Rattle.tw_types.specs.Store.{Data, Datum, Store, drop_read_within, settled, is_unheld, members_of}
use Rattle.tw_types.specs.StoreCalls.{changed}

abbrev pub with_live : ℕ → Data → Store
with_live next live = record { live = live; next = next }

-- the result of looking up the id in s
pub here_is : (s : Store) (m : Data) (id : ℕ) (r : Option Datum) → s.live ≡ m → get m id ≡ r → get s.live id ≡ r
here_is s m id r view there = ap (λ x. get x id) view ∙ there

-- s with other live data
pub changed_is : (s : Store) (m n : Data) (id : ℕ) (x : Datum) (f : Datum → Datum) → s.live ≡ m → get m id ≡ Some x → n ≡ insert m id (f x) → with_live s.next n ≡ changed s id f
changed_is s m n id x f view there written =
    let here = here_is s m id (Some x) view there in
    rw here (ap (with_live s.next) (written ∙ ap (λ y. insert y id (f x)) (sym view)))

-- changing an id that isn't there does nothing
pub absent_is : (s : Store) (m n : Data) (id : ℕ) (f : Datum → Datum) → s.live ≡ m → get m id ≡ None → n ≡ m → with_live s.next n ≡ changed s id f
absent_is s m n id f view there e =
    let here = here_is s m id None view there in
    rw here (ap (with_live s.next) (e ∙ sym view))

pub here : {X : Type 0} (m : FinMap nat_cmp X) (id : ℕ) (x : X) → get (insert m id x) id ≡ Some x
here = get_here nat_cmp_total nat_cmp-IsAntisymmetric

pub same : {X : Type 0} (m : FinMap nat_cmp X) (id : ℕ) (x : X) → get m id ≡ Some x → insert m id x ≡ m
same = insert_same nat_cmp_total nat_cmp-IsAntisymmetric

pub removed_again : {X : Type 0} (m : FinMap nat_cmp X) (id : ℕ) (x : X) → remove (insert m id x) id ≡ remove m id
removed_again = remove_insert nat_cmp_total nat_cmp-IsAntisymmetric

gone : Data → Datum → Data
gone m x = fold (drop_read_within 2) m (members_of x.content)

-- settling a datum after writing it
pub settled_written : (m : Data) (id : ℕ) (x : Datum) → settled (insert m id x) id x ≡ settled m id x
unfolding gone
settled_written m id x = at (is_unheld x)
  where
    at : (b : Bool) → cond b (gone (remove (insert m id x) id) x) (insert (insert m id x) id x) ≡ cond b (gone (remove m id) x) (insert m id x)
    at true = ap (λ n. gone n x) (removed_again m id x)
    at false = same (insert m id x) id x (here m id x)

pub settled_held : (m : Data) (id : ℕ) (x : Datum) → get m id ≡ Some x → is_unheld x ≡ false → m ≡ settled m id x
settled_held m id x there u = rw u (sym (same m id x there))

pub settled_gone : (m : Data) (id : ℕ) (x : Datum) → is_unheld x ≡ true → fold (drop_read_within 2) (remove m id) (members_of x.content) ≡ settled m id x
settled_gone m id x u = rw u refl
