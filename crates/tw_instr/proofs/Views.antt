-- The store after a step, and look-ups in it.
use Rattle.tw_instr.proofs.Names.{Bool, Datum, List, None, Option, Some, Store, Subscript, Value, [], cond, entry_at, false, get, is_closed, map as each, nothing_after, notice_to, notices_of_stored, notices_of_write_dropped, one_write_less, refl, size_at, subscript_after, subscripts_at, subst, true, ℕ, ℤ, ◌<◌, ◌≡◌}
use Rattle.tw_types.specs.declared.notice.Subscriber.{Subscriber}
use Rattle.tw_types.specs.Room.{HasReadRoom, HasWriteRoom}

pub read_room : (r : Option Datum) (x : Datum) → r ≡ Some x → HasReadRoom r → x.reads < 9223372036854775808
read_room r x e h = subst HasReadRoom e h

pub write_room : (r : Option Datum) (x : Datum) → r ≡ Some x → HasWriteRoom r → x.writes < 9223372036854775808
write_room r x e h = subst HasWriteRoom e h

-- ---- who hears of it

module _ (s : Store) (id : ℕ) where
  pub set_heard : (x : Datum) (value : Value) → get s.live id ≡ Some x → each (notice_to id) x.subscribers ≡ notices_of_stored s id value
  set_heard x value e = rw e refl

  pub set_unheard : (value : Value) → get s.live id ≡ None → [] ≡ notices_of_stored s id value
  set_unheard value e = rw e refl

  notified : (b : Bool) (subscribers : List Subscriber) → each (notice_to id) (cond b subscribers []) ≡ cond b (each (notice_to id) subscribers) []
  notified true subscribers = refl
  notified false subscribers = refl

  pub drop_heard : (x : Datum) → get s.live id ≡ Some x → each (notice_to id) (cond (is_closed (one_write_less x)) x.subscribers []) ≡ notices_of_write_dropped s id
  drop_heard x e = rw e (notified (is_closed (one_write_less x)) x.subscribers)

  pub drop_unheard : get s.live id ≡ None → [] ≡ notices_of_write_dropped s id
  drop_unheard e = rw e refl

-- ---- nothing is found where the datum isn't live

module _ (s : Store) (id : ℕ) where
  pub no_size : get s.live id ≡ None → 0 ≡ size_at s id
  no_size e = rw e refl

  pub no_subscript : (index : ℤ) → get s.live id ≡ None → None ≡ subscript_after index (subscripts_at s id)
  no_subscript index e = rw e (nothing_after index)

  pub no_entry : (at : Subscript) → get s.live id ≡ None → None ≡ entry_at s id at
  no_entry at e = rw e refl
