-- Bounds below which an instruction on data can count one more.
use Rattle.std.specs.Prelude.{◌≡◌, ◌<◌, ◌^◌, ℕ, Some}
use Rattle.std.specs.FinMap.{get}
use Rattle.tw_types.specs.Store.{Datum, Store}
use Rattle.tw_types.specs.StoreCalls.{count_in}

-- the next number, and the counts and the numbers of members or values of live data, are below 2^63
pub record HasRoom (s : Store) : Type 0 where
  pub number : s.next < 2 ^ 63
  pub reads : (id : ℕ) (x : Datum) → get s.live id ≡ Some x → x.reads < 2 ^ 63
  pub writes : (id : ℕ) (x : Datum) → get s.live id ≡ Some x → x.writes < 2 ^ 63
  pub members : (id : ℕ) (x : Datum) → get s.live id ≡ Some x → count_in x.content < 2 ^ 63
