-- Sorted ranks, next to a heap of others.
use Rattle.tw_queue.proofs.Names.{Bor, Contains, IfNone, IfSome, IsFirst, IsInFront, IsInOrder, IsPermutation, IsPermutation-append_right, IsPermutation-middle, IsPermutation-sym, IsPermutation-trans, IsUpperBound, List, None, Option, Rank, Some, [], append_assoc, arith, false, get_or, is_lt, length, option_copied, option_to_list, rank_cmp, refl, subst, suc, sym, zero, ℕ, ◌++◌, ◌<◌, ◌∷◌, ◌≡◌, ◌≤◌}
use Rattle.std.specs.Slice.{IsItemAt}
use Rattle.std.proofs.lemmas.List.Elements.{Contains-append_left, Contains-append_right}
use Rattle.tw_queue.proofs.RunQueues.{each_at, each_push}
use Rattle.tw_queue.proofs.Order.{not_after, not_itself}

-- ---- ranks after a run

-- a rank below the last one is below all
after_all : (x : Rank) (ranks : List Rank) (y : Rank) → IsUpperBound rank_cmp x ranks → is_lt (rank_cmp x y) ≡ false → IsUpperBound rank_cmp x (ranks ++ y ∷ [])
after_all x ranks y upper low = each_push (λ z. is_lt (rank_cmp x z) ≡ false) ranks y upper low

pub in_order_pushed : (ranks : List Rank) (k : ℕ) (last y : Rank) → suc k ≡ length ranks → last ≡ get_or ranks k last → is_lt (rank_cmp last y) ≡ false → IsInOrder ranks → IsInOrder (ranks ++ y ∷ [])
in_order_pushed [] k last y count at low is = absurd (omega arith)
in_order_pushed (x ∷ []) zero last y count at low is = ((subst (λ z. is_lt (rank_cmp z y) ≡ false) at low, tt), (tt, tt))
in_order_pushed (x ∷ []) (suc k) last y count at low is = absurd (omega arith)
in_order_pushed (x ∷ z ∷ ranks) zero last y count at low is = absurd (omega arith)
in_order_pushed (x ∷ z ∷ ranks) (suc k) last y count at low is =
    let over : is_lt (rank_cmp x last) ≡ false = subst (λ w. is_lt (rank_cmp x w) ≡ false) (sym at) (each_at (λ w. is_lt (rank_cmp x w) ≡ false) (z ∷ ranks) k last is.0 (omega arith)) in
    (after_all x (z ∷ ranks) y is.0 (not_after x last y over low), in_order_pushed (z ∷ ranks) k last y (omega arith) at low is.1)

-- ---- the first of both

upper_both : (x : Rank) (ranks others : List Rank) → IsUpperBound rank_cmp x ranks → IsUpperBound rank_cmp x others → IsUpperBound rank_cmp x (ranks ++ others)
upper_both x [] others upper over = over
upper_both x (y ∷ ranks) others upper over = (upper.0, upper_both x ranks others upper.1 over)

pub front_over : (x : Rank) (ranks : List Rank) → 0 < length ranks → x ≡ get_or ranks 0 x → IsInOrder ranks → IsUpperBound rank_cmp x ranks
front_over x [] some at is = absurd (omega arith)
front_over x (y ∷ ranks) some at is = subst (λ z. IsUpperBound rank_cmp z (y ∷ ranks)) (sym at) (not_itself y, is.0)

pub in_front : (x : Rank) (ranks others : List Rank) → 0 < length ranks → x ≡ get_or ranks 0 x → IsUpperBound rank_cmp x others → IsInFront ranks others
in_front x [] others some at over = absurd (omega arith)
in_front x (y ∷ ranks) others some at over = subst (λ z. IsUpperBound rank_cmp z others) at over

over_others : (x : Rank) (ranks others : List Rank) → 0 < length ranks → x ≡ get_or ranks 0 x → IsInFront ranks others → IsUpperBound rank_cmp x others
over_others x [] others some at front = absurd (omega arith)
over_others x (y ∷ ranks) others some at front = subst (λ z. IsUpperBound rank_cmp z others) (sym at) front

none_in : (ranks : List Rank) → length ranks ≤ 0 → ranks ≡ []
none_in [] few = refl
none_in (x ∷ ranks) few = absurd (omega arith)

others_none : (ranks others : List Rank) → ranks ≡ [] → IsInFront ranks others → others ≡ []
others_none [] others e front = front
others_none (x ∷ ranks) others e front = cc

contains_first : (x : Rank) (ranks : List Rank) → 0 < length ranks → x ≡ get_or ranks 0 x → Contains ranks x
contains_first x ranks some at = (0, some, sym at)

module _ (run rest : List Rank) where
  run_is_first : (x : Rank) → 0 < length run → x ≡ get_or run 0 x → IsInOrder run → IsInFront run rest → IsFirst (run ++ rest) (Some x)
  run_is_first x some at is front =
      (Contains-append_left run rest x (contains_first x run some at), upper_both x run rest (front_over x run some at is) (over_others x run rest some at front))

  rest_is_first : (x : Rank) → 0 < length rest → x ≡ get_or rest 0 x → IsUpperBound rank_cmp x rest → IsInFront rest run → IsFirst (run ++ rest) (Some x)
  rest_is_first x some at over front =
      (Contains-append_right run rest x (contains_first x rest some at), upper_both x run rest (over_others x rest run some at front) over)

  none_of_run : run ≡ [] → IsInFront run rest → run ++ rest ≡ []
  none_of_run e front = rw (e, others_none run rest e front) refl

  none_of_rest : rest ≡ [] → IsInFront rest run → run ++ rest ≡ []
  none_of_rest e front = rw (others_none rest run e front, e) refl

  -- ---- where it is looked at

  pub run_shows : IsInOrder run → IsInFront run rest → (r : Option (Bor Rank)) → IsItemAt run 0 r → IsFirst (run ++ rest) (option_copied r)
  run_shows is front None item = none_of_run (none_in run item.3) front
  run_shows is front (Some x) item = run_is_first x.now item.3.0 item.1 is front

  -- ---- where it is taken

  pub run_gives : (new : List Rank) (r : Option Rank) → run ≡ option_to_list r ++ new → IfNone r (length run ≤ 0) → IsInOrder run → IsInFront run rest → IsFirst (run ++ rest) r
  run_gives new None was few is front = none_of_run (none_in run few) front
  run_gives new (Some x) was few is front =
      run_is_first x (subst (λ xs. 0 < length xs) (sym was) (omega arith)) (subst (λ xs. x ≡ get_or xs 0 x) (sym was) refl) is front

  pub rest_gives : (r : Option Rank) → IfSome r (λ x. x ≡ get_or rest 0 x) → IfSome r (λ x. 0 < length rest) → IfNone r (length rest ≤ 0) → IfSome r (λ x. IsUpperBound rank_cmp x rest) → IsInFront rest run
      → IsFirst (run ++ rest) r
  rest_gives None at some few over front = none_of_rest (none_in rest few) front
  rest_gives (Some x) at some few over front = rest_is_first x some at over front

  pub rest_less : (new : List Rank) (r : Option Rank) → IfSome r (λ x. IsPermutation rest (x ∷ new)) → IfSome r (λ x. IsPermutation (run ++ rest) (x ∷ (run ++ new)))
  rest_less new None moved = tt
  rest_less new (Some x) moved = IsPermutation-trans _ _ _ (IsPermutation-append_right run rest (x ∷ new) moved) (IsPermutation-middle run x new)

  -- ---- where one comes

  pub run_more : (y : Rank) → IsPermutation (y ∷ (run ++ rest)) ((run ++ y ∷ []) ++ rest)
  run_more y = rw append_assoc (IsPermutation-sym _ _ (IsPermutation-middle run y rest))

  pub rest_more : (y : Rank) (new : List Rank) → IsPermutation (y ∷ rest) new → IsPermutation (y ∷ (run ++ rest)) (run ++ new)
  rest_more y new moved = IsPermutation-trans _ _ _ (IsPermutation-sym _ _ (IsPermutation-middle run y rest)) (IsPermutation-append_right run (y ∷ rest) new moved)
