-- The first writers of data, added from the last rule to the first.
use Rattle.tw_report.proofs.Names.{Bool, List, Option, Pending, Some, ap, drop, drop-cons, false, get_or, if◌then◌else◌, is_among, length, option_and_then, refl, slice_get, slice_get_read, suc, sym, true, writer_of, ℕ, ◌<◌, ◌∙◌, ◌∷◌, ◌≡◌}

-- a look-up after the rule at the index was added, if that finds the index
pub put_first : (rules : List Pending) (i : ℕ) (r : Pending) (n : ℕ) (old new : Option ℕ) → i < length rules → r ≡ get_or rules i r
    → new ≡ (if is_among n r.writes then Some i else old) → option_and_then (slice_get rules) old ≡ writer_of n (drop (suc i) rules) → option_and_then (slice_get rules) new ≡ writer_of n (drop i rules)
put_first rules i r n old new low is put before =
    ap (λ o. option_and_then (slice_get rules) o) put
    ∙ by (is_among n r.writes)
    ∙ sym (ap (writer_of n) (drop-cons rules i r low ∙ ap (λ x. x ∷ drop (suc i) rules) (sym is)))
  where
    by : (b : Bool) → option_and_then (slice_get rules) (if b then Some i else old) ≡ (if b then Some r else writer_of n (drop (suc i) rules))
    by true = slice_get_read rules (length rules) i r refl low is
    by false = before
