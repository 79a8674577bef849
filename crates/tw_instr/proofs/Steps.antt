-- Local steps, one after the other.
use Rattle.tw_instr.proofs.Names.{Instr, IsStopped, List, Position, Stopped, Went, ap, arith, local_step, local_steps, refl, suc, went_first, zero, ℕ, ◌+◌, ◌-◌, ◌<◌, ◌>>=◌, ◌∙◌, ◌≡◌}
use Rattle.tw_instr.proofs.Stops.{stopped_then, stopped_is}

-- the steps that are left begin with one
next_step : (n k : ℕ) (code : List Instr) (at : Position) → k < n → local_steps (n - k) code at ≡ (local_step code at >>= local_steps (n - (k + 1)) code)
next_step n k code at h = let e : n - k ≡ suc (n - (k + 1)) = omega arith in ap (λ m. local_steps m code at) e

pub step_goes : (n k : ℕ) (code : List Instr) (first at next : Position) → k < n → local_steps n code first ≡ local_steps (n - k) code at → local_step code at ≡ Went next
    → local_steps n code first ≡ local_steps (n - (k + 1)) code next
step_goes n k code first at next h before goes = before ∙ next_step n k code at h ∙ ap (λ o. o >>= local_steps (n - (k + 1)) code) goes

pub step_stopped : (n k : ℕ) (code : List Instr) (first at : Position) (why : Stopped) → k < n → local_steps n code first ≡ local_steps (n - k) code at → IsStopped (local_step code at) why
    → IsStopped (local_steps n code first) why
step_stopped n k code first at why h before stop = stopped_is _ _ why (before ∙ next_step n k code at h) (stopped_then _ _ why stop)

-- one step more, after the others
pub one_more : (n : ℕ) (code : List Instr) (at now next : Position) → local_steps n code at ≡ Went now → local_step code now ≡ Went next → local_steps (n + 1) code at ≡ Went next
one_more zero code at now next went goes =
    let same : at ≡ now = cc in
    rw (same, goes) refl
one_more (suc n) code at now next went goes =
    let first = went_first (local_step code at) (local_steps n code) now went in
    let count : suc n + 1 ≡ suc (n + 1) = omega arith in
    let more : (local_step code at >>= local_steps (n + 1) code) ≡ Went next = rw first.1 (one_more n code first.0 now next first.2 goes) in
    ap (λ (k : ℕ). local_steps k code at) count ∙ more
