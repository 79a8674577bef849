-- Lists of typings: a list that fits is the only one of its length, and has each typing that reaches one of its places.
use Rattle.tw_verify.proofs.VerifierNames.{Begin, Branch, Brings, Close, Completed, Flow, Instr, IsReached, IsWellTyped, Jump, List, Procedure, Skipped, Some, Stop, Straight, Typing, Way, after, ap, arith, cases_lt, flow_of, get_or, inl, inr, length-take, onward, refl, same_Some, slice_get, slice_get-get_or, slice_get_within, subst, suc, sym, take, zero, ℕ, ◌+◌, ◌<◌, ◌∙◌, ◌≡◌, ◌≤◌, ◌⊎◌}
use Rattle.tw_code.specs.machine.Position.{goal_of}
use Rattle.tw_verify.proofs.Lists.{get-take}

-- the later place of an outcome is later
pub onward_later : (way : Way) (place : ℕ) (flow : Flow) (next : ℕ) → onward way place flow ≡ Some next → place < next
onward_later Completed place Straight next h = let e = same_Some (place + 1) next h in omega (arith, e)
onward_later Completed place (Branch skip) next h = let e = same_Some (place + 1) next h in omega (arith, e)
onward_later Completed place (Jump skip) next h = let e = same_Some (goal_of place skip) next h in omega (arith, e)
onward_later Completed place (Begin iterations) next h = let e = same_Some (place + 1) next h in omega (arith, e)
onward_later Completed place Close next h = let e = same_Some (place + 1) next h in omega (arith, e)
onward_later Completed place Stop next h = cc
onward_later Skipped place Straight next h = cc
onward_later Skipped place (Branch skip) next h = let e = same_Some (goal_of place skip) next h in omega (arith, e)
onward_later Skipped place (Jump skip) next h = cc
onward_later Skipped place (Begin iterations) next h = cc
onward_later Skipped place Close next h = cc
onward_later Skipped place Stop next h = cc

-- ---- lists that fit

-- each prefix of a list that fits also fits
pub well_typed_front : (program : List Procedure) (p : Procedure) (typings : List Typing) (to n : ℕ) → IsWellTyped program p typings to → n ≤ to → IsWellTyped program p (take n typings) n
well_typed_front program p typings to n w few = record {
  long = omega (arith, length-take n typings, w.long);
  begins = λ t at. w.begins t (get-take typings n 0 t at);
  asks = λ k i t here at. w.asks k i t here (get-take typings n k t at);
  later = λ k next i way t left here at goes there. w.later k next i way t left here (get-take typings n k t at) goes (get-take typings n next left there);
  loops = λ k first t begun end at there. w.loops k first t begun end (get-take typings n k t at) (get-take typings n first begun there);
  entered = λ k some inside. w.entered k some (omega arith);
}

-- an element below the length
element : (typings : List Typing) (k n : ℕ) (t : Typing) → slice_get typings n ≡ Some t → k < n → (u : Typing) × (slice_get typings k ≡ Some u)
element typings k n t at below = (get_or typings k t, slice_get-get_or typings k t (omega (arith, slice_get_within typings n t at)))

-- two lists have the same typing at a place, by induction on a bound of the places
agree_below : (program : List Procedure) (p : Procedure) (ts us : List Typing) (m n : ℕ) → IsWellTyped program p ts m → IsWellTyped program p us n → (bound k : ℕ) → k < bound → (t u : Typing) → slice_get ts k ≡ Some t → slice_get us k ≡ Some u → t ≡ u
agree_below program p ts us m n v w zero k below t u at there = absurd (omega arith)
agree_below program p ts us m n v w (suc bound) zero below t u at there = v.begins t at ∙ sym (w.begins u there)
agree_below program p ts us m n v w (suc bound) (suc k) below t u at there =
    let entry = v.entered (suc k) (omega arith) (omega (arith, slice_get_within ts (suc k) t at, v.long)) in
    let step = entry.1 in
    let from = element ts entry.0 (suc k) t at step.earlier in
    let other = element us entry.0 (suc k) u there step.earlier in
    let same = agree_below program p ts us m n v w bound entry.0 (omega (arith, step.earlier)) from.0 other.0 from.1 other.1 in
    v.later entry.0 (suc k) step.instr step.way from.0 t step.here from.1 step.goes_on at
    ∙ ap (after program step.way step.instr) same
    ∙ sym (w.later entry.0 (suc k) step.instr step.way other.0 u step.here other.1 step.goes_on there)

pub agree : (program : List Procedure) (p : Procedure) (ts us : List Typing) (m n : ℕ) → IsWellTyped program p ts m → IsWellTyped program p us n → (k : ℕ) (t u : Typing) → slice_get ts k ≡ Some t → slice_get us k ≡ Some u → t ≡ u
agree program p ts us m n v w k t u at there = agree_below program p ts us m n v w (suc k) k (omega arith) t u at there

-- in every list that has a typing at this place, it is the one that an earlier place leaves
pub brought_typing : (program : List Procedure) (p : Procedure) (ts us : List Typing) (m n before place : ℕ) (t u : Typing) → IsWellTyped program p ts m → Brings program p ts before place t → IsWellTyped program p us n → slice_get us place ≡ Some u → u ≡ t
brought_typing program p ts us m n before place t u v b w at =
    let step = b.step in
    let other = element us before place u at step.earlier in
    w.later before place step.instr step.way other.0 u step.here other.1 step.goes_on at
    ∙ ap (after program step.way step.instr) (agree program p us ts n m w v before other.0 b.from other.1 b.there)
    ∙ sym b.is

-- a place that is reached has the typing with which it is reached, in every list
pub reached_typing : (program : List Procedure) (p : Procedure) (ts us : List Typing) (m n place : ℕ) (t u : Typing) → IsWellTyped program p ts m → IsReached program p ts place t → IsWellTyped program p us n → slice_get us place ≡ Some u → u ≡ t
reached_typing program p ts us m n place t u v (inl (start, is)) w at = w.begins u (subst (λ (k : ℕ). slice_get us k ≡ Some u) start at) ∙ sym is
reached_typing program p ts us m n place t u v (inr (before, f)) w at = brought_typing program p ts us m n before place t u v f.brings w at

-- ---- a place is reached with one typing

same_way : (v w : Way) → (v ≡ Completed → w ≡ Completed) → (w ≡ Completed → v ≡ Completed) → v ≡ w
same_way Completed w h k = sym (h refl)
same_way Skipped Completed h k = k refl
same_way Skipped Skipped h k = refl

-- an outcome of one instruction is one of the same instruction
moved_step : (code : List Instr) (a b place : ℕ) (i j : Instr) (v : Way) → a ≡ b → i ≡ j → v ≡ Completed → onward v a (flow_of i) ≡ Some place → onward Completed b (flow_of j) ≡ Some place
moved_step code a b place i j v same is done goes =
    sym (ap (λ (w : Way). onward w a (flow_of i)) done ∙ ap (λ (n : ℕ). onward Completed n (flow_of i)) same ∙ ap (λ (x : Instr). onward Completed b (flow_of x)) is) ∙ goes

pub reached_same : (program : List Procedure) (p : Procedure) (ts : List Typing) (place : ℕ) (t u : Typing) → IsReached program p ts place t → IsReached program p ts place u → t ≡ u
reached_same program p ts place t u (inl (start, is)) (inl (first, was)) = is ∙ sym was
reached_same program p ts place t u (inl (start, is)) (inr (b, g)) = absurd (omega (arith, g.brings.step.earlier))
reached_same program p ts place t u (inr (a, f)) (inl (first, was)) = absurd (omega (arith, f.brings.step.earlier))
reached_same program p ts place t u (inr (a, f)) (inr (b, g)) = by (cases_lt a b) (cases_lt b a)
  where
    by : (a < b) ⊎ (b ≤ a) → (b < a) ⊎ (a ≤ b) → t ≡ u
    by (inl below) _ = absurd (g.least a below f.brings.step)
    by (inr _) (inl below) = absurd (f.least b below g.brings.step)
    by (inr low) (inr high) =
        let same : a ≡ b = omega arith in
        let here = f.brings.step in
        let there = g.brings.step in
        let instr : here.instr ≡ there.instr = same_Some here.instr there.instr (sym here.here ∙ ap (slice_get p.code) same ∙ there.here) in
        let way : here.way ≡ there.way = same_way here.way there.way (λ done. g.done (moved_step p.code a b place here.instr there.instr here.way same instr done here.goes_on)) (λ done. f.done (moved_step p.code b a place there.instr here.instr there.way (sym same) (sym instr) done there.goes_on)) in
        let from : f.brings.from ≡ g.brings.from = same_Some f.brings.from g.brings.from (sym f.brings.there ∙ ap (slice_get ts) same ∙ g.brings.there) in
        f.brings.is
        ∙ ap (λ (w : Way). after program w here.instr f.brings.from) way
        ∙ ap (λ (x : Instr). after program there.way x f.brings.from) instr
        ∙ ap (after program there.way there.instr) from
        ∙ sym g.brings.is
