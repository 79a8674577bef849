-- The ENDs of loops, the loops begun at a place, and the tables of both.
use Rattle.std.proofs.Common.{◌≡◌, ◌≢◌, ℕ, zero, suc, ◌+◌, ◌-◌, ◌<◌, ◌≤◌, ◌⊎◌, inl, inr, List, [], ◌∷◌, ◌++◌, length, length-append, drop, set, get_or, Option, Some, None, refl, sym, ap, ◌∙◌, subst, arith}
use Rattle.tw_verify.proofs.VerifierNames.{AreFirsts, Begin, Branch, Close, DepthsTo, EndsFrom, Flow, Instr, IsEndOf, Jump, Stop, Straight, branch_end, cases_lt, depth_after, depth_next, depth_of, drop-length, drop_at, end_depth, end_from, end_is, end_of, end_past, end_within, flow_of, flows, get_or-append, get_or-append_seam, jump_end, length-map, length-set, same_Some, slice_get, slice_index, slide, straight_end}
use Rattle.tw_budget.proofs.Tables.{set_from}
use Rattle.tw_verify.proofs.Lists.{get_set_at, get_set_other}

-- ---- ENDs

-- past a RET, the same loops
pub stop_end : (code : List Flow) (place : ℕ) → slice_get code place ≡ Some Stop → end_of code place ≡ end_of code (place + 1)
stop_end code place at = ap (λ (xs : List Flow). end_from place 0 xs) (drop_at code place Stop at)

-- if no END is left, none is left for the loops outside
no_end : (xs : List Flow) (place inner : ℕ) → end_from place inner xs ≡ None → end_from place (suc inner) xs ≡ None
no_end [] place inner e = refl
no_end (Straight ∷ xs) place inner e = no_end xs (place + 1) inner e
no_end (Branch s ∷ xs) place inner e = no_end xs (place + 1) inner e
no_end (Jump s ∷ xs) place inner e = no_end xs (place + 1) inner e
no_end (Stop ∷ xs) place inner e = no_end xs (place + 1) inner e
no_end (Begin n ∷ xs) place inner e = no_end xs (place + 1) (suc inner) e
no_end (Close ∷ xs) place zero e = cc
no_end (Close ∷ xs) place (suc inner) e = no_end xs (place + 1) inner e

pub begin_no_end : (code : List Flow) (place iterations : ℕ) → slice_get code place ≡ Some (Begin iterations) → end_of code (place + 1) ≡ None → end_of code place ≡ None
begin_no_end code place iterations at e = ap (λ (xs : List Flow). end_from place 0 xs) (drop_at code place (Begin iterations) at) ∙ no_end (drop (place + 1) code) (place + 1) 0 e

pub begin_end : (code : List Flow) (place iterations end : ℕ) → slice_get code place ≡ Some (Begin iterations) → end_of code (place + 1) ≡ Some end → end_of code place ≡ end_of code (end + 1)
begin_end code place iterations end at e = ap (λ (xs : List Flow). end_from place 0 xs) (drop_at code place (Begin iterations) at) ∙ end_past code (drop (place + 1) code) (place + 1) 0 0 end refl e

-- no END lies past the code
pub end_past_code : (code : List Flow) → end_of code (length code) ≡ None
end_past_code code = ap (λ (xs : List Flow). end_from (length code) 0 xs) (drop-length code)

-- an instruction that is neither REPEAT nor END leaves the loops as they are
pub passes_end : (code : List Flow) (place : ℕ) (flow : Flow) → slice_get code place ≡ Some flow → ((flow ≡ Straight) ⊎ (((x : ℕ) × (flow ≡ Branch x)) ⊎ (((x : ℕ) × (flow ≡ Jump x)) ⊎ (flow ≡ Stop)))) → end_of code place ≡ end_of code (place + 1)
passes_end code place flow at (inl e) = straight_end code place (at ∙ ap Some e)
passes_end code place flow at (inr (inl e)) = branch_end code place e.0 (at ∙ ap Some e.1)
passes_end code place flow at (inr (inr (inl e))) = jump_end code place e.0 (at ∙ ap Some e.1)
passes_end code place flow at (inr (inr (inr e))) = stop_end code place (at ∙ ap Some e)

-- ---- depths

-- between a place and the END that ends what is begun before it, it is never less deep than there
depth_within : (code xs : List Flow) (place n inner outer end : ℕ) → xs ≡ drop place code → depth_of code place ≡ inner + outer → end_from place inner xs ≡ Some end → place + n ≤ end → outer ≤ depth_of code (place + n)
depth_within code xs place zero inner outer end e d f h = let here : place + 0 ≡ place = omega arith in omega (arith, d, ap (λ (k : ℕ). depth_of code k) here)
depth_within code [] place (suc n) inner outer end e d f h = cc
depth_within code (Straight ∷ xs) place (suc n) inner outer end e d f h =
    let on = slide code xs place Straight e in
    let far = depth_within code xs (place + 1) n inner outer end on.1 (depth_next code place Straight on.0 ∙ d) f (omega arith) in
    subst (λ (k : ℕ). outer ≤ depth_of code k) (omega arith) far
depth_within code (Branch s ∷ xs) place (suc n) inner outer end e d f h =
    let on = slide code xs place (Branch s) e in
    let far = depth_within code xs (place + 1) n inner outer end on.1 (depth_next code place (Branch s) on.0 ∙ d) f (omega arith) in
    subst (λ (k : ℕ). outer ≤ depth_of code k) (omega arith) far
depth_within code (Jump s ∷ xs) place (suc n) inner outer end e d f h =
    let on = slide code xs place (Jump s) e in
    let far = depth_within code xs (place + 1) n inner outer end on.1 (depth_next code place (Jump s) on.0 ∙ d) f (omega arith) in
    subst (λ (k : ℕ). outer ≤ depth_of code k) (omega arith) far
depth_within code (Stop ∷ xs) place (suc n) inner outer end e d f h =
    let on = slide code xs place Stop e in
    let far = depth_within code xs (place + 1) n inner outer end on.1 (depth_next code place Stop on.0 ∙ d) f (omega arith) in
    subst (λ (k : ℕ). outer ≤ depth_of code k) (omega arith) far
depth_within code (Begin t ∷ xs) place (suc n) inner outer end e d f h =
    let on = slide code xs place (Begin t) e in
    let deeper : depth_of code (place + 1) ≡ suc inner + outer = omega (arith, depth_next code place (Begin t) on.0) in
    let far = depth_within code xs (place + 1) n (suc inner) outer end on.1 deeper f (omega arith) in
    subst (λ (k : ℕ). outer ≤ depth_of code k) (omega arith) far
depth_within code (Close ∷ xs) place (suc n) zero outer end e d f h =
    let same : place ≡ end = same_Some place end f in
    absurd (omega arith)
depth_within code (Close ∷ xs) place (suc n) (suc inner) outer end e d f h =
    let on = slide code xs place Close e in
    let one : suc inner + outer ≡ suc (inner + outer) = omega arith in
    let less = depth_next code place Close on.0 ∙ ap (λ (k : ℕ). depth_after k (Close ∷ [])) (d ∙ one) in
    let far = depth_within code xs (place + 1) n inner outer end on.1 less f (omega arith) in
    subst (λ (k : ℕ). outer ≤ depth_of code k) (omega arith) far

-- ---- the loop of an END

-- no later loop has the same END
one_end : (code : List Flow) (a b s t end : ℕ) → a < b → slice_get code a ≡ Some (Begin s) → slice_get code b ≡ Some (Begin t) → end_of code (a + 1) ≡ Some end → end_of code (b + 1) ≡ Some end → ⊥
one_end code a b s t end before at there e f =
    let depth = depth_of code (a + 1) in
    let zero_more : depth ≡ 0 + depth = omega arith in
    let zero_later : depth_of code (b + 1) ≡ 0 + depth_of code (b + 1) = omega arith in
    let own = end_depth code (drop (a + 1) code) (a + 1) 0 depth end refl zero_more e in
    let other = end_depth code (drop (b + 1) code) (b + 1) 0 (depth_of code (b + 1)) end refl zero_later f in
    let deeper : depth_of code (b + 1) ≡ suc (depth_of code b) = depth_next code b (Begin t) there in
    let n : ℕ = b - (a + 1) in
    let reach : a + 1 + n ≡ b = omega arith in
    let ahead = (end_is code (drop (b + 1) code) (b + 1) 0 end refl f).1 in
    let within = depth_within code (drop (a + 1) code) (a + 1) n 0 depth end refl zero_more e (omega arith) in
    let far : depth ≤ depth_of code b = subst (λ (k : ℕ). depth ≤ depth_of code k) reach within in
    absurd (omega arith)

pub one_loop : (code : List Instr) (a b place : ℕ) → IsEndOf code a place → IsEndOf code b place → a ≡ b
one_loop code a b place (begin, iterations, first, at, end) (other, more, second, there, far) = by (cases_lt begin other) (cases_lt other begin)
  where
    own : end_of (flows code) (begin + 1) ≡ Some place
    own = ap (λ (n : ℕ). end_of (flows code) n) (sym first) ∙ end

    its : end_of (flows code) (other + 1) ≡ Some place
    its = ap (λ (n : ℕ). end_of (flows code) n) (sym second) ∙ far

    by : (begin < other) ⊎ (other ≤ begin) → (other < begin) ⊎ (begin ≤ other) → a ≡ b
    by (inl before) _ = absurd (one_end (flows code) begin other iterations more place before at there own its)
    by (inr _) (inl before) = absurd (one_end (flows code) other begin more iterations place before there at its own)
    by (inr low) (inr high) = omega arith

-- a loop has one END
end_same : (code : List Instr) (first a b : ℕ) → IsEndOf code first a → IsEndOf code first b → a ≡ b
end_same code first a b (begin, iterations, is, at, end) (other, more, was, there, far) = same_Some a b (sym end ∙ far)

-- it lies ahead, in the code
pub loop_within : (code : List Instr) (first place : ℕ) → IsEndOf code first place → (0 < first) × (first ≤ place) × (place < length code)
loop_within code first place (begin, iterations, is, at, end) =
    let e = end_within (flows code) first place end in
    (omega arith, e.1, omega (arith, e.2, length-map code flow_of))

-- ---- tables

-- the table of ENDs with one place more
pub ends_more : (code : List Flow) (ends : List (Option ℕ)) (place : ℕ) (end : Option ℕ) → place < length code + 1 → EndsFrom code ends (place + 1) → end ≡ end_of code place → EndsFrom code (set ends place end) place
ends_more code ends place end within known r = record {
  long = length-set ends place end ∙ known.long;
  each = set_from (λ k y. y ≡ end_of code k) ends place end (omega (arith, known.long)) known.each r;
}

-- the table of depths with one place more
pub depths_more : (code : List Flow) (depths : List ℕ) (place depth : ℕ) → DepthsTo code depths place → depth ≡ depth_of code place → DepthsTo code (depths ++ depth ∷ []) (place + 1)
depths_more code depths place depth known d = record {
  long = length-append depths (depth ∷ []) ∙ ap (λ (n : ℕ). n + 1) known.long;
  each = λ k within. cases k (cases_lt k place) within;
}
  where
    cases : (k : ℕ) → ((k < place) ⊎ (place ≤ k)) → k < place + 1 → slice_index (depths ++ depth ∷ []) k ≡ depth_of code k
    cases k (inl far) within = let inside : k < length depths = omega (arith, known.long) in get_or-append depths (depth ∷ []) 0 k inside ∙ known.each k far
    cases k (inr near) within =
        let here : k ≡ length depths = omega (arith, known.long) in
        let same : k ≡ place = omega arith in
        ap (λ (n : ℕ). get_or (depths ++ depth ∷ []) n 0) here ∙ get_or-append_seam depths depth [] 0 ∙ d ∙ ap (λ (n : ℕ). depth_of code n) (sym same)

-- the table of first places extended by one place, if a loop begins there
pub firsts_more : (code : List Instr) (firsts : List (Option ℕ)) (place end : ℕ) → AreFirsts code firsts place → IsEndOf code (place + 1) end → AreFirsts code (set firsts end (Some (place + 1))) (place + 1)
firsts_more code firsts place end known is = record {
  long = length-set firsts end (Some (place + 1)) ∙ known.long;
  found = λ k first at. found k first at (cases_eq k end);
  all = λ k first few own. all k first own (cases_eq k end) (cases_lt place first) few;
}
  where
    inside : end < length firsts
    inside = omega (arith, known.long, (loop_within code (place + 1) end is).2)

    cases_eq : (a b : ℕ) → (a ≡ b) ⊎ (a ≢ b)
    cases_eq a b = by (cases_lt a b) (cases_lt b a)
      where
        by : (a < b) ⊎ (b ≤ a) → (b < a) ⊎ (a ≤ b) → (a ≡ b) ⊎ (a ≢ b)
        by (inl less) _ = inr (λ e. absurd (omega arith))
        by (inr _) (inl more) = inr (λ e. absurd (omega arith))
        by (inr low) (inr high) = inl (omega arith)

    found : (k first : ℕ) → slice_get (set firsts end (Some (place + 1))) k ≡ Some (Some first) → (k ≡ end) ⊎ (k ≢ end) → IsEndOf code first k
    found k first at (inl here) =
        let there = ap (λ (n : ℕ). slice_get (set firsts end (Some (place + 1))) n) here ∙ get_set_at firsts end (Some (place + 1)) inside in
        let same : place + 1 ≡ first = same_Some (place + 1) first (same_Some (Some (place + 1)) (Some first) (sym there ∙ at)) in
        subst (λ (n : ℕ). IsEndOf code n k) same (subst (λ (n : ℕ). IsEndOf code (place + 1) n) (sym here) is)
    found k first at (inr other) = known.found k first (sym (get_set_other firsts end k (Some (place + 1)) other) ∙ at)

    all : (k first : ℕ) → IsEndOf code first k → (k ≡ end) ⊎ (k ≢ end) → (place < first) ⊎ (first ≤ place) → first ≤ place + 1 → slice_get (set firsts end (Some (place + 1))) k ≡ Some (Some first)
    all k first own (inl here) old few =
        let same : place + 1 ≡ first = one_loop code (place + 1) first end is (subst (λ (n : ℕ). IsEndOf code first n) here own) in
        ap (λ (n : ℕ). slice_get (set firsts end (Some (place + 1))) n) here ∙ get_set_at firsts end (Some (place + 1)) inside ∙ ap (λ (n : ℕ). Some (Some n)) same
    all k first own (inr other) (inr old) few = get_set_other firsts end k (Some (place + 1)) other ∙ known.all k first old own
    all k first own (inr other) (inl new) few =
        let same : first ≡ place + 1 = omega arith in
        absurd (other (end_same code (place + 1) k end (subst (λ (n : ℕ). IsEndOf code n k) same own) is))

-- the same table, if none begins there
pub firsts_same : (code : List Instr) (firsts : List (Option ℕ)) (place : ℕ) → AreFirsts code firsts place → ((end : ℕ) → IsEndOf code (place + 1) end → ⊥) → AreFirsts code firsts (place + 1)
firsts_same code firsts place known none = record {
  long = known.long;
  found = known.found;
  all = λ k first few own. all k first own few (cases_lt place first);
}
  where
    all : (k first : ℕ) → IsEndOf code first k → first ≤ place + 1 → (place < first) ⊎ (first ≤ place) → slice_get firsts k ≡ Some (Some first)
    all k first own few (inr old) = known.all k first old own
    all k first own few (inl new) = let same : first ≡ place + 1 = omega arith in absurd (none k (subst (λ (n : ℕ). IsEndOf code n k) same own))
