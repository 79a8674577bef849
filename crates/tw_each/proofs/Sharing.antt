-- Chunks of lines, and what threads answer to them.
use Rattle.tw_each.proofs.Names.{Answers, AreAnswers, AreMerged, Bor, Err, List, Ok, Result, Way, WorstEnd, [], ap, append-nil, append_assoc, arith, drop, inl, inr, length, length-map, length-take-le, map, map-append, refl, subst, suc, sym, take, take-append-drop, worse, zero, ℕ, ◌++◌, ◌+◌, ◌<◌, ◌∙◌, ◌∷◌, ◌≡◌, ◌≤◌}
use Prim.Native.Nat.{◌%◌, ◌*◌, ◌/◌, min}
use Rattle.std.specs.Fork.{slice_chunk}
use Rattle.std.specs.Prelude.{IfOk, slice_index_or}
use Rattle.std.specs.declared.alloc.AllocError.{AllocError}
use Rattle.std.proofs.Math.ListN.{drop_of_length-le}
use Rattle.std.proofs.Math.Nat.{add-mul, mul_comm, mul-le-mul_right, one-mul, zero-mul}
use Rattle.std.proofs.lemmas.Bool.{cases_lt}
use Rattle.std.proofs.lemmas.Grind.{div_ceil_times}
use Rattle.std.proofs.lemmas.List.{drop-drop}
use Rattle.tw_each.specs.Shares.{AreChunks}
use Rattle.tw_each.specs.declared.worst.WorstEnd.TheVariants as ends
use Rattle.tw_each.proofs.Worse.{worse_assoc, worse_quiet}
use Rattle.tw_each.proofs.LineAnswers.{answers_joined}

spans : (count items size : ℕ) → 0 < size → count ≡ items / size + min 1 (items % size) → (items ≤ count * size) × (count * size < items + size)
spans count items size some is = subst (λ (n : ℕ). (items ≤ n * size) × (n * size < items + size)) (sym is) (div_ceil_times items size some)

-- there are at most as many chunks as threads, if each has as many items as they have to take
pub few_chunks : (count items size parts threads : ℕ) → 0 < threads → parts ≡ items / threads + min 1 (items % threads) → parts ≤ size → AreChunks size items count → count ≤ threads
few_chunks count items size parts threads some whole most (positive, is) = elim (cases_lt threads count) [
  | inr few ↦ few
  | inl many ↦
      let next : threads + 1 ≤ count = omega (arith, many) in
      let all = (spans parts items threads some whole).0 in
      let cut = (spans count items size positive is).1 in
      absurd (omega (arith, all, cut, mul-le-mul_right threads most, mul-le-mul_right size next, add-mul threads 1 size, one-mul size, mul_comm size threads))
]

module _ (w : Way) (before size : ℕ) (lines : List (Bor (List ℕ))) where
  abbrev texts : List (Bor (List ℕ)) → List (List ℕ)
  texts some = map (λ (line : Bor (List ℕ)). line.now) some

  -- without lines it doesn't matter how many are before them
  none_after : (one other : ℕ) (rest : List (Bor (List ℕ))) (text : List ℕ) (worst : WorstEnd) → rest ≡ [] → AreAnswers w one (texts rest) text worst → AreAnswers w other (texts rest) text worst
  none_after one other rest text worst none are =
      subst (λ (ls : List (Bor (List ℕ))). AreAnswers w other (texts ls) text worst) (sym none) (subst (λ (ls : List (Bor (List ℕ))). AreAnswers w one (texts ls) text worst) none are)

  -- the lines after the first chunk of some
  after_chunk : (at next : ℕ) (rest : List (Bor (List ℕ))) (text : List ℕ) (worst : WorstEnd) → next ≡ at + size → AreAnswers w next (texts (drop size rest)) text worst → AreAnswers w (at + length (texts (take size rest))) (texts (drop size rest)) text worst
  after_chunk at next rest text worst is are = elim (cases_lt (length rest) size) [
    | inl short ↦ none_after next _ (drop size rest) text worst (drop_of_length-le rest (omega (arith, short))) are
    | inr full ↦
        let long : length (texts (take size rest)) ≡ size = length-map (take size rest) (λ (line : Bor (List ℕ)). line.now) ∙ length-take-le size rest full in
        subst (λ (n : ℕ). AreAnswers w n (texts (drop size rest)) text worst) (omega (arith, is, long)) are
  ]

  -- the answers to the chunks from one on are those to the lines from its first one on
  chunks_from : (n : ℕ) (results : List (Result Answers AllocError)) (text : List ℕ) (worst : WorstEnd) → length lines ≤ (n + length results) * size
      → ((i : ℕ) (r : Result Answers AllocError) → i < length results → slice_index_or results i r ≡ r → IfOk r (λ a. AreAnswers w (before + (n + i) * size) (texts (slice_chunk lines size (n + i))) a.text.items a.worst))
      → AreMerged results text worst → AreAnswers w (before + n * size) (texts (drop (n * size) lines)) text worst
  chunks_from n [] text worst within each merged =
      let last : n + 0 ≡ n = omega arith in
      let all : length lines ≤ n * size = subst (λ (k : ℕ). length lines ≤ k * size) last within in
      none_after 0 (before + n * size) (drop (n * size) lines) text worst (drop_of_length-le lines all) (subst (λ (ls : List (Bor (List ℕ))). AreAnswers w 0 (texts ls) text worst) (sym (drop_of_length-le lines all)) merged)
  chunks_from n (Err why ∷ results) text worst within each merged = absurd merged
  chunks_from n (Ok answers ∷ results) text worst within each (more, any, are, text_is, worst_is) =
      let rest = drop (n * size) lines in
      let told = λ (k : ℕ) (r : Result Answers AllocError). IfOk r (λ a. AreAnswers w (before + k * size) (texts (slice_chunk lines size k)) a.text.items a.worst) in
      let first : n + 0 ≡ n = omega arith in
      let here = subst (λ (k : ℕ). told k (Ok answers)) first (each 0 (Ok answers) (omega arith) refl) in
      let count : n + suc (length results) ≡ n + 1 + length results = omega arith in
      let later = chunks_from (n + 1) results more any (subst (λ (k : ℕ). length lines ≤ k * size) count within) (λ i r lt is. let next : n + suc i ≡ n + 1 + i = omega arith in subst (λ (k : ℕ). told k r) next (each (suc i) r (omega (arith, lt)) is)) are in
      let step : (n + 1) * size ≡ n * size + size = add-mul n 1 size ∙ ap (λ k. n * size + k) (one-mul size) in
      let cut : drop ((n + 1) * size) lines ≡ drop size rest = ap (λ k. drop k lines) step ∙ sym (drop-drop size (n * size) lines) in
      let others = subst (λ (ls : List (Bor (List ℕ))). AreAnswers w (before + (n + 1) * size) (texts ls) more any) cut later in
      let after = after_chunk (before + n * size) (before + (n + 1) * size) rest more any (omega (arith, step)) others in
      let joined = answers_joined w (before + n * size) (texts (take size rest)) (texts (drop size rest)) answers.text.items more answers.worst any here after in
      let split : texts (take size rest) ++ texts (drop size rest) ≡ texts rest = sym (ap texts (sym (take-append-drop size rest)) ∙ map-append (λ (line : Bor (List ℕ)). line.now) (take size rest) (drop size rest)) in
      subst (λ (b : WorstEnd). AreAnswers w (before + n * size) (texts rest) text b) (sym worst_is)
      (subst (λ (t : List ℕ). AreAnswers w (before + n * size) (texts rest) t (worse answers.worst any)) (sym text_is)
      (subst (λ (ls : List (List ℕ)). AreAnswers w (before + n * size) ls (answers.text.items ++ more) (worse answers.worst any)) split joined))

  -- the answers to all chunks are those to all lines
  pub chunks_answered : (results : List (Result Answers AllocError)) (text : List ℕ) (worst : WorstEnd) → AreChunks size (length lines) (length results)
      → ((i : ℕ) (r : Result Answers AllocError) → i < length results → slice_index_or results i r ≡ r → IfOk r (λ a. AreAnswers w (before + i * size) (texts (slice_chunk lines size i)) a.text.items a.worst))
      → AreMerged results text worst → AreAnswers w before (texts lines) text worst
  chunks_answered results text worst (positive, is) each merged =
      let told = λ (k : ℕ) (r : Result Answers AllocError). IfOk r (λ a. AreAnswers w (before + k * size) (texts (slice_chunk lines size k)) a.text.items a.worst) in
      let count : length results ≡ 0 + length results = omega arith in
      let within = subst (λ (k : ℕ). length lines ≤ k * size) count (spans (length results) (length lines) size positive is).0 in
      let all = chunks_from 0 results text worst within (λ i r lt same. let here : i ≡ 0 + i = omega arith in subst (λ (k : ℕ). told k r) here (each i r lt same)) merged in
      let first : before + 0 ≡ before = omega arith in
      subst (λ (at : ℕ). AreAnswers w at (texts lines) text worst) first (subst (λ (n : ℕ). AreAnswers w (before + n) (texts (drop n lines)) text worst) (zero-mul size) all)

-- the answers of one chunk more
pub merged_more : (results : List (Result Answers AllocError)) (answers : Answers) (text : List ℕ) (worst : WorstEnd) → AreMerged results text worst → AreMerged (results ++ Ok answers ∷ []) (text ++ answers.text.items) (worse worst answers.worst)
merged_more [] answers text worst (none, well) =
    ([], ends.Quiet, (refl, refl), ap (λ (t : List ℕ). t ++ answers.text.items) none ∙ sym (append-nil answers.text.items), ap (λ (r : WorstEnd). worse r answers.worst) well ∙ sym (worse_quiet answers.worst))
merged_more (Err why ∷ results) answers text worst merged = absurd merged
merged_more (Ok first ∷ results) answers text worst (rest, others, are, text_is, worst_is) = (
  rest ++ answers.text.items,
  worse others answers.worst,
  merged_more results answers rest others are,
  ap (λ (t : List ℕ). t ++ answers.text.items) text_is ∙ append_assoc first.text.items rest answers.text.items,
  ap (λ (r : WorstEnd). worse r answers.worst) worst_is ∙ sym (worse_assoc first.worst others answers.worst),
)

pub one_merged_more : (results : List (Result Answers AllocError)) (r : Result Answers AllocError) (answers : Answers) (text new : List ℕ) (worst any : WorstEnd) → AreMerged results text worst → r ≡ Ok answers → new ≡ text ++ answers.text.items
    → any ≡ (worse worst answers.worst) → AreMerged (results ++ r ∷ []) new any
one_merged_more results r answers text new worst any h is text_is any_is =
    let more = merged_more results answers text worst h in
    subst (λ (x : Result Answers AllocError). AreMerged (results ++ x ∷ []) new any) (sym is)
    (subst (λ (t : List ℕ). AreMerged (results ++ Ok answers ∷ []) t any) (sym text_is) (subst (λ (b : WorstEnd). AreMerged (results ++ Ok answers ∷ []) (text ++ answers.text.items) b) (sym any_is) more))
