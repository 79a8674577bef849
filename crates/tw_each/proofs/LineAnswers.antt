-- The answers to lines, one more after the others.
use Rattle.tw_each.proofs.Names.{AreAnswers, Bor, IsAnswer, IsFullLine, IsJsonLine, IsLine, IsShortLine, IsUtf8, List, Way, WorstEnd, [], ap, append-nil, append_assoc, arith, false, get_or, inl, inr, is_blank, labelled, length, length-map, length-take-le, line_id, map, map-append, most_bytes, nat_lt, numbered, refl, subst, sym, take, take_more, true, worse, ℕ, ◌++◌, ◌+◌, ◌<◌, ◌∙◌, ◌∷◌, ◌≡◌}
use Rattle.tw_each.specs.declared.worst.WorstEnd.TheVariants as ends
use Rattle.tw_each.proofs.Worse.{worse_assoc, worse_quiet}

-- ---- one line

pub blank_line : (w : Way) (n : ℕ) (text : List ℕ) → is_blank text ≡ true → IsShortLine w n text [] ends.Quiet
blank_line w n text blank = rw blank (refl, refl)

full_line : (w : Way) (n : ℕ) (text answer : List ℕ) (worst : WorstEnd) → is_blank text ≡ false → IsFullLine w n text answer worst → IsShortLine w n text answer worst
full_line w n text answer worst blank h = rw blank h

pub text_line : (w : Way) (n : ℕ) (line text old new : List ℕ) (worst : WorstEnd) → is_blank line ≡ false → text ≡ line → IsUtf8 line
    → (answer : List ℕ) × IsAnswer w text answer worst × (new ≡ old ++ labelled n (line_id text) answer) → (answer : List ℕ) × IsShortLine w n line answer worst × (new ≡ old ++ answer)
text_line w n line text old new worst blank same utf8 (answer, h, is) =
    let made = labelled n (line_id line) answer in
    let read = subst (λ (t : List ℕ). IsAnswer w t answer worst) same h in
    (made, full_line w n line made worst blank (inl (utf8, (answer, read, refl))), subst (λ (t : List ℕ). new ≡ old ++ labelled n (line_id t) answer) same is)

pub other_line : (w : Way) (n : ℕ) (line old new : List ℕ) (worst : WorstEnd) → is_blank line ≡ false → (IsUtf8 line → ⊥)
    → (worst ≡ ends.Refused) × ((l : List ℕ) × IsJsonLine l × (new ≡ old ++ numbered n l)) → (answer : List ℕ) × IsShortLine w n line answer worst × (new ≡ old ++ answer)
other_line w n line old new worst blank other (is_refused, (l, json, is)) = (numbered n l, full_line w n line _ worst blank (inr (other, (l, json, refl), is_refused)), is)

pub long_line : (w : Way) (n : ℕ) (line old new : List ℕ) (worst : WorstEnd) → nat_lt most_bytes (length line) ≡ true
    → (worst ≡ ends.Refused) × ((l : List ℕ) × IsJsonLine l × (new ≡ old ++ numbered n l)) → (answer : List ℕ) × IsLine w n line answer worst × (new ≡ old ++ answer)
long_line w n line old new worst long (is_refused, (l, json, is)) = (numbered n l, rw long ((l, json, refl), is_refused), is)

-- ---- one more

answers_more : (w : Way) (before : ℕ) (lines : List (List ℕ)) (text : List ℕ) (worst : WorstEnd) (line answer : List ℕ) (bad : WorstEnd) → AreAnswers w before lines text worst → IsLine w (before + length lines + 1) line answer bad
    → AreAnswers w before (lines ++ line ∷ []) (text ++ answer) (worse worst bad)
answers_more w before [] text worst line answer bad (none, well) h =
    (answer, [], bad, ends.Quiet, subst (λ (n : ℕ). IsLine w n line answer bad) (omega arith) h, (refl, refl), ap (λ (t : List ℕ). t ++ answer) none ∙ sym (append-nil answer), ap (λ (r : WorstEnd). worse r bad) well ∙ sym (worse_quiet bad))
answers_more w before (l ∷ lines) text worst line answer bad (first, rest, one, others, is, are, text_is, worst_is) h =
    let more = answers_more w (before + 1) lines rest others line answer bad are (subst (λ (n : ℕ). IsLine w n line answer bad) (omega arith) h) in
    (first, rest ++ answer, one, worse others bad, is, more, ap (λ (t : List ℕ). t ++ answer) text_is ∙ append_assoc first rest answer, ap (λ (r : WorstEnd). worse r bad) worst_is ∙ sym (worse_assoc one others bad))

pub line_at : (lines : List (Bor (List ℕ))) (i : ℕ) (d : Bor (List ℕ)) → i < length lines → map (λ l. l.now) (take (i + 1) lines) ≡ map (λ l. l.now) (take i lines) ++ (get_or lines i d).now ∷ []
line_at lines i d lt = ap (map (λ l. l.now)) (take_more lines i d lt) ∙ map-append (λ l. l.now) (take i lines) (get_or lines i d ∷ [])

pub one_line_more : (w : Way) (before i : ℕ) (lines : List (Bor (List ℕ))) (d : Bor (List ℕ)) (text new answer : List ℕ) (worst bad all : WorstEnd) → all ≡ worse worst bad → i < length lines → AreAnswers w before (map (λ l. l.now) (take i lines)) text worst
    → IsLine w (before + i + 1) (get_or lines i d).now answer bad → new ≡ text ++ answer → AreAnswers w before (map (λ l. l.now) (take (i + 1) lines)) new all
one_line_more w before i lines d text new answer worst bad all all_is lt are is same =
    let count : length (map (λ (l : Bor (List ℕ)). l.now) (take i lines)) ≡ i = length-map (take i lines) (λ (l : Bor (List ℕ)). l.now) ∙ length-take-le i lines (omega (arith, lt)) in
    let here = subst (λ (n : ℕ). IsLine w (before + n + 1) (get_or lines i d).now answer bad) (sym count) is in
    let more = answers_more w before (map (λ (l : Bor (List ℕ)). l.now) (take i lines)) text worst (get_or lines i d).now answer bad are here in
    let with_line = subst (λ (ls : List (List ℕ)). AreAnswers w before ls (text ++ answer) (worse worst bad)) (sym (line_at lines i d lt)) more in
    subst (λ (t : List ℕ). AreAnswers w before (map (λ (l : Bor (List ℕ)). l.now) (take (i + 1) lines)) t all) (sym same)
    (subst (λ (b : WorstEnd). AreAnswers w before (map (λ (l : Bor (List ℕ)). l.now) (take (i + 1) lines)) (text ++ answer) b) (sym all_is) with_line)

-- ---- other lines after these

pub answers_joined : (w : Way) (before : ℕ) (front back : List (List ℕ)) (text more : List ℕ) (worst bad : WorstEnd) → AreAnswers w before front text worst → AreAnswers w (before + length front) back more bad
    → AreAnswers w before (front ++ back) (text ++ more) (worse worst bad)
answers_joined w before [] back text more worst bad (none, well) h =
    subst (λ (t : List ℕ). AreAnswers w before back (t ++ more) (worse worst bad)) (sym none) (subst (λ (r : WorstEnd). AreAnswers w before back more (worse r bad)) (sym well) (subst (λ (n : ℕ). AreAnswers w n back more bad) (omega arith) h))
answers_joined w before (l ∷ front) back text more worst bad (first, rest, one, others, is, are, text_is, worst_is) h =
    let joined = answers_joined w (before + 1) front back rest more others bad are (subst (λ (n : ℕ). AreAnswers w n back more bad) (omega arith) h) in
    (first, rest ++ more, one, worse others bad, is, joined, ap (λ (t : List ℕ). t ++ more) text_is ∙ append_assoc first rest more, ap (λ (r : WorstEnd). worse r bad) worst_is ∙ sym (worse_assoc one others bad))
