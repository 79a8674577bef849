-- Reading a trace, line by line.
use Rattle.tw_report.proofs.Names.{AllByRecursion, Bool, EncodesEvent, Err, Event, IsFirstLine, IsReadTo, List, None, Ok, Option, Result, Some, Takes, [], ap, append-nil, append_assoc, arith, codes, drop, eqb-true, false, get_or, inl, inr, length, length-append, length-drop, onto, onto_first, refl, slice_split-cons_no, subst, suc, sym, take, take-append-drop, take_all, take_more, true, ℕ, ◌++◌, ◌+◌, ◌-◌, ◌<◌, ◌==◌, ◌∙◌, ◌∷◌, ◌≡◌, ◌≤◌, ◌⊎◌}
use Rattle.tw_report.specs.History.{HasNoLineFeed, IsBlank, IsNoHistory, IsWord, IsTraceOf, after_blank, after_event, lines_in, text_of}
use Rattle.tw_report.specs.declared.history.HistoryFault.{HistoryFault}
use Rattle.tw_report.specs.declared.history.HistoryFault.TheVariants.{UnknownLine, NoMemory}

-- ---- the first line

first_piece : (line rest : List ℕ) → HasNoLineFeed line → lines_in (line ++ 10 ∷ rest) ≡ line ∷ lines_in rest
first_piece [] rest none = refl
first_piece (b ∷ line) rest none = slice_split-cons_no (λ c. c == 10) b (line ++ 10 ∷ rest) none.0 ∙ ap (onto_first b) (first_piece line rest none.1)

last_piece : (line : List ℕ) → HasNoLineFeed line → lines_in line ≡ line ∷ []
last_piece [] none = refl
last_piece (b ∷ line) none = slice_split-cons_no (λ c. c == 10) b line none.0 ∙ ap (onto_first b) (last_piece line none.1)

pub feed_found : (text front back : List ℕ) (i : ℕ) → i < length text → (get_or text i 0 == 10) ≡ true → HasNoLineFeed (take i text) → front ≡ take i text → back ≡ drop (i + 1) text → IsFirstLine text front (Some back)
feed_found text front back i inside is none f b =
    let parts : text ≡ front ++ 10 ∷ back =
    sym (take-append-drop (i + 1) text) ∙ ap (λ (t : List ℕ). t ++ drop (i + 1) text) (take_more text i 0 inside) ∙ append_assoc (take i text) (get_or text i 0 ∷ []) (drop (i + 1) text)
    ∙ ap (λ (c : ℕ). take i text ++ c ∷ drop (i + 1) text) (eqb-true (get_or text i 0) 10 is) ∙ ap (λ (t : List ℕ). take i text ++ 10 ∷ t) (sym b) ∙ ap (λ (t : List ℕ). t ++ 10 ∷ back) (sym f) in
    let clean : HasNoLineFeed front = subst HasNoLineFeed (sym f) none in
    (clean, (ap lines_in parts ∙ first_piece front back clean, parts))

-- as the code cuts it
pub feed_cut : (text : List ℕ) (i count : ℕ) → count ≡ i → i < length text → get_or text i 0 ≡ 10 → HasNoLineFeed (take i text) → IsFirstLine text (take count text) (Some (take (length text - (count + 1)) (drop (count + 1) text)))
feed_cut text i count same inside is none =
    let left : length (drop (count + 1) text) ≤ length text - (count + 1) = omega (arith, length-drop (count + 1) text) in
    let found : (get_or text i 0 == 10) ≡ true = rw is refl in
    feed_found text (take count text) (take (length text - (count + 1)) (drop (count + 1) text)) i inside found none (ap (λ (n : ℕ). take n text) same)
    (take_all (length text - (count + 1)) (drop (count + 1) text) left ∙ ap (λ (n : ℕ). drop (n + 1) text) same)

pub no_feed : (text : List ℕ) (i : ℕ) → length text ≤ i → HasNoLineFeed (take i text) → IsFirstLine text text None
no_feed text i all none = let clean : HasNoLineFeed text = subst HasNoLineFeed (take_all i text all) none in (clean, (last_piece text clean, refl))

pub shorter : (text line rest : List ℕ) → IsFirstLine text line (Some rest) → length rest < length text
shorter text line rest first = let all : length text ≡ length line + suc (length rest) = ap length first.1.1 ∙ length-append line (10 ∷ rest) in omega (arith, all)

-- ---- events

abbrev AddsLine : List Event → List ℕ → List Event → Type 0
AddsLine events line after = (IsBlank line × (after ≡ events)) ⊎ ((event : Event) × EncodesEvent event line × (after ≡ events ++ event ∷ []))

-- with one line more before them
pub more_traced : (events after : List Event) (count : ℕ) (line : List ℕ) (others : List (List ℕ)) (r : Result (List Event) ℕ) → AddsLine events line after → IsTraceOf others r → (q : Result (List Event) ℕ) × IsTraceOf (line ∷ others) q × (onto events count q ≡ onto after (count + 1) r)
more_traced events after count line others r (inl (blank, same)) t = (after_blank r, inl (blank, (r, t, refl)), by r)
  where
    by : (r : Result (List Event) ℕ) → onto events count (after_blank r) ≡ onto after (count + 1) r
    by (Ok es) = ap (λ (xs : List Event). Ok (xs ++ es)) (sym same)
    by (Err n) = let e : count + suc n ≡ (count + 1) + n = omega arith in ap Err e
more_traced events after count line others r (inr (event, spells, same)) t = (after_event event r, inr (inr (inl (event, spells, (r, t, refl)))), by r)
  where
    by : (r : Result (List Event) ℕ) → onto events count (after_event event r) ≡ onto after (count + 1) r
    by (Ok es) = ap Ok (sym (append_assoc events (event ∷ []) es)) ∙ ap (λ (xs : List Event). Ok (xs ++ es)) (sym same)
    by (Err n) = let e : count + suc n ≡ (count + 1) + n = omega arith in ap Err e

pub read_more : (text rest line others : List ℕ) (events after : List Event) (count : ℕ) → IsReadTo text events count rest → IsFirstLine rest line (Some others) → Takes events line (count + 1) (Ok true) after → IsReadTo text after (count + 1) others
read_more text rest line others events after count read first takes = λ r t.
    let more = more_traced events after count line (lines_in others) r takes t in
    subst (IsTraceOf (lines_in text)) more.2 (read more.0 (subst (λ ls. IsTraceOf ls more.0) (sym first.1.0) more.1))

pub read_last : (text rest line : List ℕ) (events after : List Event) (count : ℕ) → IsReadTo text events count rest → IsFirstLine rest line None → Takes events line (count + 1) (Ok true) after → IsTraceOf (lines_in text) (Ok after)
read_last text rest line events after count read first takes =
    let more = more_traced events after count line [] (Ok []) takes refl in
    subst (IsTraceOf (lines_in text)) (more.2 ∙ ap Ok (append-nil after)) (read more.0 (subst (λ ls. IsTraceOf ls more.0) (sym first.1.0) more.1))

-- the first line, with any text after it
line_of : (rest line : List ℕ) (after : Option (List ℕ)) → IsFirstLine rest line after → (others : List (List ℕ)) × (lines_in rest ≡ line ∷ others)
line_of rest line None first = ([], first.1.0)
line_of rest line (Some others) first = (lines_in others, first.1.0)

pub read_end : (text rest line : List ℕ) (follows : Option (List ℕ)) (events after : List Event) (count : ℕ) → IsReadTo text events count rest → IsFirstLine rest line follows → Takes events line (count + 1) (Ok false) after → IsTraceOf (lines_in text) (Ok after)
read_end text rest line follows events after count read first takes =
    let l = line_of rest line follows first in
    subst (IsTraceOf (lines_in text)) (ap Ok (append-nil events ∙ sym takes.1)) (read (Ok []) (subst (λ ls. IsTraceOf ls (Ok [])) (sym l.1) (inr (inl (takes.0, refl)))))

pub read_unknown : (text rest line : List ℕ) (follows : Option (List ℕ)) (events after : List Event) (count at : ℕ) → IsReadTo text events count rest → IsFirstLine rest line follows → Takes events line (count + 1) (Err (UnknownLine at)) after → IsTraceOf (lines_in text) (Err at)
read_unknown text rest line follows events after count at read first takes =
    let l = line_of rest line follows first in
    subst (IsTraceOf (lines_in text)) (ap Err (sym takes.1)) (read (Err 1) (subst (λ ls. IsTraceOf ls (Err 1)) (sym l.1) (inr (inr (inr (takes.0, refl))))))

pub read_fault : (text rest line : List ℕ) (follows : Option (List ℕ)) (events after : List Event) (count : ℕ) (fault : HistoryFault) → IsReadTo text events count rest → IsFirstLine rest line follows → Takes events line (count + 1) (Err fault) after → IsNoHistory (lines_in text) fault
read_fault text rest line follows events after count (UnknownLine at) read first takes = read_unknown text rest line follows events after count at read first takes
read_fault text rest line follows events after count NoMemory read first takes = tt

pub read_ended : (text rest line : List ℕ) (follows : Option (List ℕ)) (events after : List Event) (count : ℕ) (goes : Bool) → goes ≡ false → IsReadTo text events count rest → IsFirstLine rest line follows → Takes events line (count + 1) (Ok goes) after → IsTraceOf (lines_in text) (Ok after)
read_ended text rest line follows events after count goes is read first takes = read_end text rest line follows events after count read first (subst (λ (b : Bool). Takes events line (count + 1) (Ok b) after) is takes)

pub went : (events after : List Event) (line : List ℕ) (number : ℕ) (goes : Bool) → goes ≡ true → Takes events line number (Ok goes) after → Takes events line number (Ok true) after
went events after line number goes is takes = subst (λ (b : Bool). Takes events line number (Ok b) after) is takes

pub never : false ≡ true → ⊥
never e = cc

-- ---- the line `events`

-- this many bytes are before the rest, in lines of which none is `events`
pub record CutTo (text : List ℕ) (count : ℕ) (rest : List ℕ) : Type 0 where
  pub lines : List (List ℕ)
  pub whole : AllByRecursion HasNoLineFeed lines
  pub first : AllByRecursion (λ l. IsWord (codes "events") l → ⊥) lines
  pub parts : text ≡ text_of lines ++ rest
  pub count_is : count ≡ length (text_of lines)
  pub split : lines_in text ≡ lines ++ lines_in rest

text_more : (lines : List (List ℕ)) (line : List ℕ) → text_of (lines ++ line ∷ []) ≡ text_of lines ++ (line ++ 10 ∷ [])
text_more [] line = append-nil (line ++ 10 ∷ [])
text_more (l ∷ lines) line = ap (λ (t : List ℕ). (l ++ 10 ∷ []) ++ t) (text_more lines line) ∙ sym (append_assoc (l ++ 10 ∷ []) (text_of lines) (line ++ 10 ∷ []))

all_more : (P : List ℕ → Type 0) (lines : List (List ℕ)) (line : List ℕ) → AllByRecursion P lines → P line → AllByRecursion P (lines ++ line ∷ [])
all_more P [] line all one = (one, tt)
all_more P (l ∷ lines) line all one = (all.0, all_more P lines line all.1 one)

pub cut_more : (text rest line others : List ℕ) (count : ℕ) → CutTo text count rest → IsFirstLine rest line (Some others) → (IsWord (codes "events") line → ⊥) → CutTo text (count + (length line + 1)) others
cut_more text rest line others count cut first not = record {
  lines = cut.lines ++ line ∷ [];
  whole = all_more HasNoLineFeed cut.lines line cut.whole first.0;
  first = all_more (λ l. IsWord (codes "events") l → ⊥) cut.lines line cut.first not;
  parts =
      cut.parts ∙ ap (λ (t : List ℕ). text_of cut.lines ++ t) (first.1.1 ∙ sym (append_assoc line (10 ∷ []) others)) ∙ sym (append_assoc (text_of cut.lines) (line ++ 10 ∷ []) others)
      ∙ ap (λ (t : List ℕ). t ++ others) (sym (text_more cut.lines line));
  count_is =
      let all : length (text_of (cut.lines ++ line ∷ [])) ≡ length (text_of cut.lines) + length (line ++ 10 ∷ []) = ap length (text_more cut.lines line) ∙ length-append (text_of cut.lines) (line ++ 10 ∷ []) in
      let one : length (line ++ 10 ∷ []) ≡ length line + 1 = length-append line (10 ∷ []) in
      omega (arith, all, one, cut.count_is);
  split = cut.split ∙ ap (λ (ls : List (List ℕ)). cut.lines ++ ls) first.1.0 ∙ sym (append_assoc cut.lines (line ∷ []) (lines_in others));
}
