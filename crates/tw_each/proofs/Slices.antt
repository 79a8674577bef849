-- Some of the lines that are answered, after others.
use Rattle.tw_each.proofs.Names.{AreWritten, Bor, List, Option, Stops, StreamError, Way, WorstEnd, ap, drop, length, length-map, length-take-le, map, map-append, subst, sym, take, take-add, take-append-drop, worse, ℕ, ◌++◌, ◌+◌, ◌∙◌, ◌≡◌, ◌≤◌}
use Rattle.tw_each.proofs.Worse.{worse_assoc}
use Rattle.tw_each.proofs.Written.{stops_on, stops_within, written_on}

abbrev texts : List (Bor (List ℕ)) → List (List ℕ)
texts lines = map (λ (line : Bor (List ℕ)). line.now) lines

front_length : (lines : List (Bor (List ℕ))) (done : ℕ) → done ≤ length lines → length (texts (take done lines)) ≡ done
front_length lines done within = length-map (take done lines) (λ (line : Bor (List ℕ)). line.now) ∙ length-take-le done lines within

front_more : (lines : List (Bor (List ℕ))) (done count : ℕ) → texts (take (done + count) lines) ≡ texts (take done lines) ++ texts (take count (drop done lines))
front_more lines done count = ap texts (take-add done count lines) ∙ map-append (λ (line : Bor (List ℕ)). line.now) (take done lines) (take count (drop done lines))

front_and_rest : (lines : List (Bor (List ℕ))) (done : ℕ) → texts lines ≡ texts (take done lines) ++ texts (drop done lines)
front_and_rest lines done = ap texts (sym (take-append-drop done lines)) ∙ map-append (λ (line : Bor (List ℕ)). line.now) (take done lines) (drop done lines)

-- the answers to so many lines are written
abbrev pub AreDone : Way → ℕ → WorstEnd → List (Bor (List ℕ)) → ℕ → WorstEnd → Option (List ℕ) → Option (List ℕ) → Type 0
AreDone w before earlier lines done worst old new = (bad : WorstEnd) × (worst ≡ (worse earlier bad)) × AreWritten w before (texts (take done lines)) old new bad

pub more_done : (w : Way) (before : ℕ) (earlier : WorstEnd) (lines others some : List (Bor (List ℕ))) (done count : ℕ) (worst bad all : WorstEnd) (old mid new : Option (List ℕ)) → all ≡ worse worst bad → done ≤ length lines → others ≡ drop done lines → some ≡ take count others
    → AreDone w before earlier lines done worst old mid → AreWritten w (before + done) (texts some) mid new bad → AreDone w before earlier lines (done + count) all old new
more_done w before earlier lines others some done count worst bad all old mid new all_is within rest part (known, is, written) also =
    let same : texts some ≡ texts (take count (drop done lines)) = ap texts (part ∙ ap (take count) rest) in
    let here = subst (λ (n : ℕ). AreWritten w (before + n) (texts some) mid new bad) (sym (front_length lines done within)) also in
    let whole = written_on w before (texts (take done lines)) (texts some) old mid new known bad written here in (
      worse known bad,
      all_is ∙ ap (λ (b : WorstEnd). worse b bad) is ∙ sym (worse_assoc earlier known bad),
      subst (λ (ls : List (List ℕ)). AreWritten w before ls old new (worse known bad)) (ap (λ (ls : List (List ℕ)). texts (take done lines) ++ ls) same ∙ sym (front_more lines done count)) whole,
    )

pub more_stops : (w : Way) (before : ℕ) (earlier : WorstEnd) (lines others some : List (Bor (List ℕ))) (done count : ℕ) (worst : WorstEnd) (why : StreamError) (old mid new : Option (List ℕ)) → done ≤ length lines → others ≡ drop done lines → some ≡ take count others
    → AreDone w before earlier lines done worst old mid → Stops w (before + done) (texts some) mid new why → Stops w before (texts lines) old new why
more_stops w before earlier lines others some done count worst why old mid new within rest part (known, is, written) also =
    let same : texts some ≡ texts (take count (drop done lines)) = ap texts (part ∙ ap (take count) rest) in
    let here = subst (λ (n : ℕ). Stops w (before + n) (texts some) mid new why) (sym (front_length lines done within)) also in
    let all = stops_on w before (texts (take done lines)) (texts some) old mid new known why written here in
    let front = subst (λ (ls : List (List ℕ)). Stops w before ls old new why) (ap (λ (ls : List (List ℕ)). texts (take done lines) ++ ls) same ∙ sym (front_more lines done count)) all in
    subst (λ (ls : List (List ℕ)). Stops w before ls old new why) (sym (front_and_rest lines (done + count))) (stops_within w before (texts (take (done + count) lines)) (texts (drop (done + count) lines)) old new why front)
