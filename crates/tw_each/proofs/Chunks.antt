-- One more chunk, and the end.
use Rattle.std.proofs.Math.Dec.{eqb-suc-zero}
use Rattle.tw_each.proofs.Names.{Adds, AnsweredLines, AnswersAll, AnswersLast, AreWritten, Bool, Bor, Consumes, Err, IsAt, IsAtEnd, Keeps, List, NoMemory, Ok, Option, Read, Result, Stops, StreamError, TakesChunk, Way, WorstEnd, Write, [], ap, append-nil, arith, begun_line, ended_lines, false, if◌then◌else◌, kept, length, length-append, lines_in, map, map-append, most_bytes, parts_of, refl, subst, suc, sym, take, worse, ℕ, ◌++◌, ◌+◌, ◌==◌, ◌∙◌, ◌∷◌, ◌≡◌}
use Rattle.tw_each.specs.declared.worst.WorstEnd.TheVariants as ends
use Rattle.tw_each.proofs.Worse.{worse_quiet}
use Rattle.tw_each.proofs.Pieces.{ended_more, goes_on, kept_more, line_ends}
use Rattle.tw_each.proofs.Written.{all_consumed, consumed_kept, consumed_on, kept_adds, none_written, stops_first, stops_on, stops_within, written_on}

-- ---- a chunk

-- one without a line feed
pub takes_none : (w : Way) (answered : AnsweredLines) (begun next chunk only : List ℕ) (old : Option (List ℕ)) → parts_of chunk ≡ only ∷ [] → next ≡ kept (begun ++ only) → TakesChunk w answered begun next chunk old old (Ok answered)
takes_none w answered begun next chunk only old is keeps bytes (number, begun_is) =
    let on = goes_on bytes chunk only is in
    let line : next ≡ kept (begun_line (bytes ++ chunk)) = keeps ∙ ap (λ (l : List ℕ). kept (l ++ only)) begun_is ∙ kept_more (begun_line bytes) only ∙ ap kept (sym on.1) in
    ([], on.0 ∙ sym (append-nil (ended_lines bytes)), (omega arith, (ends.Quiet, sym (worse_quiet answered.worst), none_written w answered.number old)), (number ∙ ap length (sym on.0), line))

-- one that ends lines, which are answered
pub takes_lines : (w : Way) (answered now : AnsweredLines) (begun mid next chunk first last : List ℕ) (ended : List (List ℕ)) (old new : Option (List ℕ)) → parts_of chunk ≡ first ∷ (ended ++ last ∷ [])
    → mid ≡ kept (begun ++ first) → next ≡ kept last → Adds w answered (mid ∷ ended) old new (Ok now) → TakesChunk w answered begun next chunk old new (Ok now)
takes_lines w answered now begun mid next chunk first last ended old new is ends keeps adds bytes (number, begun_is) =
    let on = line_ends bytes chunk first last ended is in
    let line = begun_line bytes ++ first in
    let begun_line_is : mid ≡ kept line = ends ∙ ap (λ (l : List ℕ). kept (l ++ first)) begun_is ∙ kept_more (begun_line bytes) first in
    let all = kept_adds w answered line ended old new (Ok now) (subst (λ (l : List ℕ). Adds w answered (l ∷ ended) old new (Ok now)) begun_line_is adds) in
    let many : now.number ≡ length (ended_lines (bytes ++ chunk)) =
    all.0 ∙ ap (λ (n : ℕ). n + length (line ∷ ended)) number ∙ sym (length-append (ended_lines bytes) (line ∷ ended)) ∙ ap length (sym on.0) in
    (line ∷ ended, on.0, all, (many, keeps ∙ ap kept (sym on.1)))

-- an error before anything is written
pub takes_nothing : (w : Way) (answered : AnsweredLines) (begun next chunk : List ℕ) (old : Option (List ℕ)) (why : StreamError) → TakesChunk w answered begun next chunk old old (Err why)
takes_nothing w answered begun next chunk old why bytes at =
    let (more, is) = ended_more bytes chunk in
    (more, is, stops_first w answered.number more old why, tt)

-- one while lines are answered
pub takes_some : (w : Way) (answered : AnsweredLines) (begun mid next chunk first last : List ℕ) (ended : List (List ℕ)) (old new : Option (List ℕ)) (why : StreamError) → parts_of chunk ≡ first ∷ (ended ++ last ∷ [])
    → mid ≡ kept (begun ++ first) → Adds w answered (mid ∷ ended) old new (Err why) → TakesChunk w answered begun next chunk old new (Err why)
takes_some w answered begun mid next chunk first last ended old new why is ends adds bytes (number, begun_is) =
    let on = line_ends bytes chunk first last ended is in
    let line = begun_line bytes ++ first in
    let begun_line_is : mid ≡ kept line = ends ∙ ap (λ (l : List ℕ). kept (l ++ first)) begun_is ∙ kept_more (begun_line bytes) first in
    (line ∷ ended, on.0, kept_adds w answered line ended old new (Err why) (subst (λ (l : List ℕ). Adds w answered (l ∷ ended) old new (Err why)) begun_line_is adds), tt)

all_stop : (w : Way) (before : ℕ) (lines : List (List ℕ)) (old new : Option (List ℕ)) (bad : WorstEnd) (why : StreamError) → AreWritten w before lines old new bad → Stops w before lines old new why
all_stop w before lines old new bad Read h = (lines, [], bad, sym (append-nil lines), h)
all_stop w before lines old new bad Write h = tt
all_stop w before lines old new bad NoMemory h = (lines, [], bad, sym (append-nil lines), h)

-- one after that
pub takes_all : (w : Way) (answered now : AnsweredLines) (begun mid next chunk first last : List ℕ) (ended : List (List ℕ)) (old new : Option (List ℕ)) (why : StreamError) → parts_of chunk ≡ first ∷ (ended ++ last ∷ [])
    → mid ≡ kept (begun ++ first) → Adds w answered (mid ∷ ended) old new (Ok now) → TakesChunk w answered begun next chunk old new (Err why)
takes_all w answered now begun mid next chunk first last ended old new why is ends (number, (bad, worst, written)) =
    takes_some w answered begun mid next chunk first last ended old new why is ends (all_stop w answered.number (mid ∷ ended) old new bad why written)

-- ---- the last line

nothing_taken : (n : ℕ) (line : List ℕ) → length (take (suc n) line) ≡ 0 → line ≡ []
nothing_taken n [] e = refl
nothing_taken n (b ∷ line) e = absurd (omega (arith, e))

empty_kept : (line : List ℕ) → length (kept line) ≡ 0 → line ≡ []
empty_kept line e = nothing_taken most_bytes line e

kept_empty : (line : List ℕ) → (length (kept line) ≡ 0 → ⊥) → (length line == 0) ≡ false
kept_empty [] e = absurd (e refl)
kept_empty (b ∷ line) e = eqb-suc-zero (length line)

pub no_last : (w : Way) (answered : AnsweredLines) (bytes begun : List ℕ) (old : Option (List ℕ)) → IsAt bytes answered.number begun → length begun ≡ 0 → AnswersLast w answered bytes old old (Ok answered.worst)
no_last w answered bytes begun old (number, begun_is) none =
    let line : begun_line bytes ≡ [] = empty_kept (begun_line bytes) (ap length (sym begun_is) ∙ none) in
    ([], ap (λ (l : List ℕ). ended_lines bytes ++ (if length l == 0 then [] else l ∷ [])) line, (ends.Quiet, sym (worse_quiet answered.worst), none_written w answered.number old))

last_lines : (bytes begun : List ℕ) → begun ≡ kept (begun_line bytes) → (length begun ≡ 0 → ⊥) → lines_in bytes ≡ ended_lines bytes ++ begun_line bytes ∷ []
last_lines bytes begun begun_is some =
    ap (λ (b : Bool). ended_lines bytes ++ (if b then [] else begun_line bytes ∷ [])) (kept_empty (begun_line bytes) (λ e. some (ap length begun_is ∙ e)))

pub last_line : (w : Way) (answered now : AnsweredLines) (bytes begun : List ℕ) (old new : Option (List ℕ)) → IsAt bytes answered.number begun → (length begun ≡ 0 → ⊥) → Adds w answered (begun ∷ []) old new (Ok now)
    → AnswersLast w answered bytes old new (Ok now.worst)
last_line w answered now bytes begun old new (number, begun_is) some adds =
    let (more, (bad, worst, written)) = kept_adds w answered (begun_line bytes) [] old new (Ok now) (subst (λ (l : List ℕ). Adds w answered (l ∷ []) old new (Ok now)) begun_is adds) in
    (begun_line bytes ∷ [], last_lines bytes begun begun_is some, (bad, worst, written))

pub last_stops : (w : Way) (answered : AnsweredLines) (bytes begun : List ℕ) (old new : Option (List ℕ)) (why : StreamError) → IsAt bytes answered.number begun → (length begun ≡ 0 → ⊥) → Adds w answered (begun ∷ []) old new (Err why)
    → AnswersLast w answered bytes old new (Err why)
last_stops w answered bytes begun old new why (number, begun_is) some adds =
    (begun_line bytes ∷ [], last_lines bytes begun begun_is some, kept_adds w answered (begun_line bytes) [] old new (Err why) (subst (λ (l : List ℕ). Adds w answered (l ∷ []) old new (Err why)) begun_is adds))

-- ---- all lines

-- what is read and written, at a place between two chunks
abbrev pub IsAsFar : Way → AnsweredLines → List ℕ → Option (List ℕ) → Option (List ℕ) → Option (List ℕ) → Option (List ℕ) → Type 0
IsAsFar w answered begun from left old new =
    (bytes : List ℕ) × Consumes from left bytes × IsAt bytes answered.number begun × AreWritten w 0 (ended_lines bytes) old new answered.worst

from_zero : (answered : AnsweredLines) (bytes : List ℕ) → answered.number ≡ length (ended_lines bytes) → answered.number ≡ 0 + length (ended_lines bytes)
from_zero answered bytes number = omega (arith, number)

pub begins : (w : Way) (answered : AnsweredLines) (from old : Option (List ℕ)) → Consumes from from [] → answered.number ≡ 0 → answered.worst ≡ ends.Quiet → IsAsFar w answered [] from from old old
begins w answered from old none number worst = ([], none, (number, refl), subst (λ (b : WorstEnd). AreWritten w 0 [] old old b) (sym worst) (none_written w 0 old))

pub one_more_chunk : (w : Way) (answered now : AnsweredLines) (begun next chunk : List ℕ) (from mid left old during new : Option (List ℕ)) → IsAsFar w answered begun from mid old during → Consumes mid left chunk
    → TakesChunk w answered begun next chunk during new (Ok now) → IsAsFar w now next from left old new
one_more_chunk w answered now begun next chunk from mid left old during new (bytes, read, at, written) more takes =
    let (lines, is, (number, (bad, worst, also)), at_next) = takes bytes at in
    let here = subst (λ (n : ℕ). AreWritten w n lines during new bad) (from_zero answered bytes at.0) also in
    let all = written_on w 0 (ended_lines bytes) lines old during new answered.worst bad written here in (
      bytes ++ chunk,
      consumed_on from mid left bytes chunk read more,
      at_next,
      subst (λ (b : WorstEnd). AreWritten w 0 (ended_lines (bytes ++ chunk)) old new b) (sym worst) (subst (λ (ls : List (List ℕ)). AreWritten w 0 ls old new (worse answered.worst bad)) (sym is) all),
    )

pub chunk_stops : (w : Way) (answered : AnsweredLines) (begun next chunk : List ℕ) (from mid left old during new : Option (List ℕ)) (why : StreamError) → IsAsFar w answered begun from mid old during → Consumes mid left chunk
    → TakesChunk w answered begun next chunk during new (Err why) → AnswersAll w from left old new (Err why)
chunk_stops w answered begun next chunk from mid left old during new why (bytes, read, at, written) more takes =
    let (lines, is, stops, unused) = takes bytes at in
    let here = subst (λ (n : ℕ). Stops w n lines during new why) (from_zero answered bytes at.0) stops in
    let all = stops_on w 0 (ended_lines bytes) lines old during new answered.worst why written here in (
      bytes ++ chunk,
      consumed_on from mid left bytes chunk read more,
      stops_within w 0 (ended_lines (bytes ++ chunk)) _ old new why (subst (λ (ls : List (List ℕ)). Stops w 0 ls old new why) (sym is) all),
    )

-- a read that was interrupted
pub still_as_far : (w : Way) (answered : AnsweredLines) (begun : List ℕ) (from mid left old new : Option (List ℕ)) → IsAsFar w answered begun from mid old new → Keeps mid left → IsAsFar w answered begun from left old new
still_as_far w answered begun from mid left old new (bytes, read, at, written) kept_left = (bytes, consumed_kept from mid left bytes read kept_left, at, written)

pub as_far_same : (w : Way) (answered now : AnsweredLines) (begun next : List ℕ) (from left old new last : Option (List ℕ)) → now ≡ answered → next ≡ begun → last ≡ new → IsAsFar w answered begun from left old new → IsAsFar w now next from left old last
as_far_same w answered now begun next from left old new last now_is next_is last_is h =
    subst (λ (a : AnsweredLines). IsAsFar w a next from left old last) (sym now_is)
    (subst (λ (b : List ℕ). IsAsFar w answered b from left old last) (sym next_is) (subst (λ (o : Option (List ℕ)). IsAsFar w answered begun from left old o) (sym last_is) h))

-- a read fails
pub read_stops : (w : Way) (answered : AnsweredLines) (begun : List ℕ) (from mid left old new : Option (List ℕ)) (why : StreamError) → IsAsFar w answered begun from mid old new → Keeps mid left → AnswersAll w from left old new (Err why)
read_stops w answered begun from mid left old new why (bytes, read, at, written) kept_left =
    (bytes, consumed_kept from mid left bytes read kept_left, stops_within w 0 (ended_lines bytes) _ old new why (all_stop w 0 (ended_lines bytes) old new answered.worst why written))

-- the end is read
pub all_answered : (w : Way) (answered : AnsweredLines) (begun : List ℕ) (from mid left old during new : Option (List ℕ)) (result : Result WorstEnd StreamError) → IsAsFar w answered begun from mid old during → Consumes mid left [] → IsAtEnd left
    → ((bytes : List ℕ) → IsAt bytes answered.number begun → AnswersLast w answered bytes during new result) → AnswersAll w from left old new result
all_answered w answered begun from mid left old during new (Ok worst) (bytes, read, at, written) none end last =
    let (lines, is, (bad, worst_is, also)) = last bytes at in
    let all = written_on w 0 (ended_lines bytes) lines old during new answered.worst bad written (subst (λ (n : ℕ). AreWritten w n lines during new bad) (from_zero answered bytes at.0) also) in
    let whole = subst (λ (b : WorstEnd). AreWritten w 0 (lines_in bytes) old new b) (sym worst_is) (subst (λ (ls : List (List ℕ)). AreWritten w 0 ls old new (worse answered.worst bad)) (sym is) all) in
    all_consumed (λ (input : List ℕ). AreWritten w 0 (lines_in input) old new worst) from left bytes (subst (λ (bs : List ℕ). Consumes from left bs) (append-nil bytes) (consumed_on from mid left bytes [] read none)) end whole
all_answered w answered begun from mid left old during new (Err why) (bytes, read, at, written) none end last =
    let (lines, is, stops) = last bytes at in
    let all = stops_on w 0 (ended_lines bytes) lines old during new answered.worst why written (subst (λ (n : ℕ). Stops w n lines during new why) (from_zero answered bytes at.0) stops) in
    (bytes, subst (λ (bs : List ℕ). Consumes from left bs) (append-nil bytes) (consumed_on from mid left bytes [] read none), subst (λ (ls : List (List ℕ)). Stops w 0 ls old new why) (sym is) all)

-- the parts of what is read, the last one apart
pub last_apart : (parts ended : List (Bor (List ℕ))) (last : Bor (List ℕ)) (first chunk : List ℕ) → parts_of chunk ≡ first ∷ map (λ (part : Bor (List ℕ)). part.now) parts → parts ≡ ended ++ last ∷ []
    → parts_of chunk ≡ first ∷ (map (λ (part : Bor (List ℕ)). part.now) ended ++ last.now ∷ [])
last_apart parts ended last first chunk is apart =
    is ∙ ap (λ (ps : List (Bor (List ℕ))). first ∷ map (λ (part : Bor (List ℕ)). part.now) ps) apart ∙ ap (λ (ps : List (List ℕ)). first ∷ ps) (map-append (λ (part : Bor (List ℕ)). part.now) ended (last ∷ []))

pub no_texts : (parts : List (Bor (List ℕ))) → length parts ≡ 0 → map (λ (part : Bor (List ℕ)). part.now) parts ≡ []
no_texts [] none = refl
no_texts (part ∷ parts) none = absurd (omega (arith, none))
