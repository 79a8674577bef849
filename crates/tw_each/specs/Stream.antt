-- Lines that are read one after the other, and what is written.
use Rattle.std.specs.Prelude.{◌≡◌, ◌⊎◌, ◌==◌, ◌++◌, ◌+◌, ◌∷◌, if◌then◌else◌}
use Rattle.tw_each.specs.Names.{ℕ, Bool, List, [], Option, Result, Ok, Err, IfOk, IfSome, MatchResult, length, take, nat_lt, slice_split, Versioned, EachOrder, Source, most_bytes, source_text, Reply, reply, TypedProgram}
use Rattle.std.specs.Io.KnownBytes.{Appends, Consumes, Keeps}
use Rattle.tw_each.specs.Answers.{AreAnswers, Way}
use Rattle.tw_each.specs.Reply.{IsRead, IsRejectionLine, way_of, IsTooLongReply}
use Rattle.tw_each.specs.declared.stream.AnsweredLines.{AnsweredLines}
use Rattle.tw_each.specs.declared.stream.StreamError.{StreamError}
use Rattle.tw_each.specs.declared.stream.StreamError.TheVariants.{NoMemory, Read, Write}
use Rattle.tw_each.specs.Worst.{worse}
use Rattle.tw_each.specs.declared.streamed.Streamed.{Streamed}
use Rattle.tw_each.specs.declared.streamed.Streamed.TheVariants.{Answered, Rejected}
use Rattle.tw_each.specs.declared.worst.WorstEnd.{WorstEnd}

-- ---- lines

-- returns what is between line feeds
abbrev pub parts_of : List ℕ → List (List ℕ)
parts_of bytes = slice_split (λ b. b == 10) bytes

-- return all parts except the last, and the last
abbrev pub but_last : List (List ℕ) → List (List ℕ)
but_last [] = []
but_last (part ∷ []) = []
but_last (part ∷ next ∷ others) = part ∷ but_last (next ∷ others)

abbrev pub last_of : List (List ℕ) → List ℕ
last_of [] = []
last_of (part ∷ []) = part
last_of (part ∷ next ∷ others) = last_of (next ∷ others)

-- return the lines that a line feed ends, and what follows these
abbrev pub ended_lines : List ℕ → List (List ℕ)
ended_lines bytes = but_last (parts_of bytes)

abbrev pub begun_line : List ℕ → List ℕ
begun_line bytes = last_of (parts_of bytes)

-- returns all lines; what follows the last line feed is one unless it is empty
abbrev pub lines_in : List ℕ → List (List ℕ)
lines_in bytes = ended_lines bytes ++ (if length (begun_line bytes) == 0 then [] else begun_line bytes ∷ [])

-- returns as much of a line as is kept: up to one byte more than a line may have
abbrev pub kept : List ℕ → List ℕ
kept line = take (most_bytes + 1) line

-- holds for what is kept after these bytes: how many lines have ended, and the line that has begun
abbrev pub IsAt : List ℕ → ℕ → List ℕ → Type 0
IsAt bytes number begun = (number ≡ length (ended_lines bytes)) × (begun ≡ kept (begun_line bytes))

-- ---- what is written

-- holds if the answers to these lines were written, with what was in the writer before and after
abbrev pub AreWritten : Way → ℕ → List (List ℕ) → Option (List ℕ) → Option (List ℕ) → WorstEnd → Type 0
AreWritten w before lines old new worst = (text : List ℕ) × AreAnswers w before lines text worst × Appends old new text

-- holds if those to the first of the lines were written
abbrev pub AreSomeWritten : Way → ℕ → List (List ℕ) → Option (List ℕ) → Option (List ℕ) → Type 0
AreSomeWritten w before lines old new = (first : List (List ℕ)) × (others : List (List ℕ)) × (worst : WorstEnd) × (lines ≡ first ++ others) × AreWritten w before first old new worst

-- holds if they were, before an error; after a failed write nothing is required
abbrev pub Stops : Way → ℕ → List (List ℕ) → Option (List ℕ) → Option (List ℕ) → StreamError → Type 0
Stops w before lines old new Read = AreSomeWritten w before lines old new
Stops w before lines old new Write = Unit {0}
Stops w before lines old new NoMemory = AreSomeWritten w before lines old new

-- holds for the lines that are answered after some more
abbrev pub Adds : Way → AnsweredLines → List (List ℕ) → Option (List ℕ) → Option (List ℕ) → Result AnsweredLines StreamError → Type 0
Adds w answered lines old new result =
    MatchResult result (λ now. (now.number ≡ answered.number + length lines) × ((bad : WorstEnd) × (now.worst ≡ (worse answered.worst bad)) × AreWritten w answered.number lines old new bad))
    (Stops w answered.number lines old new)

-- holds for the lines that end in a chunk, by what was kept before it and after it
abbrev pub TakesChunk : Way → AnsweredLines → List ℕ → List ℕ → List ℕ → Option (List ℕ) → Option (List ℕ) → Result AnsweredLines StreamError → Type 0
TakesChunk w answered begun next chunk old new result =
    (bytes : List ℕ) → IsAt bytes answered.number begun
    → (more : List (List ℕ)) × (ended_lines (bytes ++ chunk) ≡ ended_lines bytes ++ more) × Adds w answered more old new result × IfOk result (λ now. IsAt (bytes ++ chunk) now.number next)

-- holds for the line that ends without a line feed, if there is one, after those that have ended
abbrev pub AnswersLast : Way → AnsweredLines → List ℕ → Option (List ℕ) → Option (List ℕ) → Result WorstEnd StreamError → Type 0
AnswersLast w answered bytes old new result =
    (last : List (List ℕ)) × (lines_in bytes ≡ ended_lines bytes ++ last)
    × MatchResult result (λ worst. (bad : WorstEnd) × (worst ≡ (worse answered.worst bad)) × AreWritten w answered.number last old new bad) (Stops w answered.number last old new)

-- holds for the result of reading lines to the end, by the reader's bytes and the writer's, before and after: all are answered; or it stopped with an
-- error, after the answers to the first of those that were read
abbrev pub AnswersAll : Way → Option (List ℕ) → Option (List ℕ) → Option (List ℕ) → Option (List ℕ) → Result WorstEnd StreamError → Type 0
AnswersAll w from left old new result =
    MatchResult result (λ worst. IfSome from (λ input. AreWritten w 0 (lines_in input) old new worst))
    (λ why. (bytes : List ℕ) × Consumes from left bytes × Stops w 0 (lines_in bytes) old new why)

-- ---- a program and lines

-- holds if an allocation failed before anything was read
abbrev pub BreaksFirst : Option (List ℕ) → Option (List ℕ) → Option (List ℕ) → Option (List ℕ) → StreamError → Type 0
BreaksFirst from left old new why = (why ≡ NoMemory) × Keeps from left × Keeps old new

-- holds for what becomes of a program with lines: it is run on them; or it is rejected with this reply, and nothing is read or written
abbrev pub Becomes : (Result WorstEnd StreamError → Type 0) → (Reply → Type 0) → Option (List ℕ) → Option (List ℕ) → Option (List ℕ) → Option (List ℕ) → Result Streamed StreamError → Type 0
Becomes Runs Rejects from left old new (Ok (Answered worst)) = Runs (Ok worst)
Becomes Runs Rejects from left old new (Ok (Rejected r)) = Rejects (reply r.text.items r.close) × Keeps from left × Keeps old new
Becomes Runs Rejects from left old new (Err why) = Runs (Err why) ⊎ BreaksFirst from left old new why

-- holds for the reply to a program of too many bytes, or to one that is rejected
abbrev pub IsRejection : Source → EachOrder → List ℕ → Reply → Type 0
IsRejection source order input r = ((nat_lt most_bytes (length input) ≡ Bool.true) × IsTooLongReply r) ⊎ IsRejectionLine source order input r

-- holds if what is read is a program that is admitted, and run on the lines
abbrev pub RunsOnLines : Source → EachOrder → List ℕ → Option (List ℕ) → Option (List ℕ) → Option (List ℕ) → Option (List ℕ) → Result WorstEnd StreamError → Type 0
RunsOnLines source order input from left old new result =
    (program : Versioned) × IsRead source order input program
    × ((verified : TypedProgram) × (verified.program ≡ program.procedures) × AnswersAll (way_of (source_text source input) order verified) from left old new result)

-- holds for what becomes of what is read as a program, and of the lines
abbrev pub Streams : Source → EachOrder → List ℕ → Option (List ℕ) → Option (List ℕ) → Option (List ℕ) → Option (List ℕ) → Result Streamed StreamError → Type 0
Streams source order input from left old new result = Becomes (RunsOnLines source order input from left old new) (IsRejection source order input) from left old new result
