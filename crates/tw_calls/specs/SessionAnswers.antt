-- The results of a session call.
use Rattle.std.specs.Prelude.{◌≡◌, ◌⊎◌, ◌==◌, ◌++◌, ℕ, List, [], ◌∷◌, Option, Some, codes, length, drop, nat_lt, if◌then◌else◌, IsUtf8}
use Rattle.std.specs.Io.BufRead.{strip_last}
use Rattle.std.specs.List.{slice_split}
use Rattle.tw_source.specs.Reply.{reply}
use Rattle.tw_session.specs.Clockless.{AnswersWords}
use Rattle.tw_session.specs.Status.{code_of}
use Rattle.tw_source.specs.declared.close.Close.{Close}
use Rattle.tw_source.specs.declared.close.Close.TheVariants.{CommandLine}
use Rattle.tw_session.specs.declared.status.Status.{Status}
use Rattle.tw_session.specs.declared.status.Status.TheVariants.{Ended, NoMemory, ReadFailed, WriteFailed}
use Rattle.tw_handles.specs.Asking.{Fails}
use Rattle.tw_handles.specs.Texts.{text_in}
use Rattle.tw_handles.specs.declared.held.Held.{Held}

abbrev pub line_feed : ℕ
line_feed = 10

abbrev pub nul : ℕ
nul = 0

-- Returns the arguments of a text, each followed by the byte `ending`, which the last may lack. An argument has all bytes between two of them.
abbrev pub arguments_in : ℕ → List ℕ → List (List ℕ)
arguments_in ending [] = []
arguments_in ending (byte ∷ text) = slice_split (λ b. b == ending) (strip_last ending (byte ∷ text))

-- Holds if this is a result of `tw` with the arguments of `words`, which `ending` ends, and this input, run in one thread; or it is out of memory.
-- Arguments that aren't UTF-8 are always rejected.
abbrev pub Answers : ℕ → List ℕ → List ℕ → Status → List ℕ → Type 0
Answers ending words input (Ended close) text =
    (IsUtf8 words × AnswersWords (arguments_in ending words) input (reply text close))
    ⊎ ((IsUtf8 words → ⊥) × (close ≡ CommandLine) × (text ≡ codes "command line refused\n"))
Answers ending words input NoMemory text = IsUtf8 words × (text ≡ codes "memory\n")
Answers ending words input ReadFailed text = ⊥
Answers ending words input WriteFailed text = ⊥

-- ---- an answer in a buffer

-- returns the buffer with the text at its start, or unchanged if the text doesn't fit
abbrev pub filled : List ℕ → List ℕ → List ℕ
filled text room = if nat_lt (length room) (length text) then room else text ++ drop (length text) room

-- the status's code, the text's length, and the buffer
pub record IsAnswered (words input old new : List ℕ) (code count : ℕ) : Type 0 where
  pub status : Status
  pub text : List ℕ
  pub answers : Answers line_feed words input status text
  pub code_is : code ≡ code_of status
  pub count_is : count ≡ length text
  pub room : new ≡ filled text old

-- ---- an answer in a handle

-- holds if the handle holds the text, and the code is its status's; or an allocation failed
abbrev pub IsKeptWith : Close → List ℕ → Option Held → Option Held → ℕ → Type 0
IsKeptWith close text old new code = ((text_in new ≡ Some text) × (code ≡ code_of (Ended close))) ⊎ Fails (code_of NoMemory) old new code

-- holds if the handle holds the text of an answer, and the code is its status's; or an allocation failed
abbrev pub IsAnswerKept : List ℕ → List ℕ → Option Held → Option Held → ℕ → Type 0
IsAnswerKept words input old new code =
    ((close : Close) × (text : List ℕ) × Answers nul words input (Ended close) text × (text_in new ≡ Some text) × (code ≡ code_of (Ended close)))
    ⊎ Fails (code_of NoMemory) old new code
