-- Calls on a flag. Each holder has seen a prefix of the flag's values, and sees more with each call. No clause says how soon it sees
-- what another has set.
use Rattle.std.specs.Prelude.{◌≡◌, Bool, List, [], ◌∷◌, ◌++◌}
use Rattle.logbook.specs.Pages.{Book}
use Rattle.tw_flags.specs.Values.{is_raised}
use Rattle.tw_flags.specs.declared.flag.FlagSignal.{FlagSignal}
use Rattle.tw_flags.specs.declared.flag.SeenValues.{SeenValues}
use Rattle.tw_flags.specs.declared.flag.StopFlag.{StopFlag}

-- returns which flag the holder has
abbrev pub book_of : StopFlag → Book
book_of flag = flag.seen.book

-- returns the values that the holder has seen
abbrev pub values_of : StopFlag → List Bool
values_of flag = flag.seen.log

-- another holder has the same flag, and has seen the same values
abbrev pub IsShared : StopFlag → StopFlag → Type 0
IsShared flag other = (book_of other ≡ book_of flag) × (values_of other ≡ values_of flag)

-- the flag was set so, after what its holder had seen, and perhaps values of others
abbrev pub IsSet : Bool → StopFlag → StopFlag → Type 0
IsSet raised old new = (book_of new ≡ book_of old) × (others : List Bool) × (values_of new ≡ values_of old ++ others ++ raised ∷ [])

-- the signal is of this flag, and has seen what the holder has
abbrev pub IsFlagOf : StopFlag → FlagSignal → Type 0
IsFlagOf flag signal = (signal.seen.book ≡ book_of flag) × (signal.seen.log ≡ values_of flag)

-- A look: the answer is whether the flag was raised after all values that the run had seen, and perhaps values of others. It is a value of
-- the flag itself, so looks are counted: no list of values comes about by fewer.
abbrev pub IsSeen : FlagSignal → Bool → FlagSignal → Type 0
IsSeen old answer new =
    (new.seen.book ≡ old.seen.book) × (others : List Bool) × (new.seen.log ≡ old.seen.log ++ others ++ answer ∷ []) × (answer ≡ is_raised (old.seen.log ++ others))

-- a run's signal has seen this
abbrev pub HasSeen : FlagSignal → SeenValues → Type 0
HasSeen signal run = (run.seen.book ≡ signal.seen.book) × (run.seen.log ≡ signal.seen.log)

-- the run looked at this flag
abbrev pub IsOfFlag : StopFlag → SeenValues → Type 0
IsOfFlag flag run = run.seen.book ≡ book_of flag

-- the holder has now seen what the run has
abbrev pub HasCaughtUp : StopFlag → SeenValues → StopFlag → Type 0
HasCaughtUp old run new = (book_of new ≡ book_of old) × (values_of new ≡ run.seen.log)
