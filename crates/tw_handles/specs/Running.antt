-- The inputs of a run, and the result of running a loaded program.
use Rattle.std.specs.Prelude.{◌≡◌, ◌≢◌, ◌⊎◌, ◌<◌, ◌≤◌, ◌==◌, if◌then◌else◌, ◌++◌, ◌∷◌}
use Rattle.tw_handles.specs.Names.{Bool, true, false, [], ℕ, List, length, min, slice_get, unwrap_or, Option, Some, None, MatchOption, StopFlag, IsFlagOf, IsSeen, IsLeftBy, OpenError, ActorCounts, IsLayout, Input, TypedProgram}
use Rattle.tw_flags.specs.declared.flag.FlagSignal.{FlagSignal}
use Rattle.tw_stop.specs.declared.signal.Never.{Never}
use Rattle.tw_stop.specs.Looks.{Looked, always_no}
use Rattle.tw_pool.specs.Openings.{IsRejection, MayOpen, opened}
use Rattle.tw_handles.specs.Asking.{Fails}
use Rattle.tw_handles.specs.Caps.{IsDecided, listed_caps}
use Rattle.tw_handles.specs.Codes.{above_cap, done, no_inputs, no_layout, no_memory, no_options, no_program, no_stop, open_code}
use Rattle.tw_handles.specs.Certificates.{IsCertificateIf, asks}
use Rattle.tw_handles.specs.Loading.{finished_in, inputs_in, program_in}
use Rattle.tw_handles.specs.declared.finished.Finished.{Finished}
use Rattle.tw_handles.specs.declared.held.Held.{Held}
use Rattle.tw_handles.specs.declared.held.Held.TheVariants.{Stop}
use Rattle.tw_handles.specs.declared.running.RunOrder.{RunOrder}
use Rattle.tw_handles.specs.Stops.{flag_in}

-- holds if the inputs have one more, or are unchanged because an allocation failed
abbrev pub IsAppended : Input → List Input → Option Held → ℕ → Type 0
IsAppended given before new code =
    ((inputs_in new ≡ Some (before ++ given ∷ [])) × (code ≡ done)) ⊎ ((inputs_in new ≡ Some before) × (code ≡ no_memory))

abbrev pub IsAdded : Input → Option Held → Option Held → ℕ → Type 0
IsAdded given old new code = MatchOption (inputs_in old) (Fails no_inputs old new code) (λ before. IsAppended given before new code)

-- a condition on the answers of a run's looks
abbrev pub Looks : Type 1
Looks = List Bool → Type 0

-- Holds if the report has the result of a run whose looks had such answers, with its certificate if one is asked for, and whether partial outputs are
-- read; or the run isn't opened.
abbrev pub IsRunOn : Looks → TypedProgram → List Input → ActorCounts → RunOrder → Option Held → Option Held → ℕ → Type 0
IsRunOn Saw verified inputs counts order old new code =
    ((run : Finished) × (answers : List Bool) × Saw answers × (finished_in new ≡ Some run) × MayOpen verified.program inputs counts order.limit
    × IsLeftBy order.seed (opened verified inputs counts order.limit) answers run.left
    × IsCertificateIf order.certify verified.program inputs counts run.left run.certificate × (run.partial ≡ order.partial) × (code ≡ done))
    ⊎ ((why : OpenError) × IsRejection verified.program inputs counts order.limit why × Fails (open_code why) old new code)

-- holds if this is the result of a run, of a program that stays within the caps; or a bound is above its cap; or an allocation failed
abbrev pub IsRunIfWithin : Looks → TypedProgram → List Input → ActorCounts → RunOrder → Option Held → Option Held → ℕ → Type 0
IsRunIfWithin Saw verified inputs counts order old new code =
    ((within : Bool) × IsDecided verified.program order.limit order.caps within × (((within ≡ true) × IsRunOn Saw verified inputs counts order old new code) ⊎ ((within ≡ false) × Fails above_cap old new code)))
    ⊎ Fails no_memory old new code

abbrev pub counts_of : RunOrder → ActorCounts
counts_of order = record { engines = order.engines; servers = order.servers; workers = order.workers }

-- holds if this is the result of a run, or there is no layout with these numbers
abbrev pub IsRunIn : Looks → TypedProgram → List Input → RunOrder → Option Held → Option Held → ℕ → Type 0
IsRunIn Saw verified inputs order old new code =
    (IsLayout (counts_of order) × IsRunIfWithin Saw verified inputs (counts_of order) order old new code)
    ⊎ ((IsLayout (counts_of order) → ⊥) × Fails no_layout old new code)

-- holds if this is the result of a run with the inputs of a handle
abbrev pub IsRunWith : Looks → TypedProgram → Option Held → RunOrder → Option Held → Option Held → ℕ → Type 0
IsRunWith Saw verified given order old new code =
    MatchOption (inputs_in given) (Fails no_inputs old new code) (λ inputs. IsRunIn Saw verified inputs order old new code)

-- holds if this is the result of running the program of one handle with the inputs of another
abbrev pub IsRunBy : Looks → Option Held → Option Held → RunOrder → Option Held → Option Held → ℕ → Type 0
IsRunBy Saw program given order old new code =
    MatchOption (program_in program) (Fails no_program old new code) (λ verified. IsRunWith Saw verified given order old new code)

-- the flag's holder has seen what the run saw by its last look, if the run was opened; else nothing changed
abbrev pub HasSeenRun : StopFlag → FlagSignal → Option Held → ℕ → Type 0
HasSeenRun flag last after code = ((other : StopFlag) × (after ≡ Some (Stop other)) × IsFlagOf other last × (code ≡ done)) ⊎ ((after ≡ Some (Stop flag)) × (code ≢ done))

-- holds if this is the result of such a run with a flag, and the handle's contents afterwards
abbrev pub IsRunByFlag : Option Held → Option Held → RunOrder → StopFlag → Option Held → Option Held → Option Held → ℕ → Type 0
IsRunByFlag program given order flag after old new code =
    (first : FlagSignal) × (last : FlagSignal) × IsFlagOf flag first × IsRunBy (Looked IsSeen first last) program given order old new code × HasSeenRun flag last after code

-- holds if this is the result of such a run with the flag of a handle, if that holds one; a null handle is a flag that never stops a run
abbrev pub IsRunUntil : Option Held → Option Held → RunOrder → Option Held → Option Held → Option Held → Option Held → ℕ → Type 0
IsRunUntil program given order stop after old new code = MatchOption stop
    ((after ≡ None) × (first : Never) × (last : Never) × IsRunBy (Looked always_no first last) program given order old new code)
    (λ held. MatchOption (flag_in (Some held)) ((after ≡ Some held) × Fails no_stop old new code) (λ flag. IsRunByFlag program given order flag after old new code))

-- returns the option with this index, or the usual one if the list lacks it
abbrev pub option_at : List ℕ → ℕ → ℕ → ℕ
option_at options index default = unwrap_or (slice_get options index) default

-- returns a number of actors, of which no layout has 255 or more
abbrev pub actors_at : List ℕ → ℕ → ℕ
actors_at options index = min (option_at options index 1) 255

-- returns the seed of an option; 0 is none
abbrev pub seed_of : ℕ → Option ℕ
seed_of number = if number == 0 then None else Some number

-- returns the order of a list of options and a list of caps
abbrev pub order_of : List ℕ → List ℕ → RunOrder
order_of options caps =
    record {
      limit = option_at options 0 10000;
      engines = actors_at options 1;
      servers = actors_at options 2;
      workers = actors_at options 3;
      seed = seed_of (option_at options 4 0);
      certify = asks (option_at options 5 0);
      partial = asks (option_at options 6 1);
      caps = listed_caps caps;
    }

-- holds if this is the result of such a run with these options and caps, or one of the lists is longer than those that there are
abbrev pub IsRun : Option Held → Option Held → List ℕ → List ℕ → Option Held → Option Held → Option Held → Option Held → ℕ → Type 0
IsRun program given options caps stop after old new code =
    ((length options ≤ 7) × (length caps ≤ 7) × IsRunUntil program given (order_of options caps) stop after old new code)
    ⊎ ((7 < length options) × (after ≡ stop) × Fails no_options old new code) ⊎ ((7 < length caps) × (after ≡ stop) × Fails no_options old new code)
