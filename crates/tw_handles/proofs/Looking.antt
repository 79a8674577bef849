-- A run that was opened has looked at its signal.
use Rattle.tw_handles.proofs.Names.{Bool, Fails, Held, Input, InputCount, InputType, IsRunBy, IsRunIn, IsRunWith, IsSeen, LimitRange, List, Looked, Looks, MatchOption, MissingTarget, NoMemory, None, Option, Some, TypedProgram, [], ap, inl, inputs_in, inr, program_in, sym, ℕ, ◌∙◌, ◌∷◌, ◌≡◌}
use Rattle.tw_flags.specs.declared.flag.FlagSignal.{FlagSignal}
use Rattle.tw_pool.specs.declared.open.OpenError.{OpenError}
use Rattle.tw_handles.specs.Codes.{done, no_inputs, no_program, open_code}
use Rattle.tw_handles.specs.declared.running.RunOrder.{RunOrder}

-- looks are all at one flag
pub one_book : (first : FlagSignal) (answers : List Bool) (last : FlagSignal) → Looked IsSeen first last answers → last.seen.book ≡ first.seen.book
one_book first [] last e = ap (λ (s : FlagSignal). s.seen.book) (sym e)
one_book first (answer ∷ answers) last (next, look, more) = one_book next answers last more ∙ look.0

no_error : (why : OpenError) → open_code why ≡ done → ⊥
no_error InputCount e = cc
no_error InputType e = cc
no_error MissingTarget e = cc
no_error LimitRange e = cc
no_error NoMemory e = cc

-- a run whose code says that it was opened has looked
abbrev HasAnswers : Looks → Type 0
HasAnswers Saw = (answers : List Bool) × Saw answers

module _ (Saw : Looks) (order : RunOrder) (old new : Option Held) (code : ℕ) (opened : code ≡ done) where
  never : (why : ℕ) → code ≡ why → (why ≡ done → ⊥) → HasAnswers Saw
  never why e apart = absurd (apart (sym e ∙ opened))

  in_layout : (verified : TypedProgram) (inputs : List Input) → IsRunIn Saw verified inputs order old new code → HasAnswers Saw
  in_layout verified inputs (inl (layout, inl (within, decided, inl (admitted, inl (run, answers, saw, there, may, left, certified, partial, done_so))))) = (answers, saw)
  in_layout verified inputs (inl (layout, inl (within, decided, inl (admitted, inr (why, rejected, fails))))) = never (open_code why) fails.1 (no_error why)
  in_layout verified inputs (inl (layout, inl (within, decided, inr (above, fails)))) = never _ fails.1 (λ e. cc)
  in_layout verified inputs (inl (layout, inr fails)) = never _ fails.1 (λ e. cc)
  in_layout verified inputs (inr (none, fails)) = never _ fails.1 (λ e. cc)

  with_inputs : (verified : TypedProgram) (given : Option Held) → IsRunWith Saw verified given order old new code → HasAnswers Saw
  with_inputs verified given h = by (inputs_in given) h
    where
      by : (o : Option (List Input)) → MatchOption o (Fails no_inputs old new code) (λ inputs. IsRunIn Saw verified inputs order old new code) → HasAnswers Saw
      by None fails = never _ fails.1 (λ e. cc)
      by (Some inputs) run = in_layout verified inputs run

  pub has_looked : (program given : Option Held) → IsRunBy Saw program given order old new code → HasAnswers Saw
  has_looked program given h = by (program_in program) h
    where
      by : (o : Option TypedProgram) → MatchOption o (Fails no_program old new code) (λ verified. IsRunWith Saw verified given order old new code) → HasAnswers Saw
      by None fails = never _ fails.1 (λ e. cc)
      by (Some verified) run = with_inputs verified given run
