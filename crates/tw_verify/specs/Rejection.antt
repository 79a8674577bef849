-- The codes of the errors, and the lowest of several.
use Rattle.std.specs.Prelude.{ℕ, ◌==◌, Bool, Option, Some, None, if◌then◌else◌}
use Rattle.tw_code.specs.accepting.Question.{Question, lower}
use Rattle.tw_verify.specs.declared.rejection.VerifyError.{VerifyError}
use Rattle.tw_verify.specs.declared.rejection.VerifyError.TheVariants.{UndeclaredValue, WrongValueType, RightNotEmpty, WrongRight, SkipLeavesBlock, Unmatched, TypingsDiffer, TypingChanged, Unreached, RightLeft, MisplacedRet, UnknownProcedure, ArgumentCount, ActionInLeaf, ScalarWrite, MainShape, BudgetTooLarge, NoMemory}

-- returns the code without the letter V
abbrev pub verify_error_code : VerifyError → ℕ
verify_error_code (UndeclaredValue unmet) = 1
verify_error_code (WrongValueType unmet) = 2
verify_error_code (RightNotEmpty unmet) = 3
verify_error_code (WrongRight unmet) = 4
verify_error_code SkipLeavesBlock = 5
verify_error_code Unmatched = 6
verify_error_code TypingsDiffer = 7
verify_error_code TypingChanged = 8
verify_error_code Unreached = 9
verify_error_code (RightLeft unmet) = 10
verify_error_code MisplacedRet = 11
verify_error_code UnknownProcedure = 12
verify_error_code ArgumentCount = 13
verify_error_code ActionInLeaf = 14
verify_error_code (ScalarWrite unmet) = 15
verify_error_code MainShape = 16
verify_error_code BudgetTooLarge = 17
verify_error_code NoMemory = 18

-- returns whether it is a failed allocation, which says nothing of the program
abbrev pub is_memory : VerifyError → Bool
is_memory rejection = verify_error_code rejection == 18

-- returns the lower of two codes, each of which may be missing
abbrev pub lowest_of : Option ℕ → Option ℕ → Option ℕ
lowest_of None second = second
lowest_of (Some n) second = Some (lower n second)

-- returns the lowest code of a failed check and of others
abbrev pub rejection_with : Question → Option ℕ → Option ℕ
rejection_with q others = if q.1 then others else Some (lower q.0 others)
