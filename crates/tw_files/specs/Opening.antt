-- Why no session is held.
use Rattle.std.specs.Prelude.{ℕ, List}
use Rattle.tw_files.specs.declared.opening.Misfit.{Misfit as Why}
use Rattle.tw_files.specs.declared.opening.NoInput.{NoInput}
use Rattle.tw_files.specs.declared.opening.NoInput.TheVariants.{Misfit, NoMemory, Unread}

-- holds for the reason: this file can't be read, it doesn't fit the others, or an allocation failed
abbrev pub IsReason : (List ℕ → Type 0) → (Why → Type 0) → NoInput → Type 0
IsReason Fails Misfits (Unread path error) = Fails path.now
IsReason Fails Misfits (Misfit path why) = Misfits why
IsReason Fails Misfits NoMemory = Unit {0}
