-- Versions of the language: their numbers, and what each has.
use Rattle.std.specs.Prelude.{ℕ, Bool, true, false, ◌==◌, if◌then◌else◌}
use Rattle.tw_code.specs.declared.version.Version.{Version}
use Rattle.tw_code.specs.declared.version.Version.TheVariants.{One, Two, Four, Five}

abbrev pub version_number : Version → ℕ
version_number One = 1
version_number Two = 2
version_number Four = 4
version_number Five = 5

-- returns the version with this number, or the first if there is none
abbrev pub version_by : ℕ → Version
version_by number = if number == 5 then Five else if number == 4 then Four else if number == 2 then Two else One

-- the version that has all that the others have
abbrev pub last_version : Version
last_version = Five

-- returns whether a version has the features of another: of itself or an earlier one
abbrev pub has_since : Version → Version → Bool
has_since One One = true
has_since One Two = false
has_since One Four = false
has_since One Five = false
has_since Two One = true
has_since Two Two = true
has_since Two Four = false
has_since Two Five = false
has_since Four One = true
has_since Four Two = true
has_since Four Four = true
has_since Four Five = false
has_since Five brought = true

-- returns whether subscripts may be texts
abbrev pub has_texts : Version → Bool
has_texts version = has_since version Two

-- returns whether there are maps
abbrev pub has_maps : Version → Bool
has_maps version = has_since version Four
