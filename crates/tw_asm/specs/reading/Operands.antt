-- Reading one word, or its error.
use Rattle.std.specs.Prelude.{ℕ, ℤ, List, [], ◌∷◌, length, codes, Option, Some, None, Result, Ok, Err, nat_lt, ◌==◌, if◌then◌else◌, Bool, false, true}
use Rattle.std.specs.Str.{bytes_eq}
use Rattle.tw_code.specs.declared.version.Version.{Version}
use Rattle.tw_code.specs.format.Versions.{has_maps, has_texts}
use Rattle.tw_lexer.specs.Words.{Word, Bare, Quoted}
use Rattle.tw_lexer.specs.Digits.{as_is, digits_in, signed_in}
use Rattle.tw_lexer.specs.Names.{is_name}
use Rattle.tw_asm.specs.Parts.{container_word, map_word, mode_word, scalar_word, sum_word}
use Rattle.tw_lexer.specs.declared.numbers.TokenError.{TokenError}
use Rattle.tw_lexer.specs.declared.numbers.TokenError.TheVariants.{Form, Limit}
use Rattle.tw_types.specs.declared.data_type.Scalar.{Scalar}
use Rattle.tw_types.specs.declared.data_type.Scalar.TheVariants as scalar
use Rattle.tw_types.specs.declared.param.Mode.{Mode}
use Rattle.tw_types.specs.declared.param.Mode.TheVariants.{Val, Closed, Ref, Write}

-- pairs two results; a wrong form is returned before a limit
abbrev pub both : {A B : Type 0} → Result A TokenError → Result B TokenError → Result (A × B) TokenError
both r (Err Form) = Err Form
both (Ok a) (Ok b) = Ok (a, b)
both (Err e) (Ok b) = Err e
both (Ok a) (Err Limit) = Err Limit
both (Err e) (Err Limit) = Err e

-- ---- one word

abbrev pub natural_in : ℕ → ℕ → Word → Result ℕ TokenError
natural_in low high (Bare text) = digits_in low high text
natural_in low high (Quoted text) = Err Form

-- reads the number of a register, after its letter
abbrev pub register_in : ℕ → Word → Result ℕ TokenError
register_in letter (Bare []) = Err Form
register_in letter (Bare (b ∷ rest)) = if b == letter then digits_in 0 15 rest else Err Form
register_in letter (Quoted text) = Err Form

abbrev pub number_in : Word → Result ℤ TokenError
number_in (Bare text) = signed_in text
number_in (Quoted text) = Err Form

abbrev pub literal_in : Word → Result (List ℕ) TokenError
literal_in (Bare text) = Err Form
literal_in (Quoted text) = if nat_lt 4096 (length text) then Err Limit else Ok text

abbrev pub target_in : Word → Result (Option ℕ) TokenError
target_in (Bare text) = if bytes_eq text (codes "any") then Ok None else as_is (λ n. Some n) (digits_in 0 15 text)
target_in (Quoted text) = Err Form

-- ---- names of labels

unfoldable pub name_in : List ℕ → Result (List ℕ) TokenError
name_in text = if is_name text then (if nat_lt 64 (length text) then Err Limit else Ok text) else Err Form

-- where execution continues: after `skip` instructions, or at a label; then `skip` is 0
pub record Goal : Type 0 where
  pub skip : ℕ
  pub label : Option (List ℕ)

abbrev pub further : ℕ → Goal
further skip = record { skip = skip; label = None }

abbrev pub at_label : List ℕ → Goal
at_label name = record { skip = 0; label = Some name }

abbrev pub goal_in : Word → Result Goal TokenError
goal_in (Bare []) = Err Form
goal_in (Bare (b ∷ rest)) = if b == 43 then as_is further (digits_in 0 65535 rest) else as_is at_label (name_in (b ∷ rest))
goal_in (Quoted text) = Err Form

-- ---- words of types

abbrev pub scalar_in : Word → Result Scalar TokenError
scalar_in (Bare text) = if bytes_eq text (scalar_word scalar.Int) then Ok scalar.Int else if bytes_eq text (scalar_word scalar.Text) then Ok scalar.Text else Err Form
scalar_in (Quoted text) = Err Form

-- returns the type text, unless the version is 1, which has no container with text subscripts
abbrev pub text_container : Version → Result Scalar TokenError
text_container version = if has_texts version then Ok scalar.Text else Err Form

-- reads the word of a container, as the type of its subscripts
abbrev pub container_in : Version → Word → Result Scalar TokenError
container_in version (Bare text) =
    if bytes_eq text (container_word scalar.Int) then Ok scalar.Int else
    if bytes_eq text (container_word scalar.Text) then text_container version else
    Err Form
container_in version (Quoted text) = Err Form

-- reads the word of a map, as the type of its subscripts
abbrev pub map_word_in : Word → Result Scalar TokenError
map_word_in (Bare text) =
    if bytes_eq text (map_word scalar.Int) then Ok scalar.Int else
    if bytes_eq text (map_word scalar.Text) then Ok scalar.Text else
    Err Form
map_word_in (Quoted text) = Err Form

-- the same, in a version with maps
abbrev pub map_in : Version → Word → Result Scalar TokenError
map_in version w = if has_maps version then map_word_in w else Err Form

-- returns whether it is the word of a map's sums
abbrev pub is_sum : Word → Bool
is_sum (Bare text) = bytes_eq text (sum_word scalar.Int)
is_sum (Quoted text) = false

abbrev pub mode_in : Word → Result Mode TokenError
mode_in (Bare text) =
    if bytes_eq text (mode_word Val) then Ok Val else
    if bytes_eq text (mode_word Closed) then Ok Closed else
    if bytes_eq text (mode_word Ref) then Ok Ref else
    if bytes_eq text (mode_word Write) then Ok Write else
    Err Form
mode_in (Quoted text) = Err Form
