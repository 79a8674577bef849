-- The meanings of names.
use Rattle.std.specs.Prelude.{◌==◌, ◌+◌, ◌-◌, ◌&&◌, ◌||◌, ℕ, Bool, true, false, not, List, [], ◌∷◌, ◌++◌, length, codes, Option, Some, None, is_none, nat_lt, slice_get, if◌then◌else◌}
use Rattle.std.specs.Map.{lookup}
use Rattle.std.specs.Str.{bytes_eq}
use Rattle.tw_lexer.specs.Digits.{are_digits}
use Rattle.tw_lexer.specs.Names as words
use Rattle.tw_symbols.specs.declared.meaning.Bank.{Bank}
use Rattle.tw_symbols.specs.declared.meaning.Bank.TheVariants as bank
use Rattle.tw_symbols.specs.declared.meaning.Origin.{Origin}
use Rattle.tw_symbols.specs.declared.meaning.Origin.TheVariants as origin
use Rattle.tw_symbols.specs.declared.meaning.Binding.{Binding}
use Rattle.tw_symbols.specs.declared.meaning.Binding.TheVariants as binding

-- ---- which words are names

-- returns whether a word is `v` or `d` and digits
abbrev pub is_register_word : List ℕ → Bool
is_register_word [] = false
is_register_word (b ∷ rest) = if (b == 118) || (b == 100) then are_digits rest else false

-- returns whether a word may be a name: it has the form of a label's name, at most 64 bytes, and no meaning of its own
abbrev pub is_name : List ℕ → Bool
is_name word =
    if words.is_name word then (if nat_lt 64 (length word) then false else if is_register_word word then false else not (bytes_eq word (codes "any"))) else false

-- ---- what is known at a line

-- names and their meanings
abbrev pub Table : Type 0
Table = List (List ℕ × Binding)

abbrev pub meaning : List ℕ → Table → Option Binding
meaning name table = lookup (λ other. bytes_eq name other) table

-- a procedure: the banks of its parameters, and its line
pub record Head : Type 0 where
  pub banks : List Bank
  pub line : ℕ

-- the procedures of the text, and the meanings of their names
pub record Procedures : Type 0 where
  pub table : Table
  pub heads : List Head

pub record Names : Type 0 where
  -- the constants so far, and the registers of the procedure so far
  pub constants : Table
  pub registers : Table
  -- the types that the procedure's line `regs` leaves out
  pub types : List (List ℕ)
  -- one more than the highest right register that has a name
  pub rights : ℕ
  -- how many value registers the parameters take
  pub values : ℕ
  -- the first hidden register, after those that the line `regs` lists; the types of all hidden ones; the words of the literals that fill the first
  -- of them, in their order; and how many of them are read so far
  pub first : Option ℕ
  pub hidden : List (List ℕ)
  pub literals : List (List ℕ)
  pub read : ℕ

abbrev pub no_names : Names
no_names = record { constants = []; registers = []; types = []; rights = 0; values = 0; first = None; hidden = []; literals = []; read = 0 }

abbrev pub or_else : Option Binding → Option Binding → Option Binding
or_else None other = other
or_else (Some x) other = Some x

-- returns the meaning of a name at a line
abbrev pub known : Procedures → Names → List ℕ → Option Binding
known procedures names name = or_else (meaning name names.registers) (or_else (meaning name names.constants) (meaning name procedures.table))

-- ---- one more name

-- returns nothing if there is nothing before
abbrev pub and_then : {A B : Type 0} → Option A → (A → Option B) → Option B
and_then None next = None
and_then (Some a) next = next a

-- returns whether a word may get a meaning: it is a name, and has none yet
abbrev pub may_name : Procedures → Names → List ℕ → Bool
may_name procedures names name = is_name name && is_none (known procedures names name)

abbrev pub with_constant : Procedures → Names → List ℕ → Binding → Option Names
with_constant procedures names name x = if may_name procedures names name then Some (record names { constants = names.constants ++ (name, x) ∷ [] }) else None

-- returns the count of right registers after this register got a name: at least one more than its number
abbrev pub above : Bank → ℕ → ℕ → ℕ
above bank.Value number rights = rights
above bank.Right number rights = if nat_lt number rights then rights else number + 1

abbrev pub name_register : Names → List ℕ → Bank → ℕ → Origin → Names
name_register names name in_bank number by =
    record names { registers = names.registers ++ (name, binding.Register in_bank number by) ∷ []; rights = above in_bank number names.rights }

abbrev pub with_register : Procedures → Names → List ℕ → Bank → ℕ → Origin → Option Names
with_register procedures names name in_bank number by = if may_name procedures names name && nat_lt number 16 then Some (name_register names name in_bank number by) else None

-- ---- a register that is listed has one name

abbrev pub is_bank : Bank → Bank → Bool
is_bank bank.Value bank.Value = true
is_bank bank.Right bank.Right = true
is_bank a b = false

abbrev pub is_origin : Origin → Origin → Bool
is_origin origin.Listed origin.Listed = true
is_origin origin.Chosen origin.Chosen = true
is_origin a b = false

-- returns whether a name with this meaning is that by which the register was listed or made
abbrev pub lists : Bank → ℕ → Binding → Bool
lists in_bank number (binding.Register other place by) = is_bank in_bank other && ((number == place) && is_origin by origin.Listed)
lists in_bank number x = false

-- returns whether a register has a name by which it was listed or made
abbrev pub is_listed : Bank → ℕ → Table → Bool
is_listed in_bank number [] = false
is_listed in_bank number (entry ∷ table) = lists in_bank number entry.1 || is_listed in_bank number table

abbrev pub with_listed : Procedures → Names → List ℕ → Bank → ℕ → Option Names
with_listed procedures names name in_bank number = if is_listed in_bank number names.registers then None else with_register procedures names name in_bank number origin.Listed

-- ---- hidden registers, which hold the numbers and texts among the operands of a procedure

-- returns the names after a line `regs` that lists so many registers, and in the expansion hidden ones of these types; there are none if a parameter isn't
-- listed
abbrev pub with_hidden : Names → ℕ → List (List ℕ) → Names
with_hidden names count hidden = record names { first = if nat_lt count names.values then None else Some count; hidden = hidden; literals = []; read = 0 }

abbrev pub literal_from : Option ℕ → List (List ℕ) → ℕ → Option (List ℕ)
literal_from None literals number = None
literal_from (Some first) literals number = if nat_lt number first then None else slice_get literals (number - first)

-- returns the literal that fills a value register, if it is a hidden one
abbrev pub literal_at : Names → ℕ → Option (List ℕ)
literal_at names number = literal_from names.first names.literals number

-- returns the names after the hidden register of this index is read; the first time only after all before it
abbrev pub with_read : Names → ℕ → Option Names
with_read names index = if nat_lt index names.read then Some names else if index == names.read then Some (record names { read = names.read + 1 }) else None

abbrev pub names_after_reading : Names → Option ℕ → Option ℕ → Option Names
names_after_reading names (Some first) (Some number) = with_read names (number - first)
names_after_reading names first number = None
