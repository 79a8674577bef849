-- The first fault of an input, defined by the encodings of programs alone.
use Rattle.std.specs.Prelude.{◌≡◌, ◌<◌, ℕ, List, ◌∷◌, ◌++◌, length}
use Rattle.std.specs.List.{concat}
use Rattle.tw_binary.specs.declared.fault.FaultNo.{FaultNo}
use Rattle.tw_binary.specs.declared.fault.FaultNo.TheVariants.{Magic, Version, Missing, Limit, Unknown, Nesting, Utf8, Trailing, NoMemory}
use Rattle.tw_code.specs.format.Program.{IsVersioned, Versioned}
use Rattle.tw_binary.specs.Spelling.{Item, items_of, encoding}

-- returns the code, F01 to F09
abbrev pub fault_number : FaultNo → ℕ
fault_number Magic = 1
fault_number Version = 2
fault_number Missing = 3
fault_number Limit = 4
fault_number Unknown = 5
fault_number Nesting = 6
fault_number Utf8 = 7
fault_number Trailing = 8
fault_number NoMemory = 9

-- After `before`, which is whole items of some program's encoding, an item of this many bytes is due.
pub record IsDue (before : List ℕ) (size : ℕ) : Type 0 where
  pub program : Versioned
  pub is_program : IsVersioned program
  pub done : List Item
  pub next : Item
  pub later : List Item
  pub items : items_of program ≡ done ++ (next ∷ later)
  pub joined : concat done ≡ before
  pub size_is : length next ≡ size

-- A whole item is where one is due, and no program's encoding continues with it.
pub record IsWrongItem (bytes : List ℕ) (offset : ℕ) : Type 0 where
  pub before : List ℕ
  pub item : List ℕ
  pub after : List ℕ
  pub parts : bytes ≡ before ++ (item ++ after)
  pub offset_is : offset ≡ length before
  pub due : IsDue before (length item)
  pub stops : (other : Versioned) (rest : List ℕ) → IsVersioned other → encoding other ≡ before ++ (item ++ rest) → ⊥

-- The input ends before the item that is due is complete.
pub record IsCutOff (bytes : List ℕ) (offset : ℕ) : Type 0 where
  pub before : List ℕ
  pub part : List ℕ
  pub size : ℕ
  pub parts : bytes ≡ before ++ part
  pub offset_is : offset ≡ length bytes
  pub due : IsDue before size
  pub short : length part < size

-- Bytes follow the encoding of a program.
pub record HasMore (bytes : List ℕ) (offset : ℕ) : Type 0 where
  pub program : Versioned
  pub is_program : IsVersioned program
  pub after : List ℕ
  pub parts : bytes ≡ encoding program ++ after
  pub some : 0 < length after
  pub offset_is : offset ≡ length (encoding program)

-- holds if the bytes have such a fault at this offset
abbrev pub IsFirstFault : FaultNo → List ℕ → ℕ → Type 0
IsFirstFault Magic bytes offset = IsWrongItem bytes offset
IsFirstFault Version bytes offset = IsWrongItem bytes offset
IsFirstFault Missing bytes offset = IsCutOff bytes offset
IsFirstFault Limit bytes offset = IsWrongItem bytes offset
IsFirstFault Unknown bytes offset = IsWrongItem bytes offset
IsFirstFault Nesting bytes offset = IsWrongItem bytes offset
IsFirstFault Utf8 bytes offset = IsWrongItem bytes offset
IsFirstFault Trailing bytes offset = HasMore bytes offset
IsFirstFault NoMemory bytes offset = offset ≡ 0
