-- Containers that are to be inputs, and calls on them.
use Rattle.std.specs.Prelude.{◌≡◌, ◌⊎◌, ◌++◌, ◌∷◌, ◌==◌, if◌then◌else◌}
use Rattle.tw_handles.specs.Names.{[], ℕ, List, IsUtf8, Option, Some, None, MatchOption, Result, Ok, Err, Input}
use Rattle.tw_types.specs.declared.input.Input.TheVariants as input
use Rattle.tw_handles.specs.Asking.{Fails}
use Rattle.tw_handles.specs.Codes.{done, no_container, no_inputs, no_memory, no_utf8}
use Rattle.tw_handles.specs.Loading.{inputs_in}
use Rattle.tw_handles.specs.declared.container.Container as container
use Rattle.tw_handles.specs.declared.container.Container.TheVariants.{Ints, Texts, IntsByText, TextsByText}
use Rattle.tw_handles.specs.declared.container.NewMember.{NewMember}
use Rattle.tw_handles.specs.declared.container.NewMember.TheVariants as member
use Rattle.tw_handles.specs.declared.held.Held.{Held}
use Rattle.tw_handles.specs.declared.held.Held.TheVariants.{Container}

-- the input that it is to be
abbrev pub input_of : container.Container → Input
input_of (Ints members) = input.Ints members.items
input_of (Texts members) = input.Texts members.items
input_of (IntsByText members) = input.IntsByText members.items
input_of (TextsByText members) = input.TextsByText members.items

-- 116 is the letter t
abbrev pub empty_by : ℕ → ℕ → Input
empty_by by scalar =
    if by == 116 then (if scalar == 116 then input.TextsByText [] else input.IntsByText []) else
    (if scalar == 116 then input.Texts [] else input.Ints [])

-- the container of a handle, as an input
abbrev pub container_in : Option Held → Option Input
container_in (Some (Container members)) = Some (input_of members)
container_in held = None

-- the handle holds this container, or an allocation failed
abbrev pub IsBegun : Input → Option Held → Option Held → ℕ → Type 0
IsBegun given old new code = ((container_in new ≡ Some given) × (code ≡ done)) ⊎ Fails no_memory old new code

-- the container with a member at its end, if that has its types
abbrev pub with_member : NewMember → Input → Option Input
with_member (member.Int subscript number) (input.Ints members) = Some (input.Ints (members ++ (subscript, number) ∷ []))
with_member (member.Text subscript value) (input.Texts members) = Some (input.Texts (members ++ (subscript, value) ∷ []))
with_member (member.IntByText subscript number) (input.IntsByText members) = Some (input.IntsByText (members ++ (subscript, number) ∷ []))
with_member (member.TextByText subscript value) (input.TextsByText members) = Some (input.TextsByText (members ++ (subscript, value) ∷ []))
with_member added given = None

-- an item at the end of a list, or the list as it was
abbrev pub IsPut : {T : Type 0} → T → List T → List T → ℕ → Type 0
IsPut item old new code = ((new ≡ old ++ item ∷ []) × (code ≡ done)) ⊎ ((new ≡ old) × (code ≡ no_memory))

-- the container with a member more, if its types are these; an allocation that fails leaves its members
abbrev pub IsLonger : (Input → Option Input) → Option Input → Option Input → ℕ → Type 0
IsLonger with_member None new code = (new ≡ None) × (code ≡ no_container)
IsLonger with_member (Some before) new code =
    MatchOption (with_member before) ((new ≡ Some before) × (code ≡ no_container)) (λ after. ((new ≡ Some after) × (code ≡ done)) ⊎ ((new ≡ Some before) × (code ≡ no_memory)))

abbrev pub IsMemberAdded : NewMember → Option Held → Option Held → ℕ → Type 0
IsMemberAdded added old new code = IsLonger (with_member added) (container_in old) (container_in new) code

-- bytes as a text: they are UTF-8, and their copy may lack memory
abbrev pub IsTextOf : List ℕ → Result (List ℕ) ℕ → Type 0
IsTextOf bytes (Ok text) = IsUtf8 bytes × (text ≡ bytes)
IsTextOf bytes (Err code) = (IsUtf8 bytes × (code ≡ no_memory)) ⊎ ((IsUtf8 bytes → ⊥) × (code ≡ no_utf8))

-- what holds with the text; or it is none
abbrev pub WithText : List ℕ → Type 0 → Option Held → Option Held → ℕ → Type 0
WithText bytes Then old new code = (IsUtf8 bytes × (Then ⊎ Fails no_memory old new code)) ⊎ ((IsUtf8 bytes → ⊥) × Fails no_utf8 old new code)

-- the types stay, without members
abbrev pub emptied : Input → Input
emptied (input.Ints members) = input.Ints []
emptied (input.Texts members) = input.Texts []
emptied (input.IntsByText members) = input.IntsByText []
emptied (input.TextsByText members) = input.TextsByText []
emptied given = given

-- the container's members are an input more, and the container is empty; or an allocation failed, and inputs and members are as they were
abbrev pub AreMovedAfter : Input → List Input → Option Held → Option Input → ℕ → Type 0
AreMovedAfter given before new after code =
    ((inputs_in new ≡ Some (before ++ given ∷ [])) × (after ≡ Some (emptied given)) × (code ≡ done)) ⊎ ((inputs_in new ≡ Some before) × (after ≡ Some given) × (code ≡ no_memory))

abbrev pub IsMoved : Input → Option Held → Option Held → Option Input → ℕ → Type 0
IsMoved given old new after code =
    MatchOption (inputs_in old) (Fails no_inputs old new code × (after ≡ Some given)) (λ before. AreMovedAfter given before new after code)

abbrev pub IsContainerAdded : Option Input → Option Input → Option Held → Option Held → ℕ → Type 0
IsContainerAdded given after old new code = MatchOption given (Fails no_container old new code × (after ≡ None)) (λ members. IsMoved members old new after code)
