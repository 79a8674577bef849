-- Calls on the procedures of a loaded program: kinds, parameters, names, and the actors that the program needs.
use Rattle.std.specs.Prelude.{◌≡◌, ◌⊎◌, ◌∷◌, if◌then◌else◌}
use Rattle.tw_handles.specs.Names.{[], ℕ, List, IsUtf8, length, slice_get, Option, Some, None, MatchOption, option_and_then, option_map_or, Procedure, depth_of, element_of, is_container, is_container_by, map_by, NestedScalar, TypedProgram}
use Rattle.tw_code.specs.accepting.Needs.{needed}
use Rattle.tw_symbols.specs.Symbols.{AreNames, name_at}
use Rattle.tw_types.specs.declared.actor.Kind.{Kind}
use Rattle.tw_types.specs.declared.actor.Kind.TheVariants.{Control, Leaf}
use Rattle.tw_types.specs.declared.data_type.Scalar.TheVariants as scalar
use Rattle.tw_types.specs.declared.param.Mode.{Mode}
use Rattle.tw_types.specs.declared.param.Mode.TheVariants.{Val, Closed, Ref, Write}
use Rattle.tw_types.specs.declared.param.Param.{Param}
use Rattle.tw_handles.specs.Asking.{Fails}
use Rattle.tw_handles.specs.Codes.{done, no_index, no_utf8}
use Rattle.tw_handles.specs.Numbers.{filled}
use Rattle.tw_handles.specs.Reading.{leaf_letter, letter_of}
use Rattle.tw_handles.specs.Texts.{IsTextMade}
use Rattle.tw_handles.specs.declared.held.Held.{Held}

-- returns c or l
abbrev pub kind_letter : Kind → ℕ
kind_letter Control = 99
kind_letter Leaf = 108

-- returns the number of parameters, and the kind
abbrev pub section_of : Procedure → List ℕ
section_of p = length p.params ∷ kind_letter p.kind ∷ []

-- holds if this is the procedure with this index, or there is none
abbrev pub IsSectionIn : TypedProgram → ℕ → List ℕ → List ℕ → ℕ → Type 0
IsSectionIn verified procedure old new code =
    MatchOption (slice_get verified.program procedure) (Fails no_index old new code) (λ p. (new ≡ filled (section_of p) old) × (code ≡ done))

-- returns v, c, r or w
abbrev pub mode_letter : Mode → ℕ
mode_letter Val = 118
mode_letter Closed = 99
mode_letter Ref = 114
mode_letter Write = 119

-- returns the letter of a container's subscripts, or 0 for a scalar or a map
abbrev pub by_of : NestedScalar → ℕ
by_of ty = if is_container ty then (if is_container_by scalar.Text ty then 116 else 105) else 0

-- returns the letter of the subscripts of the map inside all containers, or 0 if there is none
abbrev pub map_letter : NestedScalar → ℕ
map_letter ty = option_map_or letter_of (map_by ty) 0

abbrev pub by_inside : Option NestedScalar → ℕ
by_inside None = 0
by_inside (Some ty) = by_of ty

abbrev pub members_of : Option NestedScalar → Option NestedScalar
members_of ty = option_and_then element_of ty

-- returns the mode, the number of containers around the scalar or map, the letter of the scalar or of the map's values, those of the subscripts of the
-- containers, outermost first, and that of the map's
abbrev pub parameter_of : Param → List ℕ
parameter_of p =
    mode_letter p.mode ∷ depth_of p.ty ∷ leaf_letter p.ty ∷ by_of p.ty ∷ by_inside (element_of p.ty) ∷ by_inside (members_of (element_of p.ty))
    ∷ map_letter p.ty ∷ []

abbrev pub parameter_at : TypedProgram → ℕ → ℕ → Option Param
parameter_at verified procedure index = option_and_then (λ (p : Procedure). slice_get p.params index) (slice_get verified.program procedure)

abbrev pub IsParameterIn : TypedProgram → ℕ → ℕ → List ℕ → List ℕ → ℕ → Type 0
IsParameterIn verified procedure index old new code =
    MatchOption (parameter_at verified procedure index) (Fails no_index old new code) (λ p. (new ≡ filled (parameter_of p) old) × (code ≡ done))

-- returns how many engines and workers a run needs
abbrev pub needs_of : TypedProgram → List ℕ
needs_of verified = needed Control verified.program ∷ needed Leaf verified.program ∷ []

-- holds for the name that a text gives the procedure of this number, empty if it gives none
abbrev pub IsNameIn : List ℕ → ℕ → List ℕ → Type 0
IsNameIn source procedure name = (names : List (List ℕ)) × AreNames source names × (name ≡ name_at names procedure)

abbrev pub IsNameRead : List ℕ → ℕ → Option Held → Option Held → ℕ → Type 0
IsNameRead source procedure old new code =
    (IsUtf8 source × IsTextMade (IsNameIn source procedure) old new code) ⊎ ((IsUtf8 source → ⊥) × Fails no_utf8 old new code)
