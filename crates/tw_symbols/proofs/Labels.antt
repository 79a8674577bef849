-- A label is no instruction's name.
use Rattle.tw_symbols.proofs.TextNames.{Bool, List, None, Opcode, Option, Some, [], ap, before_colon, bytes_eq, bytes_eq-Decides, cond, false, find, opcode_in, refl, sym, true, ℕ, ◌∙◌, ◌∷◌, ◌≡◌}
use Rattle.tw_code.specs.declared.opcode.Opcode.TheVariants as op
use Rattle.tw_code.specs.declared.version.Version.{Version}
use Rattle.tw_code.specs.declared.opcode.TheConstants.{OPCODES}
use Rattle.tw_code.specs.format.Table.{if_had, opcode_of, word_of}

no_colon : (o : Opcode) → before_colon (word_of o) ≡ None
no_colon op.Int = refl
no_colon o = refl

module _ (word name : List ℕ) (label : before_colon word ≡ Some name) where
  differ : ◌≡◌ {A = Option (List ℕ)} None (Some name) → ⊥
  differ e = cc

  none_among : (all : List Opcode) → find (λ o. bytes_eq (word_of o) word) all ≡ None
  none_among [] = refl
  none_among (o ∷ others) = by (bytes_eq (word_of o) word) refl (none_among others)
    where
      by : (t : Bool) → bytes_eq (word_of o) word ≡ t → find (λ o. bytes_eq (word_of o) word) others ≡ None → cond t (Some o) (find (λ o. bytes_eq (word_of o) word) others) ≡ None
      by true is none = absurd (differ (sym (no_colon o) ∙ ap before_colon ((bytes_eq-Decides (word_of o) word).0 is) ∙ label))
      by false is none = none

  pub label_unnamed : (version : Version) → None ≡ opcode_in version word
  unfolding opcode_of
  label_unnamed version = sym (ap (if_had version) (none_among OPCODES))
