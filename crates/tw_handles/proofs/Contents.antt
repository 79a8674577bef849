-- Facts about what a container or a map has at its subscripts.
use Rattle.tw_handles.proofs.Names.{Contains, Content, FinalView, Maps, Set, Unset, [], ap, at_member, at_value, count_in, entries, false, has_entries, len-entries, length, length-map, members_in, option_map, refl, shown_of, slice_get, slice_get-map, sym, ℕ, ◌∙◌, ◌≡◌}
use Rattle.std.proofs.Common.{map as each}
use Rattle.tw_datum.proofs.Members.{no_entries}

module _ (final : FinalView) where
  none_shown : [] ≡ each (at_member final) (entries (members_in Unset))
  none_shown = ap (each (at_member final)) (sym no_entries)

  members_shown : (content : Content) → has_entries content ≡ false → shown_of final content ≡ each (at_member final) (entries (members_in content))
  members_shown Unset is = none_shown
  members_shown (Set v) is = none_shown
  members_shown (Contains members) is = refl
  members_shown (Maps values) is = cc

  pub member_shown_at : (content : Content) (place : ℕ) → has_entries content ≡ false → slice_get (shown_of final content) place ≡ option_map (at_member final) (slice_get (entries (members_in content)) place)
  member_shown_at content place is = ap (λ es. slice_get es place) (members_shown content is) ∙ slice_get-map (at_member final) (entries (members_in content)) place

  pub count_shown : (content : Content) → length (shown_of final content) ≡ count_in content
  count_shown Unset = refl
  count_shown (Set v) = refl
  count_shown (Contains members) = length-map (entries members) (at_member final) ∙ sym (len-entries members)
  count_shown (Maps values) = length-map (entries values) at_value ∙ sym (len-entries values)
