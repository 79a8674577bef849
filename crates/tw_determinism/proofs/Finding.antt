-- The outputs of a state are a part of those of another whose core machine is later, if they have the same names.
use Rattle.std.proofs.Common.{◌≡◌, ℕ, ◌≤◌, Bool, true, false, if◌then◌else◌, List, [], ◌∷◌, Option, Some, None, refl, sym, ap, subst, ◌∙◌, slice_get, arith, nat_cmp}
use Rattle.tw_determinism.proofs.MachineNames.{Content, Datum, Ending, IsHeld, Members, NestedScalar, Procedure, State, Subscript, Typings, Values, balanced_none, ending, entries_mapped, entry_by, found_inside, get, get-empty, get_mapped, inside, is_closed, is_sums, map as each, mapped, member_at, members_in, nat_cmp-IsAntisymmetric, nat_cmp_total, option_and_then, option_map, output_is_live, part, part-le-total, reads_of, same_Some, subscripts_in, value_cmp, writes_of}
use Rattle.std.specs.FinMap as fin
use Rattle.tw_types.specs.Store as store
use Rattle.tw_determinism.specs.Found.{Nothing, Single, Members as Subscripts, Entries, Sums as Added, ArePartOf, IsFoundAlso, IsPartOf, Look, SameOutputs, at_path, found, look_of, shown}
use Rattle.tw_determinism.proofs.Names.{Name}
use Rattle.tw_determinism.proofs.CoreEffects.{Cell, Unset, Set, Contains, Maps, Sums, IsClosed, Net}
use Rattle.tw_determinism.proofs.Closing.{closed_shown}
use Rattle.tw_determinism.proofs.Later.{IsLater, IsWithin, later_itself}
use Rattle.tw_determinism.proofs.Options.{some_first, some_mapped}
use Rattle.tw_determinism.proofs.Quieting.{closed_back}
use Rattle.tw_determinism.proofs.Showing.{Naming, Shows, cell_of}

-- ---- contents by names

keys_each : (f : ℕ → Name) (es : List (Subscript × ℕ)) → each (λ e. e.0) (each (entry_by f) es) ≡ each (λ e. e.0) es
keys_each f [] = refl
keys_each f (e ∷ es) = ap (λ ks. e.0 ∷ ks) (keys_each f es)

keys_by : (f : ℕ → Name) (members : Members) → fin.keys (mapped f members) ≡ fin.keys members
keys_by f members = ap (each (λ e. e.0)) (entries_mapped f members) ∙ keys_each f (fin.entries members)

abbrev is_a_map : Cell → Bool
is_a_map Unset = false
is_a_map (Set x) = false
is_a_map (Contains members) = false
is_a_map (Maps values) = true
is_a_map (Sums values) = true

-- what shows of a content by names
abbrev keys_in : Cell → List Subscript
keys_in Unset = []
keys_in (Set x) = []
keys_in (Contains members) = fin.keys members
keys_in (Maps values) = []
keys_in (Sums values) = []

-- by types that are maps of sums or not
maps_shown : (a b : Bool) (x y : Values) → (if a then Sums x else Maps x) ≡ (if b then Sums y else Maps y) → (if a then Added x else Entries x) ≡ (if b then Added y else Entries y)
maps_shown true true x y e = let same : x ≡ y = cc in ap Added same
maps_shown true false x y e = cc
maps_shown false true x y e = cc
maps_shown false false x y e = let same : x ≡ y = cc in ap Entries same

no_map : (c : Cell) → is_a_map c ≡ false → (a : Bool) (x : Values) → (if a then Sums x else Maps x) ≡ c → ⊥
no_map c none true x e = let z : true ≡ false = ap is_a_map e ∙ none in cc
no_map c none false x e = let z : true ≡ false = ap is_a_map e ∙ none in cc

same_shown : (f g : ℕ → Name) (a b : NestedScalar) (c d : Content) → cell_of f a c ≡ cell_of g b d → shown a c ≡ shown b d
same_shown f g a b store.Unset store.Unset e = refl
same_shown f g a b store.Unset (store.Set y) e = cc
same_shown f g a b store.Unset (store.Contains y) e = cc
same_shown f g a b store.Unset (store.Maps y) e = absurd (no_map Unset refl (is_sums b) y (sym e))
same_shown f g a b (store.Set x) store.Unset e = cc
same_shown f g a b (store.Set x) (store.Set y) e = let same : x ≡ y = cc in ap Single same
same_shown f g a b (store.Set x) (store.Contains y) e = cc
same_shown f g a b (store.Set x) (store.Maps y) e = absurd (no_map (Set x) refl (is_sums b) y (sym e))
same_shown f g a b (store.Contains x) store.Unset e = cc
same_shown f g a b (store.Contains x) (store.Set y) e = cc
same_shown f g a b (store.Contains x) (store.Contains y) e = ap Subscripts (sym (keys_by f x) ∙ ap keys_in e ∙ keys_by g y)
same_shown f g a b (store.Contains x) (store.Maps y) e = absurd (no_map (Contains (mapped f x)) refl (is_sums b) y (sym e))
same_shown f g a b (store.Maps x) store.Unset e = absurd (no_map Unset refl (is_sums a) x e)
same_shown f g a b (store.Maps x) (store.Set y) e = absurd (no_map (Set y) refl (is_sums a) x e)
same_shown f g a b (store.Maps x) (store.Contains y) e = absurd (no_map (Contains (mapped g y)) refl (is_sums a) x e)
same_shown f g a b (store.Maps x) (store.Maps y) e = maps_shown (is_sums a) (is_sums b) x y e

part_shown : (f g : ℕ → Name) (a b : NestedScalar) (c d : Content) → IsWithin (cell_of f a c) (cell_of g b d) → IsPartOf (shown a c) (shown b d)
part_shown f g a b store.Unset store.Unset h = tt
part_shown f g a b store.Unset (store.Set y) h = tt
part_shown f g a b store.Unset (store.Contains y) h = absurd h
part_shown f g a b store.Unset (store.Maps y) h = no (is_sums b) h
  where
    no : (b : Bool) → IsWithin Unset (if b then Sums y else Maps y) → IsPartOf Nothing (if b then Added y else Entries y)
    no true h = absurd h
    no false h = absurd h
part_shown f g a b (store.Set x) store.Unset h = cc
part_shown f g a b (store.Set x) (store.Set y) h = let same : y ≡ x = cc in ap Single same
part_shown f g a b (store.Set x) (store.Contains y) h = cc
part_shown f g a b (store.Set x) (store.Maps y) h = absurd (no_map (Set x) refl (is_sums b) y h)
part_shown f g a b (store.Contains x) store.Unset h = absurd h
part_shown f g a b (store.Contains x) (store.Set y) h = absurd h
part_shown f g a b (store.Contains x) (store.Contains y) h = tt
part_shown f g a b (store.Contains x) (store.Maps y) h = no (is_sums b) h
  where
    no : (b : Bool) → IsWithin (Contains (mapped f x)) (if b then Sums y else Maps y) → IsPartOf (Subscripts (fin.keys x)) (if b then Added y else Entries y)
    no true h = absurd h
    no false h = absurd h
part_shown f g a b (store.Maps x) store.Unset h = no (is_sums a) h
  where
    no : (a : Bool) → IsWithin (if a then Sums x else Maps x) Unset → IsPartOf (if a then Added x else Entries x) Nothing
    no true h = absurd h
    no false h = absurd h
part_shown f g a b (store.Maps x) (store.Set y) h = no (is_sums a) h
  where
    no : (a : Bool) → IsWithin (if a then Sums x else Maps x) (Set y) → IsPartOf (if a then Added x else Entries x) (Single y)
    no true h = absurd h
    no false h = absurd h
part_shown f g a b (store.Maps x) (store.Contains y) h = no (is_sums a) h
  where
    no : (a : Bool) → IsWithin (if a then Sums x else Maps x) (Contains (mapped g y)) → IsPartOf (if a then Added x else Entries x) (Subscripts (fin.keys y))
    no true h = absurd h
    no false h = absurd h
part_shown f g a b (store.Maps x) (store.Maps y) h = both (is_sums a) (is_sums b) h
  where
    both : (a b : Bool) → IsWithin (if a then Sums x else Maps x) (if b then Sums y else Maps y) → IsPartOf (if a then Added x else Entries x) (if b then Added y else Entries y)
    both true true h = h
    both true false h = absurd h
    both false true h = absurd h
    both false false h = h

-- a member, by names: where there is one, there is one in all that has the content
member_within : (f g : ℕ → Name) (a b : NestedScalar) (c d : Content) (at : Subscript) (i : ℕ) → get (members_in c) at ≡ Some i → IsWithin (cell_of f a c) (cell_of g b d) → (j : ℕ) × (get (members_in d) at ≡ Some j) × (f i ≡ g j)
member_within f g a b store.Unset d at i is h = let none : None ≡ Some i = sym (get-empty value_cmp at) ∙ is in cc
member_within f g a b (store.Set x) d at i is h = let none : None ≡ Some i = sym (get-empty value_cmp at) ∙ is in cc
member_within f g a b (store.Maps x) d at i is h = let none : None ≡ Some i = sym (get-empty value_cmp at) ∙ is in cc
member_within f g a b (store.Contains x) store.Unset at i is h = absurd h
member_within f g a b (store.Contains x) (store.Set y) at i is h = absurd h
member_within f g a b (store.Contains x) (store.Maps y) at i is h = no (is_sums b) h
  where
    no : (b : Bool) → IsWithin (Contains (mapped f x)) (if b then Sums y else Maps y) → (j : ℕ) × (get (members_in (store.Maps y)) at ≡ Some j) × (f i ≡ g j)
    no true h = absurd h
    no false h = absurd h
member_within f g a b (store.Contains x) (store.Contains y) at i is h =
    let there : get (mapped g y) at ≡ Some (f i) = h at (f i) (get_mapped f x at ∙ ap (option_map f) is) in
    let j = some_mapped (get y at) g (f i) (sym (get_mapped g y at) ∙ there) in
    (j.0, j.1, sym j.2)

-- ---- members are live

module _ (program : List Procedure) (typings : Typings) (s : State) (held : IsHeld program typings s) where
  pub member_is_live : (id : ℕ) (x : Datum) (at : Subscript) (d : ℕ) → get s.store.live id ≡ Some x → get (members_in x.content) at ≡ Some d → (y : Datum) × (get s.store.live d ≡ Some y)
  member_is_live id x at d live is = by (get s.store.live d) refl
    where
      by : (o : Option Datum) → get s.store.live d ≡ o → (y : Datum) × (get s.store.live d ≡ Some y)
      by None e =
          let some = found_inside x at d is in
          let l : subscripts_in d x ≤ inside s.store.live d = subst (λ o. part (subscripts_in d) o ≤ inside s.store.live d) live (part-le-total nat_cmp nat_cmp_total nat_cmp-IsAntisymmetric (subscripts_in d) s.store.live id) in
          let none = balanced_none s.store.live (reads_of program typings s) (writes_of program typings s) d held.counts.balanced e in
          absurd (omega (arith, none.0))
      by (Some y) e = (y, e)

-- ---- two states

module _ (program : List Procedure) (typings : Typings) (t s : State) (held_first : IsHeld program typings t) (held : IsHeld program typings s) (o n : Naming) (l m : Net)
    (shows_first : Shows program typings o t l) (shows : Shows program typings n s m) (later : IsLater l m) where
  -- the content of the datum of one name
  within : (i j : ℕ) (x y : Datum) → o.datum i ≡ n.datum j → get t.store.live i ≡ Some x → get s.store.live j ≡ Some y → IsWithin (cell_of o.datum x.ty x.content) (cell_of n.datum y.ty y.content)
  within i j x y same first second =
      let a = later.cells (o.datum i) (cell_of o.datum x.ty x.content) (shows_first.cells.live i x first) in
      let b : get m.cells (o.datum i) ≡ Some (cell_of n.datum y.ty y.content) = ap (get m.cells) same ∙ shows.cells.live j y second in
      subst (IsWithin (cell_of o.datum x.ty x.content)) (same_Some a.0 (cell_of n.datum y.ty y.content) (sym a.1 ∙ b)) a.2

  record Leads (d : ℕ) (path : List Subscript) (j : ℕ) : Type 0 where
    id : ℕ
    at : at_path s.store path j ≡ Some id
    same : o.datum d ≡ n.datum id
    y : Datum
    live : get s.store.live id ≡ Some y

  leads : (path : List Subscript) (i j d : ℕ) (y : Datum) → o.datum i ≡ n.datum j → get s.store.live j ≡ Some y → at_path t.store path i ≡ Some d → Leads d path j
  leads [] i j d y same live at = record { id = j; at = refl; same = ap o.datum (sym (same_Some i d at)) ∙ same; y = y; live = live }
  leads (k ∷ path) i j d y same live at =
      let a = some_first (member_at t.store i k) (at_path t.store path) d at in
      let b = some_first (get t.store.live i) (λ x. get (members_in x.content) k) a.0 a.1 in
      let c = member_within o.datum n.datum b.0.ty y.ty b.0.content y.content k a.0 b.2 (within i j b.0 y same b.1 live) in
      let z = member_is_live program typings s held j y k c.0 live c.1 in
      let rest = leads path a.0 c.0 d z.0 c.2 z.1 a.2 in
      let here : member_at s.store j k ≡ Some c.0 = ap (option_and_then (λ (x : Datum). get (members_in x.content) k)) live ∙ c.1 in
      record { id = rest.id; at = ap (option_and_then (at_path s.store path)) here ∙ rest.at; same = rest.same; y = rest.y; live = rest.live }

  module _ (end : Ending) (ends : ending s ≡ Some end) where
    -- closed in the first, so the same in the second
    whole : (d id : ℕ) (x y : Datum) → o.datum d ≡ n.datum id → get t.store.live d ≡ Some x → get s.store.live id ≡ Some y → is_closed x ≡ true → look_of y ≡ look_of x
    whole d id x y same first second closed =
        let c = closed_shown program typings t held_first o l shows_first d x first closed in
        let b = later.closed (o.datum d) c in
        let x_is : c.cell ≡ cell_of o.datum x.ty x.content = same_Some c.cell _ (sym c.there ∙ shows_first.cells.live d x first) in
        let y_is : b.0.cell ≡ cell_of n.datum y.ty y.content = same_Some b.0.cell _ (sym b.0.there ∙ ap (get m.cells) same ∙ shows.cells.live id y second) in
        let shut = closed_back program typings s held end ends n m shows id y second (subst (IsClosed m) same b.0) in
        let content : shown y.ty y.content ≡ shown x.ty x.content = same_shown n.datum o.datum y.ty x.ty y.content x.content (sym y_is ∙ b.1 ∙ x_is) in
        ap (λ c. record (look_of y) { content = c }) content ∙ ap (λ z. record { content = shown x.ty x.content; closed = z }) (shut ∙ sym closed)

    found_also : (path : List Subscript) (i j : ℕ) (y : Datum) (look : Look) → o.datum i ≡ n.datum j → get s.store.live j ≡ Some y → found t.store path i ≡ Some look → IsFoundAlso look (found s.store path j)
    found_also path i j y look same live is =
        let a = some_first (at_path t.store path i) (λ d. option_map look_of (get t.store.live d)) look is in
        let b = some_mapped (get t.store.live a.0) look_of look a.2 in
        let c = leads path i j a.0 y same live a.1 in
        record {
          other = look_of c.y;
          there = ap (option_and_then (λ d. option_map look_of (get s.store.live d))) c.at ∙ ap (option_map look_of) c.live;
          part = subst (λ (z : Look). IsPartOf z.content (shown c.y.ty c.y.content)) b.2 (part_shown o.datum n.datum b.0.ty c.y.ty b.0.content c.y.content (within a.0 c.id b.0 c.y c.same b.1 c.live));
          whole = λ closed. whole a.0 c.id b.0 c.y c.same b.1 c.live (ap (λ (z : Look). z.closed) b.2 ∙ closed) ∙ b.2;
        }

    pub parts_found : t.outputs ≡ s.outputs → ((k id : ℕ) → slice_get s.outputs k ≡ Some id → o.datum id ≡ n.datum id) → ArePartOf t s
    parts_found outputs names k path look is =
        let a = some_first (slice_get t.outputs k) (found t.store path) look is in
        let at : slice_get s.outputs k ≡ Some a.0 = ap (λ z. slice_get z k) (sym outputs) ∙ a.1 in
        let live = output_is_live program typings s held k a.0 at in
        let f = found_also path a.0 a.0 live.0 look (names k a.0 at) live.1 a.2 in
        subst (IsFoundAlso look) (sym (ap (option_and_then (found s.store path)) at)) f

-- ---- two states that have ended with one core machine

module _ (program : List Procedure) (typings : Typings) (t s : State) (held_first : IsHeld program typings t) (held : IsHeld program typings s) (o n : Naming) (m : Net)
    (shows_first : Shows program typings o t m) (shows : Shows program typings n s m) (end_first end : Ending) (ends_first : ending t ≡ Some end_first) (ends : ending s ≡ Some end) where
  -- closed in both or in none
  same_look : (d id : ℕ) (x y : Datum) → o.datum d ≡ n.datum id → get t.store.live d ≡ Some x → get s.store.live id ≡ Some y → look_of x ≡ look_of y
  same_look d id x y same first second = by (is_closed x) refl (is_closed y) refl
    where
      content : shown x.ty x.content ≡ shown y.ty y.content
      content = same_shown o.datum n.datum x.ty y.ty x.content y.content (same_Some _ _ (sym (shows_first.cells.live d x first) ∙ ap (get m.cells) same ∙ shows.cells.live id y second))

      by : (b : Bool) → is_closed x ≡ b → (c : Bool) → is_closed y ≡ c → look_of x ≡ look_of y
      by true e c f = sym (whole program typings t s held_first held o n m m shows_first shows (later_itself m) end ends d id x y same first second e)
      by false e true f = whole program typings s t held held_first n o m m shows shows_first (later_itself m) end_first ends_first id d y x (sym same) second first f
      by false e false f = ap (λ c. record { content = c; closed = is_closed x }) content ∙ ap (λ z. record { content = shown y.ty y.content; closed = z }) (e ∙ sym f)

  same_at : (path : List Subscript) (i j : ℕ) (y : Datum) (look : Look) → o.datum i ≡ n.datum j → get s.store.live j ≡ Some y → found t.store path i ≡ Some look → found s.store path j ≡ Some look
  same_at path i j y look same live is =
      let a = some_first (at_path t.store path i) (λ d. option_map look_of (get t.store.live d)) look is in
      let b = some_mapped (get t.store.live a.0) look_of look a.2 in
      let c = leads program typings t s held_first held o n m m shows_first shows (later_itself m) path i j a.0 y same live a.1 in
      ap (option_and_then (λ d. option_map look_of (get s.store.live d))) c.at ∙ ap (option_map look_of) c.live ∙ ap Some (sym (same_look a.0 c.id b.0 c.y c.same b.1 c.live) ∙ b.2)

module _ (program : List Procedure) (typings : Typings) (t s : State) (held_first : IsHeld program typings t) (held : IsHeld program typings s) (o n : Naming) (m : Net)
    (shows_first : Shows program typings o t m) (shows : Shows program typings n s m) (end_first end : Ending) (ends_first : ending t ≡ Some end_first) (ends : ending s ≡ Some end) where
  pub same_found : t.outputs ≡ s.outputs → ((k id : ℕ) → slice_get s.outputs k ≡ Some id → o.datum id ≡ n.datum id) → SameOutputs t s
  same_found outputs names k path = ap (λ z. option_and_then (found t.store path) (slice_get z k)) outputs ∙ by (slice_get s.outputs k) refl
    where
      by : (r : Option ℕ) → slice_get s.outputs k ≡ r → option_and_then (found t.store path) r ≡ option_and_then (found s.store path) r
      by None e = refl
      by (Some id) e = both (found t.store path id) (found s.store path id)
          (λ look is. same_at program typings t s held_first held o n m shows_first shows end_first end ends_first ends path id id live.0 look (names k id e) live.1 is)
          (λ look is. same_at program typings s t held held_first n o m shows shows_first end end_first ends ends_first path id id live_first.0 look (sym (names k id e)) live_first.1 is)
        where
          live : (y : Datum) × (get s.store.live id ≡ Some y)
          live = output_is_live program typings s held k id e

          live_first : (y : Datum) × (get t.store.live id ≡ Some y)
          live_first = output_is_live program typings t held_first k id (ap (λ z. slice_get z k) outputs ∙ e)

          both : (p q : Option Look) → ((look : Look) → p ≡ Some look → q ≡ Some look) → ((look : Look) → q ≡ Some look → p ≡ Some look) → p ≡ q
          both None None f g = refl
          both (Some x) q f g = sym (f x refl)
          both None (Some x) f g = g x refl
