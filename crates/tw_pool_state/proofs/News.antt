-- NEW: its requirements hold, and it is executed.
use Rattle.tw_pool_state.proofs.PartNames.{◌==◌, Completed, Context, FrameView, Held, IsAt, IsDone, IsHere, MayDo, NestedScalar, Notices, Ok, Right, Served, WrongRegister, a_read, a_write, at_next_place, bare_file, created, data_instr, eq_by_cmp, get, get-insert, get_or-set_other, id_of, insert, is_none, map-set, must_be_empty, must_then, nat_cmp, nat_cmp_total, nat_tests, new_requires, not, ok_after, right_at, right_in, same_Some, sees, with_notices, writes as typed_writes}
use Rattle.tw_rights.specs.declared.held.Held.TheVariants as held
use Rattle.tw_code.specs.declared.instr.DataInstr.TheVariants as on_data
use Rattle.std.proofs.Common.{◌≡◌, ◌⊎◌, ◌∙◌, ◌<◌, ◌+◌, ℕ, true, false, List, [], Option, None, Some, refl, sym, ap, subst, arith, inl, inr, option_map, slice_index_or, slice_set, set}
use Rattle.tw_rights.specs.Kinds.{writes}
use Rattle.tw_pool_state.proofs.Left.{same_ok}
use Rattle.tw_pool_state.proofs.Registers.{empty_at, set_own}

module _ (write read : ℕ) (ty : NestedScalar) (s : Served) (f : FrameView) (m : MayDo (on_data.New write read ty) s f) where
  asks : (is_none (right_at (bare_file f.held) write) ≡ true) × (is_none (right_at (bare_file f.held) read) ≡ true) × (not (write == read) ≡ true)
  asks = new_requires (sees s m.ns f) m.left write read ty m.goes

  pub write_empty : slice_index_or f.held write None ≡ None
  write_empty = empty_at f.held write asks.0

  pub read_empty : (x : Option Held) → slice_index_or (slice_set f.held write x) read None ≡ None
  read_empty x = get_or-set_other f.held write read x None (λ same. let t : not (write == read) ≡ true = asks.2 in grind (arith, nat_tests, t, same)) ∙ empty_at f.held read asks.1

  module _ (new : Served) (w r : Right) (id : w.id ≡ s.store.next) (same : r ≡ w) (store : new.store ≡ created s.store ty) (places : new.places ≡ insert s.places s.store.next w.place) (here : IsHere new w) (quiet : new.queues ≡ s.queues) where
    abbrev made_on : FrameView
    made_on = record f { position = at_next_place f.position; held = slice_set (slice_set f.held write (Some (held.Write w))) read (Some (held.Read r)); spent = f.spent + 1 }

    abbrev ids : List (Option ℕ)
    ids = slice_set (slice_set (bare_file f.held) write (Some s.store.next)) read (Some s.store.next)

    rights_are : bare_file made_on.held ≡ ids
    rights_are = map-set (option_map id_of) (slice_set f.held write (Some (held.Write w))) read (Some (held.Read r))
        ∙ ap (λ xs. slice_set xs read (Some r.id)) (map-set (option_map id_of) f.held write (Some (held.Write w)))
        ∙ (λ i. slice_set (slice_set (bare_file f.held) write (Some (id i))) read (Some ((ap (λ (x : Right). x.id) same ∙ id) i)))

    goes : (ns : Notices) (k : Context) → data_instr (on_data.New write read ty) (sees s ns f) ≡ Ok k → k ≡ sees new (with_notices ns []) made_on
    goes ns k e =
        let a = ok_after (must_be_empty (bare_file f.held) write) _ k e in
        let b = ok_after (must_be_empty (bare_file f.held) read) _ k a.1 in
        let d = must_then (not (write == read)) WrongRegister _ k b.1 in
        sym (same_ok _ k d.1) ∙ (λ i. record { store = sym store i; notices = ns; rights = sym rights_are i; position = at_next_place f.position })

    other : (d place : ℕ) → d < s.store.next → get s.places d ≡ Some place → get new.places d ≡ Some place
    other d place low there = ap (λ ps. get ps d) places ∙ get-insert nat_cmp_total s.places s.store.next w.place d ∙ rw apart there
      where
        apart : eq_by_cmp nat_cmp d s.store.next ≡ false
        apart = grind (arith, nat_tests, low)

    own_is : (k : ℕ) (h : Held) → slice_index_or made_on.held k None ≡ Some h → (slice_index_or f.held k None ≡ Some h) ⊎ IsAt new.places (right_in h)
    own_is k h there = elim (set_own (slice_set f.held write (Some (held.Write w))) read k (Some (held.Read r)) h there) as (λ _. (slice_index_or f.held k None ≡ Some h) ⊎ IsAt new.places (right_in h)) [
      | inl before ↦ elim (set_own f.held write k (Some (held.Write w)) h before) as (λ _. (slice_index_or f.held k None ≡ Some h) ⊎ IsAt new.places (right_in h)) [
        | inl first ↦ inl first
        | inr is ↦ inr (subst (λ (x : Held). IsAt new.places (right_in x)) (same_Some (held.Write w) h is) here)
      ]
      | inr is ↦ inr (subst (λ (x : Held). IsAt new.places (right_in x)) (same_Some (held.Read r) h is) (subst (λ (x : Right). IsAt new.places x) (sym same) here))
    ]

    made_is : IsDone (on_data.New write read ty) s new f made_on
    made_is = record {
      more = [];
      goes = goes;
      notified = inl (refl, quiet);
      made = λ ns. refl;
      stays = λ d place was now there. other d place (m.store.fresh d was.0 was.1) there;
      own = own_is;
      way = Completed;
      onwards = refl;
      kinds = λ registers typing kinds asked. map-set (option_map writes) (slice_set f.held write (Some (held.Write w))) read (Some (held.Read r))
          ∙ ap (λ ks. set ks read (Some false)) (map-set (option_map writes) f.held write (Some (held.Write w)) ∙ ap (λ ks. set ks write (Some true)) kinds ∙ sym (map-set (option_map typed_writes) typing write (a_write ty)))
          ∙ sym (map-set (option_map typed_writes) (slice_set typing write (a_write ty)) read (a_read ty));
      rest = refl;
    }

    pub made_done : (g : FrameView) → g ≡ made_on → IsDone (on_data.New write read ty) s new f g
    made_done g g_is = subst (λ (x : FrameView). IsDone (on_data.New write read ty) s new f x) (sym g_is) made_is
