-- The effects of an instruction, by what changed in the right registers: one was emptied, one was filled, or none changed.
use Rattle.tw_pool_state.proofs.PartNames.{AllYes, AreNotified, Cause, Completed, Context, DataInstr, Datum, FrameView, Held, IsAt, IsDone, IsLeft, IsLive, Notice, Notices, Ok, Position, Result, Scalar, Served, Typing, after_data, at_next_place, bare_file, data_instr, get, id_of, is_closed, kinds_in, map-set, notice_to, notices_after, notices_made, notices_of, queued, requires_data, right_in, same_Some, sees, with_notices, writes as typed_writes}
use Rattle.tw_pool_state.proofs.Registers.{set_own}
use Rattle.std.proofs.Common.{map as each, ◌≡◌, ◌⊎◌, ◌+◌, ◌∙◌, ℕ, zero, suc, Bool, true, false, if◌then◌else◌, List, [], ◌∷◌, ◌++◌, Some, None, refl, sym, ap, subst, slice_index_or, slice_set, set, option_map, inl, inr, append-nil}
use Rattle.tw_rights.specs.Kinds.{kinds_of, writes}
use Rattle.tw_code.specs.declared.flow.Way.{Way}
use Rattle.tw_code.specs.accepting.Flow.{data_flow, onward}

pub same_ok : (a b : Context) → ◌≡◌ {A = Result Context Cause} (Ok a) (Ok b) → a ≡ b
same_ok a b e = cc

-- ---- the three ways

module _ (d : DataInstr) (old new : Served) (f : FrameView) (more : List Notice) (notified : AreNotified old new more)
    (stays : (id place : ℕ) → IsLive old id → IsLive new id → get old.places id ≡ Some place → get new.places id ≡ Some place) (made : (ns : Notices) → more ≡ notices_made d (sees old ns f)) where
  module _ (register : ℕ) (goes : (ns : Notices) (k : Context) → data_instr d (sees old ns f) ≡ Ok k
      → k ≡ record { store = new.store; notices = with_notices ns more; rights = slice_set (bare_file f.held) register None; position = at_next_place f.position })
      (onwards : onward Completed f.position.place (data_flow d) ≡ Some (f.position.place + 1)) (empties : (typing : Typing) → after_data Completed d typing ≡ slice_set typing register None) where
    abbrev pub emptied : FrameView
    emptied = record f { position = at_next_place f.position; held = slice_set f.held register None; spent = f.spent + 1 }

    emptied_is : IsDone d old new f emptied
    emptied_is = record {
      more = more;
      goes = λ ns k e. goes ns k e ∙ (λ i. record { store = new.store; notices = with_notices ns more; rights = sym (map-set (option_map id_of) f.held register None) i; position = at_next_place f.position });
      notified = notified;
      made = made;
      stays = stays;
      own = λ k h there. elim (set_own f.held register k None h there) as (λ _. (slice_index_or f.held k None ≡ Some h) ⊎ IsAt new.places (right_in h)) [
        | inl before ↦ inl before
        | inr wrong ↦ cc
      ];
      way = Completed;
      onwards = onwards;
      kinds = λ registers typing kinds asked. map-set (option_map writes) f.held register None ∙ ap (λ ks. set ks register None) kinds ∙ sym (map-set (option_map typed_writes) typing register None) ∙ ap kinds_in (sym (empties typing));
      rest = refl;
    }

    pub emptied_done : (g : FrameView) → g ≡ emptied → IsDone d old new f g
    emptied_done g g_is = subst (λ (n : FrameView). IsDone d old new f n) (sym g_is) emptied_is

  module _ (register : ℕ) (h : Held) (at : IsAt new.places (right_in h)) (goes : (ns : Notices) (k : Context) → data_instr d (sees old ns f) ≡ Ok k
      → k ≡ record { store = new.store; notices = with_notices ns more; rights = slice_set (bare_file f.held) register (Some (id_of h)); position = at_next_place f.position })
      (onwards : onward Completed f.position.place (data_flow d) ≡ Some (f.position.place + 1))
      (fills : (registers : List Scalar) (typing : Typing) → kinds_of f.held ≡ kinds_in typing → AllYes (requires_data registers d typing) → kinds_in (after_data Completed d typing) ≡ slice_set (kinds_in typing) register (Some (writes h))) where
    abbrev pub filled : FrameView
    filled = record f { position = at_next_place f.position; held = slice_set f.held register (Some h); spent = f.spent + 1 }

    filled_is : IsDone d old new f filled
    filled_is = record {
      more = more;
      goes = λ ns k e. goes ns k e ∙ (λ i. record { store = new.store; notices = with_notices ns more; rights = sym (map-set (option_map id_of) f.held register (Some h)) i; position = at_next_place f.position });
      notified = notified;
      made = made;
      stays = stays;
      own = λ k x there. elim (set_own f.held register k (Some h) x there) as (λ _. (slice_index_or f.held k None ≡ Some x) ⊎ IsAt new.places (right_in x)) [
        | inl before ↦ inl before
        | inr is ↦ inr (subst (λ (y : Held). IsAt new.places (right_in y)) (same_Some h x is) at)
      ];
      way = Completed;
      onwards = onwards;
      kinds = λ registers typing kinds asked. map-set (option_map writes) f.held register (Some h) ∙ ap (λ ks. set ks register (Some (writes h))) kinds ∙ sym (fills registers typing kinds asked);
      rest = refl;
    }

    pub filled_done : (g : FrameView) → g ≡ filled → IsDone d old new f g
    filled_done g g_is = subst (λ (n : FrameView). IsDone d old new f n) (sym g_is) filled_is

  module _ (way : Way) (at : Position) (goes : (ns : Notices) (k : Context) → data_instr d (sees old ns f) ≡ Ok k
      → k ≡ record { store = new.store; notices = with_notices ns more; rights = bare_file f.held; position = at })
      (onwards : onward way f.position.place (data_flow d) ≡ Some at.place) (keeps : (typing : Typing) → after_data way d typing ≡ typing) where
    abbrev pub moved : FrameView
    moved = record f { position = at; spent = f.spent + 1 }

    moved_is : IsDone d old new f moved
    moved_is = record {
      more = more;
      goes = goes;
      notified = notified;
      made = made;
      stays = stays;
      own = λ k h there. inl there;
      way = way;
      onwards = onwards;
      kinds = λ registers typing kinds asked. kinds ∙ ap kinds_in (sym (keeps typing));
      rest = refl;
    }

    pub moved_done : (g : FrameView) → g ≡ moved → IsDone d old new f g
    moved_done g g_is = subst (λ (n : FrameView). IsDone d old new f n) (sym g_is) moved_is

-- ---- notices

pub queued_none : (queues : List (List Notice)) (k : ℕ) → slice_set queues k (slice_index_or queues k [] ++ []) ≡ queues
queued_none [] k = refl
queued_none (q ∷ queues) zero = ap (λ p. p ∷ queues) (append-nil q)
queued_none (q ∷ queues) (suc k) = ap (λ qs. q ∷ qs) (queued_none queues k)

module _ (old new : Served) (id : ℕ) (change : Datum → Datum) (left : IsLeft old new id change) (x : Datum) (live : get old.store.live id ≡ Some x) (same : (change x).subscribers ≡ x.subscribers) where
  notified_is : notices_after old.store id change ≡ notices_of id (change x)
  notified_is = rw live refl

  pub left_notified : AreNotified old new (notices_after old.store id change)
  left_notified = by (is_closed (change x)) refl
    where
      by : (b : Bool) → is_closed (change x) ≡ b → AreNotified old new (notices_after old.store id change)
      by true e =
          let named : notices_of id (change x) ≡ each (notice_to id) x.subscribers = ap (λ b. if b then each (notice_to id) (change x).subscribers else []) e ∙ ap (each (notice_to id)) same in
          inr (id, x, live, notified_is ∙ named, left.queues)
      by false e =
          let none : notices_of id (change x) ≡ [] = ap (λ b. if b then each (notice_to id) (change x).subscribers else []) e in
          inl (notified_is ∙ none, left.queues ∙ ap (λ ns. queued id ns old.queues) (notified_is ∙ none) ∙ queued_none old.queues _)

-- if nothing is freed, all data keep their places
pub now_stays : (old new : Served) → new.places ≡ old.places → (id place : ℕ) → IsLive old id → IsLive new id → get old.places id ≡ Some place → get new.places id ≡ Some place
now_stays old new same id place was now there = ap (λ ps. get ps id) same ∙ there

pub left_stays : (old new : Served) (id : ℕ) (change : Datum → Datum) → IsLeft old new id change → (d place : ℕ) → IsLive old d → IsLive new d → get old.places d ≡ Some place → get new.places d ≡ Some place
left_stays old new id change left d place was now there = left.places.stays d now.0 now.1 ∙ there
