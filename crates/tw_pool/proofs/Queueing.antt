-- The queues along the events of a run.
use Rattle.tw_pool.proofs.Names.{ActorCounts, AreQueued, Bool, Event, List, Notice, Notices, Procedure, Queues, State, Went, [], ap, eq_by_cmp, false, is_among, is_eq, length, notice_cmp, queue_at, queues_after, queues_along, refl, replicate, same_went, server_of, suc, sym, tied_itself, true, went_first, zero, ℕ, ◌++◌, ◌||◌, ◌∙◌, ◌∷◌, ◌≡◌}
use Rattle.std.specs.FinSet as set
use Rattle.tw_types.proofs.NoticeOrder.{notice_cmp_total}
use Rattle.tw_code.specs.machine.Machine.{run, step}

-- one event more
pub queues_more : (program : List Procedure) (layout : ActorCounts) (history : List Event) (event : Event) (s t u : State) (queues : Queues) → run program layout history s ≡ Went t → step program layout event t ≡ Went u
    → queues_along program layout (history ++ event ∷ []) s queues ≡ queues_after program event t (queues_along program layout history s queues)
unfolding run
queues_more program layout [] event s t u queues e h =
    let same : s ≡ t = same_went s t e in
    let went : step program layout event s ≡ Went u = ap (step program layout event) same ∙ h in
    rw went (ap (λ (x : State). queues_after program event x queues) same)
queues_more program layout (first ∷ history) event s t u queues e h =
    let one = went_first (step program layout first s) (run program layout history) t e in
    rw one.1 (queues_more program layout history event one.0 t u (queues_after program first s queues) one.2 h)

-- ---- queues without notices

all_empty : (queues : Queues) → ((server : ℕ) → queue_at queues server ≡ []) → queues ≡ replicate (length queues) []
all_empty [] none = refl
all_empty (q ∷ queues) none = ap (λ p. p ∷ queues) (none zero) ∙ ap (λ qs. [] ∷ qs) (all_empty queues (λ server. none (suc server)))

module _ (queues : Queues) (q : AreQueued queues set.empty) (server : ℕ) where
  itself : (n : Notice) → eq_by_cmp notice_cmp n n ≡ true
  itself n = ap is_eq (tied_itself notice_cmp_total n)

  no_notice : (n : Notice) → is_among n (queue_at queues server) ≡ true → ⊥
  no_notice n has =
      let own : server_of (length queues) n.datum ≡ server = q.own server n has in
      let none : is_among n (queue_at queues server) ≡ false = ap (λ k. is_among n (queue_at queues k)) (sym own) ∙ (sym (q.all n) ∙ set.contains-empty notice_cmp n) in
      let no_way : false ≡ true = sym none ∙ has in cc

  empty_by : (queue : List Notice) → queue_at queues server ≡ queue → queue ≡ []
  empty_by [] is = refl
  empty_by (n ∷ queue) is = absurd (no_notice n (ap (is_among n) is ∙ ap (λ b. b || is_among n queue) (itself n)))

-- if the set is empty
pub none_queued : (queues : Queues) → AreQueued queues set.empty → queues ≡ replicate (length queues) []
none_queued queues q = all_empty queues (λ server. empty_by queues q server (queue_at queues server) refl)
