use Rattle.std.proofs.Common.{◌∙◌, sym, ap, refl, IsSome, subst, ◌≡◌, ℕ}
use Rattle.tw_pool_state.proofs.PartNames.{IsAskOfOpen, IsAsking, IsAt, Ready, Right, Waiting, closed_by, get, same_Some, state_of}
use Rattle.std.specs.declared.alloc.AllocError.{AllocError}
use Rattle.std.specs.declared.result.Result.TheVariants.{Ok}
use Rattle.tw_pool_state.proofs.Staging.{right_is, reads, stage_is, unsettled, closed_leads, open_leads, asks, asks_open}
use Rattle.tw_pool_state.proofs.parts.Parts.ask.Goals as goal

pub asked_right-right-requires : goal.asked_right-right-requires
asked_right-right-requires c =
    let p = c.requires.parts in
    subst IsSome (sym (right_is p.0 p.1 c.args.self.now p.2 p.3 c.args.engine c.in-Some.next.0 c.in-Some.next.1 (sym c.in-Some.ensures.ask))) refl

pub ask-requires : goal.ask-requires
ask-requires c =
    let p = c.requires.parts in
    let r = reads p.0 p.1 c.args.self.now p.2 p.3 c.args.engine c.in-Some.next.0 c.in-Some.next.1 (sym c.in-Some.ensures.ask) in
    let same = same_Some _ _ (sym (right_is p.0 p.1 c.args.self.now p.2 p.3 c.args.engine c.in-Some.next.0 c.in-Some.next.1 (sym c.in-Some.ensures.ask)) ∙ c.asked_right-right.ensures) in
    subst (IsAt c.args.self.now.store.places) same r.here

pub mark_ready-requires : goal.mark_ready-requires
mark_ready-requires c =
    let p = c.requires.parts in
    unsettled p.0 p.1 c.args.self.now p.2 p.3 c.args.engine c.in-Some.next.0 c.in-Some.next.1 (sym c.in-Some.ensures.ask)

pub mark_asked-requires : goal.mark_asked-requires
mark_asked-requires c =
    let p = c.requires.parts in
    stage_is p.0 p.1 c.args.self.now p.2 p.3 c.args.engine c.in-Some.next.0 c.in-Some.next.1 (sym c.in-Some.ensures.ask)

pub returns-in-Closed-clause-asked : goal.returns-in-Closed-clause-asked
returns-in-Closed-clause-asked c = (
  sym c.in-Some.ensures.ask,
  λ verified layout notices h.
      let old = c.args.self.now in
      let notified = subst (λ a. IsAsking {E = AllocError} old.store c.asked_right-right.result.now.id (record { rule = c.in-Some.next.0; parameter = c.in-Some.next.1 }) (Ok a) c.ask.new.self) c.in-Closed.is c.in-Ok.ensures in
      let same : (reads verified layout old notices h c.args.engine c.in-Some.next.0 c.in-Some.next.1 (sym c.in-Some.ensures.ask)).right ≡ c.asked_right-right.result.now = same_Some _ _ (sym (right_is verified layout old notices h c.args.engine c.in-Some.next.0 c.in-Some.next.1 (sym c.in-Some.ensures.ask)) ∙ c.asked_right-right.ensures) in
      let same_id = ap (λ (r : Right). r.id) same in
      asks verified layout old notices h c.args.engine c.in-Some.next.0 c.in-Some.next.1 (sym c.in-Some.ensures.ask) c.requires.free _ Ready old.store.store
      (closed_leads verified layout old notices h c.args.engine c.in-Some.next.0 c.in-Some.next.1 (sym c.in-Some.ensures.ask) c.requires.free (rw same_id notified.0))
      notified.1.store notified.1.places notified.1.queues
      c.mark_ready.ensures.rules c.mark_ready.ensures.next refl refl refl refl,
)

pub returns-in-Noted-clause-asked : goal.returns-in-Noted-clause-asked
returns-in-Noted-clause-asked c = (
  sym c.in-Some.ensures.ask,
  λ verified layout notices h.
      let old = c.args.self.now in
      let notified = subst (λ a. IsAsking {E = AllocError} old.store c.asked_right-right.result.now.id (record { rule = c.in-Some.next.0; parameter = c.in-Some.next.1 }) (Ok a) c.ask.new.self) c.in-Noted.is c.in-Ok.ensures in
      let same : (reads verified layout old notices h c.args.engine c.in-Some.next.0 c.in-Some.next.1 (sym c.in-Some.ensures.ask)).right ≡ c.asked_right-right.result.now = same_Some _ _ (sym (right_is verified layout old notices h c.args.engine c.in-Some.next.0 c.in-Some.next.1 (sym c.in-Some.ensures.ask)) ∙ c.asked_right-right.ensures) in
      let same_id = ap (λ (r : Right). r.id) same in
      asks verified layout old notices h c.args.engine c.in-Some.next.0 c.in-Some.next.1 (sym c.in-Some.ensures.ask) c.requires.free _ Waiting _
      (open_leads verified layout old notices h c.args.engine c.in-Some.next.0 c.in-Some.next.1 (sym c.in-Some.ensures.ask) c.requires.free (rw same_id notified.0))
      (rw same_id notified.1.store) notified.1.places notified.1.queues
      c.mark_asked.ensures.rules c.mark_asked.ensures.next refl refl refl refl,
)

pub returns-in_default-ask-clause-memory : goal.returns-in_default-ask-clause-memory
returns-in_default-ask-clause-memory c = λ q notices due.
    let old = c.args.self.now in
    let p = c.requires.parts in
    let own = sym c.in-Some.ensures.ask in
    let same : (reads p.0 p.1 old p.2 p.3 c.args.engine c.in-Some.next.0 c.in-Some.next.1 own).right ≡ c.asked_right-right.result.now =
    same_Some _ _ (sym (right_is p.0 p.1 old p.2 p.3 c.args.engine c.in-Some.next.0 c.in-Some.next.1 own) ∙ c.asked_right-right.ensures) in
    subst (λ (next : ℕ × ℕ). IsAskOfOpen (state_of old notices) next.0 next.1) (same_Some _ q (sym own ∙ due))
    (asks_open p.0 p.1 old p.2 p.3 c.args.engine c.in-Some.next.0 c.in-Some.next.1 own (ap (λ (r : Right). closed_by (get old.store.store.live r.id)) same ∙ c.in_default-ask.ensures.0) notices)
