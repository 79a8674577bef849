-- An instruction on data, as a call on the parts.
use Rattle.tw_pool_state.proofs.PartNames.{Actor, ActorCounts, AreAt, AreParts, AreQueued, Call, Context, DataInstr, FrameFits, FrameView, Held, IsAt, IsDone, IsHeld, IsInstr, IsLive, IsProcedure, IsSmall, List, MayDo, None, Notices, Ok, Parts, Procedure, Right, RightsFit, Some, Succeeds, TypedProgram, Went, actor_cmp-IsAntisymmetric, actor_cmp_total, after_context, after_data, all_found, ap, arith, arrived, asked_at, bare_file, bare_frame, bare_rule, bare_task, data_instr, get, id_of, inl, inr, insert, insert_mapped, kept_by, kinds_in, length, length-set, map as each, mapped, notice_to, params_of, put_or_before, queued, queues_after, refl, right_in, sees, server_of, slice_get, slice_get_within, slice_index_or, state_of, subst, sym, typed_after, typing_at, typings_of, with_notices, with_running, ℕ, ◌+◌, ◌<◌, ◌∙◌, ◌≡◌}
use Rattle.tw_code.specs.declared.instr.Instr.TheVariants as instr
use Rattle.tw_code.specs.machine.Machine.{step}
use Rattle.tw_soundness.proofs.Live.{output_is_live, register_is_live, rule_is_live, task_is_live}
use Rattle.tw_soundness.proofs.Turning.{data_goes}
use Rattle.tw_pool_state.proofs.Arriving.{call_queues, notified_arrive}
use Rattle.tw_pool_state.proofs.Fitting.{seen}
use Rattle.tw_pool_state.proofs.Goings.{may_be_at}
use Rattle.tw_pool_state.proofs.Keeping.{all_kept, args_kept, file_kept}
use Rattle.tw_pool_state.proofs.Law.{goes_to, held}
use Rattle.tw_pool_state.proofs.Registers.{id_at, placed_at, placed_each, right_id}
use Rattle.tw_pool_state.proofs.Runners.{get_other, get_own}
use Rattle.tw_pool_state.proofs.Notifying.{notified}

module _ (verified : TypedProgram) (layout : ActorCounts) (old : Parts) (notices : Notices) (h : AreParts verified layout old notices)
    (actor : Actor) (f : FrameView) (p : Procedure) (d : DataInstr) (runs : get old.running_tasks.tasks actor ≡ Some f) (here : slice_get verified.program f.procedure ≡ Some p) (at : slice_get p.code f.position.place ≡ Some (instr.Data d)) where
  there : get (mapped bare_frame old.running_tasks.tasks) actor ≡ Some (bare_frame f)
  there = seen bare_frame old.running_tasks.tasks actor (Some f) runs

  law : IsHeld verified.program (typings_of verified) (state_of old notices)
  law = held verified layout old notices h

  can : (k : Context) × (data_instr d (sees old.store notices f) ≡ Ok k)
  can = data_goes verified.program (typings_of verified) h.runnable.is h.runnable.right (state_of old notices) law actor (bare_frame f) there p here d at

  own_code : IsProcedure p
  own_code = all_found IsProcedure verified.program f.procedure p h.runnable.is.1 here

  module _ (new : Parts) (g : FrameView) (o : IsDone d old.store new.store f g) (running_tasks : new.running_tasks.tasks ≡ insert old.running_tasks.tasks actor g) (layout_is : new.running_tasks.layout ≡ old.running_tasks.layout)
      (rules : new.rules ≡ old.rules) (tasks : new.tasks ≡ old.tasks) (next_task : new.next_task ≡ old.next_task) (outputs : new.outputs ≡ old.outputs) where
    abbrev left : Notices
    left = with_notices notices o.more

    goes : step verified.program layout (Call actor) (state_of old notices) ≡ Went (after_context (state_of old notices) actor (bare_frame f) (sees new.store left g))
    unfolding step
    goes =
        let t = there in
        let e : data_instr d (sees old.store notices f) ≡ Ok (sees new.store left g) = can.1 ∙ ap Ok (o.goes notices can.0 can.1) in
        rw (t, here, at, e) refl

    frame_is : bare_frame g ≡ record { task = f.task; procedure = f.procedure; position = g.position; rights = bare_file g.held; spent = f.spent + 1 }
    frame_is = ap bare_frame o.rest

    same_state : state_of new left ≡ after_context (state_of old notices) actor (bare_frame f) (sees new.store left g)
    same_state = λ i. record {
      store = new.store.store;
      rules = mapped bare_rule (rules i).rules;
      next_rule = (rules i).next;
      tasks = mapped bare_task (tasks i).tasks;
      next_task = next_task i;
      frames = (ap (mapped bare_frame) running_tasks ∙ insert_mapped bare_frame actor_cmp_total actor_cmp-IsAntisymmetric old.running_tasks.tasks actor g ∙ ap (insert (mapped bare_frame old.running_tasks.tasks) actor) frame_is) i;
      notices = left;
      outputs = each (λ (right : Right). right.id) (outputs i);
    }

    law_new : IsHeld verified.program (typings_of verified) (state_of new left)
    law_new = kept_by verified.program (typings_of verified) layout (Call actor) (state_of old notices) (state_of new left) h.runnable.is h.runnable.right law (goes ∙ ap Went (sym same_state))

    -- ---- notices

    some : 0 < length old.store.queues
    some = omega (arith, h.servers, h.runnable.counts.some_server)

    queues_are : AreQueued new.store.queues left × (length new.store.queues ≡ length old.store.queues)
    queues_are = elim o.notified as (λ _. AreQueued new.store.queues left × (length new.store.queues ≡ length old.store.queues)) [
      | inl none ↦ (subst (λ qs. AreQueued qs left) (sym none.1) (subst (λ more. AreQueued old.store.queues (with_notices notices more)) (sym none.0) h.queued), ap length none.1)
      | inr all ↦
          let id = all.0 in let x = all.1 in
          let q : AreQueued (queued id (each (notice_to id) x.subscribers) old.store.queues) (with_notices notices (each (notice_to id) x.subscribers)) =
          notified old.store.store.live notices (mapped bare_rule old.rules.rules) law.notices id x all.2 old.store.queues h.queued some (inside id) in (
            subst (λ qs. AreQueued qs left) (sym all.4) (subst (λ more. AreQueued (queued id more old.store.queues) (with_notices notices more)) (sym all.3) q),
            ap length all.4 ∙ length-set old.store.queues (server_of (length old.store.queues) id) _,
          )
    ]
      where
        inside : (id : ℕ) → server_of (length old.store.queues) id < length old.store.queues
        inside id = omega (arith, some)

    -- ---- rights and places

    abbrev Both : ℕ → Type 0
    Both id = IsLive old.store id × IsLive new.store id

    kept : (id place : ℕ) → Both id → get old.store.places id ≡ Some place → get new.store.places id ≡ Some place
    kept id place live was = o.stays id place live.0 live.1 was

    own : FrameFits verified new.store.places actor g
    own = record {
      program = ap (λ (n : FrameView). n.program) o.rest ∙ (h.rights_fit.frames actor f runs).program;
      own = ap (λ (n : FrameView). n.actor) o.rest ∙ (h.rights_fit.frames actor f runs).own;
      placed = placed_each new.store.places g.held each_is;
      kinds = o.kinds p.registers (typing_at (typings_of verified) f.procedure f.position.place) (h.rights_fit.frames actor f runs).kinds
          (asked_at verified.program (typings_of verified) h.runnable.is h.runnable.right f.procedure p here f.position.place (instr.Data d) at) ∙ ap kinds_in (sym typing_is);
    }
      where
        new_there : get (mapped bare_frame new.running_tasks.tasks) actor ≡ Some (bare_frame g)
        new_there = seen bare_frame new.running_tasks.tasks actor (Some g) (ap (λ m. get m actor) running_tasks ∙ get_own old.running_tasks.tasks actor g)

        each_is : (k : ℕ) (x : Held) → slice_index_or g.held k None ≡ Some x → IsAt new.store.places (right_in x)
        each_is k x now = elim (o.own k x now) as (λ _. IsAt new.store.places (right_in x)) [
          | inl before ↦
              let old_live = register_is_live verified.program (typings_of verified) (state_of old notices) law actor (bare_frame f) k (id_of x) there (id_at f.held k x before) in
              let new_live = register_is_live verified.program (typings_of verified) (state_of new left) law_new actor (bare_frame g) k (id_of x) new_there (id_at g.held k x now) in
              kept (right_in x).id (right_in x).place (subst Both (sym (right_id x)) (old_live, new_live)) (placed_at old.store.places f.held k x (h.rights_fit.frames actor f runs).placed before)
          | inr is_at ↦ is_at
        ]

        typing_is : typing_at (typings_of verified) g.procedure g.position.place ≡ after_data o.way d (typing_at (typings_of verified) f.procedure f.position.place)
        typing_is = ap (λ (n : FrameView). typing_at (typings_of verified) n.procedure g.position.place) o.rest
            ∙ (typed_after verified.program (typings_of verified) h.runnable.is h.runnable.right f.procedure p here f.position.place g.position.place (instr.Data d) o.way at o.onwards).1

    fit_is : RightsFit verified new.store.places new.running_tasks.tasks new.tasks.tasks new.rules.rules new.outputs
    fit_is = record {
      frames = λ a x is. elim (put_or_before actor_cmp_total actor_cmp-IsAntisymmetric old.running_tasks.tasks actor g a x (ap (λ m. get m a) (sym running_tasks) ∙ is)) as (λ _. FrameFits verified new.store.places a x) [
        | inl same ↦ subst (λ b. FrameFits verified new.store.places b x) (sym same.0) (subst (FrameFits verified new.store.places actor) same.1 own)
        | inr before ↦ record {
          program = (h.rights_fit.frames a x before).program;
          own = (h.rights_fit.frames a x before).own;
          placed = file_kept old.store.places new.store.places Both kept x.held (λ k id in_it. (
            register_is_live verified.program (typings_of verified) (state_of old notices) law a (bare_frame x) k id (seen bare_frame old.running_tasks.tasks a (Some x) before) in_it,
            register_is_live verified.program (typings_of verified) (state_of new left) law_new a (bare_frame x) k id (seen bare_frame new.running_tasks.tasks a (Some x) is) in_it,
          )) (h.rights_fit.frames a x before).placed;
          kinds = (h.rights_fit.frames a x before).kinds;
        }
      ];
      tasks = λ n t is.
          let before = ap (λ (ts : _). get ts.tasks n) (sym tasks) ∙ is in
          args_kept old.store.places new.store.places Both kept (params_of verified.program t.procedure) t.args (λ k id in_it. (
            task_is_live verified.program (typings_of verified) (state_of old notices) law n (bare_task t) k id (seen bare_task old.tasks.tasks n (Some t) before) in_it,
            task_is_live verified.program (typings_of verified) (state_of new left) law_new n (bare_task t) k id (seen bare_task new.tasks.tasks n (Some t) is) in_it,
          )) (h.rights_fit.tasks n t before);
      rules = λ n r is.
          let before = ap (λ (rs : _). get rs.rules n) (sym rules) ∙ is in
          args_kept old.store.places new.store.places Both kept (params_of verified.program r.procedure) r.args (λ k id in_it. (
            rule_is_live verified.program (typings_of verified) (state_of old notices) law n (bare_rule r) k id (seen bare_rule old.rules.rules n (Some r) before) in_it,
            rule_is_live verified.program (typings_of verified) (state_of new left) law_new n (bare_rule r) k id (seen bare_rule new.rules.rules n (Some r) is) in_it,
          )) (h.rights_fit.rules n r before);
      outputs = subst (λ rs. AreAt new.store.places rs) (sym outputs) (all_kept old.store.places new.store.places Both kept old.outputs (λ k id in_it. (
        output_is_live verified.program (typings_of verified) (state_of old notices) law k id in_it,
        output_is_live verified.program (typings_of verified) (state_of new left) law_new k id (ap (λ (rs : List Right). slice_get (each (λ (right : Right). right.id) rs) k) outputs ∙ in_it),
      )) h.rights_fit.outputs);
    }

    queues_now : new.store.queues ≡ queues_after verified.program (Call actor) (state_of old notices) old.store.queues
    queues_now = notified_arrive old.store new.store o.more o.notified ∙ (ap (λ ns. arrived ns old.store.queues) (o.made notices)
        ∙ sym (call_queues verified.program (state_of old notices) actor (bare_frame f) p (instr.Data d) old.store.queues there here at))

    pub called : Succeeds verified layout (Call actor) old notices new
    called = goes_to verified layout old notices h (Call actor) new left _ goes same_state queues_are.0 (queues_are.1 ∙ h.servers) queues_now layout_is fit_is
        (λ other apart. ap (λ m. get m other) running_tasks ∙ get_other old.running_tasks.tasks actor g other apart)

  pub may_do : IsSmall (state_of old notices) → MayDo d old.store f
  may_do small = record {
    ns = notices;
    left = can.0;
    goes = can.1;
    instr = all_found IsInstr p.code f.position.place (instr.Data d) own_code.code.1 at;
    placed = (h.rights_fit.frames actor f runs).placed;
    typed = record {
      registers = p.registers;
      typing = typing_at (typings_of verified) f.procedure f.position.place;
      kinds = (h.rights_fit.frames actor f runs).kinds;
      asked = asked_at verified.program (typings_of verified) h.runnable.is h.runnable.right f.procedure p here f.position.place (instr.Data d) at;
    };
    store = law.types.store;
    room = record {
      next = small.numbers.datum;
      reads = small.reads;
      writes = small.writes;
      members = small.members;
      place = let inside = slice_get_within p.code f.position.place (instr.Data d) at in let few = own_code.code.0.1 in omega (arith, inside, few);
      spent = small.spent actor (bare_frame f) there;
    };
    fits_place = λ store g o.
        let new : Parts = record old { store = store; running_tasks = with_running old.running_tasks actor g } in
        let c = called new g o refl refl refl refl refl refl in
        may_be_at verified layout new c.left c.parts actor g (get_own old.running_tasks.tasks actor g);
  }
