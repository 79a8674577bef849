-- A datum is closed in a state exactly if it is in its core machine.
use Rattle.std.proofs.Common.{◌≡◌, inl, inr, ℕ, zero, suc, Bool, ◌+◌, ◌<◌, ◌≤◌, ◌==◌, true, false, if◌then◌else◌, List, [], ◌∷◌, Option, Some, None, refl, sym, ap, subst, ◌∙◌, slice_get, arith, nat_cmp}
use Rattle.tw_determinism.proofs.MachineNames.{Actor, Arg, Closed, Content, Datum, IsHeld, IsLive, Mode, NestedScalar, Param, Procedure, Ref, RightArg, RightType, Rights, RightsFit, State, Store, Typing, Typings, Val, ValueArg, Values, Write, actor_cmp, actor_cmp-IsAntisymmetric, actor_cmp_total, balanced_some, eqb-true, frame_writes, get, hits_same, is_closed, is_sums, is_val, is_write, mapped, nat_cmp-IsAntisymmetric, nat_cmp_total, option_flatten, over, over_params, params_of, part, part-le-total, reads_of, register_is_live, remove, remove_other, right_at, right_of, rule_is_live, rule_writes, same_Some, task_is_live, task_writes, total, total-remove, typing_of, write_by, writes_of}
use Rattle.tw_types.specs.Store as store
use Rattle.tw_soundness.proofs.Registers.{emptied, found}
use Rattle.tw_determinism.proofs.Names.{Name}
use Rattle.tw_determinism.proofs.CoreEffects.{Set, Contains, Maps, Sums, Thread, Threads, Waits, Runs, Net, HasWrite, HoldsWrite, IsWritable, IsClosedPool, IsClosed, map_cell}
use Rattle.tw_determinism.proofs.CoreMachine.{IsAlone}
use Rattle.tw_determinism.proofs.Options.{some_mapped}
use Rattle.tw_determinism.proofs.Showing.{Holder, OfFrame, OfTask, OfRule, Naming, Shows, cell_of, named, named_at, named_one, rights_in, running, thread_in, waiting}

-- ---- a write right by its name is counted

-- a register that has one
record HasId (f : ℕ → Name) (typing : Typing) (ids : Rights) (k : ℕ) (d : Name) : Type 0 where
  right : RightType
  typed : right_at typing k ≡ Some right
  writes : is_write right.mode ≡ true
  id : ℕ
  at : right_at ids k ≡ Some id
  is : f id ≡ d

has_id : (f : ℕ → Name) (typing : Typing) (ids : Rights) (k : ℕ) (d : Name) → HasWrite d (right_at (named f typing ids) k) → HasId f typing ids k d
has_id f typing ids k d has = by (right_at typing k) (right_at ids k) refl refl (subst (HasWrite d) (named_at f typing ids k) has)
  where
    by : (t : Option RightType) (i : Option ℕ) → right_at typing k ≡ t → right_at ids k ≡ i → HasWrite d (named_one f t i) → HasId f typing ids k d
    by None i e g has = absurd has
    by (Some right) None e g has = absurd has
    by (Some right) (Some id) e g has = record { right = right; typed = e; writes = has.0; id = id; at = g; is = has.1 }

counted : (m : Store) (typing : Typing) (ids : Rights) (k id : ℕ) (right : RightType) → RightsFit m typing ids → right_at typing k ≡ Some right → is_write right.mode ≡ true → right_at ids k ≡ Some id → (1 ≤ over (write_by id) typing ids) × (id < m.next)
counted m typing ids k id right fit typed writes at =
    let f = found m ids typing k right fit typed in
    let same : f.id ≡ id = same_Some f.id id (sym (ap option_flatten f.register) ∙ at) in
    let split = emptied (write_by id) typing ids k right f.id refl f.typed f.register in
    let one : write_by id (Some right) (Some f.id) ≡ 1 = rw (writes, same) (hits_same id) in
    let given : f.id < m.next = f.holds.given in
    (omega arith, omega (arith, given, same))

-- an argument that is one
record HasArg (f : ℕ → Name) (params : List Param) (args : List Arg) (d : Name) : Type 0 where
  k : ℕ
  p : Param
  param : slice_get params k ≡ Some p
  writes : is_write p.mode ≡ true
  id : ℕ
  at : slice_get args k ≡ Some (RightArg id)
  is : f id ≡ d

has_arg : (f : ℕ → Name) (params : List Param) (args : List Arg) (k : ℕ) (d : Name) → HasWrite d (slice_get (rights_in f params args) k) → HasArg f params args d
has_arg f [] args k d has = absurd has
has_arg f (p ∷ params) [] k d has = absurd has
has_arg f (p ∷ params) (ValueArg x ∷ args) k d has = let h = has_arg f params args k d has in record { k = suc h.k; p = h.p; param = h.param; writes = h.writes; id = h.id; at = h.at; is = h.is }
has_arg f (p ∷ params) (RightArg id ∷ args) zero d has = record { k = 0; p = p; param = refl; writes = has.0; id = id; at = refl; is = has.1 }
has_arg f (p ∷ params) (RightArg id ∷ args) (suc k) d has = let h = has_arg f params args k d has in record { k = suc h.k; p = h.p; param = h.param; writes = h.writes; id = h.id; at = h.at; is = h.is }

no_val : (mode : Mode) → is_write mode ≡ true → is_val mode ≡ false
no_val Val e = cc
no_val Closed e = refl
no_val Ref e = refl
no_val Write e = refl

arg_counted : (params : List Param) (args : List Arg) (k : ℕ) (p : Param) (id : ℕ) → slice_get params k ≡ Some p → is_write p.mode ≡ true → slice_get args k ≡ Some (RightArg id) → 1 ≤ over_params (write_by id) params args
arg_counted [] args k p id param writes at = cc
arg_counted (q ∷ params) [] k p id param writes at = cc
arg_counted (q ∷ params) (arg ∷ args) zero p id param writes at =
    let q_is : q ≡ p = same_Some q p param in
    let arg_is : arg ≡ RightArg id = same_Some arg (RightArg id) at in
    let one : write_by id (right_of p) (Some id) ≡ 1 = rw (no_val p.mode writes, writes) (hits_same id) in
    rw (q_is, arg_is) (omega arith)
arg_counted (q ∷ params) (arg ∷ args) (suc k) p id param writes at = let rest = arg_counted params args k p id param writes at in omega arith

-- ---- closed data

unset_open : (x : Datum) → x.content ≡ store.Unset → is_closed x ≡ false
unset_open x is = by x.content is
  where
    by : (content : Content) → content ≡ store.Unset → is_closed (record x { content = content }) ≡ false
    by store.Unset is = refl
    by (store.Set v) is = cc
    by (store.Contains other) is = cc
    by (store.Maps other) is = cc

-- a container that is closed has no writes, nor a map
no_writes : (x : Datum) (members : _) → x.content ≡ store.Contains members → is_closed x ≡ true → x.writes ≡ 0
no_writes x members is closed = eqb-true x.writes 0 (by x.content is closed)
  where
    by : (content : Content) → content ≡ store.Contains members → is_closed (record x { content = content }) ≡ true → (x.writes == 0) ≡ true
    by store.Unset is closed = cc
    by (store.Set v) is closed = cc
    by (store.Maps other) is closed = cc
    by (store.Contains other) is closed = closed

no_map_writes : (x : Datum) (values : _) → x.content ≡ store.Maps values → is_closed x ≡ true → x.writes ≡ 0
no_map_writes x values is closed = eqb-true x.writes 0 (by x.content is closed)
  where
    by : (content : Content) → content ≡ store.Maps values → is_closed (record x { content = content }) ≡ true → (x.writes == 0) ≡ true
    by store.Unset is closed = cc
    by (store.Set v) is closed = cc
    by (store.Contains other) is closed = cc
    by (store.Maps other) is closed = closed

-- a map is closed, of sums or not, if nobody may write it
map_shut : (threads : Threads) (d : Name) (ty : NestedScalar) (values : Values) → IsWritable threads d → IsClosedPool threads d (map_cell ty values)
map_shut threads d ty values nobody = by (is_sums ty)
  where
    by : (b : Bool) → IsClosedPool threads d (if b then Sums values else Maps values)
    by true = nobody
    by false = nobody

pub map_unwritten : (threads : Threads) (d : Name) (ty : NestedScalar) (values : Values) → IsClosedPool threads d (map_cell ty values) → IsWritable threads d
map_unwritten threads d ty values shut = by (is_sums ty) shut
  where
    by : (b : Bool) → IsClosedPool threads d (if b then Sums values else Maps values) → IsWritable threads d
    by true h = h
    by false h = h

module _ (program : List Procedure) (typings : Typings) (s : State) (held : IsHeld program typings s) (n : Naming) (m : Net) (shows : Shows program typings n s m) where
  below : (id : ℕ) → IsLive program typings s held id → id < s.store.next
  below id live = held.types.store.fresh id live.0 live.1

  -- what one holder has of the writes of a datum
  writes_at : ℕ → Holder → ℕ
  writes_at id (OfFrame a) = part (frame_writes typings id) (get s.frames a)
  writes_at id (OfTask k) = part (task_writes program id) (get s.tasks k)
  writes_at id (OfRule k) = part (rule_writes program id) (get s.rules k)

  in_frames : (id : ℕ) (a : Actor) → part (frame_writes typings id) (get s.frames a) ≤ total (frame_writes typings id) s.frames
  in_frames id a = part-le-total actor_cmp actor_cmp_total actor_cmp-IsAntisymmetric (frame_writes typings id) s.frames a

  in_tasks : (id k : ℕ) → part (task_writes program id) (get s.tasks k) ≤ total (task_writes program id) s.tasks
  in_tasks id k = part-le-total nat_cmp nat_cmp_total nat_cmp-IsAntisymmetric (task_writes program id) s.tasks k

  in_rules : (id k : ℕ) → part (rule_writes program id) (get s.rules k) ≤ total (rule_writes program id) s.rules
  in_rules id k = part-le-total nat_cmp nat_cmp_total nat_cmp-IsAntisymmetric (rule_writes program id) s.rules k

  one_of : (id : ℕ) (h : Holder) → writes_at id h ≤ writes_of program typings s id
  unfolding writes_at
  one_of id (OfFrame a) = let l = in_frames id a in omega (arith, l)
  one_of id (OfTask k) = let l = in_tasks id k in omega (arith, l)
  one_of id (OfRule k) = let l = in_rules id k in omega (arith, l)

  -- what a running task and another holder have
  two_of : (id : ℕ) (a : Actor) (h : Holder) → (h ≡ OfFrame a → ⊥) → writes_at id (OfFrame a) + writes_at id h ≤ writes_of program typings s id
  unfolding writes_at
  two_of id a (OfTask k) apart = let l = in_frames id a in let r = in_tasks id k in omega (arith, l, r)
  two_of id a (OfRule k) apart = let l = in_frames id a in let r = in_rules id k in omega (arith, l, r)
  two_of id a (OfFrame b) apart =
      let t = total-remove actor_cmp actor_cmp_total actor_cmp-IsAntisymmetric (frame_writes typings id) s.frames a in
      let l = part-le-total actor_cmp actor_cmp_total actor_cmp-IsAntisymmetric (frame_writes typings id) (remove s.frames a) b in
      let same : part (frame_writes typings id) (get (remove s.frames a) b) ≡ part (frame_writes typings id) (get s.frames b) =
      ap (part (frame_writes typings id)) (remove_other actor_cmp actor_cmp_total actor_cmp-IsAntisymmetric s.frames a b (λ e. apart (ap OfFrame e))) in
      omega (arith, t, l, same)

  -- who has a write right on the name of a datum is counted among its writes
  counts : (id : ℕ) (h : Holder) (th : Thread) → id < s.store.next → thread_in program typings n.datum s h ≡ Some th → HoldsWrite (n.datum id) th → 1 ≤ writes_at id h
  unfolding writes_at
  counts id (OfFrame a) th given at has =
      let f = some_mapped (get s.frames a) _ th at in
      let held_by : HoldsWrite (n.datum id) (Runs (running n.datum typings f.0)) = subst (HoldsWrite (n.datum id)) (sym f.2) has in
      let h = has_id n.datum (typing_of typings f.0) f.0.rights held_by.0 (n.datum id) held_by.1 in
      let live = register_is_live program typings s held a f.0 held_by.0 h.id f.1 h.at in
      let same : h.id ≡ id = shows.cells.apart h.id id (below h.id live) given h.is in
      let c = (counted s.store (typing_of typings f.0) f.0.rights held_by.0 h.id h.right (held.types.rights a f.0 f.1) h.typed h.writes h.at).0 in
      let own : 1 ≤ frame_writes typings id f.0 = subst (λ z. 1 ≤ frame_writes typings z f.0) same c in
      subst (λ o. 1 ≤ part (frame_writes typings id) o) (sym f.1) own
  counts id (OfTask k) th given at has =
      let t = some_mapped (get s.tasks k) _ th at in
      let held_by : HoldsWrite (n.datum id) (Waits (waiting n.datum program t.0.procedure t.0.args)) = subst (HoldsWrite (n.datum id)) (sym t.2) has in
      let h = has_arg n.datum (params_of program t.0.procedure) t.0.args held_by.0 (n.datum id) held_by.1 in
      let live = task_is_live program typings s held k t.0 h.k h.id t.1 h.at in
      let same : h.id ≡ id = shows.cells.apart h.id id (below h.id live) given h.is in
      let c = arg_counted (params_of program t.0.procedure) t.0.args h.k h.p h.id h.param h.writes h.at in
      let own : 1 ≤ task_writes program id t.0 = subst (λ z. 1 ≤ task_writes program z t.0) same c in
      subst (λ o. 1 ≤ part (task_writes program id) o) (sym t.1) own
  counts id (OfRule k) th given at has =
      let t = some_mapped (get s.rules k) _ th at in
      let held_by : HoldsWrite (n.datum id) (Waits (waiting n.datum program t.0.procedure t.0.args)) = subst (HoldsWrite (n.datum id)) (sym t.2) has in
      let h = has_arg n.datum (params_of program t.0.procedure) t.0.args held_by.0 (n.datum id) held_by.1 in
      let live = rule_is_live program typings s held k t.0 h.k h.id t.1 h.at in
      let same : h.id ≡ id = shows.cells.apart h.id id (below h.id live) given h.is in
      let c = arg_counted (params_of program t.0.procedure) t.0.args h.k h.p h.id h.param h.writes h.at in
      let own : 1 ≤ rule_writes program id t.0 = subst (λ z. 1 ≤ rule_writes program z t.0) same c in
      subst (λ o. 1 ≤ part (rule_writes program id) o) (sym t.1) own

  -- a container that is closed in the state: nobody has a write right by its name
  nobody : (id : ℕ) (x : Datum) → get s.store.live id ≡ Some x → x.writes ≡ 0 → IsWritable m.threads (n.datum id)
  nobody id x live none t th at has = elim (shows.threads.all t th at) [
    | inl over ↦ subst (HoldsWrite (n.datum id)) over has
    | inr h ↦
        let some = counts id h.0 th (held.types.store.fresh id x live) h.2 has in
        let among = one_of id h.0 in
        let balance = balanced_some s.store.live (reads_of program typings s) (writes_of program typings s) id x held.counts.balanced live in
        absurd (omega (arith, some, among, balance.1, none))
  ]

  -- a running task that has the only write right may write alone
  pub alone_shown : (a : Actor) (th : Thread) (id : ℕ) (x : Datum) → get s.store.live id ≡ Some x → x.writes ≤ 1 → thread_in program typings n.datum s (OfFrame a) ≡ Some th → HoldsWrite (n.datum id) th → IsAlone m (n.holder (OfFrame a)) (n.datum id)
  alone_shown a th id x live few at has = record { cell = cell_of n.datum x.ty x.content; there = shows.cells.live id x live; nobody = nobody_else }
    where
      nobody_else : (u : Name) (ti : Thread) → (u ≡ n.holder (OfFrame a) → ⊥) → get m.threads u ≡ Some ti → HoldsWrite (n.datum id) ti → ⊥
      nobody_else u ti apart there also = elim (shows.threads.all u ti there) [
        | inl over ↦ subst (HoldsWrite (n.datum id)) over also
        | inr h ↦
            let given = held.types.store.fresh id x live in
            let one = counts id (OfFrame a) th given at has in
            let other = counts id h.0 ti given h.2 also in
            let both = two_of id a h.0 (λ same. apart (sym h.1 ∙ ap n.holder same)) in
            let balance = balanced_some s.store.live (reads_of program typings s) (writes_of program typings s) id x held.counts.balanced live in
            absurd (omega (arith, one, other, both, balance.1, few))
      ]

  pub closed_shown : (id : ℕ) (x : Datum) → get s.store.live id ≡ Some x → is_closed x ≡ true → IsClosed m (n.datum id)
  closed_shown id x live closed = by x.content refl
    where
      by : (content : Content) → x.content ≡ content → IsClosed m (n.datum id)
      by store.Unset is = let open_one : is_closed x ≡ false = unset_open x is in cc
      by (store.Set v) is = record { cell = Set v; there = subst (λ c. get m.cells (n.datum id) ≡ Some (cell_of n.datum x.ty c)) is (shows.cells.live id x live); shut = tt }
      by (store.Contains members) is = record {
        cell = Contains (mapped n.datum members);
        there = subst (λ c. get m.cells (n.datum id) ≡ Some (cell_of n.datum x.ty c)) is (shows.cells.live id x live);
        shut = nobody id x live (no_writes x members is closed);
      }
      by (store.Maps values) is = record {
        cell = map_cell x.ty values;
        there = subst (λ c. get m.cells (n.datum id) ≡ Some (cell_of n.datum x.ty c)) is (shows.cells.live id x live);
        shut = map_shut m.threads (n.datum id) x.ty values (nobody id x live (no_map_writes x values is closed));
      }
