-- The opening shows a core machine in which main waits, with each datum by its id alone. No datum has two write rights.
use Rattle.std.proofs.Common.{◌≡◌, inl, inr, ℕ, zero, suc, ◌+◌, ◌<◌, ◌≤◌, Bool, true, false, List, [], ◌∷◌, Option, Some, None, refl, sym, ap, subst, ◌∙◌, arith, nat_cmp, slice_get, drop, fold, if◌then◌else◌}
use Rattle.tw_determinism.proofs.MachineNames.{Datum, Frame, Input, IsHeld, NestedScalar, Param, Procedure, Rule, Store, Subscript, Task, Typings, Value, actor_cmp, added, cases_eq, container_of, data_insert_other, data_insert_same, empty, empty_store, get, get-empty, insert, insert_other, insert_same, is_write, nat_cmp-IsAntisymmetric, nat_cmp_total, new_datum, option_map, part, put_or_before, same_Some, scalar_type, total, total-empty, total-insert}
use Rattle.tw_code.specs.machine.Opening.{Opened, added_given, closed_map, closed_scalar, main_params, main_task, nothing_opened, numbered, opened, opening, opening_of, with_given, with_output}
use Rattle.tw_types.specs.Given.{Given, Single, Container, Entries, given_for}
use Rattle.tw_types.specs.Store as store
use Rattle.tw_determinism.proofs.Names.{Name, name_cmp, name_cmp-same, name_cmp_total}
use Rattle.tw_determinism.proofs.CoreEffects.{Cell, Unset, Cells, Threads, Thread, Waits, Waiting, Net}
use Rattle.tw_determinism.proofs.CoreMachine.{IsMade, WasMade}
use Rattle.tw_determinism.proofs.Options.{some_mapped}
use Rattle.tw_determinism.proofs.Showing.{Holder, OfFrame, OfTask, OfRule, Naming, Shows, ShowsThreads, alive, cell_of, one, thread_in, waiting}

abbrev pub first_name : ℕ → Name
first_name id = id ∷ []

-- ---- data

-- a cell for each id in use
abbrev pub cell_at_id : Option Datum → Cell
cell_at_id None = Unset
cell_at_id (Some x) = cell_of first_name x.ty x.content

pub cells_below : Store → ℕ → Cells
cells_below s zero = empty
cells_below s (suc n) = insert (cells_below s n) (first_name n) (cell_at_id (get s.live n))

other_name : (i j : ℕ) → (i ≡ j → ⊥) → first_name i ≡ first_name j → ⊥
other_name i j apart e = let same : i ≡ j = cc in apart same

cell_there : (s : Store) (n id : ℕ) → id < n → get (cells_below s n) (first_name id) ≡ Some (cell_at_id (get s.live id))
unfolding cells_below
cell_there s zero id less = absurd (omega arith)
cell_there s (suc n) id less = elim (cases_eq id n) [
  | inl same ↦ ap (λ k. get (insert (cells_below s n) (first_name n) (cell_at_id (get s.live n))) (first_name k)) same ∙ insert_same name_cmp name_cmp_total (cells_below s n) (first_name n) (cell_at_id (get s.live n)) ∙ ap (λ k. Some (cell_at_id (get s.live k))) (sym same)
  | inr other ↦ insert_other name_cmp name_cmp_total name_cmp-same (cells_below s n) (first_name n) (cell_at_id (get s.live n)) (first_name id) (other_name id n other) ∙ cell_there s n id (omega arith)
]

cell_named : (s : Store) (n : ℕ) (t : Name) (c : Cell) → get (cells_below s n) t ≡ Some c → (id : ℕ) × (t ≡ first_name id)
unfolding cells_below
cell_named s zero t c at = let none : None ≡ Some c = sym (get-empty name_cmp t) ∙ at in cc
cell_named s (suc n) t c at = elim (put_or_before name_cmp_total name_cmp-same (cells_below s n) (first_name n) (cell_at_id (get s.live n)) t c at) [
  | inl new ↦ (n, new.0)
  | inr old ↦ cell_named s n t c old
]

-- ---- no datum has two write rights

abbrev HasFew : Store → Type 0
HasFew s = (id : ℕ) (x : Datum) → get s.live id ≡ Some x → x.writes ≤ 1

added_few : (s : Store) (x : Datum) → x.writes ≤ 1 → HasFew s → HasFew (added s x)
added_few s x one few id y at = elim (cases_eq id s.next) [
  | inl same ↦
      let y_is : x ≡ y = same_Some x y (sym (data_insert_same s.live s.next x) ∙ subst (λ k. get (insert s.live s.next x) k ≡ Some y) same at) in
      subst (λ (z : Datum). z.writes ≤ 1) y_is one
  | inr other ↦ few id y (sym (data_insert_other s.live s.next x id other) ∙ at)
]

members_few : (s : Store) (es : List (Subscript × Value)) → HasFew s → HasFew (fold (λ t e. added t (closed_scalar e.1)) s es)
members_few s [] few = few
members_few s (e ∷ es) few = members_few (added s (closed_scalar e.1)) es (added_few s (closed_scalar e.1) (omega arith) few)

given_few : (s : Store) (g : Given) → HasFew s → HasFew (added_given s g)
given_few s (Single x) few = added_few s (closed_scalar x) (omega arith) few
given_few s (Container by scalar es) few =
    let x : Datum = record { ty = container_of by (scalar_type scalar); content = store.Contains (numbered (s.next + 1) es); reads = 1; writes = 0; subscribers = [] } in
    members_few (added s x) es (added_few s x (omega arith) few)
given_few s (Entries sums by scalar es) few = added_few s (closed_map sums by scalar es) (omega arith) few

input_few : (o : Opened) (ty : NestedScalar) (i : Option Input) → HasFew o.store → HasFew (with_given o ty i).store
input_few o ty None few = few
input_few o ty (Some i) few = given_few o.store (given_for ty i) few

opened_few : (o : Opened) (params : List Param) (inputs : List Input) → HasFew o.store → HasFew (opened o params inputs).store
opened_few o [] inputs few = few
opened_few o (p ∷ params) inputs few =
    by (is_write p.mode) (opened_few (with_output o p.ty) params inputs (added_few o.store (new_datum p.ty) (omega arith) few)) (opened_few (with_given o p.ty (slice_get inputs 0)) params (drop 1 inputs) (input_few o p.ty (slice_get inputs 0) few))
  where
    by : (b : Bool) → HasFew (opened (with_output o p.ty) params inputs).store → HasFew (opened (with_given o p.ty (slice_get inputs 0)) params (drop 1 inputs)).store
        → HasFew (if b then opened (with_output o p.ty) params inputs else opened (with_given o p.ty (slice_get inputs 0)) params (drop 1 inputs)).store
    by true h k = h
    by false h k = k

-- ---- one task

-- the task is the only one
one_task : (t : Task) (k : ℕ) (u : Task) → get (insert (empty {X = Task} {R = nat_cmp}) 1 t) k ≡ Some u → (k ≡ 1) × (t ≡ u)
one_task t k u at = elim (put_or_before nat_cmp_total nat_cmp-IsAntisymmetric (empty {X = Task} {R = nat_cmp}) 1 t k u at) [
  | inl new ↦ new
  | inr old ↦ let none : None ≡ Some u = sym (get-empty nat_cmp k) ∙ old in cc
]

one_alive : (w : Waiting) → total alive (insert (empty {X = Thread} {R = name_cmp}) (first_name 0) (Waits w)) ≡ 1
one_alive w =
    let h : total alive (insert (empty {X = Thread} {R = name_cmp}) (first_name 0) (Waits w)) + part alive None ≡ total alive (empty {X = Thread} {R = name_cmp}) + 1 =
    subst (λ o. total alive (insert (empty {X = Thread} {R = name_cmp}) (first_name 0) (Waits w)) + part alive o ≡ total alive (empty {X = Thread} {R = name_cmp}) + 1) (get-empty name_cmp (first_name 0))
    (total-insert name_cmp name_cmp_total alive (empty {X = Thread} {R = name_cmp}) (first_name 0) (Waits w)) in
    let z : total alive (empty {X = Thread} {R = name_cmp}) ≡ 0 = total-empty name_cmp alive in
    omega arith

one_waits : (g : Task → ℕ) (t : Task) → total g (insert (empty {X = Task} {R = nat_cmp}) 1 t) ≡ g t
one_waits g t =
    let h : total g (insert (empty {X = Task} {R = nat_cmp}) 1 t) + part g None ≡ total g (empty {X = Task} {R = nat_cmp}) + g t =
    subst (λ o. total g (insert (empty {X = Task} {R = nat_cmp}) 1 t) + part g o ≡ total g (empty {X = Task} {R = nat_cmp}) + g t) (get-empty nat_cmp 1)
    (total-insert nat_cmp nat_cmp_total g (empty {X = Task} {R = nat_cmp}) 1 t) in
    let z : total g (empty {X = Task} {R = nat_cmp}) ≡ 0 = total-empty nat_cmp g in
    omega arith

module _ (program : List Procedure) (typings : Typings) (start : Bool) (o : Opened) where
  abbrev pub names : Naming
  names = record { datum = first_name; holder = λ h. first_name 0; copied = λ id. start; start = start }

  abbrev pub main_waits : Waiting
  main_waits = waiting first_name program 0 (main_task o.rights).args

  abbrev pub net : Net
  net = record { cells = cells_below o.store o.store.next; threads = insert empty (first_name 0) (Waits main_waits); shared = λ d. start }

  only_main : (h : Holder) (th : Thread) → thread_in program typings first_name (opening_of o) h ≡ Some th → (h ≡ OfTask 1) × (Waits main_waits ≡ th)
  only_main (OfFrame a) th at = let f = some_mapped (get empty a) _ th at in let none : None ≡ Some f.0 = sym (get-empty actor_cmp a) ∙ f.1 in cc
  only_main (OfRule k) th at = let f = some_mapped (get empty k) _ th at in let none : None ≡ Some f.0 = sym (get-empty nat_cmp k) ∙ f.1 in cc
  only_main (OfTask k) th at =
      let f = some_mapped (get (insert empty 1 (main_task o.rights)) k) (λ (task : Task). Waits (waiting first_name program task.procedure task.args)) th at in
      let x = one_task (main_task o.rights) k f.0 f.1 in
      (ap OfTask x.0, ap (λ (task : Task). Waits (waiting first_name program task.procedure task.args)) x.1 ∙ f.2)

  main_there : thread_in program typings first_name (opening_of o) (OfTask 1) ≡ Some (Waits main_waits)
  main_there = ap (option_map (λ (task : Task). Waits (waiting first_name program task.procedure task.args))) (insert_same nat_cmp nat_cmp_total empty 1 (main_task o.rights))

  thread_named : (t : Name) (th : Thread) → get net.threads t ≡ Some th → (t ≡ first_name 0) × (Waits main_waits ≡ th)
  thread_named t th at = elim (put_or_before name_cmp_total name_cmp-same (empty {X = Thread} {R = name_cmp}) (first_name 0) (Waits main_waits) t th at) [
    | inl new ↦ new
    | inr old ↦ let none : None ≡ Some th = sym (get-empty name_cmp t) ∙ old in cc
  ]

  shows_main : ShowsThreads (thread_in program typings first_name (opening_of o)) names.holder net.threads
  shows_main = record {
    there = λ h th at. insert_same name_cmp name_cmp_total empty (first_name 0) (Waits main_waits) ∙ ap Some (only_main h th at).1;
    all = λ t th at. let x = thread_named t th at in inr (OfTask 1, sym x.0, main_there ∙ ap Some x.1);
    apart = λ g h th ti e f same. (only_main g th e).0 ∙ sym (only_main h ti f).0;
  }

  made_alone : (threads : Threads) (k id : ℕ) (t : Name) → k ∷ t ≡ first_name id → WasMade threads k t
  made_alone threads k id [] same = tt
  made_alone threads k id (j ∷ t) same = cc

  one_made : IsMade net
  one_made = record {
    root = root (get net.threads []) refl;
    cells = λ k t cell at. let id = cell_named o.store o.store.next (k ∷ t) cell at in made_alone net.threads k id.0 t id.1;
    threads = λ k t th at. made_alone net.threads k 0 t (thread_named (k ∷ t) th at).0;
  }
    where
      root : (r : Option Thread) → get net.threads [] ≡ r → r ≡ None
      root None at = refl
      root (Some th) at = let no_name : [] ≡ first_name 0 = (thread_named [] th at).0 in cc

  pub all_shown : ((id : ℕ) (x : Datum) → get o.store.live id ≡ Some x → id < o.store.next) → HasFew o.store → Shows program typings names (opening_of o) net
  all_shown fresh few = record {
    cells = record {
      live = λ id x at. cell_there o.store o.store.next id (fresh id x at) ∙ ap (λ z. Some (cell_at_id z)) at;
      used = λ id less. inr (cell_at_id (get o.store.live id), cell_there o.store o.store.next id less);
      apart = λ i j a b same. cc;
    };
    threads = shows_main;
    shared = record { below = λ id less. refl; above = λ id more. refl; unmade = λ d none. refl; few = λ id x at not. few id x at };
    count = (
        let frames : total one (empty {X = Frame} {R = actor_cmp}) ≡ 0 = total-empty actor_cmp one in
        let rules : total one (empty {X = Rule} {R = nat_cmp}) ≡ 0 = total-empty nat_cmp one in
        let tasks = one_waits one (main_task o.rights) in
        let threads = one_alive main_waits in
        omega (arith, frames, rules, tasks, threads));
    made = one_made;
  }

-- the opening shows it
pub record Begins (program : List Procedure) (typings : Typings) (inputs : List Input) (start : Bool) : Type 0 where
  pub names : Naming
  pub net : Net
  pub shows : Shows program typings names (opening program inputs) net
  pub copied : names.copied ≡ (λ id. start)

pub begins : (program : List Procedure) (typings : Typings) (inputs : List Input) (start : Bool) → IsHeld program typings (opening program inputs) → Begins program typings inputs start
unfolding opening
begins program typings inputs start held =
    let o : Opened = opened nothing_opened (main_params program) inputs in
    record {
      names = names program typings start o;
      net = net program typings start o;
      shows = all_shown program typings start o held.types.store.fresh (opened_few nothing_opened (main_params program) inputs (λ id x at. let none : None ≡ Some x = sym (get-empty nat_cmp id) ∙ at in cc));
      copied = refl;
    }
