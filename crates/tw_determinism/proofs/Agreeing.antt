-- Names matter only for ids in use: other names for later ones show the same.
use Rattle.std.proofs.Common.{◌≡◌, ℕ, suc, ◌<◌, List, [], ◌∷◌, Option, Some, None, refl, sym, ap, ◌∙◌, slice_get, if◌then◌else◌}
use Rattle.tw_determinism.proofs.MachineNames.{Arg, Content, Frame, IsHeld, IsLive, Members, NestedScalar, Param, Procedure, RightArg, RightType, Rights, Rule, State, Subscript, Task, Typing, Typings, ValueArg, get, get_mapped, is_closed_mode, is_write, mapped, option_map, params_of, register_is_live, right_at, rule_is_live, same_map, task_is_live, typing_of, value_cmp-IsAntisymmetric, value_cmp_total}
use Rattle.tw_types.specs.Store as store
use Rattle.tw_determinism.proofs.Names.{Name}
use Rattle.tw_determinism.proofs.CoreEffects.{Contains, Waits, Runs}
use Rattle.tw_determinism.proofs.Showing.{Holder, OfFrame, OfTask, OfRule, awaits_in, cell_of, named, named_one, rights_in, running, thread_in, waiting}

one_agrees : (f g : ℕ → Name) (t : Option RightType) (i : Option ℕ) → ((id : ℕ) → i ≡ Some id → g id ≡ f id) → named_one g t i ≡ named_one f t i
one_agrees f g None i h = refl
one_agrees f g (Some right) None h = refl
one_agrees f g (Some right) (Some id) h = ap (λ x. Some (record { write = is_write right.mode; of = x })) (h id refl)

pub named_agrees : (f g : ℕ → Name) (typing : Typing) (ids : Rights) → ((k id : ℕ) → right_at ids k ≡ Some id → g id ≡ f id) → named g typing ids ≡ named f typing ids
named_agrees f g [] ids h = refl
named_agrees f g (t ∷ typing) [] h = refl
named_agrees f g (t ∷ typing) (i ∷ ids) h =
    ap (λ x. x ∷ named g typing ids) (one_agrees f g t i (λ id e. h 0 id e))
    ∙ ap (λ xs. named_one f t i ∷ xs) (named_agrees f g typing ids (λ k id e. h (suc k) id e))

rights_agree : (f g : ℕ → Name) (params : List Param) (args : List Arg) → ((k id : ℕ) → slice_get args k ≡ Some (RightArg id) → g id ≡ f id) → rights_in g params args ≡ rights_in f params args
rights_agree f g [] args h = refl
rights_agree f g (p ∷ params) [] h = refl
rights_agree f g (p ∷ params) (ValueArg x ∷ args) h = rights_agree f g params args (λ k id e. h (suc k) id e)
rights_agree f g (p ∷ params) (RightArg id ∷ args) h =
    ap (λ x. record { write = is_write p.mode; of = x } ∷ rights_in g params args) (h 0 id refl)
    ∙ ap (λ xs. record { write = is_write p.mode; of = f id } ∷ xs) (rights_agree f g params args (λ k d e. h (suc k) d e))

awaits_agree : (f g : ℕ → Name) (params : List Param) (args : List Arg) → ((k id : ℕ) → slice_get args k ≡ Some (RightArg id) → g id ≡ f id) → awaits_in g params args ≡ awaits_in f params args
awaits_agree f g [] args h = refl
awaits_agree f g (p ∷ params) [] h = refl
awaits_agree f g (p ∷ params) (ValueArg x ∷ args) h = awaits_agree f g params args (λ k id e. h (suc k) id e)
awaits_agree f g (p ∷ params) (RightArg id ∷ args) h =
    ap (λ x. if is_closed_mode p.mode then x ∷ awaits_in g params args else awaits_in g params args) (h 0 id refl)
    ∙ ap (λ xs. if is_closed_mode p.mode then f id ∷ xs else xs) (awaits_agree f g params args (λ k d e. h (suc k) d e))

pub waiting_agrees : (f g : ℕ → Name) (program : List Procedure) (procedure : ℕ) (args : List Arg) → ((k id : ℕ) → slice_get args k ≡ Some (RightArg id) → g id ≡ f id) → waiting g program procedure args ≡ waiting f program procedure args
waiting_agrees f g program procedure args h =
    ap (λ xs. record (waiting g program procedure args) { rights = xs }) (rights_agree f g (params_of program procedure) args h)
    ∙ ap (λ xs. record (waiting f program procedure args) { awaits = xs }) (awaits_agree f g (params_of program procedure) args h)

-- ---- contents

members_agree : (f g : ℕ → Name) (members : Members) → ((at : Subscript) (id : ℕ) → get members at ≡ Some id → g id ≡ f id) → mapped g members ≡ mapped f members
members_agree f g members h = same_map value_cmp_total value_cmp-IsAntisymmetric _ _ (λ at. get_mapped g members at ∙ by at (get members at) refl ∙ sym (get_mapped f members at))
  where
    by : (at : Subscript) (o : Option ℕ) → get members at ≡ o → option_map g o ≡ option_map f o
    by at None e = refl
    by at (Some id) e = ap Some (h at id e)

pub cell_agrees : (f g : ℕ → Name) (ty : NestedScalar) (content : Content) → ((members : Members) (at : Subscript) (id : ℕ) → content ≡ store.Contains members → get members at ≡ Some id → g id ≡ f id) → cell_of g ty content ≡ cell_of f ty content
cell_agrees f g ty store.Unset h = refl
cell_agrees f g ty (store.Set x) h = refl
cell_agrees f g ty (store.Maps values) h = refl
cell_agrees f g ty (store.Contains members) h = ap Contains (members_agree f g members (λ at id e. h members at id refl e))

-- ---- tasks

module _ (program : List Procedure) (typings : Typings) (s : State) (held : IsHeld program typings s) (f g : ℕ → Name) (agree : (id : ℕ) → id < s.store.next → g id ≡ f id) where
  live_agrees : (id : ℕ) → IsLive program typings s held id → g id ≡ f id
  live_agrees id live = agree id (held.types.store.fresh id live.0 live.1)

  pub threads_agree : (h : Holder) → thread_in program typings g s h ≡ thread_in program typings f s h
  threads_agree (OfFrame a) = by (get s.frames a) refl
    where
      by : (o : Option Frame) → get s.frames a ≡ o → option_map (λ frame. Runs (running g typings frame)) o ≡ option_map (λ frame. Runs (running f typings frame)) o
      by None e = refl
      by (Some x) e = ap (λ rights. Some (Runs (record (running g typings x) { rights = rights })))
          (named_agrees f g (typing_of typings x) x.rights (λ k id at. live_agrees id (register_is_live program typings s held a x k id e at)))
  threads_agree (OfTask number) = by (get s.tasks number) refl
    where
      by : (o : Option Task) → get s.tasks number ≡ o → option_map (λ (task : Task). Waits (waiting g program task.procedure task.args)) o ≡ option_map (λ (task : Task). Waits (waiting f program task.procedure task.args)) o
      by None e = refl
      by (Some x) e = ap (λ w. Some (Waits w)) (waiting_agrees f g program x.procedure x.args (λ k id at. live_agrees id (task_is_live program typings s held number x k id e at)))
  threads_agree (OfRule number) = by (get s.rules number) refl
    where
      by : (o : Option Rule) → get s.rules number ≡ o → option_map (λ (rule : Rule). Waits (waiting g program rule.procedure rule.args)) o ≡ option_map (λ (rule : Rule). Waits (waiting f program rule.procedure rule.args)) o
      by None e = refl
      by (Some x) e = ap (λ w. Some (Waits w)) (waiting_agrees f g program x.procedure x.args (λ k id at. live_agrees id (rule_is_live program typings s held number x k id e at)))
