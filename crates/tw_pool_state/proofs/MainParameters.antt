-- Main's parameters get their data one after the other: on the parts.
use Rattle.tw_pool_state.proofs.PartNames.{Adds, AreAllLive, AreAt, AreBefore, AreForAll, Arg, ArgMatches, ArgsMatch, Input, IsAdded, IsAt, IsMade, List, MayAdd, Mode, None, Opened, OpenedParts, Param, Places, Read, Right, RightArg, Served, Some, Store, Write, [], added, and_parts, ap, append_assoc, are_inputs_of, arith, bare_arg, cond, created, drop, empty, empty_store, eq_by_cmp, false, get, get-insert, given_for, input_next, input_params, insert, is_input_of, is_val, is_write, length, length-append, list_all, map as each, map-append, nat_cmp, nat_cmp_total, nat_tests, nothing_opened, opened, refl, replicate, right_of, same_Some, skips, slice_get, subst, suc, sym, takes, true, with_given, with_input, with_output, zero, ℕ, ◌++◌, ◌+◌, ◌<◌, ◌∙◌, ◌∷◌, ◌≡◌, ◌≤◌}
use Rattle.tw_types.specs.declared.param.Mode.TheVariants as mode
use Rattle.tw_code.specs.accepting.MainShape.{is_main_param}
use Rattle.tw_pool_state.proofs.Adding.{empty_live, made_live}
use Rattle.tw_pool_state.proofs.Keeping.{all_kept, args_kept}

-- ---- one argument, right or id more

pub same_count : (places : Places) (params : List Param) (args : List Arg) → ArgsMatch places params args → length args ≡ length params
same_count places [] [] h = refl
same_count places [] (arg ∷ args) h = absurd h
same_count places (p ∷ params) [] h = absurd h
same_count places (p ∷ params) (arg ∷ args) h = ap suc (same_count places params args h.1)

args_more : (places : Places) (params : List Param) (args : List Arg) (p : Param) (arg : Arg) → ArgsMatch places params args → ArgMatches places (right_of p) arg → ArgsMatch places (params ++ p ∷ []) (args ++ arg ∷ [])
args_more places [] [] p arg h one = (one, tt)
args_more places [] (a ∷ args) p arg h one = absurd h
args_more places (q ∷ params) [] p arg h one = absurd h
args_more places (q ∷ params) (a ∷ args) p arg h one = (h.0, args_more places params args p arg h.1 one)

at_more : (places : Places) (rights : List Right) (right : Right) → AreAt places rights → IsAt places right → AreAt places (rights ++ right ∷ [])
at_more places [] right h one = (one, tt)
at_more places (r ∷ rights) right h one = (h.0, at_more places rights right h.1 one)

before_wider : (next more : ℕ) (ids : List ℕ) → next ≤ more → AreBefore next ids → AreBefore more ids
before_wider next more [] wide h = tt
before_wider next more (id ∷ ids) wide h = (omega (arith, h.0), before_wider next more ids wide h.1)

before_more : (next : ℕ) (ids : List ℕ) (id : ℕ) → AreBefore next ids → id < next → AreBefore next (ids ++ id ∷ [])
before_more next [] id h one = (one, tt)
before_more next (other ∷ ids) id h one = (h.0, before_more next ids id h.1 one)

-- the ids of rights are such
named_before : (next : ℕ) (ids : List ℕ) (k d : ℕ) → AreBefore next ids → slice_get (each RightArg ids) k ≡ Some (RightArg d) → d < next
named_before next [] k d h e = cc
named_before next (id ∷ ids) zero d h e = let same : id ≡ d = cc in subst (λ (n : ℕ). n < next) same h.0
named_before next (id ∷ ids) (suc k) d h e = named_before next ids k d h.1 e

id_before : (next : ℕ) (ids : List ℕ) (k d : ℕ) → AreBefore next ids → slice_get ids k ≡ Some d → d < next
id_before next [] k d h e = cc
id_before next (id ∷ ids) zero d h e = subst (λ (n : ℕ). n < next) (same_Some id d e) h.0
id_before next (id ∷ ids) (suc k) d h e = id_before next ids k d h.1 e

-- ---- one parameter more

write_fits : (places : Places) (p : Param) (right : Right) → is_write p.mode ≡ true → IsAt places right → ArgMatches places (right_of p) (Write right)
write_fits places p right write here = by p.mode write
  where
    by : (m : Mode) → is_write m ≡ true → ArgMatches places (cond (is_val m) None (Some (record { mode = m; ty = p.ty }))) (Write right)
    by mode.Val e = cc
    by mode.Closed e = cc
    by mode.Ref e = cc
    by mode.Write e = (refl, here)

read_fits : (places : Places) (p : Param) (right : Right) → is_write p.mode ≡ false → is_val p.mode ≡ false → IsAt places right → ArgMatches places (right_of p) (Read right)
read_fits places p right read right_due here = by p.mode read right_due
  where
    by : (m : Mode) → is_write m ≡ false → is_val m ≡ false → ArgMatches places (cond (is_val m) None (Some (record { mode = m; ty = p.ty }))) (Read right)
    by mode.Val e v = cc
    by mode.Closed e v = (refl, here)
    by mode.Ref e v = (refl, here)
    by mode.Write e v = cc

bare_more : (args : List Arg) (ids : List ℕ) (arg : Arg) (id : ℕ) → each bare_arg args ≡ each RightArg ids → bare_arg arg ≡ RightArg id → each bare_arg (args ++ arg ∷ []) ≡ each RightArg (ids ++ id ∷ [])
bare_more args ids arg id same one =
    map-append bare_arg args (arg ∷ []) ∙ (λ i. same i ++ one i ∷ []) ∙ sym (map-append RightArg ids (id ∷ []))

module _ (servers : ℕ) (params : List Param) (o : OpenedParts) (made : Opened) (h : IsMade servers params o made) (p : Param) where
  pub has_place : length params < 8 → length o.args < 8
  has_place few = omega (arith, few, same_count o.store.places params o.args h.rights_fit)

  longer : length (params ++ p ∷ []) ≡ length params + 1
  longer = length-append params (p ∷ [])

  next_is : o.store.store.next ≡ made.store.next
  next_is = ap (λ (s : Store). s.next) h.store

  module _ (new : Served) (stays : (id : ℕ) → id < o.store.store.next → get new.places id ≡ get o.store.places id) where
    kept : (id place : ℕ) → id < made.store.next → get o.store.places id ≡ Some place → get new.places id ≡ Some place
    kept id place low there = stays id (omega (arith, low, next_is)) ∙ there

    args_match : ArgsMatch new.places params o.args
    args_match = args_kept o.store.places new.places (λ id. id < made.store.next) kept params o.args
        (λ k d at. named_before made.store.next made.rights k d h.args_before (ap (λ xs. slice_get xs k) (sym h.args) ∙ at)) h.rights_fit

    outputs_at : AreAt new.places o.outputs
    outputs_at = all_kept o.store.places new.places (λ id. id < made.store.next) kept o.outputs
        (λ k d at. id_before made.store.next made.outputs k d h.outputs_before (ap (λ xs. slice_get xs k) (sym h.outputs) ∙ at)) h.outputs_at

  module _ (new : Served) (right : Right) (id : right.id ≡ o.store.store.next) (here : IsAt new.places right) (queues : new.queues ≡ o.store.queues) where
    id_is : right.id ≡ made.store.next
    id_is = id ∙ next_is

    -- an output
    module _ (read : Right) (same : read ≡ right) (write : is_write p.mode ≡ true) (store : new.store ≡ created o.store.store p.ty) (places : new.places ≡ insert o.store.places o.store.store.next right.place) where
      elsewhere : (d : ℕ) → d < o.store.store.next → get new.places d ≡ get o.store.places d
      elsewhere d low = ap (λ ps. get ps d) places ∙ get-insert nat_cmp_total o.store.places o.store.store.next right.place d ∙ rw apart refl
        where
          apart : eq_by_cmp nat_cmp d o.store.store.next ≡ false
          apart = grind (arith, nat_tests, low)

      pub output_made : IsMade servers (params ++ p ∷ []) (record { store = new; args = o.args ++ Write right ∷ []; outputs = o.outputs ++ read ∷ [] }) (with_output made p.ty)
      output_made = record {
        store = store ∙ ap (λ s. created s p.ty) h.store;
        queues = queues ∙ h.queues;
        live = made_live o.store new p.ty right read (record { made = store; write = id; read = same; places = places; here = here; quiet = queues; live = h.live });
        args = bare_more o.args made.rights (Write right) made.store.next h.args (ap RightArg id_is);
        outputs = map-append (λ (r : Right). r.id) o.outputs (read ∷ []) ∙ (λ i. h.outputs i ++ (ap (λ (r : Right). r.id) same ∙ id_is) i ∷ []);
        rights_fit = args_more new.places params o.args p (Write right) (args_match new elsewhere) (write_fits new.places p right write here);
        outputs_at = at_more new.places o.outputs read (outputs_at new elsewhere) (subst (λ (r : Right). IsAt new.places r) (sym same) here);
        args_before = before_more (made.store.next + 1) made.rights made.store.next (before_wider made.store.next (made.store.next + 1) made.rights (omega arith) h.args_before) (omega arith);
        outputs_before = before_more (made.store.next + 1) made.outputs made.store.next (before_wider made.store.next (made.store.next + 1) made.outputs (omega arith) h.outputs_before) (omega arith);
        next = omega (arith, h.next, longer);
        few = omega (arith, h.few, longer, length-append o.outputs (read ∷ []));
      }

  -- an input
  pub given_made : (i : Input) (new : Served) (right : Right) → is_write p.mode ≡ false → is_val p.mode ≡ false → is_input_of p.ty i ≡ true → IsAdded (with_input o.store.store p.ty i) o.store new right → AreAllLive new
      → IsMade servers (params ++ p ∷ []) (record { store = new; args = o.args ++ Read right ∷ []; outputs = o.outputs }) (with_given made p.ty (Some i))
  given_made i new right read right_due fits added live =
      let more = input_next p.ty (given_for p.ty i) made.store fits in
      let after = (with_input made.store p.ty i).next in
      record {
        store = added.store ∙ ap (λ s. with_input s p.ty i) h.store;
        queues = added.queues ∙ h.queues;
        live = live;
        args = bare_more o.args made.rights (Read right) made.store.next h.args (ap RightArg (added.first ∙ next_is));
        outputs = h.outputs;
        rights_fit = args_more new.places params o.args p (Read right) (args_match new added.stays) (read_fits new.places p right read right_due added.here);
        outputs_at = outputs_at new added.stays;
        args_before = before_more after made.rights made.store.next (before_wider made.store.next after made.rights (omega (arith, more.0)) h.args_before) more.0;
        outputs_before = before_wider made.store.next after made.outputs (omega (arith, more.0)) h.outputs_before;
        next = omega (arith, h.next, longer, more.1);
        few = omega (arith, h.few, longer);
      }

-- ---- before the first

pub nothing_made : (servers : ℕ) (o : OpenedParts) → o.store.store ≡ empty_store → o.store.places ≡ empty → o.store.queues ≡ replicate servers [] → o.args ≡ [] → o.outputs ≡ [] → IsMade servers [] o nothing_opened
nothing_made servers o store places queues args outputs = record {
  store = store;
  queues = queues;
  live = empty_live o.store places;
  args = ap (each bare_arg) args;
  outputs = ap (each (λ (r : Right). r.id)) outputs;
  rights_fit = subst (ArgsMatch o.store.places []) (sym args) tt;
  outputs_at = subst (AreAt o.store.places) (sym outputs) tt;
  args_before = tt;
  outputs_before = tt;
  next = omega arith;
  few = let none = ap length outputs in omega (arith, none);
}

-- ---- the loop

-- the first parameters have their data, and these inputs are left for the others
pub record IsBegun (first : OpenedParts) (params : List Param) (inputs : List Input) (index : ℕ) (o : OpenedParts) (rest : List Input) : Type 0 where
  pub done : List Param
  pub all : params ≡ done ++ drop index params
  pub made : Opened
  pub opened : opened nothing_opened params inputs ≡ opened made (drop index params) rest
  pub left : AreForAll (drop index params) rest
  pub is_made : (servers : ℕ) → IsMade servers [] first nothing_opened → IsMade servers done o made

pub begun_first : (first : OpenedParts) (params : List Param) (inputs : List Input) → AreForAll params inputs → IsBegun first params inputs 0 first inputs
begun_first first params inputs h = record {
  done = [];
  all = refl;
  made = nothing_opened;
  opened = refl;
  left = h;
  is_made = λ servers m. m;
}

module _ (first : OpenedParts) (params : List Param) (inputs : List Input) (index : ℕ) (o : OpenedParts) (rest : List Input) (p : Param)
    (here : drop index params ≡ p ∷ drop (index + 1) params) (begun : IsBegun first params inputs index o rest) where
  abbrev others : List Param
  others = drop (index + 1) params

  left_here : AreForAll (p ∷ others) rest
  left_here = subst (λ (ps : List Param). AreForAll ps rest) here begun.left

  shapes : (is_main_param p ≡ true) × (list_all is_main_param others ≡ true)
  shapes = and_parts (is_main_param p) (list_all is_main_param others) left_here.shape

  opened_here : opened nothing_opened params inputs ≡ opened begun.made (p ∷ others) rest
  opened_here = begun.opened ∙ ap (λ ps. opened begun.made ps rest) here

  all_here : params ≡ (begun.done ++ p ∷ []) ++ others
  all_here = begun.all ∙ ap (λ ps. begun.done ++ ps) here ∙ sym (append_assoc begun.done (p ∷ []) others)

  pub may_add : length params ≤ 8 → (servers : ℕ) → IsMade servers [] first nothing_opened → MayAdd o
  may_add few servers nothing =
      let count = length-append begun.done (p ∷ others) in
      let all : length params ≡ length (begun.done ++ p ∷ others) = ap length (begun.all ∙ ap (λ ps. begun.done ++ ps) here) in
      (servers, begun.done, begun.made, omega (arith, few, count, all), begun.is_made servers nothing)

  pub output_begun : (new : OpenedParts) (after : List Input) → is_write p.mode ≡ true → Adds p (λ m. with_output m p.ty) o new → after ≡ rest → IsBegun first params inputs (index + 1) new after
  output_begun new after write adds same = rw same (record {
    done = begun.done ++ p ∷ [];
    all = all_here;
    made = with_output begun.made p.ty;
    opened = opened_here ∙ rw write refl;
    left = record {
      few = omega (arith, left_here.few);
      shape = shapes.1;
      count = left_here.count ∙ ap length (skips p others write);
      fit = ap (λ ps. are_inputs_of ps rest) (sym (skips p others write)) ∙ left_here.fit;
    };
    is_made = λ servers nothing. adds servers begun.done begun.made (begun.is_made servers nothing);
  })

  module _ (read : is_write p.mode ≡ false) where
    count_here : length rest ≡ suc (length (input_params others))
    count_here = left_here.count ∙ ap length (takes p others read)

    module _ (i : Input) (after : List Input) (given : rest ≡ i ∷ after) where
      fit_here : are_inputs_of (p ∷ input_params others) (i ∷ after) ≡ true
      fit_here = ap (are_inputs_of (p ∷ input_params others)) (sym given) ∙ ap (λ ps. are_inputs_of ps rest) (sym (takes p others read)) ∙ left_here.fit

      both : (is_input_of p.ty i ≡ true) × (are_inputs_of (input_params others) after ≡ true)
      both = and_parts (is_input_of p.ty i) (are_inputs_of (input_params others) after) fit_here

      pub given_begun : (new : OpenedParts) → Adds p (λ m. with_given m p.ty (Some i)) o new → IsBegun first params inputs (index + 1) new after
      given_begun new adds = record {
        done = begun.done ++ p ∷ [];
        all = all_here;
        made = with_given begun.made p.ty (Some i);
        opened = opened_here ∙ ap (opened begun.made (p ∷ others)) given ∙ rw read refl;
        left = record {
          few = omega (arith, left_here.few);
          shape = shapes.1;
          count = let counts = ap length given in omega (arith, count_here, counts);
          fit = both.1;
        };
        is_made = λ servers nothing. adds servers begun.done begun.made (begun.is_made servers nothing);
      }
