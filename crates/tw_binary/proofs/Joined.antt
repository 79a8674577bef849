-- Items that are written one after the other.
use Rattle.tw_binary.proofs.Names.{Instr, Item, List, Param, Procedure, Scalar, [], ap, append-nil, append_assoc, byte, concat, counted_items, flat_map, get_or, instr_items, kind_code, length, map, param_items, procedure_items, refl, register_items, scalar_items, sym, take, take_more, wide, ℕ, ◌++◌, ◌+◌, ◌<◌, ◌∙◌, ◌∷◌, ◌≡◌}
use Rattle.std.proofs.lemmas.List.Concat.{flat_map-append}
use Rattle.std.proofs.lemmas.List.Folds.{concat-append}

pub joined : (xs ys : List Item) → concat (xs ++ ys) ≡ concat xs ++ concat ys
joined xs ys = concat-append xs ys

module _ {X : Type 0} (each : X → List Item) (xs : List X) (i : ℕ) where
  one_more : (d : X) → i < length xs → concat (flat_map each (take (i + 1) xs)) ≡ concat (flat_map each (take i xs)) ++ concat (each (get_or xs i d))
  one_more d lt =
      let front = take i xs in
      let x = get_or xs i d in
      ap (λ ys. concat (flat_map each ys)) (take_more xs i d lt) ∙ ap concat (flat_map-append each front (x ∷ []) ∙ ap (λ ys. flat_map each front ++ ys) (append-nil (each x))) ∙ joined (flat_map each front) (each x)

  -- one more item is appended
  pub wrote : (d : X) (there out new : List ℕ) → i < length xs → out ≡ there ++ concat (flat_map each (take i xs)) → new ≡ out ++ concat (each (get_or xs i d))
      → new ≡ there ++ concat (flat_map each (take (i + 1) xs))
  wrote d there out new lt before after =
      after ∙ ap (λ y. y ++ concat (each (get_or xs i d))) before ∙ append_assoc there (concat (flat_map each (take i xs))) (concat (each (get_or xs i d))) ∙ ap (λ y. there ++ y) (sym (one_more d lt))

  pub wrote_item : (x : X) (there out new : List ℕ) → i < length xs → x ≡ get_or xs i x → out ≡ there ++ concat (flat_map each (take i xs)) → new ≡ out ++ concat (each x)
      → new ≡ there ++ concat (flat_map each (take (i + 1) xs))
  wrote_item x there out new lt is before after = wrote x there out new lt before (after ∙ ap (λ y. out ++ concat (each y)) is)

-- registers, one item each
registers_joined : (registers : List ℕ) → concat (flat_map register_items registers) ≡ registers
registers_joined [] = refl
registers_joined (r ∷ registers) = ap (λ rs. r ∷ rs) (registers_joined registers)

pub args_written : (args o a b : List ℕ) → a ≡ o ++ byte (length args) → b ≡ a ++ args → b ≡ o ++ concat (counted_items byte register_items args)
args_written args o a b to_a to_b = to_b ∙ ap (λ y. y ++ args) to_a ∙ append_assoc o (byte (length args)) args ∙ ap (λ rs. o ++ length args ∷ rs) (sym (registers_joined args))

pub flat_mapped : {X Y Z : Type 0} (f : Y → List Z) (g : X → Y) (xs : List X) → flat_map (λ x. f (g x)) xs ≡ flat_map f (map g xs)
flat_mapped f g [] = refl
flat_mapped f g (x ∷ xs) = ap (λ zs. f (g x) ++ zs) (flat_mapped f g xs)

pub procedure_written : (p : Procedure) (kind : ℕ) (params : List Param) (registers : List Scalar) (code : List Instr) (o a b c d : List ℕ) → kind ≡ kind_code p.kind → params ≡ p.params → registers ≡ p.registers → code ≡ p.code
    → a ≡ o ++ byte kind → b ≡ a ++ concat (counted_items byte param_items params) → c ≡ b ++ concat (counted_items byte scalar_items registers) → d ≡ c ++ concat (counted_items wide instr_items code)
    → d ≡ o ++ concat (procedure_items p)
procedure_written p kind params registers code o a b c d is_kind is_params is_registers is_code to_a to_b to_c to_d =
    let ps = counted_items byte param_items p.params in
    let rs = counted_items byte scalar_items p.registers in
    let cs = counted_items wide instr_items p.code in
    let with_kind : a ≡ o ++ byte (kind_code p.kind) = to_a ∙ ap (λ k. o ++ byte k) is_kind in
    let with_params : b ≡ a ++ concat ps = to_b ∙ ap (λ xs. a ++ concat (counted_items byte param_items xs)) is_params in
    let with_registers : c ≡ b ++ concat rs = to_c ∙ ap (λ xs. b ++ concat (counted_items byte scalar_items xs)) is_registers in
    let with_code : d ≡ c ++ concat cs = to_d ∙ ap (λ xs. c ++ concat (counted_items wide instr_items xs)) is_code in
    all_of (byte (kind_code p.kind)) ps rs cs o a b c d with_kind with_params with_registers with_code where
      all_of : (k : Item) (ps rs cs : List Item) (o a b c d : List ℕ) → a ≡ o ++ k → b ≡ a ++ concat ps → c ≡ b ++ concat rs → d ≡ c ++ concat cs → d ≡ o ++ concat (k ∷ (ps ++ (rs ++ cs)))
      all_of k ps rs cs o a b c d to_a to_b to_c to_d = rw (to_d, to_c, to_b, to_a, joined ps (rs ++ cs), joined rs cs) (simp append_assoc)
