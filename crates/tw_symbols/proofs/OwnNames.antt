-- Names of registers stay, and differ.
use Rattle.tw_symbols.proofs.TextNames.{Bank, Binding, Bool, List, Names, None, Opcode, last_version, opcode_in, Option, Origin, Some, Table, [], ap, arith, begins_procedure, bytes_eq, codes, cond, false, flat_map, inl, inr, is_listed, lists, lists_entry, meaning, nat_tests, pieces, refl, slice_get, subst, suc, sym, true, zero, ℕ, ◌&&◌, ◌++◌, ◌==◌, ◌∙◌, ◌∷◌, ◌≡◌, ◌⊎◌}
use Rattle.tw_symbols.specs.LineNames.{is_names_line, kind_in}
use Rattle.tw_symbols.specs.Theorems.{DifferAll, NamesDiffer, NamesStay}
use Rattle.tw_symbols.specs.declared.line_kind.LineKind.{LineKind}
use Rattle.tw_symbols.specs.declared.line_kind.LineKind.TheVariants as kind
use Rattle.tw_symbols.specs.declared.meaning.Bank.TheVariants as bank
use Rattle.tw_symbols.specs.declared.meaning.Binding.TheVariants as binding
use Rattle.tw_symbols.specs.declared.meaning.Origin.TheVariants as origin
use Rattle.tw_symbols.proofs.ListedNames.{found}
use Rattle.tw_symbols.proofs.NameSteps.{IsStep, head_step, line_step}

-- ---- they stay

meaning_more : (table : Table) (entry : List ℕ × Binding) (name : List ℕ) (x : Binding) → meaning name table ≡ Some x → meaning name (table ++ entry ∷ []) ≡ Some x
meaning_more [] entry name x e = absurd cc
meaning_more (first ∷ table) entry name x e = by (bytes_eq name first.0) e (meaning_more table entry name x)
  where
    by : (t : Bool) → cond t (Some first.1) (meaning name table) ≡ Some x → (meaning name table ≡ Some x → meaning name (table ++ entry ∷ []) ≡ Some x) → cond t (Some first.1) (meaning name (table ++ entry ∷ [])) ≡ Some x
    by true e more = e
    by false e more = more e

abbrev Stay : List ℕ → Binding → Names → Names → Type 0
Stay name x before after = meaning name before.registers ≡ Some x → meaning name after.registers ≡ Some x

stay_step : (name : List ℕ) (x : Binding) → IsStep (Stay name x)
stay_step name x = record {
  same = λ n h. h;
  both = λ a b c h k e. k (h e);
  constant = λ n entry h. h;
  register = λ n other b number by _ h. meaning_more n.registers (other, binding.Register b number by) name x h;
  hidden = λ n count more h. h;
  read = λ n h. h;
}

no_head : (a b c d e : Bool) (k : LineKind) → d ≡ false → (k ≡ kind.Head → ⊥) → cond a kind.Names (cond b kind.Constant (cond c kind.Let (cond d kind.Head (cond e kind.Registers k)))) ≡ kind.Head → ⊥
no_head true b c d e k none other h = cc
no_head false true c d e k none other h = cc
no_head false false true d e k none other h = cc
no_head false false false true e k none other h = cc
no_head false false false false true k none other h = cc
no_head false false false false false k none other h = other h

no_opcode : (o : Option Opcode) → kind_in o ≡ kind.Head → ⊥
no_opcode None h = cc
no_opcode (Some o) h = cc

pub names_stay : NamesStay
names_stay p number names after words plains name x is none =
    line_step (Stay name x) (stay_step name x) p number names words plains after is (λ first others more same k _ _. absurd (no_head (is_names_line first others) (bytes_eq first (codes "const")) (bytes_eq first (codes "let"))
    (bytes_eq first (codes "proc")) (bytes_eq first (codes "regs")) (kind_in (opcode_in last_version first)) (subst (λ (ws : List (List ℕ)). begins_procedure ws ≡ false) same none) (no_opcode (opcode_in last_version first)) k))

-- ---- they differ

last_or_before : (table : Table) (x e : List ℕ × Binding) (i : ℕ) → slice_get (table ++ x ∷ []) i ≡ Some e → (slice_get table i ≡ Some e) ⊎ (e ≡ x)
last_or_before [] x e zero h = inr cc
last_or_before [] x e (suc i) h = absurd cc
last_or_before (y ∷ table) x e zero h = inl h
last_or_before (y ∷ table) x e (suc i) h = last_or_before table x e i h

same_numbers : (a b : ℕ) → a ≡ b → (a == b) ≡ true
same_numbers a b e = grind (arith, nat_tests)

this_is : (b : Bank) (n : ℕ) → lists b n (binding.Register b n origin.Listed) ≡ true
this_is bank.Value n = ap (λ (t : Bool). t && true) (same_numbers n n refl)
this_is bank.Right n = ap (λ (t : Bool). t && true) (same_numbers n n refl)

listed_at : (table : Table) (name : List ℕ) (b : Bank) (n i : ℕ) → slice_get table i ≡ Some (name, binding.Register b n origin.Listed) → is_listed b n table ≡ true
listed_at table name b n i e = found b n table i (ap (lists_entry b n) e ∙ this_is b n)

register_parts : (c b : Bank) (m n : ℕ) (by : Origin) → binding.Register c m origin.Listed ≡ binding.Register b n by → (c ≡ b) × (m ≡ n) × (by ≡ origin.Listed)
register_parts c b m n by e = ((cc), (cc), (cc))

taken_before : (table : Table) (c b : Bank) (m n : ℕ) (by : Origin) → (by ≡ origin.Chosen) ⊎ (is_listed b n table ≡ false) → (c ≡ b) × (m ≡ n) × (by ≡ origin.Listed) → is_listed c m table ≡ true → ⊥
taken_before table c b m n by (inl chosen) (_, _, listed) there = no (sym chosen ∙ listed)
  where
    no : origin.Chosen ≡ origin.Listed → ⊥
    no e = cc
taken_before table c b m n by (inr free) (bank_is, number_is, _) there = no (sym free ∙ subst (λ (k : ℕ). is_listed b k table ≡ true) number_is (subst (λ (d : Bank). is_listed d m table ≡ true) bank_is there))
  where
    no : false ≡ true → ⊥
    no e = cc

differ_more : (table : Table) (name : List ℕ) (b : Bank) (n : ℕ) (by : Origin) → (by ≡ origin.Chosen) ⊎ (is_listed b n table ≡ false) → DifferAll table → DifferAll (table ++ (name, binding.Register b n by) ∷ [])
differ_more table name b n by new differ first second c m (i, e) (j, d) =
    both (last_or_before table (name, binding.Register b n by) (first, binding.Register c m origin.Listed) i e) (last_or_before table (name, binding.Register b n by) (second, binding.Register c m origin.Listed) j d)
  where
    both : (slice_get table i ≡ Some (first, binding.Register c m origin.Listed)) ⊎ (◌≡◌ {A = List ℕ × Binding} (first, binding.Register c m origin.Listed) (name, binding.Register b n by))
        → (slice_get table j ≡ Some (second, binding.Register c m origin.Listed)) ⊎ (◌≡◌ {A = List ℕ × Binding} (second, binding.Register c m origin.Listed) (name, binding.Register b n by)) → first ≡ second
    both (inl here) (inl there) = differ first second c m (i, here) (j, there)
    both (inl here) (inr last) = absurd (taken_before table c b m n by new (register_parts c b m n by (ap (λ (x : List ℕ × Binding). x.1) last)) (listed_at table first c m i here))
    both (inr last) (inl there) = absurd (taken_before table c b m n by new (register_parts c b m n by (ap (λ (x : List ℕ × Binding). x.1) last)) (listed_at table second c m j there))
    both (inr last) (inr also) = ap (λ (x : List ℕ × Binding). x.0) last ∙ sym (ap (λ (x : List ℕ × Binding). x.0) also)

none_listed : DifferAll []
none_listed name other b n (i, e) second = absurd (no i e)
  where
    no : (i : ℕ) → slice_get {X = List ℕ × Binding} [] i ≡ Some (name, binding.Register b n origin.Listed) → ⊥
    no zero h = cc
    no (suc i) h = cc

abbrev Differ : Names → Names → Type 0
Differ before after = DifferAll before.registers → DifferAll after.registers

differ_step : IsStep Differ
differ_step = record {
  same = λ n h. h;
  both = λ a b c h k before. k (h before);
  constant = λ n entry h. h;
  register = λ n name b number by new h. differ_more n.registers name b number by new h;
  hidden = λ n count more h. h;
  read = λ n h. h;
}

pub names_differ : NamesDiffer
names_differ p number names after words plains is =
    line_step Differ differ_step p number names words plains after is (λ first others more _ _ h _. head_step Differ differ_step p number names (flat_map pieces others) more after h none_listed)
