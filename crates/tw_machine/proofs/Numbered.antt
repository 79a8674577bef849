-- Maps by numbers: waiting tasks and pending rules.
use Rattle.tw_machine.proofs.Names.{Bool, IsTrue, List, Rule, RuleTable, Stage, ap, at_stage, entries_view, from_entries, get, has_unasked, insert, is_empty_view, is_releasable, len, len-entries, length, list_any, map, nat_cmp, nat_cmp-IsAntisymmetric, nat_cmp_total, rules_of, staged, staged_in, sym, values, ℕ, ◌↔◌, ◌∙◌, ◌≡◌}
use Rattle.std.specs.Prelude.{◌==◌, not, ◌&&◌, Some, None}
use Rattle.std.specs.List.Sorted.{IsStrictlySortedBy}
use Rattle.std.specs.Map.{keys_of}

pub is_empty : {X : Type 0} (b : Bool) (es : List (ℕ × X)) → IsTrue b ↔ (length es ≡ 0) → b ≡ (len (from_entries {R = nat_cmp} es) == 0)
is_empty b es h = sym (is_empty_view nat_cmp_total nat_cmp-IsAntisymmetric b es h)

pub length_is : {X : Type 0} (es : List (ℕ × X)) → IsStrictlySortedBy nat_cmp (keys_of es) → length es ≡ len (from_entries {R = nat_cmp} es)
length_is es sorted = sym (len-entries (from_entries {R = nat_cmp} es) ∙ ap length (entries_view nat_cmp_total es sorted))

pub values_are : {X : Type 0} (es : List (ℕ × X)) → IsStrictlySortedBy nat_cmp (keys_of es) → map (λ e. e.1) es ≡ values (from_entries {R = nat_cmp} es)
values_are {X} es sorted = ap (map (λ (e : ℕ × X). e.1)) (sym (entries_view nat_cmp_total es sorted))

pub idle_is : (a b : Bool) (es : List (ℕ × Rule)) → IsStrictlySortedBy nat_cmp (keys_of es) → a ≡ list_any has_unasked (map (λ e. e.1) es) → b ≡ list_any is_releasable (map (λ e. e.1) es)
    → (not a && not b) ≡ (not (list_any has_unasked (values (rules_of es))) && not (list_any is_releasable (values (rules_of es))))
idle_is a b es sorted e f =
    ap (λ (x : Bool). not x && not b) (e ∙ ap (list_any has_unasked) (values_are es sorted))
    ∙ ap (λ (x : Bool). not (list_any has_unasked (values (rules_of es))) && not x) (f ∙ ap (list_any is_releasable) (values_are es sorted))

-- a stage is set where the rule is pending, and only there

module _ (t : RuleTable) (parameter : ℕ) (stage : Stage) where
  pub staged_none : (k n : ℕ) → k ≡ n → get t.pending k ≡ None → t ≡ staged t n parameter stage
  staged_none k n same none = ap (staged_in t k parameter stage) (sym none) ∙ ap (λ (m : ℕ). staged t m parameter stage) same

  pub staged_some : (k n : ℕ) (rule : Rule) → k ≡ n → get t.pending k ≡ Some rule → record t { pending = insert t.pending k (at_stage rule parameter stage) } ≡ staged t n parameter stage
  staged_some k n rule same some = ap (staged_in t k parameter stage) (sym some) ∙ ap (λ (m : ℕ). staged t m parameter stage) same
