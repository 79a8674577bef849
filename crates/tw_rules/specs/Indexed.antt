-- The engines' agendas as an index of the rules.
use Rattle.std.specs.Prelude.{◌≡◌, ℕ, ◌==◌, ◌<◌, ◌≤◌, Bool, true, false, not, nat_lt, ◌&&◌, if◌then◌else◌, List, [], map as each, length, Option, Some, None, slice_get, is_some}
use Rattle.std.specs.List.{Contains}
use Rattle.std.specs.FinMap as map
use Rattle.tw_types.specs.Rule.{RuleOf, RulesOf, has_unasked, is_releasable}
use Rattle.tw_types.specs.Totals.{total}
use Rattle.tw_rights.specs.declared.arg.Arg.{Arg}
use Rattle.tw_rules.specs.declared.agenda.Agenda.{Agenda}
use Rattle.tw_rules.specs.declared.pending.Pending.{Pending}
use Rattle.tw_rules.specs.declared.erased.ErasedRule.{ErasedRule}
use Rattle.tw_rules.specs.Entries.{rules_in}
use Rattle.tw_rules.specs.Numbers.{IsLeast, Rises}
use Rattle.tw_rules.specs.Table.{FitsStages}

abbrev pub Rules : Type 0
Rules = RulesOf Arg

-- ---- asking

-- returns whether there is a rule, and it has an unasked parameter
abbrev pub is_some_unasked : Option (RuleOf Arg) → Bool
is_some_unasked None = false
is_some_unasked (Some rule) = has_unasked rule

-- returns whether the rule of the number has an unasked parameter
abbrev pub is_askable : Rules → ℕ → Bool
is_askable rules number = is_some_unasked (map.get rules number)

-- each rule of the engine with an unasked parameter, in order, and no rule of another engine
pub record AreAsks (engine : ℕ) (rules : Rules) (next : ℕ) (asks : List ℕ) : Type 0 where
  pub rises : Rises asks
  pub below : (number : ℕ) → Contains asks number → number < next
  pub complete : (number : ℕ) (rule : RuleOf Arg) → map.get rules number ≡ Some rule → rule.engine ≡ engine → has_unasked rule ≡ true → Contains asks number
  pub own : (number : ℕ) (rule : RuleOf Arg) → map.get rules number ≡ Some rule → Contains asks number → rule.engine ≡ engine

-- holds if the first one has an unasked parameter
abbrev pub IsFirstAskable : Rules → List ℕ → Type 0
IsFirstAskable rules asks = (number : ℕ) → slice_get asks 0 ≡ Some number → is_askable rules number ≡ true

-- ---- releasing

-- all releasable rules of the engine, and perhaps numbers that aren't pending
pub record AreReleases (engine : ℕ) (rules : Rules) (next : ℕ) (releases : List ℕ) : Type 0 where
  pub below : (number : ℕ) → Contains releases number → number < next
  pub complete : (number : ℕ) (rule : RuleOf Arg) → map.get rules number ≡ Some rule → rule.engine ≡ engine → is_releasable rule ≡ true → Contains releases number
  pub own : (number : ℕ) (rule : RuleOf Arg) → map.get rules number ≡ Some rule → Contains releases number → (rule.engine ≡ engine) × (is_releasable rule ≡ true)

-- holds if the least one is pending
abbrev pub IsLeastPending : Rules → List ℕ → Type 0
IsLeastPending rules releases = (number : ℕ) → IsLeast releases number → is_some (map.get rules number) ≡ true

-- returns whether it is a rule of the engine that can't be released yet
abbrev pub is_open : ℕ → RuleOf Arg → Bool
is_open engine rule = (rule.engine == engine) && not (is_releasable rule)

abbrev pub open_count : ℕ → RuleOf Arg → ℕ
open_count engine rule = if is_open engine rule then 1 else 0

-- numbers that aren't pending may be dropped, so that the least one is pending
pub record IsTrimmed (rules : Rules) (old new : List ℕ) : Type 0 where
  pub sound : (number : ℕ) → Contains new number → Contains old number
  pub kept : (number : ℕ) → Contains old number → is_some (map.get rules number) ≡ true → Contains new number
  pub least : IsLeastPending rules new

-- ---- all engines

pub record IsAgenda (engine : ℕ) (rules : Rules) (next : ℕ) (agenda : Agenda) : Type 0 where
  pub asks : AreAsks engine rules next agenda.asks.numbers
  pub asked : IsFirstAskable rules agenda.asks.numbers
  pub releases : AreReleases engine rules next agenda.releases.numbers
  pub released : IsLeastPending rules agenda.releases.numbers
  pub promised : total (open_count engine) rules ≡ agenda.releases.promised

pub record IsIndexed (rules : Rules) (next : ℕ) (agendas : List Agenda) : Type 0 where
  pub count : length agendas ≡ 4
  pub each_engine : (engine : ℕ) (agenda : Agenda) → slice_get agendas engine ≡ Some agenda → IsAgenda engine rules next agenda
  pub known : (number : ℕ) (rule : RuleOf Arg) → map.get rules number ≡ Some rule → (number < next) × (rule.engine < 4)

-- ---- reserved memory

abbrev pub agenda_room : Agenda → Bool
agenda_room agenda = agenda.asks.has_room && agenda.releases.has_room

abbrev pub rooms_of : Bool → List Agenda → List Bool
rooms_of has_room agendas = each (λ agenda. has_room && agenda_room agenda) agendas

-- returns whether there is memory for one more in the hash map, and in the list that is returned at the end
abbrev pub has_place : ℕ → ℕ → ℕ → Bool
has_place spare len capacity = nat_lt 0 spare && nat_lt len capacity

-- ---- the table

-- holds if each rule has a stage for each argument, which suits it
abbrev pub AreFitting : Rules → Type 0
AreFitting rules = (number : ℕ) (rule : RuleOf Arg) → map.get rules number ≡ Some rule → FitsStages rule

pub record IsTable (entries : List (ℕ × Pending)) (next : ℕ) (agendas : List Agenda) (erasure : List ErasedRule) (capacity : ℕ) : Type 0 where
  pub index : IsIndexed (rules_in entries) next agendas
  pub blank : erasure ≡ []
  pub fits : length entries ≤ capacity
  pub fitting : AreFitting (rules_in entries)
