-- Events that made rules, and the numbers of these.
use Rattle.std.proofs.Common.{◌≡◌, ◌+◌, ◌<◌, ◌≤◌, ◌⊎◌, inl, inr, ℕ, zero, suc, List, [], ◌∷◌, ◌++◌, length, get_or, take, Option, Some, None, refl, sym, ap, subst, ◌∙◌, append_assoc, arith}
use Rattle.std.proofs.lemmas.Option.{same_Some}
use Rattle.tw_replay_output.proofs.ReplayNames.{AreMade, DoesRule, Event, Frame, IsFromLine, IsLineOf, IsMade, IsMadeSo, IsOpened, IsReplayOf, IsUnmade, PlainView, Procedure, Start, State, PrintRules, PrintsCircle, PrintsRule, Went, append-nil, instr_at, length-append, option_to_list, reached_from, rule_by, rule_done, rule_in, rule_line, slice_get, take_more}
use Rattle.std.specs.FinMap.{get}
use Rattle.tw_types.specs.declared.actor.Actor.{Actor}
use Rattle.tw_types.specs.declared.event.Event.TheVariants.{Take, Local, Call, End, Ask, Deliver, Release}
use Rattle.tw_types.specs.declared.pending.Link.{Link}
use Rattle.tw_types.specs.Layout.{ActorCounts}
use Rattle.tw_code.specs.declared.instr.Action.{Action}
use Rattle.tw_code.specs.declared.instr.Instr.{Instr}
use Rattle.tw_code.specs.declared.instr.Instr.TheVariants as instr
use Rattle.tw_code.specs.machine.Due.{instr_here}
use Rattle.tw_code.specs.machine.Machine.{run, step}
use Rattle.tw_code.specs.machine.Opening.{opening}
use Rattle.tw_code.specs.machine.Pending.{circle}
use Rattle.tw_replay_output.proofs.Nexts.{next_rule_is}
use Rattle.tw_replay_output.specs.declared.replaying.Made.{Made}
use Rattle.tw_replay_output.specs.declared.replaying.Replaying.{Replaying}
use Rattle.tw_code.proofs.Runs.{run_more}
use Rattle.std.specs.Prelude.{OnOk, Result, Ok, Err}
use Rattle.tw_instr.specs.Attempts.{Changes}
use Rattle.tw_instr.specs.declared.stopped.Stopped.{Stopped}
use Rattle.tw_symbols.specs.Symbols.{name_at}

none_some : {A : Type 0} {Z : Type 0} (x : A) → None ≡ Some x → Z
none_some x e = absurd cc

went_is : (s t : State) → Went s ≡ Went t → s ≡ t
went_is s t e = cc

-- ---- an event that executes a RULE

rule_here : (f : Frame) (o : Option Instr) (m : Made) → rule_by f o ≡ Some m → (action : Action) × (o ≡ Some (instr.Rule action)) × (f.procedure ≡ m.procedure) × (f.position.place ≡ m.place) × (action.procedure ≡ m.runs)
rule_here f None m e = none_some m e
rule_here f (Some (instr.Local i)) m e = none_some m e
rule_here f (Some (instr.Data i)) m e = none_some m e
rule_here f (Some (instr.Rule action)) m e =
    let is = same_Some (record { procedure = f.procedure; place = f.position.place; runs = action.procedure }) m e in
    (action, refl, ap (λ (x : Made). x.procedure) is, ap (λ (x : Made). x.place) is, ap (λ (x : Made). x.runs) is)
rule_here f (Some (instr.Put action)) m e = none_some m e
rule_here f (Some instr.Ret) m e = none_some m e

does_in : (program : List Procedure) (s : State) (actor : Actor) (frame : Option Frame) (m : Made) → get s.frames actor ≡ frame → rule_in program frame ≡ Some m
    → (action : Action) × DoesRule program s (Call actor) m.procedure m.place action × (action.procedure ≡ m.runs)
does_in program s actor None m runs e = none_some m e
does_in program s actor (Some f) m runs e =
    let h = rule_here f (instr_here program f) m e in
    (h.0, record { actor = actor; is = refl; frame = f; runs = runs; procedure_is = h.2; place_is = h.3; does = h.1 }, h.4)

pub does : (program : List Procedure) (event : Event) (s : State) (m : Made) → rule_done program event s ≡ Some m → (action : Action) × DoesRule program s event m.procedure m.place action × (action.procedure ≡ m.runs)
does program (Take actor) s m e = none_some m e
does program (Local actor n) s m e = none_some m e
does program (Call actor) s m e = does_in program s actor (get s.frames actor) m refl e
does program (End actor) s m e = none_some m e
does program (Ask engine rule parameter) s m e = none_some m e
does program (Deliver server datum rule parameter) s m e = none_some m e
does program (Release engine rule) s m e = none_some m e

-- the rule that it makes
pub done_so : (program : List Procedure) (event : Event) (s : State) (procedure place : ℕ) (action : Action) → DoesRule program s event procedure place action → (m : Made) × (rule_done program event s ≡ Some m)
done_so program event s procedure place action d =
    let m : Made = record { procedure = d.frame.procedure; place = d.frame.position.place; runs = action.procedure } in (
      m,
      ap (λ (e : Event). rule_done program e s) d.is
          ∙ ap (λ (f : Option Frame). rule_in program f) d.runs
          ∙ ap (λ (i : Option Instr). rule_by d.frame i) d.does,
    )

-- ---- the number of the next rule

pub next_on : (start : Start) (event : Event) (s t : State) (made next : List Made) → step start.program start.layout event s ≡ Went t → s.next_rule ≡ length made + 1 → next ≡ made ++ option_to_list (rule_done start.program event s)
    → t.next_rule ≡ length next + 1
next_on start event s t made next went before is =
    let more = next_rule_is start.program start.layout event s t went in
    let long : length next ≡ length made + length (option_to_list (rule_done start.program event s)) = ap length is ∙ length-append made (option_to_list (rule_done start.program event s)) in
    omega (arith, more, long, before)

-- ---- one event more

first_same : {A : Type 0} (x y : A) (xs ys : List A) → x ∷ xs ≡ y ∷ ys → x ≡ y
first_same x y xs ys e = cc

rest_same : {A : Type 0} (x y : A) (xs ys : List A) → x ∷ xs ≡ y ∷ ys → xs ≡ ys
rest_same x y xs ys e = cc

none_there : {A : Type 0} (before : List A) (y : A) (after : List A) → [] ≡ before ++ (y ∷ after) → ⊥
none_there [] y after e = absurd cc
none_there (b ∷ before) y after e = absurd cc

-- holds for the last of a list, or for one before it
abbrev IsSplit : {A : Type 0} → List A → A → List A → A → List A → Type 0
IsSplit {A} xs x before y after = ((before ≡ xs) × (y ≡ x)) ⊎ ((rest : List A) × (after ≡ rest ++ x ∷ []) × (xs ≡ before ++ (y ∷ rest)))

split_end : {A : Type 0} (xs : List A) (x : A) (before : List A) (y : A) (after : List A) → xs ++ x ∷ [] ≡ before ++ (y ∷ after) → IsSplit xs x before y after
split_end [] x [] y after e = inl (refl, sym (first_same x y [] after e))
split_end [] x (b ∷ before) y after e = absurd (none_there before y after (rest_same x b [] (before ++ (y ∷ after)) e))
split_end {A} (z ∷ xs) x [] y after e = inr (xs, sym (rest_same z y (xs ++ x ∷ []) after e), ap (λ (a : A). a ∷ xs) (first_same z y (xs ++ x ∷ []) after e))
split_end {A} (z ∷ xs) x (b ∷ before) y after e = by (split_end xs x before y after (rest_same z b (xs ++ x ∷ []) (before ++ (y ∷ after)) e))
  where
    same : z ≡ b
    same = first_same z b (xs ++ x ∷ []) (before ++ (y ∷ after)) e

    by : IsSplit xs x before y after → IsSplit (z ∷ xs) x (b ∷ before) y after
    by (inl (all, last)) = inl (ap (λ (bs : List A). b ∷ bs) all ∙ ap (λ (a : A). a ∷ xs) (sym same), last)
    by (inr (rest, cut, is)) = inr (rest, cut, ap (λ (zs : List A). z ∷ zs) is ∙ ap (λ (a : A). a ∷ (before ++ (y ∷ rest))) same)

made_on : (start : Start) (events : List Event) (event : Event) (rule procedure place : ℕ) (action : Action) → IsMade start events rule procedure place action → IsMade start (events ++ event ∷ []) rule procedure place action
made_on start events event rule procedure place action h = record {
  before = h.before;
  event = h.event;
  after = h.after ++ event ∷ [];
  parts = ap (λ (es : List Event). es ++ event ∷ []) h.parts ∙ append_assoc h.before (h.event ∷ h.after) (event ∷ []);
  at = h.at;
  leads = h.leads;
  number = h.number;
  does = h.does;
}

-- what is made with one event more was made before, or by it
made_back : (start : Start) (events : List Event) (event : Event) (s : State) (rule procedure place : ℕ) (action : Action) → reached_from start events ≡ Went s → IsMade start (events ++ event ∷ []) rule procedure place action
    → IsMade start events rule procedure place action ⊎ ((s.next_rule ≡ rule) × DoesRule start.program s event procedure place action)
made_back start events event s rule procedure place action leads h = by (split_end events event h.before h.event h.after h.parts)
  where
    by : ((h.before ≡ events) × (h.event ≡ event)) ⊎ ((rest : List Event) × (h.after ≡ rest ++ event ∷ []) × (events ≡ h.before ++ (h.event ∷ rest)))
        → IsMade start events rule procedure place action ⊎ ((s.next_rule ≡ rule) × DoesRule start.program s event procedure place action)
    by (inl (all, last)) =
        let here : h.at ≡ s = went_is h.at s (sym h.leads ∙ ap (reached_from start) all ∙ leads) in
        inr (
          sym (ap (λ (t : State). t.next_rule) here) ∙ h.number,
          subst (λ (t : State). DoesRule start.program t event procedure place action) here (subst (λ (e : Event). DoesRule start.program h.at e procedure place action) last h.does),
        )
    by (inr (rest, cut, is)) = inl (record { before = h.before; event = h.event; after = rest; parts = is; at = h.at; leads = h.leads; number = h.number; does = h.does })

at_end : {A : Type 0} (xs : List A) (x y : A) (k : ℕ) → slice_get (xs ++ x ∷ []) k ≡ Some y → (slice_get xs k ≡ Some y) ⊎ ((k ≡ length xs) × (x ≡ y))
at_end [] x y zero e = inr (refl, same_Some x y e)
at_end [] x y (suc k) e = none_some y e
at_end (z ∷ xs) x y zero e = inl e
at_end {A} (z ∷ xs) x y (suc k) e = by (at_end xs x y k e)
  where
    by : (slice_get xs k ≡ Some y) ⊎ ((k ≡ length xs) × (x ≡ y)) → (slice_get xs k ≡ Some y) ⊎ ((suc k ≡ suc (length xs)) × (x ≡ y))
    by (inl h) = inl h
    by (inr (at, is)) = inr (ap suc at, is)

pub made_first : (start : Start) (made : List Made) → made ≡ [] → AreMade start [] made
made_first start made is = record { each = λ k m e. none_some m (ap (λ (ms : List Made). slice_get ms k) (sym is) ∙ e); all = λ rule procedure place action h. absurd (none_there h.before h.event h.after h.parts) }

more_made : (start : Start) (events : List Event) (event : Event) (s : State) (made : List Made) (o : Option Made) → reached_from start events ≡ Went s → s.next_rule ≡ length made + 1 → rule_done start.program event s ≡ o → AreMade start events made
    → AreMade start (events ++ event ∷ []) (made ++ option_to_list o)
more_made start events event s made None leads next is before = subst (AreMade start (events ++ event ∷ [])) (sym (append-nil made)) (record {
  each = λ k m e. let h = before.each k m e in (h.0, made_on start events event (k + 1) m.procedure m.place h.0 h.1, h.2);
  all = λ rule procedure place action h. by rule procedure place action (made_back start events event s rule procedure place action leads h);
})
  where
    by : (rule procedure place : ℕ) (action : Action) → IsMade start events rule procedure place action ⊎ ((s.next_rule ≡ rule) × DoesRule start.program s event procedure place action) → (1 ≤ rule) × (rule ≤ length made)
    by rule procedure place action (inl h) = before.all rule procedure place action h
    by rule procedure place action (inr (number, d)) = let m = done_so start.program event s procedure place action d in none_some m.0 (sym is ∙ m.1)
more_made start events event s made (Some m) leads next is before = record {
  each = λ k x e. each_by k x (at_end made m x k e);
  all = λ rule procedure place action h. by rule procedure place action (made_back start events event s rule procedure place action leads h);
}
  where
    long : length (made ++ m ∷ []) ≡ length made + 1
    long = length-append made (m ∷ [])

    each_by : (k : ℕ) (x : Made) → (slice_get made k ≡ Some x) ⊎ ((k ≡ length made) × (m ≡ x)) → IsMadeSo start (events ++ event ∷ []) (k + 1) x
    each_by k x (inl e) = let h = before.each k x e in (h.0, made_on start events event (k + 1) x.procedure x.place h.0 h.1, h.2)
    each_by k x (inr (at, same)) =
        let d = does start.program event s m is in
        let number : s.next_rule ≡ k + 1 = omega (arith, next, at) in
        subst (IsMadeSo start (events ++ event ∷ []) (k + 1)) same
        (d.0, record { before = events; event = event; after = []; parts = refl; at = s; leads = leads; number = number; does = d.1 }, d.2)

    by : (rule procedure place : ℕ) (action : Action) → IsMade start events rule procedure place action ⊎ ((s.next_rule ≡ rule) × DoesRule start.program s event procedure place action)
        → (1 ≤ rule) × (rule ≤ length (made ++ m ∷ []))
    by rule procedure place action (inl h) = let b = before.all rule procedure place action h in (b.0, omega (arith, b.1, long))
    by rule procedure place action (inr (number, d)) = (omega (arith, number, next), omega (arith, number, next, long))

pub all_more : (start : Start) (events : List Event) (event : Event) (s : State) (made next : List Made) → reached_from start events ≡ Went s → s.next_rule ≡ length made + 1 → next ≡ made ++ option_to_list (rule_done start.program event s)
    → AreMade start events made → AreMade start (events ++ event ∷ []) next
all_more start events event s made next leads count is before = subst (AreMade start (events ++ event ∷ [])) (sym is) (more_made start events event s made (rule_done start.program event s) leads count refl before)

-- an opening has made no rule
pub no_rule_yet : (start : Start) (s : State) → s ≡ opening start.program start.inputs → s.next_rule ≡ 1
unfolding opening
no_rule_yet start s is = ap (λ (t : State). t.next_rule) is

-- ---- the line of a rule

-- a rule that was made has its instruction in the program
pub there : (start : Start) (events : List Event) (rule : ℕ) (m : Made) → IsMadeSo start events rule m → instr_at start.program m.procedure m.place ≡ None → ⊥
there start events rule m (action, made, runs) none =
    let d = made.does in
    let here : instr_at start.program m.procedure m.place ≡ Some (instr.Rule action) =
    sym (ap (λ (n : ℕ). instr_at start.program n m.place) d.procedure_is) ∙ sym (ap (λ (k : ℕ). instr_at start.program d.frame.procedure k) d.place_is) ∙ d.does in
    none_some (instr.Rule action) (sym none ∙ here)

-- holds if lines about rules are added
abbrev pub AddsDiagnostic : (List ℕ → Type 0) → List ℕ → List ℕ → Type 0
AddsDiagnostic Prints old new = (more : List ℕ) × Prints more × (new ≡ old ++ more)

pub rule_printed : (names : List (List ℕ)) (text : List ℕ) (start : Start) (events : List Event) (rule : ℕ) (m : Made) (number : ℕ) (line old new : List ℕ) → IsMadeSo start events rule m
    → IsFromLine text m.procedure m.place number → IsLineOf text number line
    → new ≡ old ++ rule_line rule m.runs (name_at names m.runs) number line → AddsDiagnostic (PrintsRule names text start events rule) old new
rule_printed names text start events rule m number line old new (action, made, runs) comes is added = (
  rule_line rule action.procedure (name_at names action.procedure) number line,
  inl (m.procedure, m.place, number, action, line, made, comes, is, refl),
  added ∙ ap (λ (n : ℕ). old ++ rule_line rule n (name_at names n) number line) (sym runs),
)

pub none_printed : (names : List (List ℕ)) (text : List ℕ) (start : Start) (events : List Event) (rule : ℕ) (old : List ℕ) → IsUnmade start events rule → AddsDiagnostic (PrintsRule names text start events rule) old old
none_printed names text start events rule old unmade = ([], inr (unmade, refl), sym (append-nil old))

rules_more : (names : List (List ℕ)) (text : List ℕ) (start : Start) (events : List Event) (links : List Link) (l : Link) (more line : List ℕ) → PrintRules names text start events links more → PrintsRule names text start events l.rule line
    → PrintRules names text start events (links ++ l ∷ []) (more ++ line)
rules_more names text start events [] l more line none own = (line, [], own, refl, ap (λ (t : List ℕ). t ++ line) none ∙ sym (append-nil line))
rules_more names text start events (k ∷ links) l more line (first, others, is, rest, whole) own =
    (first, others ++ line, is, rules_more names text start events links l others line rest own, ap (λ (t : List ℕ). t ++ line) whole ∙ append_assoc first others line)

-- the lines of this many rules of a circle, and of one more
pub rule_more : (names : List (List ℕ)) (text : List ℕ) (start : Start) (events : List Event) (links next : List Link) (l : Link) (old now new : List ℕ) → next ≡ links ++ l ∷ [] → AddsDiagnostic (PrintRules names text start events links) old now
    → AddsDiagnostic (PrintsRule names text start events l.rule) now new → AddsDiagnostic (PrintRules names text start events next) old new
rule_more names text start events links next l old now new is (more, answered, before) (line, own, added) = (
  more ++ line,
  subst (λ (ls : List Link). PrintRules names text start events ls (more ++ line)) (sym is) (rules_more names text start events links l more line answered own),
  added ∙ ap (λ (t : List ℕ). t ++ line) before ∙ append_assoc old more line,
)

-- ---- the machine's first state

pub from_there : (start : Start) (first : PlainView) (events : List Event) → IsOpened start first → run first.program first.layout events first.state ≡ reached_from start events
from_there start first events h =
    ap (λ (ps : List Procedure). run ps first.layout events first.state) h.program
    ∙ ap (λ (a : ActorCounts). run start.program a events first.state) h.layout
    ∙ ap (λ (s : State). run start.program start.layout events s) h.state

pub one_taken : {X : Type 0} (xs : List X) (i : ℕ) (x : X) → i < length xs → x ≡ get_or xs i x → take (i + 1) xs ≡ take i xs ++ x ∷ []
one_taken xs i x inside is = take_more xs i x inside ∙ ap (λ y. take i xs ++ y ∷ []) (sym is)

-- before the first event no rule was made
pub first_next : (start : Start) (s : State) (made : List Made) → s ≡ opening start.program start.inputs → made ≡ [] → s.next_rule ≡ length made + 1
first_next start s made is none = no_rule_yet start s is ∙ ap (λ (ms : List Made). length ms + 1) (sym none)

pub run_none : (program : List Procedure) (layout : ActorCounts) (s : State) → run program layout [] s ≡ Went s
unfolding run
run_none program layout s = refl

-- ---- a replay

pub replay_first : (start : Start) (r : Replaying) → IsOpened start r.plain → r.made.items ≡ [] → IsReplayOf start [] r
replay_first start r h none = record {
  program = h.program;
  layout = h.layout;
  leads = run_none start.program start.layout (opening start.program start.inputs) ∙ ap (λ (s : State). Went s) (sym h.state);
  next = first_next start r.plain.state r.made.items h.state none;
  made = made_first start r.made.items none;
}

-- a replay with one event more
replay_more : (start : Start) (events : List Event) (event : Event) (old new : Replaying) → step old.plain.program old.plain.layout event old.plain.state ≡ Went new.plain.state → new.plain.program ≡ old.plain.program
    → new.plain.layout ≡ old.plain.layout → new.made.items ≡ old.made.items ++ option_to_list (rule_done old.plain.program event old.plain.state) → IsReplayOf start events old → IsReplayOf start (events ++ event ∷ []) new
replay_more start events event old new went program layout added h =
    let there : step start.program start.layout event old.plain.state ≡ Went new.plain.state =
    sym (ap (λ (ps : List Procedure). step ps old.plain.layout event old.plain.state) h.program ∙ ap (λ (a : ActorCounts). step start.program a event old.plain.state) h.layout) ∙ went in
    let kept : new.made.items ≡ old.made.items ++ option_to_list (rule_done start.program event old.plain.state) =
    added ∙ ap (λ (ps : List Procedure). old.made.items ++ option_to_list (rule_done ps event old.plain.state)) h.program in
    record {
      program = program ∙ h.program;
      layout = layout ∙ h.layout;
      leads = run_more start.program start.layout events event (opening start.program start.inputs) old.plain.state new.plain.state h.leads there;
      next = next_on start event old.plain.state new.plain.state old.made.items new.made.items there h.next kept;
      made = all_more start events event old.plain.state old.made.items new.made.items h.leads h.next kept h.made;
    }

-- if the event succeeds
pub replay_stepped : (event : Event) (old new : Replaying) (done : Result (Unit {0}) Stopped) → Changes (step old.plain.program old.plain.layout event old.plain.state) old.plain.state done new.plain.state → new.plain.program ≡ old.plain.program
    → new.plain.layout ≡ old.plain.layout → new.made.items ≡ old.made.items ++ option_to_list (rule_done old.plain.program event old.plain.state)
    → OnOk done ((start : Start) (events : List Event) → IsReplayOf start events old → IsReplayOf start (events ++ event ∷ []) new)
replay_stepped event old new (Ok u) went program layout added = λ start events h. replay_more start events event old new went program layout added h
replay_stepped event old new (Err why) went program layout added = tt

-- the circle in its state is that of the start's program
pub circle_there : (text : List ℕ) (start : Start) (events : List Event) (found : Option (List Link)) (r : Replaying) (old new : List ℕ) → found ≡ circle r.plain.program r.plain.state → IsReplayOf start events r
    → AddsDiagnostic (PrintsCircle text start events found) old new → AddsDiagnostic (PrintsCircle text start events (circle start.program r.plain.state)) old new
circle_there text start events found r old new is replay h =
    subst (λ (o : Option (List Link)). AddsDiagnostic (PrintsCircle text start events o) old new) (is ∙ ap (λ (ps : List Procedure). circle ps r.plain.state) replay.program) h
