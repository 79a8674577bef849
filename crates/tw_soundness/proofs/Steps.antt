-- Successes, step by step: instructions have results, and events have outcomes.
use Rattle.std.proofs.Common.{◌≡◌, Bool, true, false, Option, Some, None, refl, ap}
use Rattle.tw_soundness.proofs.MachineNames.{Cause, Check, Err, NotEnabled, Ok, Outcome, Result, Trap, Went, enabled, must, ok_or, only_if, outcome_of}
use Rattle.tw_types.specs.Outcome as event
use Rattle.tw_types.specs.Result as tried

-- ---- instructions

-- it succeeded, and its result has P
abbrev pub Goes : {A : Type 0} → Result A Cause → (A → Type 0) → Type 0
Goes (Ok x) P = P x
Goes (Err cause) P = ⊥

pub goes : {A B : Type 0} (r : Result A Cause) (f : A → Result B Cause) (P : B → Type 0) (x : A) → r ≡ Ok x → Goes (f x) P → Goes (tried.◌>>=◌ r f) P
goes r f P x e h = rw e h

pub goes_must : {B : Type 0} (b : Bool) (cause : Cause) (f : Result B Cause) (P : B → Type 0) → b ≡ true → Goes f P → Goes (tried.◌>>◌ (must b cause) f) P
goes_must b cause f P e h = rw e h

pub goes_then : {B : Type 0} (r : Check) (f : Result B Cause) (P : B → Type 0) → r ≡ Ok tt → Goes f P → Goes (tried.◌>>◌ r f) P
goes_then r f P e h = rw e h

pub at_some : {A : Type 0} (o : Option A) (cause : Cause) (x : A) → o ≡ Some x → ok_or o cause ≡ Ok x
at_some o cause x e = ap (λ z. ok_or z cause) e

pub goes_more : {A B : Type 0} (r : Result A Cause) (f : A → Result B Cause) (P : A → Type 0) (Q : B → Type 0) → Goes r P → ((x : A) → P x → Goes (f x) Q) → Goes (tried.◌>>=◌ r f) Q
goes_more (Ok x) f P Q h k = k x h
goes_more (Err cause) f P Q h k = h

-- ---- events

-- it succeeded, and its result has P
abbrev pub Happens : {A : Type 0} → Outcome A → (A → Type 0) → Type 0
Happens (Went x) P = P x
Happens NotEnabled P = ⊥
Happens (Trap cause) P = ⊥

-- it didn't trap, and what came of it has P
abbrev pub Keeps : {A : Type 0} → Outcome A → (A → Type 0) → Type 0
Keeps (Went x) P = P x
Keeps NotEnabled P = Unit {0}
Keeps (Trap cause) P = ⊥

-- an instruction that succeeds, as an event
pub goes_happens : {A : Type 0} (r : Result A Cause) (P Q : A → Type 0) → Goes r P → ((x : A) → P x → Q x) → Happens (outcome_of r) Q
goes_happens (Ok x) P Q h k = k x h
goes_happens (Err cause) P Q h k = h

pub happens_keeps : {A : Type 0} (o : Outcome A) (P : A → Type 0) → Happens o P → Keeps o P
happens_keeps (Went x) P h = h
happens_keeps NotEnabled P h = absurd h
happens_keeps (Trap cause) P h = h

-- an outcome that isn't enabled keeps everything
pub waits_keeps : {A : Type 0} (o : Outcome A) (P : A → Type 0) → o ≡ NotEnabled → Keeps o P
waits_keeps o P e = rw e tt

pub keeps_more : {A B : Type 0} (o : Outcome A) (f : A → Outcome B) (P : A → Type 0) (Q : B → Type 0) → Keeps o P → ((x : A) → P x → Keeps (f x) Q) → Keeps (event.◌>>=◌ o f) Q
keeps_more (Went x) f P Q h k = k x h
keeps_more NotEnabled f P Q h k = tt
keeps_more (Trap cause) f P Q h k = h

pub ok_keeps : {A B : Type 0} (r : Result A Cause) (f : A → Outcome B) (P : B → Type 0) (x : A) → r ≡ Ok x → Keeps (f x) P → Keeps (event.◌>>=◌ (outcome_of r) f) P
ok_keeps r f P x e h = rw e h

pub enabled_keeps : {A B : Type 0} (o : Option A) (f : A → Outcome B) (P : B → Type 0) → ((x : A) → o ≡ Some x → Keeps (f x) P) → Keeps (event.◌>>=◌ (enabled o) f) P
enabled_keeps None f P k = tt
enabled_keeps (Some x) f P k = k x refl

pub only_if_keeps : {B : Type 0} (b : Bool) (f : Outcome B) (P : B → Type 0) → (b ≡ true → Keeps f P) → Keeps (event.◌>>◌ (only_if b) f) P
only_if_keeps true f P k = k refl
only_if_keeps false f P k = tt

pub keeps_went : {A : Type 0} (o : Outcome A) (P : A → Type 0) (x : A) → Keeps o P → o ≡ Went x → P x
keeps_went o P x h e = rw e at h

pub keeps_no_trap : {A : Type 0} (o : Outcome A) (P : A → Type 0) (cause : Cause) → Keeps o P → o ≡ Trap cause → ⊥
keeps_no_trap o P cause h e = rw e at h

-- an instruction that succeeds, in an event
pub goes_keeps : {A B : Type 0} (r : Result A Cause) (f : A → Outcome B) (P : A → Type 0) (Q : B → Type 0) → Goes r P → ((x : A) → P x → Keeps (f x) Q) → Keeps (event.◌>>=◌ (outcome_of r) f) Q
goes_keeps (Ok x) f P Q h k = k x h
goes_keeps (Err cause) f P Q h k = h

-- an item that is known to be there
pub there_keeps : {A B : Type 0} (o : Option A) (cause : Cause) (f : A → Outcome B) (P : B → Type 0) (x : A) → o ≡ Some x → Keeps (f x) P → Keeps (event.◌>>=◌ (outcome_of (ok_or o cause)) f) P
there_keeps o cause f P x e h = rw e h

pub goes_mapped : {A : Type 0} (r : Result A Cause) (P Q : A → Type 0) → Goes r P → ((x : A) → P x → Q x) → Goes r Q
goes_mapped (Ok x) P Q h k = k x h
goes_mapped (Err cause) P Q h k = h

pub keeps_mapped : {A : Type 0} (o : Outcome A) (P Q : A → Type 0) → Keeps o P → ((x : A) → P x → Q x) → Keeps o Q
keeps_mapped (Went x) P Q h k = k x h
keeps_mapped NotEnabled P Q h k = tt
keeps_mapped (Trap cause) P Q h k = h
