-- The progress of reading, from its fields, and stages that differ.
use Rattle.tw_asm.proofs.AsmNames.{AfterHead, AfterVersion, InBody, List, Place, Progress, Section, Stage, Start, Version, ℕ, ◌≡◌}

abbrev pub progress : Version → List Section → ℕ → Place → Progress
progress version sections head_line place = record { version = version; sections = sections; head_line = head_line; place = place }

pub start_head : {Z : Type 0} → ◌≡◌ {A = Stage} Start AfterHead → Z
start_head e = absurd cc

pub start_body : {Z : Type 0} → ◌≡◌ {A = Stage} Start InBody → Z
start_body e = absurd cc

pub head_start : {Z : Type 0} → ◌≡◌ {A = Stage} AfterHead Start → Z
head_start e = absurd cc

pub head_body : {Z : Type 0} → ◌≡◌ {A = Stage} AfterHead InBody → Z
head_body e = absurd cc

pub body_start : {Z : Type 0} → ◌≡◌ {A = Stage} InBody Start → Z
body_start e = absurd cc

pub body_head : {Z : Type 0} → ◌≡◌ {A = Stage} InBody AfterHead → Z
body_head e = absurd cc

pub version_head : {Z : Type 0} → ◌≡◌ {A = Stage} AfterVersion AfterHead → Z
version_head e = absurd cc

pub version_body : {Z : Type 0} → ◌≡◌ {A = Stage} AfterVersion InBody → Z
version_body e = absurd cc

pub version_start : {Z : Type 0} → ◌≡◌ {A = Stage} AfterVersion Start → Z
version_start e = absurd cc
