-- The answer of a check about an accepted program, whose values are printed.
use Rattle.std.specs.Prelude.{◌≡◌, ℕ, suc, List, [], ◌∷◌, codes, Option, Some, None, option_map, IfSome}
use Rattle.tw_types.specs.declared.actor.Kind.{Kind}
use Rattle.tw_types.specs.declared.actor.Kind.TheVariants.{Control, Leaf}
use Rattle.tw_code.specs.declared.procedure.Procedure.{Procedure}
use Rattle.tw_code.specs.accepting.Flow.{flows}
use Rattle.tw_code.specs.accepting.Needs.{needed}
use Rattle.tw_code.specs.accepting.Walk.{IsBudget}
use Rattle.tw_bounds.specs.Bounds.{CallsEnd}
use Rattle.tw_bounds.specs.Circles.{IsCircle}
use Rattle.tw_bounds.specs.Limited.{AreLimitedBounds}
use Rattle.tw_bounds.specs.Reports.{AreRunBounds}
use Rattle.tw_bounds.specs.declared.circles.Circle.{Circle}
use Rattle.tw_bounds.specs.declared.limited.LimitedBounds.{LimitedBounds}
use Rattle.tw_copies.specs.Copies.{IsFirstCopyInsertion}
use Rattle.tw_copies.specs.declared.check.CopyInsertion.{CopyInsertion}
use Rattle.tw_order.specs.declared.check.BoundsOf.{BoundsOf}
use Rattle.tw_order.specs.declared.check.BoundsOf.TheVariants.{NoBounds, OfMain, OfEach}
use Rattle.tw_order.specs.declared.check.CheckOrder.{CheckOrder}
use Rattle.tw_order.specs.declared.check.EventOrder.{EventOrder}
use Rattle.tw_order.specs.declared.check.EventOrder.TheVariants.{Ignored, Checked}
use Rattle.tw_order.specs.declared.form.Places.{Places}
use Rattle.tw_order.specs.declared.form.Places.TheVariants.{Hidden, Shown}
use Rattle.tw_verify.specs.Searching.{searching}
use Rattle.tw_program_output.specs.declared.answer.CheckAnswer.{CheckAnswer}
use Rattle.tw_program_output.specs.declared.answer.FoundBounds.{FoundBounds}
use Rattle.tw_program_output.specs.declared.answer.ProcedureRow.{ProcedureRow}
use Rattle.tw_visible.specs.Visible.{HidesNothing}

-- ---- procedures

abbrev pub kind_word : Kind → List ℕ
kind_word Control = codes "control"
kind_word Leaf = codes "leaf"

-- holds for a row for each procedure, the first of which has this number
abbrev pub AreRows : ℕ → List Procedure → List ProcedureRow → Type 0
AreRows number [] rows = rows ≡ []
AreRows number (p ∷ others) rows =
    (budget : ℕ) × (rest : List ProcedureRow) × IsBudget (flows p.code) budget × (rows ≡ record { number = number; kind = p.kind; budget = budget } ∷ rest) × AreRows (suc number) others rest

-- ---- what may be requested

-- holds for any listing that hides nothing, if it is requested
abbrev pub MayBeListed : Places → Option (List ℕ) → Type 0
MayBeListed Hidden listing = listing ≡ None
MayBeListed Shown listing = IfSome listing HidesNothing

abbrev pub IsCircleOf : List Procedure → Option Circle → Type 0
IsCircleOf program None = CallsEnd program 0
IsCircleOf program (Some circle) = IsCircle program circle

abbrev pub AreLimitedBy : Option ℕ → List Procedure → Option LimitedBounds → Type 0
AreLimitedBy None program found = found ≡ None
AreLimitedBy (Some limit) program None = ⊥
AreLimitedBy (Some limit) program (Some bounds) = AreLimitedBounds program limit bounds

abbrev pub IsFound : Option ℕ → List Procedure → Option FoundBounds → Type 0
IsFound limit program None = ⊥
IsFound limit program (Some found) = AreRunBounds program found.bounds × IsCircleOf program found.circle × AreLimitedBy limit program found.limited

-- holds for the bounds, if they are requested
abbrev pub MayBeFound : BoundsOf → Option ℕ → List Procedure → Option FoundBounds → Type 0
MayBeFound NoBounds limit program found = found ≡ None
MayBeFound OfMain limit program found = IsFound limit program found
MayBeFound OfEach limit program found = IsFound limit program found

-- holds for the first insertion that may show the order, if it is requested
abbrev pub MayBeChecked : EventOrder → List Procedure → Option (Option CopyInsertion) → Type 0
MayBeChecked Ignored program answer = answer ≡ None
MayBeChecked Checked program None = ⊥
MayBeChecked Checked program (Some found) = IsFirstCopyInsertion program found

-- ---- the answer

-- what a check of this program finds out
pub record IsAnswer (order : CheckOrder) (program : List Procedure) (answer : CheckAnswer) : Type 0 where
  pub listing : MayBeListed order.places (option_map (λ t. t.items) answer.listing)
  pub procedures : AreRows 0 program answer.procedures.items
  pub engines : answer.needs.0 ≡ needed Control program
  pub workers : answer.needs.1 ≡ needed Leaf program
  pub searches : answer.searching ≡ searching program
  pub bounds : MayBeFound order.lines.bounds order.limit program answer.bounds
  pub insertion : MayBeChecked order.lines.event_order program answer.insertion
