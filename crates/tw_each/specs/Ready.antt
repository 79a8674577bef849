-- The steps of a program before it is run on lines.
use Rattle.std.specs.Prelude.{◌≡◌}
use Rattle.tw_each.specs.Names.{Bor, ℕ, List, Some, IsUtf8, map, Versioned, Source, EachOrder, cut_inputs, lines_in, source_text, reply}
use Rattle.tw_each.specs.declared.reply.Ready.{Ready}
use Rattle.tw_each.specs.declared.reply.Ready.TheVariants as ready
use Rattle.tw_each.specs.declared.together.EachParts.{EachParts}
use Rattle.tw_each.specs.declared.together.EachParts.TheVariants.{Lines, Replied}
use Rattle.tw_each.specs.Answers.{way}
use Rattle.tw_each.specs.Reply.{IsRead, IsRejectionLine, RepliesByEach, way_of}

-- holds for the program that is read, which is admitted, and how it is run; or for the line that rejects it
abbrev pub IsReady : Source → EachOrder → List ℕ → Ready → Type 0
IsReady source order input (ready.Run run) =
    (program : Versioned) × IsRead source order input program × (way run ≡ way_of (source_text source input) order run.verified) × (run.verified.program ≡ program.procedures)
IsReady source order input (ready.Rejected r) = IsRejectionLine source order input (reply r.text.items r.close)

-- holds for the program before the line `inputs`, and the lines after it, or for the reply to what is none
abbrev pub AreEachParts : Source → EachOrder → List ℕ → EachParts → Type 0
AreEachParts source order input (Lines run lines) =
    IsUtf8 input × (cut : List ℕ × List ℕ) × (cut_inputs (lines_in input) ≡ Some cut) × IsReady source order cut.0 (ready.Run run) × (map (λ (line : Bor (List ℕ)). line.now) lines.items ≡ lines_in cut.1)
AreEachParts source order input (Replied r) = RepliesByEach source order input (reply r.text.items r.close)
