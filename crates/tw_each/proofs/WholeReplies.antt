-- Replies to a program and the lines that are read with it.
use Rattle.tw_each.proofs.Names.{Answers, AreAnswers, Bor, EachParts, Global, List, MatchOption, Option, RepliesByEach, RepliesByParts, Vec, Way, ap, close_of, codes, inl, map, source_text, subst, sym, way, way_of, ℕ, ◌∙◌, ◌≡◌}
use Rattle.tw_order.specs.declared.order.Source.{Source}
use Rattle.tw_order.specs.declared.runs.EachOrder.{EachOrder}
use Rattle.tw_source.specs.Inputs.{cut_inputs, lines_in}
use Rattle.tw_source.specs.Reply.{Reply, reply}
use Rattle.tw_source.specs.declared.close.Close.TheVariants.{CommandLine}
use Rattle.tw_each.specs.Ready.{AreEachParts}
use Rattle.tw_each.specs.Reply.{RepliesInUtf8}
use Rattle.tw_each.specs.declared.answer.EachRun.{EachRun}
use Rattle.tw_each.specs.declared.together.EachParts.TheVariants.{Lines}

-- the reply to what is before and after the line `inputs` is one to the text
pub of_cut : (source : Source) (order : EachOrder) (text : List ℕ) (found : Option (List ℕ × List ℕ)) (r : Reply) → cut_inputs (lines_in text) ≡ found
    → MatchOption found (r ≡ reply (codes "command line refused\n") CommandLine) (λ cut. RepliesByParts source order cut.0 (lines_in cut.1) r) → RepliesInUtf8 source order text r
of_cut source order text found r is h =
    subst (λ (o : Option (List ℕ × List ℕ)). MatchOption o (r ≡ reply (codes "command line refused\n") CommandLine) (λ cut. RepliesByParts source order cut.0 (lines_in cut.1) r)) (sym is) h

-- the reply to an admitted program is the answers to its lines
pub answered : (source : Source) (order : EachOrder) (input : List ℕ) (parts : EachParts) (run : EachRun) (lines : Vec (Bor (List ℕ)) Global) (given : List (Bor (List ℕ))) (answers : Answers) (r : Reply)
    → AreEachParts source order input parts → parts ≡ Lines run lines → given ≡ lines.items → AreAnswers (way run) 0 (map (λ (line : Bor (List ℕ)). line.now) given) answers.text.items answers.worst
    → r.text ≡ answers.text.items → r.close ≡ close_of answers.worst → RepliesByEach source order input r
answered source order input parts run lines given answers r are is same made text_is closes = by (subst (AreEachParts source order input) is are)
  where
    now : List (Bor (List ℕ)) → List (List ℕ)
    now = map (λ (line : Bor (List ℕ)). line.now)

    by : AreEachParts source order input (Lines run lines) → RepliesByEach source order input r
    by (utf8, cut, found, (program, read, way_is, kept), after) =
        let way = way_of (source_text source cut.0) order run.verified in
        let own = subst (λ (w : Way). AreAnswers w 0 (now given) answers.text.items answers.worst) way_is made in
        let whole = subst (λ (ls : List (List ℕ)). AreAnswers way 0 ls answers.text.items answers.worst) (ap now same ∙ after) own in
        let printed = subst (λ (t : List ℕ). AreAnswers way 0 (lines_in cut.1) t answers.worst) (sym text_is) whole in
        inl (utf8, of_cut source order input _ r found (inl (program, read, (run.verified, answers.worst, kept, printed, closes))))
