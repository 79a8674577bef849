use Rattle.tw_each.proofs.Names.{List, NoMemory, [], err_from_is_err_and, sym, way, ℕ, ◌∙◌, ◌∷◌, ◌≡◌}
use Rattle.tw_each.proofs.Chunks.{no_texts, takes_nothing}
use Rattle.tw_each.proofs.Pieces.{has_first}
use Rattle.tw_each.proofs.stream.take_parts.Goals as goal

pub returns-in_err-keep-in-Some : goal.returns-in_err-keep-in-Some
returns-in_err-keep-in-Some g c chunk parts bytes at =
    let p = err_from_is_err_and c.from_residual.result c.from_residual.ensures.1 in
    rw (p.1, p.2) (takes_nothing (way c.args.crew.now.run.now) c.args.answered c.args.begun.now.items c.keep.new.line.items chunk (g.W.Write.contents c.args.writer.now) NoMemory bytes at)

pub returns-in-None : goal.returns-in-None
returns-in-None g c chunk parts =
    let (first, others, is) = has_first chunk in
    absurd (never first others (sym (no_texts c.args.parts.now c.in-None.ensures.cases) ∙ parts ∙ is))
  where
    never : (first : List ℕ) (others : List (List ℕ)) → [] ≡ first ∷ others → ⊥
    never first others e = cc
