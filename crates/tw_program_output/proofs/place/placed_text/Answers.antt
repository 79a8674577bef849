use Rattle.tw_program_output.proofs.ReplyNames.{List, ap, finished, from_empty, text_of, ℕ, ◌++◌, ◌∙◌}
use Rattle.tw_program_output.specs.Place.{IsPlaced, placed_line}
use Rattle.tw_program_output.proofs.place.placed_text.Goals as goal

pub returns : goal.returns
returns c = λ program may_be.
    let line = placed_line c.args.head.now c.args.procedure c.args.place c.args.tail.now in
    let more = c.in_ok-put_place_line.ensures program may_be in
    finished c.finish.result (record { alloc = c.args.alloc; bytes = c.put_place_line.new.out; is_short = c.put_placed.new.out.is_short })
    (λ (t : List ℕ). IsPlaced (text_of c.args.source.now) line c.args.procedure c.args.place t) c.finish.ensures.all c.finish.ensures.fine
    (λ fine. (more.0, more.1, more.2 ∙ ap (λ (t : List ℕ). t ++ more.0) (from_empty _ _ _ c.new-text.ensures.empty c.put_placed.ensures fine)))
