use Rattle.tw_asm.proofs.AsmNames.{List, [], ap, arith, codes, length, length-append, take, take-append_seam, ℕ, ◌++◌, ◌-◌, ◌∙◌, ◌≡◌}
use Rattle.tw_asm.specs.Listing.{instr_text}
use Rattle.tw_asm.proofs.listing.LabelPlaces.instr_text.Goals as goal

-- a line without its line feed, written to an empty buffer
without_end : (text before line : List ℕ) (n : ℕ) → before ≡ [] → line ≡ before ++ (text ++ codes "\n") → n ≡ length line → take (n - 1) line ≡ text
without_end text before line n nothing wrote long =
    let is : line ≡ text ++ codes "\n" = wrote ∙ ap (λ (b : List ℕ). b ++ (text ++ codes "\n")) nothing in
    let count : n - 1 ≡ length text = omega (arith, long, ap length is, length-append text (codes "\n")) in
    ap (λ (k : ℕ). take k line) count ∙ ap (take (length text)) is ∙ take-append_seam text (codes "\n")

pub returns : goal.returns
returns c =
    c.truncate.ensures.items
    ∙ without_end _ c.new-lines.result.out.items c.put_instr_at.new.lines.out.items c.len.result c.new-lines.ensures c.in_ok-put_instr_at.ensures (c.len.ensures ∙ c.put_instr_at.new.lines.out.ok.0)
    ∙ ap (λ (labels : List ℕ). instr_text labels c.args.place c.args.instr.now) c.self.view_is
