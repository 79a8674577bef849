use Rattle.tw_symbols.proofs.TextNames.{Bor, HasNoHead, List, YieldsList-at, YieldsList-end, YieldsList-from_lines, [], map, map-append, subst, sym, ℕ, ◌∷◌}
use Rattle.tw_symbols.proofs.NoHeads.{no_name}
use Rattle.tw_symbols.proofs.SymbolLines.{AreRead, none_read, read_more}
use Rattle.tw_symbols.proofs.symbols.Symbols.of.Goals as goal

pub loop-line-init : goal.loop-line-init
loop-line-init c = none_read _ c.new-procedures.ensures.items

pub loop-line-preserved-in-Continue-1 : goal.loop-line-preserved-in-Continue-1
loop-line-preserved-in-Continue-1 c =
    subst (λ (ls : List (List ℕ)). AreRead ls c.push_line.new.names.items) (sym (map-append (λ (line : Bor (List ℕ)). line.now) c.loop-line.yielded (c.in-Some.line ∷ [])))
    (read_more (map (λ (line : Bor (List ℕ)). line.now) c.loop-line.yielded) c.in-Some.line.now c.loop-line.procedures.items c.push_line.new.names.items c.loop-line.invariant c.in_ok-push_line.ensures)

pub loop-line-preserved : goal.loop-line-preserved
loop-line-preserved c =
    let none : HasNoHead c.in-Some.line.now = c.may_begin_procedure.ensures c.if-may_begin_procedure.false in
    subst (λ (ls : List (List ℕ)). AreRead ls c.loop-line.procedures.items) (sym (map-append (λ (line : Bor (List ℕ)). line.now) c.loop-line.yielded (c.in-Some.line ∷ [])))
    (read_more (map (λ (line : Bor (List ℕ)). line.now) c.loop-line.yielded) c.in-Some.line.now c.loop-line.procedures.items c.loop-line.procedures.items c.loop-line.invariant (none.0, none.1, no_name c.loop-line.procedures.items none.0 none.2))

pub returns : goal.returns
returns c =
    let road = YieldsList-at c.into_iter-line-iterator.ensures.into_iter_gives (YieldsList-from_lines c.args.text.now c.lines-line-items.ensures.rest) in
    let t = YieldsList-end road c.loop-line.yielded _ c.loop-line.yielded_by _ _ c.in-None.is c.next.ensures.steps in
    subst (λ (ls : List (List ℕ)). AreRead ls c.loop-line.procedures.items) t.0 c.loop-line.invariant
