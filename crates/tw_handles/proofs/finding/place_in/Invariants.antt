use Rattle.tw_handles.proofs.Names.{named, subscripts_of, ◌-◌}
use Rattle.tw_handles.proofs.Search.{IsSearched}
use Rattle.tw_handles.proofs.finding.place_in.Given as goal

-- the subscript is at neither end
abbrev pub invariant-loop-low : goal.invariant-loop-low
invariant-loop-low l = IsSearched (subscripts_of l.datum.datum.content) (named l.subscript) l.low l.high

abbrev pub decreases-loop-low : goal.decreases-loop-low
decreases-loop-low l = l.high - l.low
