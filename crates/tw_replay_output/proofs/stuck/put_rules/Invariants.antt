use Rattle.std.proofs.Common.{List, take}
use Rattle.tw_replay_output.proofs.ReplayNames.{AreMade, Event, IsSource, Start, PrintRules}
use Rattle.tw_replay_output.specs.Stuck.{IsLookup}
use Rattle.tw_replay_output.proofs.Making.{AddsDiagnostic}
use Rattle.tw_replay_output.proofs.stuck.put_rules.Given as goal

-- the lines of this many rules
abbrev pub invariant-loop-link : goal.invariant-loop-link
invariant-loop-link l = (start : Start) (events : List Event) → IsLookup l.lookup l.source → IsSource l.source start.program → AreMade start events l.made
    → AddsDiagnostic (PrintRules l.lookup.names l.source.text.now start events (take l.link-index l.links)) l.fn.out.items l.out.items
