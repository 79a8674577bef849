use Rattle.std.proofs.Common.{length, IsUtf8}
use Rattle.tw_inputs.specs.InputWords.{EncodesMember}
use Rattle.tw_inputs.proofs.Members.{AreRead}
use Rattle.tw_inputs.proofs.lists.members.Given as goal

abbrev pub invariant-loop-members : goal.invariant-loop-members
invariant-loop-members g l = record { read : AreRead (EncodesMember g.S.Part.Spells g.V.Part.Spells) l.list l.members.items l.rest; utf8 : IsUtf8 l.rest }

abbrev pub decreases-loop-members : goal.decreases-loop-members
decreases-loop-members g l = length l.rest
