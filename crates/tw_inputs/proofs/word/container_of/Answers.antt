use Rattle.std.proofs.Common.{codes}
use Rattle.tw_inputs.proofs.InputReading.{head_utf8}
use Rattle.tw_inputs.proofs.word.container_of.Goals as goal

pub members-requires : goal.members-requires
members-requires c = head_utf8 (codes "ints") c.args.word.now c.in-Some.list.now c.requires.utf8 c.in-Some.ensures

pub members-requires-in-Some-after : goal.members-requires-in-Some-after
members-requires-in-Some-after c = head_utf8 (codes "texts") c.args.word.now c.in-Some-after.list.now c.requires.utf8 c.in-Some-after.ensures

pub members-requires-in-Some-after-2 : goal.members-requires-in-Some-after-2
members-requires-in-Some-after-2 c = head_utf8 (codes "tints") c.args.word.now c.in-Some-after-2.list.now c.requires.utf8 c.in-Some-after-2.ensures

pub members-requires-in-Some-after-3 : goal.members-requires-in-Some-after-3
members-requires-in-Some-after-3 c = head_utf8 (codes "ttexts") c.args.word.now c.in-Some-after-3.list.now c.requires.utf8 c.in-Some-after-3.ensures
