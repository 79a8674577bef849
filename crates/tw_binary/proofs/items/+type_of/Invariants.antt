use Rattle.tw_binary.proofs.items.+type_of.Given as goal

abbrev pub decreases-type_of : goal.decreases-type_of
decreases-type_of l = l.room
