-- The worst end of lines doesn't depend on how they are divided.
use Rattle.tw_each.proofs.Names.{WorstEnd, refl, worse, ◌≡◌}
use Rattle.tw_each.specs.declared.worst.WorstEnd.TheVariants.{Quiet, Stuck, Limit, Refused}

pub worse_quiet : (a : WorstEnd) → worse a Quiet ≡ a
worse_quiet Quiet = refl
worse_quiet Stuck = refl
worse_quiet Limit = refl
worse_quiet Refused = refl

stuck_assoc : (b c : WorstEnd) → worse Stuck (worse b c) ≡ worse (worse Stuck b) c
stuck_assoc Quiet c = refl
stuck_assoc Stuck Quiet = refl
stuck_assoc Stuck Stuck = refl
stuck_assoc Stuck Limit = refl
stuck_assoc Stuck Refused = refl
stuck_assoc Limit Quiet = refl
stuck_assoc Limit Stuck = refl
stuck_assoc Limit Limit = refl
stuck_assoc Limit Refused = refl
stuck_assoc Refused c = refl

limit_assoc : (b c : WorstEnd) → worse Limit (worse b c) ≡ worse (worse Limit b) c
limit_assoc Quiet c = refl
limit_assoc Stuck Quiet = refl
limit_assoc Stuck Stuck = refl
limit_assoc Stuck Limit = refl
limit_assoc Stuck Refused = refl
limit_assoc Limit Quiet = refl
limit_assoc Limit Stuck = refl
limit_assoc Limit Limit = refl
limit_assoc Limit Refused = refl
limit_assoc Refused c = refl

pub worse_assoc : (a b c : WorstEnd) → worse a (worse b c) ≡ worse (worse a b) c
worse_assoc Quiet b c = refl
worse_assoc Stuck b c = stuck_assoc b c
worse_assoc Limit b c = limit_assoc b c
worse_assoc Refused b c = refl
