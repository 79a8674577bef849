-- How lines ended: the worst end of any of them.
use Rattle.tw_each.specs.Names.{Closing, uncoded}
use Rattle.tw_pool.specs.declared.answer.Closing.TheVariants as closings
use Rattle.tw_source.specs.declared.close.Close.{Close}
use Rattle.tw_source.specs.declared.close.Close.TheVariants as closes
use Rattle.tw_source.specs.declared.failure.Position.TheVariants.{Nowhere}
use Rattle.tw_each.specs.declared.worst.WorstEnd.{WorstEnd}
use Rattle.tw_each.specs.declared.worst.WorstEnd.TheVariants.{Quiet, Stuck, Limit, Refused}

-- returns the worse of two ends: an error, else the limit or a stop, else a stuck run
abbrev pub worse : WorstEnd → WorstEnd → WorstEnd
worse Quiet other = other
worse Stuck Quiet = Stuck
worse Stuck Stuck = Stuck
worse Stuck Limit = Limit
worse Stuck Refused = Refused
worse Limit Quiet = Limit
worse Limit Stuck = Limit
worse Limit Limit = Limit
worse Limit Refused = Refused
worse Refused other = Refused

-- returns the end of a line whose run ended so
abbrev pub end_of : Closing → WorstEnd
end_of closings.Quiet = Quiet
end_of (closings.Stuck rules) = Stuck
end_of closings.Stopped = Limit
end_of closings.Limit = Limit

-- returns how a session ends after lines
abbrev pub close_of : WorstEnd → Close
close_of Quiet = closes.Success
close_of Stuck = closes.Stuck
close_of Limit = closes.Limit
close_of Refused = closes.Refused (uncoded Nowhere)
