-- The replies of a session that has no clock: it rejects an order that limits the time of a run.
use Rattle.std.specs.Prelude.{◌≡◌}
use Rattle.tw_session.specs.Names.{ℕ, Bool, false, List, codes, is_some, MatchBool, MatchResult, Result, Text, NoOrder, order_in_turn, Order, Reply, reply}
use Rattle.tw_source.specs.declared.close.Close.TheVariants.{CommandLine}
use Rattle.tw_cli.specs.Order.{GivesByWords}
use Rattle.tw_order.specs.declared.order.Order.TheVariants.{Assemble, Check, Disassemble, Each, Replay, Run}
use Rattle.tw_session.specs.Parts.{Given, alone}
use Rattle.tw_session.specs.Session.{MayReplyTo, RepliesByReason}

-- returns whether an order limits the time of a run
abbrev pub limits_time : Order → Bool
limits_time (Assemble order) = false
limits_time (Disassemble source order) = false
limits_time (Check source order) = false
limits_time (Run source options given) = is_some options.seconds
limits_time (Each source order) = is_some order.seconds
limits_time (Replay source answer layout given) = false

-- returns the reply to such an order
abbrev pub clockless_reply : Reply
clockless_reply = reply (codes "command line refused\n--seconds needs the command tw: the library has no clock, and is stopped by flags\n") CommandLine

-- holds for the reply to an order and to what is given
abbrev pub MayReplyClockless : Order → Given → Reply → Type 0
MayReplyClockless order g r = MatchBool (limits_time order) (r ≡ clockless_reply) (MayReplyTo order g r)

-- holds for a reply to the order that arguments give, in one thread, or to the reason why there is none; and to the bytes that come with them
abbrev pub AnswersClockless : Result Order NoOrder → List ℕ → Reply → Type 0
AnswersClockless asked input r = MatchResult asked (λ order. MayReplyClockless (order_in_turn order) (alone input) r) (λ why. RepliesByReason why r)

-- holds for a reply to arguments and these bytes
abbrev pub AnswersWords : List Text → List ℕ → Reply → Type 0
AnswersWords words input r = (asked : Result Order NoOrder) × GivesByWords words asked × AnswersClockless asked input r
