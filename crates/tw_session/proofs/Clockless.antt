-- Replies without a clock.
use Rattle.tw_session.proofs.SessionNames.{Given, MayReplyClockless, MayReplyTo, Order, Reply, clockless_reply, false, limits_time, true, ◌≡◌}

pub timed : (order : Order) (g : Given) (r : Reply) → limits_time order ≡ true → r ≡ clockless_reply → MayReplyClockless order g r
timed order g r is h = rw is h

pub untimed : (order : Order) (g : Given) (r : Reply) → limits_time order ≡ false → MayReplyTo order g r → MayReplyClockless order g r
untimed order g r is h = rw is h
