-- Output of a session.
use Rattle.std.specs.Prelude.{ℕ, List}
use Rattle.tw_source.specs.declared.close.Close.{Close}

-- the output of a session, and how it ends
pub record Reply : Type 0 where
  pub text : List ℕ
  pub close : Close

abbrev pub reply : List ℕ → Close → Reply
reply text close = record { text = text; close = close }
