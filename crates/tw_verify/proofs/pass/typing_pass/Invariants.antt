use Rattle.std.proofs.Common.{◌≡◌, ℕ, ◌+◌, length, Option, Some}
use Rattle.tw_verify.proofs.VerifierNames.{IsWellTyped, Reached, slice_get}
use Rattle.tw_verify.proofs.Reaching.{IsRow}
use Rattle.tw_verify.proofs.pass.typing_pass.Given as goal

-- the places so far have their typings, and each row says what both outcomes of these brought
abbrev pub invariant-loop-place : goal.invariant-loop-place
invariant-loop-place l = record {
  typed : IsWellTyped l.procedures l.procedure l.all.items l.place;
  long : length l.rows.items ≡ length l.code;
  rows : (k : ℕ) (row : Option Reached) → slice_get l.rows.items k ≡ Some row → IsRow l.procedures l.procedure l.all.items (l.place + l.place) k row;
}
