use Rattle.std.proofs.Common.{Some}
use Rattle.std.specs.Cmp.Lexicographic.{slice_cmp}
use Rattle.std.specs.Ordering.{int_cmp, nat_cmp}
use Rattle.json.specs.Find.{as_str}
use Rattle.json.specs.Value.{members_view}
use Rattle.tw_inputs.specs.JsonInputs.{int_in, int_json}
use Rattle.tw_inputs.proofs.Seen.{no_members}
use Rattle.tw_inputs.proofs.json_item.container_of.Goals as goal

pub returns-in-None : goal.returns-in-None
returns-in-None c = rw (c.in-true-Int.is-0, c.in-true-Int.is-1) (λ given is. no_members (slice_cmp nat_cmp) Some int_json (members_view c.args.object.now) is.0 (rw c.in-None.is at c.in_ok-members-in-true-Int.ensures) is.1)

pub returns-in-None-2 : goal.returns-in-None-2
returns-in-None-2 c = rw (c.in-true-Text.is-0, c.in-true-Text.is-1) (λ given is. no_members (slice_cmp nat_cmp) Some as_str (members_view c.args.object.now) is.0 (rw c.in-None-2.is at c.in_ok-members-in-true-Text.ensures) is.1)

pub returns-in-None-3 : goal.returns-in-None-3
returns-in-None-3 c = rw (c.in-false-Int.is-0, c.in-false-Int.is-1) (λ given is. no_members int_cmp int_in int_json (members_view c.args.object.now) is.0 (rw c.in-None-3.is at c.in_ok-members-in-false-Int.ensures) is.1)

pub returns-in-None-4 : goal.returns-in-None-4
returns-in-None-4 c = rw (c.in-false-Text.is-0, c.in-false-Text.is-1) (λ given is. no_members int_cmp int_in as_str (members_view c.args.object.now) is.0 (rw c.in-None-4.is at c.in_ok-members-in-false-Text.ensures) is.1)
