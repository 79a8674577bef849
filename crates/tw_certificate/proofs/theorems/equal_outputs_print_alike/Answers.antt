use Rattle.tw_verify.specs.Typed.{typings_of}
use Rattle.tw_certificate.proofs.Printing.{printed_alike}
use Rattle.tw_certificate.proofs.theorems.equal_outputs_print_alike.Goals as goal

pub returns : goal.returns
returns c inputs others layout other events more s t given also reaches arrives same =
    let program = c.args.verified.now.program in
    let order = c.no_trap.ensures.ordered in
    printed_alike program (typings_of c.args.verified.now) s t (order.reached_is_in_order inputs layout events s given reaches) (order.reached_is_in_order others other more t also arrives) same
