use Rattle.tw_verify.proofs.VerifierNames.{AllByRecursion, IsRegister, List, Option, Param, Typing, Zip-more, [], ap, either_empty_from_Zip, iter_rest, lowest_of, option_map, refl, rejection_in, requires_args, subst, sym, verify_error_code, without_args, zip_first, zip_second, ℕ, ◌∙◌, ◌∷◌}
use Rattle.tw_verify.proofs.Asking.{ask_more, nothing_asked}
use Rattle.tw_verify.proofs.Numbers.{lowest_nothing, lowest_of_three}
use Rattle.tw_verify.proofs.arguments.arguments_rejection.Goals as goal

pub loop-param-preserved : goal.loop-param-preserved
loop-param-preserved c =
    let waits = c.args.waits in
    let registers = c.args.registers.now in
    let p = c.in-Some.param.now in
    let arg = c.in-Some.arg.now in
    let left = c.loop-param.left in
    let params = iter_rest (zip_first c.next.new.self) in
    let args = iter_rest (zip_second c.next.new.self) in
    let so_far = option_map verify_error_code c.loop-param.rejection in
    let own = rejection_in (requires_args waits registers (p ∷ []) (arg ∷ []) left) in
    let others = rejection_in (requires_args waits registers params args (without_args (p ∷ []) (arg ∷ []) left)) in
    let more = Zip-more c.loop-param.param-iterator c.next.new.self _ (c.in-Some.param, c.in-Some.arg) refl c.in-Some.ensures.steps in
    record {
      rest = c.loop-param.invariant.rest
          ∙ ap (λ (ps : List Param). lowest_of so_far (rejection_in (requires_args waits registers ps (iter_rest (zip_second c.loop-param.param-iterator)) left))) more.0
          ∙ ap (λ (xs : List ℕ). lowest_of so_far (rejection_in (requires_args waits registers (p ∷ params) xs left))) more.1
          ∙ ap (lowest_of so_far) (ask_more waits registers p params arg args left)
          ∙ sym (lowest_of_three so_far own others)
          ∙ ap (λ (o : Option ℕ). lowest_of (lowest_of so_far o) others) (sym c.argument_rejection-own.ensures)
          ∙ ap (λ (o : Option ℕ). lowest_of o others) (sym c.lowest-rejection.ensures)
          ∙ ap (λ (t : Typing). lowest_of (option_map verify_error_code c.lowest-rejection.result) (rejection_in (requires_args waits registers params args t))) (sym c.without-left.ensures);
      operands = (subst (AllByRecursion IsRegister) more.1 c.loop-param.invariant.operands).1;
    }

pub returns : goal.returns
returns c =
    let at_end = nothing_asked c.args.waits c.args.registers.now _ _ c.loop-param.left (either_empty_from_Zip c.loop-param.param-iterator c.next.new.self _ refl c.in-None.ensures.steps) in
    sym (c.loop-param.invariant.rest ∙ ap (λ questions. lowest_of (option_map verify_error_code c.loop-param.rejection) (rejection_in questions)) at_end ∙ lowest_nothing (option_map verify_error_code c.loop-param.rejection))
