use Rattle.tw_asm.proofs.AsmNames.{List, OnOk, goal_word, spaced_all, subst, ℕ, ◌++◌, ◌≡◌}
use Rattle.tw_asm.proofs.Lines.{arg_words}
use Rattle.tw_asm.proofs.write.put_operand.Goals as goal

pub returns-in-Args : goal.returns-in-Args
returns-in-Args c =
    rw c.in-Args.is
    (subst (λ (words : List (List ℕ)). OnOk c.put_args.result (c.put_args.new.out.items ≡ c.args.out.now.items ++ spaced_all words)) (arg_words (goal_word c.args.label) c.in-Args.args.now) c.put_args.ensures)
