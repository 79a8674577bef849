use Rattle.tw_handles.proofs.Names.{IsEndLine, Vec, ap, cut_of, string_bytes, subst, sym, ℕ}
use Rattle.std.proofs.Common.{Global}
use Rattle.tw_handles.proofs.MadeTexts.{made_text}
use Rattle.tw_handles.proofs.printing.put_line.Goals as goal

pub returns-in-Ok : goal.returns-in-Ok
returns-in-Ok c =
    let left = c.args.left.now in
    let Is = IsEndLine left.outcome left.history.events (cut_of left.end) c.args.closing in
    let line = subst (λ (n : ℕ). IsEndLine left.outcome left.history.events n c.args.closing (string_bytes c.in-Ok.line)) c.cut.ensures c.in-Ok.ensures in
    let made = subst Is (sym (ap (λ (v : Vec ℕ Global). v.items) c.into_bytes.ensures.value)) line in
    made_text Is c.into_bytes.result.items c.args.text.now.held c.keep_text.new.text.held c.keep_text.result made c.keep_text.ensures
