use Rattle.std.proofs.Common.{sym, string_bytes}
use Rattle.tw_lexer.proofs.FirstWords.{quoted_first, unended_broken, unread_broken}
use Rattle.tw_lexer.proofs.word.next_quoted.Goals as goal

pub returns-in-None : goal.returns-in-None
returns-in-None c = unread_broken c.args.bytes.now c.requires.quote (rw c.in-None.is at c.in_ok-quoted_text.ensures.exact)

pub returns-then-is_at_edge : goal.returns-then-is_at_edge
returns-then-is_at_edge c = quoted_first c.args.bytes.now (string_bytes c.in-Some.text) c.in-Some.rest.now (rw c.in-Some.is at c.in_ok-quoted_text.ensures.exact) (sym c.if-is_at_edge.ensures)

pub returns-else-is_at_edge : goal.returns-else-is_at_edge
returns-else-is_at_edge c = unended_broken c.args.bytes.now (string_bytes c.in-Some.text) c.in-Some.rest.now c.requires.quote (rw c.in-Some.is at c.in_ok-quoted_text.ensures.exact) (sym c.if-is_at_edge.ensures)
