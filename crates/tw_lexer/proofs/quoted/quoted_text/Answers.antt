use Rattle.std.proofs.Common.{◌≡◌, true, false, List, ℕ, IsUtf8, string_bytes, sym, ap, subst, ◌∙◌}
use Rattle.tw_lexer.specs.Quoted.{BeginsQuoted}
use Rattle.tw_lexer.proofs.Insides.{begins_read, read_begins, never_both}
use Rattle.tw_lexer.proofs.Utf8.{inside_is_utf8}
use Rattle.tw_lexer.proofs.quoted.quoted_text.Goals as goal

pub returns-in-None-clause-exact : goal.returns-in-None-clause-exact
returns-in-None-clause-exact c text rest begins =
    let read = begins_read text 34 c.in-Some.after_quote.now rest (subst (λ (bytes : List ℕ). BeginsQuoted text bytes rest) c.in-Some.ensures begins) in
    never_both (text, rest) (rw c.in-None.is at c.in_ok-inside.ensures ∙ read.1)

pub unreachable-requires : goal.unreachable-requires
unreachable-requires c =
    let utf8 = inside_is_utf8 c.in-Some.after_quote.now c.inside.new.text.items c.in-Some-2.rest.now (subst IsUtf8 c.in-Some.ensures c.requires) (sym (rw c.in-Some-2.is at c.in_ok-inside.ensures)) in
    not_true (rw c.in-Err.is at (c.from_utf8.ensures.succeeds utf8.0))
  where
    not_true : false ≡ true → ⊥
    not_true e = cc

pub returns-in-Ok-clause-exact : goal.returns-in-Ok-clause-exact
returns-in-Ok-clause-exact c =
    let begins = read_begins c.inside.new.text.items c.in-Some.after_quote.now c.in-Some-2.rest.now (sym (rw c.in-Some-2.is at c.in_ok-inside.ensures)) in
    let same : string_bytes c.in-Ok.text ≡ c.inside.new.text.items = ap (λ v. v.items) c.in-Ok.ensures.ok in
    subst (λ (text : List ℕ). BeginsQuoted text c.args.bytes.now c.in-Some-2.rest.now) (sym same)
    (subst (λ (bytes : List ℕ). BeginsQuoted c.inside.new.text.items bytes c.in-Some-2.rest.now) (sym c.in-Some.ensures) begins)

pub returns-in-Ok-clause-utf8 : goal.returns-in-Ok-clause-utf8
returns-in-Ok-clause-utf8 c =
    (inside_is_utf8 c.in-Some.after_quote.now c.inside.new.text.items c.in-Some-2.rest.now (subst IsUtf8 c.in-Some.ensures c.requires) (sym (rw c.in-Some-2.is at c.in_ok-inside.ensures))).1
