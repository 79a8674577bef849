-- The expanded text of what was read.
use Rattle.std.proofs.Common.{◌≡◌, List, ℕ, MatchOption, Option, Some, None, subst, sym}
use Rattle.tw_source.proofs.ReplyNames.{ExpandsTo, Procedure, plain_of, text_of}
use Rattle.tw_source.proofs.Sources.{expands}
use Rattle.tw_source.specs.Source.{MayBeSource}
use Rattle.tw_source.specs.declared.source.SourceText.{SourceText}

pub plain_is : (text plain : List ℕ) (source : Option SourceText) (program : List Procedure) → text_of source ≡ Some text → MayBeSource source program → MatchOption source (plain ≡ text) (λ s. plain ≡ plain_of s) → ExpandsTo text plain
plain_is text plain None program e is at = absurd cc
plain_is text plain (Some s) program e is at =
    let same : s.text.now ≡ text = cc in
    subst (ExpandsTo text) (sym at) (subst (λ (t : List ℕ). ExpandsTo t (plain_of s)) same (expands s.text.now s.plain is.3))
