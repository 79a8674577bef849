-- The first line that begins a procedure.
use Rattle.std.proofs.Common.{◌≡◌, ◌+◌, ℕ, suc, Bool, true, false, List, [], ◌∷◌, ◌++◌, length, Option, Some, None, refl, sym, ap, subst, ◌∙◌, arith}
use Rattle.tw_diagnostics.proofs.RoleNames.{AllByRecursion, Code, HasStatement, HaveStatements, Head, Label, OfVersion, ParserState, Registers, Statement, after_line, at_start, lines, situation, situation_from}
use Rattle.tw_diagnostics.specs.FirstHead.{HasNoHead, IsFirstHead, is_head}
use Rattle.tw_diagnostics.proofs.Saying.{split_last}

-- ---- lines before one

-- what they say up to a line, what that says, and what those after it say
pub record SplitAt (number : ℕ) (s : ParserState) (ls : List (List ℕ)) (line : List ℕ) (said : List (Option Statement)) : Type 0 where
  pub before : List (Option Statement)
  pub here : Option Statement
  pub after : List (Option Statement)
  pub is : said ≡ before ++ (here ∷ after)
  pub say : HaveStatements number s ls before
  pub says : HasStatement (situation_from number s before) line here
  pub count : length before ≡ length ls

pub split_at : (number : ℕ) (s : ParserState) (ls : List (List ℕ)) (line : List ℕ) (others : List (List ℕ)) (said : List (Option Statement)) → HaveStatements number s (ls ++ (line ∷ others)) said → SplitAt number s ls line said
split_at number s [] line others [] h = absurd h
split_at number s [] line others (x ∷ said) h = record { before = []; here = x; after = said; is = refl; say = tt; says = h.0; count = refl }
split_at number s (l ∷ ls) line others [] h = absurd h
split_at number s (l ∷ ls) line others (x ∷ said) h =
    let more = split_at (number + 1) (after_line number x s) ls line others said h.1 in
    record {
      before = x ∷ more.before;
      here = more.here;
      after = more.after;
      is = ap (λ (xs : List (Option Statement)). x ∷ xs) more.is;
      say = (h.0, more.say);
      says = more.says;
      count = ap suc more.count;
    }

-- ---- heads

abbrev pub NoHeads : List (List ℕ) → Type 0
NoHeads ls = (said : List (Option Statement)) → HaveStatements 1 at_start ls said → HasNoHead said

pub all_more : {A : Type 0} (P : A → Type 0) (xs : List A) (x : A) → AllByRecursion P xs → P x → AllByRecursion P (xs ++ (x ∷ []))
all_more P [] x all p = (p, tt)
all_more P (y ∷ xs) x all p = (all.0, all_more P xs x all.1 p)

pub none_on : (ls : List (List ℕ)) (line : List ℕ) (head : Bool) → NoHeads ls → ((s : ParserState) (said : Option Statement) → HasStatement s line said → head ≡ is_head said) → head ≡ false → NoHeads (ls ++ (line ∷ []))
none_on ls line head before says none said say =
    let split = split_last 1 at_start ls line said say in
    let here : is_head split.last ≡ false = sym (says (situation split.before) split.last split.says) ∙ none in
    subst HasNoHead (sym split.is) (all_more (λ (s : Option Statement). is_head s ≡ false) split.before split.last (before split.before split.say) here)

pub first_head : (text : List ℕ) (ls : List (List ℕ)) (line : List ℕ) (others : List (List ℕ)) (head : Bool) (index : ℕ) (said : List (Option Statement)) → lines text ≡ ls ++ (line ∷ others) → index ≡ length ls → NoHeads ls
    → ((s : ParserState) (x : Option Statement) → HasStatement s line x → head ≡ is_head x) → head ≡ true → HaveStatements 1 at_start (lines text) said → IsFirstHead text (index + 1)
first_head text ls line others head index said parts index_is none says headed say = by split.here (sym (says (situation split.before) split.here split.says) ∙ headed) split.is
  where
    split : SplitAt 1 at_start ls line said
    split = split_at 1 at_start ls line others said (subst (λ (all : List (List ℕ)). HaveStatements 1 at_start all said) parts say)

    no : false ≡ true → ⊥
    no e = cc

    by : (x : Option Statement) → is_head x ≡ true → said ≡ split.before ++ (x ∷ split.after) → IsFirstHead text (index + 1)
    by None e is = absurd (no e)
    by (Some (OfVersion version)) e is = absurd (no e)
    by (Some (Head kind params)) e is = record {
      said = said;
      say = say;
      before = split.before;
      kind = kind;
      params = params;
      after = split.after;
      parts = is;
      number_is = ap (λ (n : ℕ). n + 1) (index_is ∙ sym split.count);
      first = none split.before split.say;
    }
    by (Some (Registers registers)) e is = absurd (no e)
    by (Some (Label name)) e is = absurd (no e)
    by (Some (Code i)) e is = absurd (no e)
