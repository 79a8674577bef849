-- Whole lines: the words are read as a statement that they denote, or they denote none.
use Rattle.std.proofs.Common.{◌≡◌, ◌≢◌, Bool, true, false, cond, ℕ, List, [], ◌∷◌, ◌++◌, map, codes, Option, Some, None, Result, Ok, Err, refl, sym, subst, ◌∙◌}
use Rattle.tw_asm.proofs.AsmNames.{AllByRecursion, Answers, AnyName, Bare, Code, EncodeParts, Goals, Head, IsUtf8-string_bytes, Label, Name, Natural, OfVersion, Opcode, Part, Quoted, Registers, Rejection, Statement, TokenError, Version, Word, bytes_eq, bytes_eq-Decides, flat_map, kind_word, opcode_in, operand_parts, param_parts, register_part, row, statement_parts, word_of}
use Rattle.tw_lexer.specs.Seen as lines
use Rattle.tw_lexer.specs.declared.word.Word as words
use Rattle.tw_lexer.specs.declared.word.Word.TheVariants as word
use Rattle.tw_asm.proofs.Answered.{Judged, code_answered, first_is}
use Rattle.tw_asm.proofs.HeadWords.{head_answered}
use Rattle.tw_asm.proofs.OperandWords.{IsFine}
use Rattle.tw_asm.proofs.Sayings.{label_answered, nonempty, registers_answered, version_answered}
use Rattle.tw_asm.specs.Seen.{Read, seen}
use Rattle.tw_asm.specs.declared.rejection.Rejection.TheVariants as rejection
use Rattle.tw_asm.specs.declared.statement.Statement as statements
use Rattle.tw_asm.specs.reading.Lines.{Gives, body_in, head_in, registers_in, statement_in, version_in}

-- each statement begins with a fixed word
begins : (statement : Statement) → (name : List ℕ) × (rest : List Part) × (statement_parts statement ≡ Name name ∷ rest)
begins (OfVersion number) = (codes "version", Natural number ∷ [], refl)
begins (Head kind params) = (codes "proc", Name (kind_word kind) ∷ flat_map param_parts params, refl)
begins (Registers rs) = (codes "regs", map register_part rs, refl)
begins (Label name) = (name ++ codes ":", [], refl)
begins (Code i) = (word_of (row i).0, flat_map operand_parts (row i).1, refl)

bare_first : (G : Goals) (text : List ℕ) (ws : List Word) (statement : Statement) → EncodeParts G (statement_parts statement) (Quoted text ∷ ws) → ⊥
bare_first G text ws statement h =
    let b = begins statement in
    apart b.0 (first_is G b.0 b.1 (Quoted text) ws (subst (λ (ps : List Part). EncodeParts G ps (Quoted text ∷ ws)) b.2 h)).0
  where
    apart : (name : List ℕ) → Quoted text ≡ Bare name → ⊥
    apart name e = cc

some_word : (G : Goals) (statement : Statement) → EncodeParts G (statement_parts statement) [] → ⊥
some_word G statement h = let b = begins statement in nonempty G b.0 b.1 (subst (λ (ps : List Part). EncodeParts G ps []) b.2 h)

other_word : (a b : List ℕ) → bytes_eq a b ≡ false → a ≢ b
other_word a b isnt e = no (sym isnt ∙ (bytes_eq-Decides a b).1 e)
  where
    no : false ≡ true → ⊥
    no e = cc

pub judged : (version : Version) (ws : List Word) → AllByRecursion IsFine ws → Judged version (statement_in version ws) ws
unfolding statement_in
judged version [] fine = λ form. some_word AnyName form.0 form.1.parts
judged version (Quoted text ∷ ws) fine = λ form. bare_first AnyName text ws form.0 form.1.parts
judged version (Bare name ∷ ws) fine = by (bytes_eq name (codes "proc")) (bytes_eq name (codes "regs")) (bytes_eq name (codes "version")) refl refl refl
  where
    body : name ≢ codes "proc" → name ≢ codes "regs" → name ≢ codes "version" → (found : Option Opcode) → opcode_in version name ≡ found → Judged version (body_in version found name ws) (Bare name ∷ ws)
    body no_proc no_regs no_version None e = label_answered version name no_proc no_regs no_version e ws
    body no_proc no_regs no_version (Some o) e = code_answered version o name ws e fine.1

    by : (p r v : Bool) → bytes_eq name (codes "proc") ≡ p → bytes_eq name (codes "regs") ≡ r → bytes_eq name (codes "version") ≡ v
        → Judged version (cond p (head_in version ws) (cond r (registers_in ws) (cond v (version_in ws) (body_in version (opcode_in version name) name ws)))) (Bare name ∷ ws)
    by true r v is _ _ = subst (λ (text : List ℕ). Judged version (head_in version ws) (Bare text ∷ ws)) (sym ((bytes_eq-Decides name (codes "proc")).0 is)) (head_answered version ws)
    by false true v _ is _ = subst (λ (text : List ℕ). Judged version (registers_in ws) (Bare text ∷ ws)) (sym ((bytes_eq-Decides name (codes "regs")).0 is)) (registers_answered version ws)
    by false false true _ _ is = subst (λ (text : List ℕ). Judged version (version_in ws) (Bare text ∷ ws)) (sym ((bytes_eq-Decides name (codes "version")).0 is)) (version_answered version ws)
    by false false false no_proc no_regs no_version = body (other_word name (codes "proc") no_proc) (other_word name (codes "regs") no_regs) (other_word name (codes "version") no_version) (opcode_in version name) refl

pub all_fine : (ws : List words.Word) → AllByRecursion IsFine (map lines.seen ws)
all_fine [] = tt
all_fine (word.Bare bytes ∷ ws) = (tt, all_fine ws)
all_fine (word.Quoted text ∷ ws) = (IsUtf8-string_bytes text, all_fine ws)

pub answered : (version : Version) (r : Result statements.Statement Rejection) (ws : List Word) → AllByRecursion IsFine ws → Gives seen r (statement_in version ws) → Answers version r ws
answered version (Ok statement) ws fine gives = subst (λ (read : Result Read TokenError). Judged version read ws) gives (judged version ws fine)
answered version (Err rejection.NoMemory) ws fine gives = tt
answered version (Err (rejection.Flawed flaw)) ws fine gives = subst (λ (read : Result Read TokenError). Judged version read ws) gives (judged version ws fine)
