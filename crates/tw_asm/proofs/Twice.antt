-- Two readings of the same lines are equal.
use Rattle.tw_asm.proofs.AsmNames.{AnyShortName, Bare, Code, Encodes, EncodesInLimits, Goals, HasStatement, HaveStatements, Head, IsLine, Label, List, None, OfVersion, Option, ParserState, Registers, Some, Statement, Version, Word, [], after_line, ap, labels_ahead, line_once, refl, subst, sym, ℕ, ◌+◌, ◌∙◌, ◌∷◌, ◌≡◌}
use Rattle.tw_asm.proofs.Once.{begins, first_word}
use Rattle.tw_asm.proofs.Spelled.{never_cons}
use Rattle.tw_asm.proofs.Alike.{AreAlike, after_alike, alike}

pub none_encoded : {version : Version} (G : Goals) (statement : Statement) (words : List Word) → words ≡ [] → Encodes version G statement words → ⊥
none_encoded G statement words e h =
    let f = first_word G statement words h in
    never_cons (Bare (begins statement).word) f.0 (sym f.1 ∙ e)

pub nothing_says : {Z : Type 0} (version : Version) (statement : Statement) (words : List Word) (line : List ℕ) → IsLine [] line → IsLine words line → EncodesInLimits version statement words → Z
nothing_says version statement words line blank is say = absurd (none_encoded AnyShortName statement words (line_once words [] line is blank) say.0)

pub says_alike : (version : Version) (s t : Statement) (words others : List Word) (line : List ℕ) → IsLine words line → EncodesInLimits version s words → IsLine others line → EncodesInLimits version t others → AreAlike s t
says_alike version s t words others line is say other_is other =
    alike AnyShortName AnyShortName s t words say.0 (subst (λ (ws : List Word). Encodes version AnyShortName t ws) (line_once others words line other_is is) other.0)

pub both_alike : (number : ℕ) (s : ParserState) (line : List ℕ) (a b : Option Statement) → HasStatement s line a → HasStatement s line b → after_line number a s ≡ after_line number b s
both_alike number s line None None h k = refl
both_alike number s line None (Some statement) h k = nothing_says s.version statement k.0.0 line h k.0.1 k.0.2
both_alike number s line (Some statement) None h k = nothing_says s.version statement h.0.0 line k h.0.1 h.0.2
both_alike number s line (Some statement) (Some other) h k = after_alike number statement other s (says_alike s.version statement other h.0.0 k.0.0 line h.0.1 h.0.2 k.0.1 k.0.2)

ahead_by : (s t : Statement) (a b : List (Option Statement)) → AreAlike s t → labels_ahead a ≡ labels_ahead b → labels_ahead (Some s ∷ a) ≡ labels_ahead (Some t ∷ b)
ahead_by (OfVersion n) (OfVersion m) a b x e = e
ahead_by (Head kind params) (Head k ps) a b x e = refl
ahead_by (Registers registers) (Registers others) a b x e = e
ahead_by (Label name) (Label other) a b x e = ap (λ (n : List ℕ). n ∷ labels_ahead a) x ∙ ap (λ (names : List (List ℕ)). other ∷ names) e
ahead_by (Code i) (Code j) a b x e = e
ahead_by s t a b x e = absurd x

ahead_alike : (s : ParserState) (line : List ℕ) (x y : Option Statement) (a b : List (Option Statement)) → HasStatement s line x → HasStatement s line y → labels_ahead a ≡ labels_ahead b → labels_ahead (x ∷ a) ≡ labels_ahead (y ∷ b)
ahead_alike s line None None a b h k e = e
ahead_alike s line None (Some statement) a b h k e = nothing_says s.version statement k.0.0 line h k.0.1 k.0.2
ahead_alike s line (Some statement) None a b h k e = nothing_says s.version statement h.0.0 line k h.0.1 h.0.2
ahead_alike s line (Some statement) (Some other) a b h k e = ahead_by statement other a b (says_alike s.version statement other h.0.0 k.0.0 line h.0.1 h.0.2 k.0.1 k.0.2) e

-- the rest of another reading, from the state of this one
pub others_say : (number : ℕ) (s : ParserState) (line : List ℕ) (more : List (List ℕ)) (x y : Option Statement) (others : List (Option Statement)) → HasStatement s line x → HasStatement s line y
    → HaveStatements (number + 1) (after_line number y s) more others → HaveStatements (number + 1) (after_line number x s) more others
others_say number s line more x y others h k l = subst (λ (t : ParserState). HaveStatements (number + 1) t more others) (sym (both_alike number s line x y h k)) l

pub same_ahead : (number : ℕ) (s : ParserState) (ls : List (List ℕ)) (a b : List (Option Statement)) → HaveStatements number s ls a → HaveStatements number s ls b → labels_ahead a ≡ labels_ahead b
same_ahead number s [] [] [] h l = refl
same_ahead number s [] (x ∷ a) b h l = absurd h
same_ahead number s [] [] (y ∷ b) h l = absurd l
same_ahead number s (line ∷ more) [] b h l = absurd h
same_ahead number s (line ∷ more) (x ∷ a) [] h l = absurd l
same_ahead number s (line ∷ more) (x ∷ a) (y ∷ b) h l =
    ahead_alike s line x y a b h.0 l.0 (same_ahead (number + 1) (after_line number x s) more a b h.1 (others_say number s line more x y b h.0 l.0 l.1))

pub line_is_same : (a b : List ℕ) → ◌≡◌ {A = Option (List ℕ)} (Some a) (Some b) → b ≡ a
line_is_same a b e = cc
