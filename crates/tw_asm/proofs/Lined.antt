-- Reading the operands of a line, whatever the instruction.
use Rattle.std.proofs.Common.{◌≡◌, ℕ, ◌≤◌, List, [], ◌∷◌, ◌++◌, length, map, codes, Option, Some, None, inl, inr, refl, sym, ap, subst, ◌∙◌, arith, append-nil}
use Rattle.tw_asm.proofs.AsmNames.{AllByRecursion, Bare, EncodeParts, EncodesPart, EncodesWith, Four, Goals, HasType, IsList, IsName, IsRegister, IsSkip, IsTypeOf, Natural, NoName, OnlyName, Part, Reads, Skip, TypeOf, Word, at_label, further, last_version, natural_in}
use Rattle.tw_asm.proofs.Names.{HasGoal, MayGoal, goal_read, no_letter}
use Rattle.tw_asm.proofs.OperandWords.{Has, IsFine, May, natural_read, operand_read, part_of}
use Rattle.tw_asm.proofs.Readings.{both_read}
use Rattle.tw_asm.proofs.Sequences.{HaveEach, IsShallow, IsTypeIn, each_long, each_read, few_read, type_read}
use Rattle.tw_asm.proofs.Versions.{any_type}
use Rattle.tw_asm.specs.reading.Lines.{Content, Line, LineContent, Operand, args, each, goal, label_in, line_in, literal, more, natural, never, nothing, number, right, target, type, value}

abbrev pub IsArg : Word → ℕ → Type 0
IsArg w n = EncodesWith [] n (w ∷ [])

abbrev pub HasLine : (l : Line) → List Word → LineContent l → Type 0
HasLine nothing [] x = Unit {0}
HasLine nothing (w ∷ ws) x = ⊥
HasLine goal [] x = ⊥
HasLine goal (w ∷ []) x = HasGoal w x.skip x.label
HasLine goal (w ∷ v ∷ ws) x = ⊥
HasLine (type version) ws x = IsTypeIn version ws x
HasLine args ws x = HaveEach IsArg ws x
HasLine (more o l) [] x = ⊥
HasLine (more o l) (w ∷ ws) x = Has o w x.0 × HasLine l ws x.1
HasLine never ws x = ⊥

abbrev pub MayLine : (l : Line) → LineContent l → Type 0
MayLine nothing x = Unit {0}
MayLine goal x = MayGoal x.skip x.label
MayLine (type version) x = IsShallow x
MayLine args x = IsList 0 8 IsRegister x
MayLine (more o l) x = May o x.0 × MayLine l x.1
MayLine never x = Unit {0}

pub line_read : (l : Line) (ws : List Word) → AllByRecursion IsFine ws → Reads (HasLine l ws) (MayLine l) (line_in l ws)
line_read nothing [] fine = (tt, tt)
line_read nothing (w ∷ ws) fine = λ x h. h
line_read goal [] fine = λ x h. h
line_read goal (w ∷ []) fine = goal_read w
line_read goal (w ∷ v ∷ ws) fine = λ x h. h
line_read (type version) ws fine = type_read version ws
line_read args ws fine =
    few_read (HaveEach IsArg ws) IsRegister 8 (each (natural_in 0 15) ws) (λ xs ys h k. each_long IsArg ws xs h ∙ sym (each_long IsArg ws ys k))
    (each_read IsArg IsRegister (natural_in 0 15) (λ w. natural_read 0 15 w) ws)
line_read (more o l) [] fine = λ x h. h
line_read (more o l) (w ∷ ws) fine = both_read (Has o w) (May o) (HasLine l ws) (MayLine l) _ (line_in l ws) (operand_read o w fine.0) (line_read l ws fine.1)
line_read never ws fine = λ x h. h

-- ---- parts

abbrev pub parts_of : (l : Line) → LineContent l → List Part
parts_of nothing x = []
parts_of goal x = Skip x.skip ∷ []
parts_of (type version) x = TypeOf x ∷ []
parts_of args x = map Natural x
parts_of (more o l) x = part_of o x.0 ∷ parts_of l x.1
parts_of never x = []

-- holds if the parts are within the limits, except names
abbrev pub MayParts : (l : Line) → LineContent l → Type 0
MayParts nothing x = Unit {0}
MayParts goal x = IsSkip x.skip × Unit {0}
MayParts (type version) x = IsTypeOf last_version x × Unit {0}
MayParts args x = IsList 0 8 IsRegister x × Unit {0}
MayParts (more o l) x = May o x.0 × MayParts l x.1
MayParts never x = Unit {0}

-- holds if the version has the types that are read
abbrev pub Had : (l : Line) → LineContent l → Type 0
Had nothing x = Unit {0}
Had goal x = Unit {0} × Unit {0}
Had (type version) x = HasType version x × Unit {0}
Had args x = Unit {0} × Unit {0}
Had (more o l) x = Unit {0} × Had l x.1
Had never x = Unit {0}

pub line_had : (l : Line) (ws : List Word) (x : LineContent l) → HasLine l ws x → Had l x
line_had nothing ws x h = tt
line_had goal ws x h = (tt, tt)
line_had (type version) ws x h = (h.1, tt)
line_had args ws x h = (tt, tt)
line_had (more o l) [] x h = absurd h
line_had (more o l) (w ∷ ws) x h = (tt, line_had l ws x.1 h.1)
line_had never ws x h = tt

abbrev pub goals_by : Option (List ℕ) → Goals
goals_by None = NoName
goals_by (Some name) = OnlyName name

-- words of a part that is no skip denote it with all goals
plain : (o : Operand) (c : Content o) (G H : Goals) (ws : List Word) → EncodesPart G (part_of o c) ws → EncodesPart H (part_of o c) ws
plain value c G H ws h = h
plain right c G H ws h = h
plain number c G H ws h = h
plain (natural low high) c G H ws h = h
plain literal c G H ws h = h
plain target None G H ws h = h
plain target (Some n) G H ws h = h

word_alone : (o : Operand) (c : Content o) (G : Goals) (ws : List Word) → EncodesPart G (part_of o c) ws → (w : Word) × (ws ≡ w ∷ [])
word_alone value c G ws h = (_, h.2)
word_alone right c G ws h = (_, h.2)
word_alone number c G ws h = (_, h.2)
word_alone (natural low high) c G ws h = (_, h.2)
word_alone literal c G ws h = (_, h)
word_alone target None G ws h = (_, h)
word_alone target (Some n) G ws h = (_, h.2)

args_up : (G : Goals) (ws : List Word) (ns : List ℕ) → HaveEach IsArg ws ns → EncodeParts G (map Natural ns) ws
args_up G [] [] h = refl
args_up G [] (n ∷ ns) h = absurd h
args_up G (w ∷ ws) [] h = absurd h
args_up G (w ∷ ws) (n ∷ ns) h = (w ∷ [], ws, refl, h.0, args_up G ws ns h.1)

goal_up : (w : Word) (skip : ℕ) (label : Option (List ℕ)) → HasGoal w skip label → EncodeParts (goals_by label) (Skip skip ∷ []) (w ∷ [])
goal_up w skip None h = (w ∷ [], [], refl, inl h, refl)
goal_up w skip (Some name) (z, is_name, e) = (w ∷ [], [], refl, inr (name, (z, refl), ap (λ (v : Word). v ∷ []) e), refl)

-- the words that are read denote the parts
pub spelled : (l : Line) (ws : List Word) (x : LineContent l) → HasLine l ws x → EncodeParts (goals_by (label_in l x)) (parts_of l x) ws
spelled nothing [] x h = refl
spelled nothing (w ∷ ws) x h = absurd h
spelled goal [] x h = absurd h
spelled goal (w ∷ []) x h = goal_up w x.skip x.label h
spelled goal (w ∷ v ∷ ws) x h = absurd h
spelled (type version) ws x h = (ws, [], sym (append-nil ws), h.0, refl)
spelled args ws x h = args_up NoName ws x h
spelled (more o l) [] x h = absurd h
spelled (more o l) (w ∷ ws) x h = (w ∷ [], ws, refl, plain o x.0 NoName (goals_by (label_in l x.1)) (w ∷ []) h.0, spelled l ws x.1 h.1)
spelled never ws x h = absurd h

-- ---- the converse

module _ (G : Goals) (names : (skip : ℕ) (name : List ℕ) → G skip name → IsName name) where
  args_down : (ws : List Word) (ns : List ℕ) → EncodeParts G (map Natural ns) ws → HaveEach IsArg ws ns
  args_down [] [] e = tt
  args_down (w ∷ ws) [] e = absurd (some e)
    where
      some : w ∷ ws ≡ [] → ⊥
      some e = cc
  args_down [] (n ∷ ns) (first, others, cut, h, rest) = absurd (none (ap (λ (vs : List Word). vs ++ others) h.2))
    where
      none : first ++ others ≡ Bare ([] ++ h.0) ∷ others → ⊥
      none e = nothing_is (cut ∙ e)
        where
          nothing_is : [] ≡ Bare ([] ++ h.0) ∷ others → ⊥
          nothing_is e = cc
  args_down (w ∷ ws) (n ∷ ns) (first, others, cut, h, rest) =
      let whole : w ∷ ws ≡ Bare h.0 ∷ others = cut ∙ ap (λ (vs : List Word). vs ++ others) h.2 in
      ((h.0, h.1, ap (λ (v : Word). v ∷ []) (head_is whole)), args_down ws ns (subst (EncodeParts G (map Natural ns)) (sym (tail_is whole)) rest))
    where
      head_is : {v : Word} {vs : List Word} → w ∷ ws ≡ v ∷ vs → w ≡ v
      head_is e = cc

      tail_is : {v : Word} {vs : List Word} → w ∷ ws ≡ v ∷ vs → ws ≡ vs
      tail_is e = cc

  abbrev AreShort : Type 0
  AreShort = (skip : ℕ) (name : List ℕ) → G skip name → length name ≤ 64

  abbrev Found : (l : Line) → List Word → LineContent l → Type 0
  Found l ws x = (y : LineContent l) × HasLine l ws y × (AreShort → MayParts l x → MayLine l y)

  at_first : (l : Line) (x : LineContent l) (w : Word) (first others ws : List Word) → ws ≡ first ++ others → first ≡ w ∷ [] → others ≡ [] → Found l (w ∷ []) x → Found l ws x
  at_first l x w first others ws cut is none found = subst (λ (vs : List Word). Found l vs x) (sym (cut ∙ (ap (λ (vs : List Word). vs ++ others) is ∙ ap (λ (vs : List Word). w ∷ vs) none))) found

  goal_down : (ws : List Word) (skip : ℕ) (first others : List Word) → ws ≡ first ++ others → EncodesPart G (Skip skip) first → others ≡ [] → (label : Option (List ℕ)) → Found goal ws (record { skip = skip; label = label })
  goal_down ws skip first others cut (inl h) none label =
      at_first goal (record { skip = skip; label = label }) (Bare (codes "+" ++ h.0)) first others ws cut h.2 none (further skip, (h.0, h.1, refl), λ short m. m.0)
  goal_down ws skip first others cut (inr h) none label =
      at_first goal (record { skip = skip; label = label }) (Bare h.0) first others ws cut h.2 none (at_label h.0, (refl, names skip h.0 h.1, refl), λ short m. short skip h.0 h.1)

  pub found : (l : Line) (ws : List Word) (x : LineContent l) → Had l x → EncodeParts G (parts_of l x) ws → Found l ws x
  found nothing [] x had e = (tt, tt, λ _ m. tt)
  found nothing (w ∷ ws) x had e = absurd (some e)
    where
      some : w ∷ ws ≡ [] → ⊥
      some e = cc
  found goal ws x had (first, others, cut, h, none) = goal_down ws x.skip first others cut h none x.label
  found (type version) ws x had (first, others, cut, h, none) =
      let whole : ws ≡ first = cut ∙ (ap (λ (vs : List Word). first ++ vs) none ∙ append-nil first) in
      (x, (whole ∙ h, had.0), λ _ m. m.0.0)
  found args ws x had h = (x, args_down ws x h, λ _ m. m.0)
  found (more o l) ws x had (first, others, cut, h, rest) =
      let w = word_alone o x.0 G first h in
      let y = found l others x.1 had.1 rest in
      subst (λ (vs : List Word). Found (more o l) vs x) (sym (cut ∙ ap (λ (vs : List Word). vs ++ others) w.1))
      ((x.0, y.0), (plain o x.0 G NoName (w.0 ∷ []) (subst (EncodesPart G (part_of o x.0)) w.1 h), y.1), λ short m. (m.0, y.2 short m.1))
  found never ws x had h = absurd x

-- a line that names a label has no number of instructions
goal_named : (w : Word) (skip other : ℕ) (label : Option (List ℕ)) (name : List ℕ) → HasGoal w skip label → label ≡ Some name → EncodeParts (λ _ _. ⊥) (Skip other ∷ []) (w ∷ []) → ⊥
goal_named w skip other None name h e s = none e
  where
    none : None ≡ Some name → ⊥
    none e = cc
goal_named w skip other (Some given) name h e (first, others, cut, inr k, none) = k.1
goal_named w skip other (Some given) name (z, is_name, same) e (first, others, cut, inl k, none) = plus given is_name (ap (λ (v : Word). v ∷ others) (sym same) ∙ whole (cut ∙ ap (λ (vs : List Word). vs ++ others) k.2))
  where
    whole : w ∷ [] ≡ Bare (codes "+" ++ k.0) ∷ others → w ∷ others ≡ Bare (codes "+" ++ k.0) ∷ others
    whole e = cc

    plus : (given : List ℕ) → IsName given → Bare given ∷ others ≡ Bare (43 ∷ k.0) ∷ others → ⊥
    plus [] h e = h
    plus (b ∷ rest) h e = no_letter b h.0 (first_byte e)
      where
        first_byte : Bare (b ∷ rest) ∷ others ≡ Bare (43 ∷ k.0) ∷ others → b ≡ 43
        first_byte e = cc

pub unnumbered : (l : Line) (ws : List Word) (x y : LineContent l) (name : List ℕ) → HasLine l ws x → label_in l x ≡ Some name → EncodeParts (λ _ _. ⊥) (parts_of l y) ws → ⊥
unnumbered nothing ws x y name h e s = none e
  where
    none : None ≡ Some name → ⊥
    none e = cc
unnumbered goal [] x y name h e s = h
unnumbered goal (w ∷ []) x y name h e s = goal_named w x.skip y.skip x.label name h e s
unnumbered goal (w ∷ v ∷ ws) x y name h e s = h
unnumbered (type version) ws x y name h e s = none e
  where
    none : None ≡ Some name → ⊥
    none e = cc
unnumbered args ws x y name h e s = none e
  where
    none : None ≡ Some name → ⊥
    none e = cc
unnumbered (more o l) [] x y name h e s = h
unnumbered (more o l) (w ∷ ws) x y name h e (first, others, cut, k, rest) =
    let v = word_alone o y.0 (λ _ _. ⊥) first k in
    unnumbered l ws x.1 y.1 name h.1 e (subst (EncodeParts (λ _ _. ⊥) (parts_of l y.1)) (sym (tail_is (cut ∙ ap (λ (vs : List Word). vs ++ others) v.1))) rest)
  where
    tail_is : {v : Word} {vs : List Word} → w ∷ ws ≡ v ∷ vs → ws ≡ vs
    tail_is e = cc
unnumbered never ws x y name h e s = h

-- operands that are read within the limits have parts within the limits
pub parts_may : (l : Line) (ws : List Word) (x : LineContent l) → HasLine l ws x → MayLine l x → MayParts l x
parts_may nothing ws x h m = tt
parts_may goal [] x h m = absurd h
parts_may goal (w ∷ []) x h m = (by x.skip x.label h m, tt)
  where
    by : (skip : ℕ) (label : Option (List ℕ)) → HasGoal w skip label → MayGoal skip label → IsSkip skip
    by skip None h m = m
    by skip (Some name) h m = (omega arith, omega (arith, h.0))
parts_may goal (w ∷ v ∷ ws) x h m = absurd h
parts_may (type version) ws x h m = ((m, any_type version x h.1), tt)
parts_may args ws x h m = (m, tt)
parts_may (more o l) [] x h m = absurd h
parts_may (more o l) (w ∷ ws) x h m = (m.0, parts_may l ws x.1 h.1 m.1)
parts_may never ws x h m = tt

-- a label that is read is a name, and short within the limits
pub label_named : (l : Line) (ws : List Word) (x : LineContent l) (name : List ℕ) → HasLine l ws x → label_in l x ≡ Some name → IsName name × (MayLine l x → length name ≤ 64)
label_named nothing ws x name h e = absurd (none e)
  where
    none : None ≡ Some name → ⊥
    none e = cc
label_named goal [] x name h e = absurd h
label_named goal (w ∷ []) x name h e = by x.skip x.label h e
  where
    by : (skip : ℕ) (label : Option (List ℕ)) → HasGoal w skip label → label ≡ Some name → IsName name × (MayGoal skip label → length name ≤ 64)
    by skip None h e = absurd (none e)
      where
        none : None ≡ Some name → ⊥
        none e = cc
    by skip (Some found) h e = (subst IsName (inner e) h.1, λ m. subst (λ (t : List ℕ). length t ≤ 64) (inner e) m)
      where
        inner : Some found ≡ Some name → found ≡ name
        inner e = cc
label_named goal (w ∷ v ∷ ws) x name h e = absurd h
label_named (type version) ws x name h e = absurd (none e)
  where
    none : None ≡ Some name → ⊥
    none e = cc
label_named args ws x name h e = absurd (none e)
  where
    none : None ≡ Some name → ⊥
    none e = cc
label_named (more o l) [] x name h e = absurd h
label_named (more o l) (w ∷ ws) x name h e = let k = label_named l ws x.1 name h.1 e in (k.0, λ m. k.1 m.1)
label_named never ws x name h e = absurd h
