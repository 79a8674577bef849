-- A text denotes at most one program.
use Rattle.tw_asm.proofs.AsmNames.{AreCode, Code, Contains, EncodeProcedures, Encodes, EncodesProcedure, EncodesProgram, EncodesVersion, Goals, HaveWords, Head, Instr, IsShortName, Kind, Label, List, OfVersion, One, Param, Placed, Procedure, Registers, Scalar, SkipsTo, Statement, Version, Versioned, Word, [], ap, arith, inl, inr, line_once, lines, refl, subst, sym, version_by, version_number, ℕ, ◌++◌, ◌+◌, ◌∙◌, ◌∷◌, ◌≡◌, ◌⊎◌}
use Rattle.tw_asm.proofs.Alike.{alike}
use Rattle.tw_asm.proofs.Spelled.{AreNames, cons_is, never_cons}
use Rattle.tw_asm.proofs.Once.{encoded_once}
use Rattle.tw_asm.proofs.Versions.{number_back}
use Rattle.tw_asm.proofs.Walk.{AreOnce, contains_cases, contains_none, labels_short, name_among, names_of, once_by_pairs}

-- ---- the words of lines

words_once : (ls : List (List ℕ)) (a b : List (List Word)) → HaveWords ls a → HaveWords ls b → a ≡ b
words_once [] _ _ HaveWords.end HaveWords.end = refl
words_once (line ∷ ls) _ _ (HaveWords.blank _ _ a is more) (HaveWords.blank _ _ b other rest) = words_once ls a b more rest
words_once (line ∷ ls) _ _ (HaveWords.blank _ _ a is more) (HaveWords.one_more _ _ word following b other rest) = absurd (never_cons word following (line_once (word ∷ following) [] line other is))
words_once (line ∷ ls) _ _ (HaveWords.one_more _ _ word following a is more) (HaveWords.blank _ _ b other rest) = absurd (never_cons word following (line_once (word ∷ following) [] line is other))
words_once (line ∷ ls) _ _ (HaveWords.one_more _ _ word following a is more) (HaveWords.one_more _ _ first after b other rest) =
    ap (λ (x : List Word). x ∷ a) (line_once (word ∷ following) (first ∷ after) line is other) ∙ ap (λ (x : List (List Word)). (first ∷ after) ∷ x) (words_once ls a b more rest)

-- ---- the end of a body

-- holds if a procedure begins here, or nothing follows
abbrev IsAnew : Version → List (List Word) → Type 0
IsAnew version [] = Unit {0}
IsAnew version (words ∷ others) = (kind : Kind) × (params : List Param) × Encodes version (SkipsTo [] 0) (Head kind params) words

anew : (version : Version) (program : List Procedure) (words : List (List Word)) → EncodeProcedures version program words → IsAnew version words
anew version _ _ EncodeProcedures.end = tt
anew version _ _ (EncodeProcedures.one_more p others first following h more) = subst (λ (x : List (List Word)). IsAnew version (x ++ following)) (sym h.parts) (p.kind, p.params, h.head_is)

no_label_anew : {Z : Type 0} (version : Version) (goals : Goals) (name : List ℕ) (words : List Word) (others : List (List Word)) → IsAnew version (words ∷ others) → Encodes version goals (Label name) words → Z
no_label_anew version goals name words others a h = absurd (alike (SkipsTo [] 0) goals (Head a.0 a.1) (Label name) words a.2 h)

no_code_anew : {Z : Type 0} (version : Version) (goals : Goals) (i : Instr) (words : List Word) (others : List (List Word)) → IsAnew version (words ∷ others) → Encodes version goals (Code i) words → Z
no_code_anew version goals i words others a h = absurd (alike (SkipsTo [] 0) goals (Head a.0 a.1) (Code i) words a.2 h)

no_label_code : {Z : Type 0} (version : Version) (G H : Goals) (name : List ℕ) (i : Instr) (words other : List Word) → words ≡ other → Encodes version G (Label name) words → Encodes version H (Code i) other → Z
no_label_code version G H name i words other e h k = absurd (alike G H (Label name) (Code i) words h (subst (λ (x : List Word). Encodes version H (Code i) x) (sym e) k))

-- two bodies with the same labels and words, whatever follows them
record SameBody (labels others : List Placed) (body front following rest : List (List Word)) : Type 0 where
  labels_are : labels ≡ others
  body_is : body ≡ front
  rest_is : following ≡ rest

abbrev placed : List ℕ → ℕ → Placed
placed name place = record { name = name; place = place }

body_once : (version : Version) (all every : List Placed) (place : ℕ) (labels : List Placed) (code : List Instr) (body : List (List Word)) (others : List Placed) (instrs : List Instr) (front following rest : List (List Word))
    → AreCode version all place labels code body → AreCode version every place others instrs front → body ++ following ≡ front ++ rest → IsAnew version following → IsAnew version rest → SameBody labels others body front following rest
body_once version all every place _ _ _ _ _ _ following rest (AreCode.end _) (AreCode.end _) e a b = record { labels_are = refl; body_is = refl; rest_is = e }
body_once version all every place _ _ _ _ _ _ following rest (AreCode.end _) (AreCode.label _ name words labels code body h limits more) e a b =
    no_label_anew version (SkipsTo every place) name words (body ++ rest) (subst (IsAnew version) e a) h
body_once version all every place _ _ _ _ _ _ following rest (AreCode.end _) (AreCode.instruction _ i words labels code body h more) e a b =
    no_code_anew version (SkipsTo every place) i words (body ++ rest) (subst (IsAnew version) e a) h
body_once version all every place _ _ _ _ _ _ following rest (AreCode.label _ name words labels code body h limits more) (AreCode.end _) e a b =
    no_label_anew version (SkipsTo all place) name words (body ++ following) (subst (IsAnew version) (sym e) b) h
body_once version all every place _ _ _ _ _ _ following rest (AreCode.instruction _ i words labels code body h more) (AreCode.end _) e a b =
    no_code_anew version (SkipsTo all place) i words (body ++ following) (subst (IsAnew version) (sym e) b) h
body_once version all every place _ _ _ _ _ _ following rest (AreCode.label _ name words labels code body h limits more) (AreCode.instruction _ i first others instrs front k later) e a b =
    no_label_code version (SkipsTo all place) (SkipsTo every place) name i words first (cons_is words first (body ++ following) (front ++ rest) e).0 h k
body_once version all every place _ _ _ _ _ _ following rest (AreCode.instruction _ i words labels code body h more) (AreCode.label _ name first others instrs front k limits later) e a b =
    no_label_code version (SkipsTo every place) (SkipsTo all place) name i first words (sym (cons_is words first (body ++ following) (front ++ rest) e).0) k h
body_once version all every place _ _ _ _ _ _ following rest (AreCode.label _ name words labels code body h limits more) (AreCode.label _ other first others instrs front k bounds later) e a b =
    let same = cons_is words first (body ++ following) (front ++ rest) e in
    let names : name ≡ other = alike (SkipsTo all place) (SkipsTo every place) (Label name) (Label other) words h (subst (λ (x : List Word). Encodes version (SkipsTo every place) (Label other) x) (sym same.0) k) in
    let r = body_once version all every place labels code body others instrs front following rest more later same.1 a b in
    record {
      labels_are = ap (λ (n : List ℕ). placed n place ∷ labels) names ∙ ap (λ (ls : List Placed). placed other place ∷ ls) r.labels_are;
      body_is = ap (λ (x : List Word). x ∷ body) same.0 ∙ ap (λ (x : List (List Word)). first ∷ x) r.body_is;
      rest_is = r.rest_is;
    }
body_once version all every place _ _ _ _ _ _ following rest (AreCode.instruction _ i words labels code body h more) (AreCode.instruction _ j first others instrs front k later) e a b =
    let same = cons_is words first (body ++ following) (front ++ rest) e in
    let r = body_once version all every (place + 1) labels code body others instrs front following rest more later same.1 a b in
    record {
      labels_are = r.labels_are;
      body_is = ap (λ (x : List Word). x ∷ body) same.0 ∙ ap (λ (x : List (List Word)). first ∷ x) r.body_is;
      rest_is = r.rest_is;
    }

-- ---- the instructions of a body

-- labels with different names have one place each
one_place : (labels : List Placed) (x y : Placed) → AreOnce (names_of labels) → Contains labels x → Contains labels y → x.name ≡ y.name → x.place ≡ y.place
one_place [] x y once c d e = contains_none x c
one_place (label ∷ labels) x y once c d e = by (contains_cases label labels x c) (contains_cases label labels y d) (λ is has. one_place labels x y once.1 is has e)
  where
    by : (label ≡ x) ⊎ Contains labels x → (label ≡ y) ⊎ Contains labels y → (Contains labels x → Contains labels y → x.place ≡ y.place) → x.place ≡ y.place
    by (inl is) (inl has) later = ap (λ (l : Placed). l.place) (sym is ∙ has)
    by (inl is) (inr has) later = absurd (once.0 (subst (Contains (names_of labels)) (sym e ∙ sym (ap (λ (l : Placed). l.name) is)) (name_among labels y has)))
    by (inr is) (inl has) later = absurd (once.0 (subst (Contains (names_of labels)) (e ∙ sym (ap (λ (l : Placed). l.name) has)) (name_among labels x is)))
    by (inr is) (inr has) later = later is has

one_skip : (all : List Placed) (place : ℕ) → AreOnce (names_of all) → (n m : ℕ) (name : List ℕ) → SkipsTo all place n name → SkipsTo all place m name → n ≡ m
one_skip all place once n m name g h =
    let e : place + 1 + n ≡ place + 1 + m = one_place all (placed name (place + 1 + n)) (placed name (place + 1 + m)) once g h refl in
    omega (arith, e)

instr_same : (i j : Instr) → Code i ≡ Code j → i ≡ j
instr_same i j e = cc

code_once : (version : Version) (all : List Placed) (place : ℕ) (labels : List Placed) (code : List Instr) (body : List (List Word)) (others : List Placed) (instrs : List Instr) → AreOnce (names_of all)
    → ((label : Placed) → Contains all label → IsShortName label.name) → AreCode version all place labels code body → AreCode version all place others instrs body → code ≡ instrs
code_once version all place _ _ _ _ _ once short (AreCode.end _) (AreCode.end _) = refl
code_once version all place _ _ _ _ _ once short (AreCode.label _ name words labels code body h limits more) (AreCode.label _ other _ others instrs _ k bounds later) =
    code_once version all place labels code body others instrs once short more later
code_once version all place _ _ _ _ _ once short (AreCode.label _ name words labels code body h limits more) (AreCode.instruction _ i _ others instrs _ k later) =
    no_label_code version (SkipsTo all place) (SkipsTo all place) name i words words refl h k
code_once version all place _ _ _ _ _ once short (AreCode.instruction _ i words labels code body h more) (AreCode.label _ name _ others instrs _ k bounds later) =
    no_label_code version (SkipsTo all place) (SkipsTo all place) name i words words refl k h
code_once version all place _ _ _ _ _ once short (AreCode.instruction _ i words labels code body h more) (AreCode.instruction _ j _ others instrs _ k later) =
    let names : AreNames (SkipsTo all place) = λ skip name goal. (short (placed name (place + 1 + skip)) goal).0 in
    let same = instr_same i j (encoded_once (SkipsTo all place) (SkipsTo all place) names names (one_skip all place once) (Code i) (Code j) words h k) in
    ap (λ (x : Instr). x ∷ code) same ∙ ap (λ (xs : List Instr). j ∷ xs) (code_once version all (place + 1) labels code body others instrs once short more later)

-- ---- procedures

procedure_same : (p q : Procedure) → p.kind ≡ q.kind → p.params ≡ q.params → p.registers ≡ q.registers → p.code ≡ q.code → p ≡ q
procedure_same p q kind params registers code =
    ap (λ (x : Kind). of x p.params p.registers p.code) kind
    ∙ (ap (λ (x : List Param). of q.kind x p.registers p.code) params ∙ (ap (λ (x : List Scalar). of q.kind q.params x p.code) registers ∙ ap (λ (x : List Instr). of q.kind q.params q.registers x) code))
  where
    of : Kind → List Param → List Scalar → List Instr → Procedure
    of k ps rs is = record { kind = k; params = ps; registers = rs; code = is }

head_same : (k l : Kind) (ps qs : List Param) → Head k ps ≡ Head l qs → (k ≡ l) × (ps ≡ qs)
head_same k l ps qs e = (cc, cc)

registers_same : (rs ss : List Scalar) → Registers rs ≡ Registers ss → rs ≡ ss
registers_same rs ss e = cc

-- words denote one statement if no label may be named
plain_once : (version : Version) (s t : Statement) (words other : List Word) → words ≡ other → Encodes version (SkipsTo [] 0) s words → Encodes version (SkipsTo [] 0) t other → s ≡ t
plain_once version s t words other e h k =
    encoded_once (SkipsTo [] 0) (SkipsTo [] 0) no_names no_names (λ n m name goal to. contains_none (placed name (0 + 1 + n)) goal) s t words h (subst (λ (x : List Word). Encodes version (SkipsTo [] 0) t x) (sym e) k)
  where
    no_names : AreNames (SkipsTo [] 0)
    no_names skip name goal = contains_none (placed name (0 + 1 + skip)) goal

record SameProcedure (p q : Procedure) (following rest : List (List Word)) : Type 0 where
  procedure_is : p ≡ q
  rest_is : following ≡ rest

procedure_once : (version : Version) (p q : Procedure) (first front following rest : List (List Word)) → EncodesProcedure version p first → EncodesProcedure version q front → first ++ following ≡ front ++ rest → IsAnew version following → IsAnew version rest → SameProcedure p q following rest
procedure_once version p q first front following rest h k e a b =
    let full : h.head ∷ h.registers ∷ (h.body ++ following) ≡ k.head ∷ k.registers ∷ (k.body ++ rest) = ap (λ (x : List (List Word)). x ++ following) (sym h.parts) ∙ (e ∙ ap (λ (x : List (List Word)). x ++ rest) k.parts) in
    let heads = cons_is h.head k.head (h.registers ∷ (h.body ++ following)) (k.registers ∷ (k.body ++ rest)) full in
    let lists = cons_is h.registers k.registers (h.body ++ following) (k.body ++ rest) heads.1 in
    let body = body_once version h.labels k.labels 0 h.labels p.code h.body k.labels q.code k.body following rest h.body_is k.body_is lists.1 a b in
    let head = head_same p.kind q.kind p.params q.params (plain_once version (Head p.kind p.params) (Head q.kind q.params) h.head k.head heads.0 h.head_is k.head_is) in
    let registers = registers_same p.registers q.registers (plain_once version (Registers p.registers) (Registers q.registers) h.registers k.registers lists.0 h.registers_are k.registers_are) in
    let mine = subst (λ (x : List (List Word)). AreCode version h.labels 0 h.labels p.code x) body.body_is h.body_is in
    let other = subst (λ (ls : List Placed). AreCode version ls 0 ls q.code k.body) (sym body.labels_are) k.body_is in
    let code = code_once version h.labels 0 h.labels p.code k.body h.labels q.code (once_by_pairs (names_of h.labels) h.once) (labels_short version h.labels 0 h.labels p.code h.body h.body_is) mine other in
    record { procedure_is = procedure_same p q head.0 head.1 registers code; rest_is = body.rest_is }

no_words : {Z : Type 0} (version : Version) (p : Procedure) (first following : List (List Word)) → EncodesProcedure version p first → [] ≡ first ++ following → Z
no_words version p first following h e = absurd (never_cons h.head (h.registers ∷ (h.body ++ following)) (ap (λ (x : List (List Word)). x ++ following) (sym h.parts) ∙ sym e))

procedures_once : (version : Version) (p q : List Procedure) (a b : List (List Word)) → EncodeProcedures version p a → EncodeProcedures version q b → a ≡ b → p ≡ q
procedures_once version _ _ _ _ EncodeProcedures.end EncodeProcedures.end e = refl
procedures_once version _ _ _ _ EncodeProcedures.end (EncodeProcedures.one_more q others front rest k later) e = no_words version q front rest k e
procedures_once version _ _ _ _ (EncodeProcedures.one_more p others first following h more) EncodeProcedures.end e = no_words version p first following h (sym e)
procedures_once version _ _ _ _ (EncodeProcedures.one_more p ps first following h more) (EncodeProcedures.one_more q qs front rest k later) e =
    let same = procedure_once version p q first front following rest h k e (anew version ps following more) (anew version qs rest later) in
    ap (λ (x : Procedure). x ∷ ps) same.procedure_is ∙ ap (λ (xs : List Procedure). q ∷ xs) (procedures_once version ps qs following rest more later same.rest_is)

-- ---- the version

-- no procedure begins with the version's line
no_version_anew : {Z : Type 0} (n : ℕ) (line : List Word) (words others : List (List Word)) → words ≡ line ∷ others → IsAnew One words → Encodes One (SkipsTo [] 0) (OfVersion n) line → Z
no_version_anew n line words others e a f = let h = subst (IsAnew One) e a in absurd (alike (SkipsTo [] 0) (SkipsTo [] 0) (Head h.0 h.1) (OfVersion n) line h.2 f)

-- the same version, and the same words after its line
record SameFront (v w : Version) (words others : List (List Word)) : Type 0 where
  version_is : v ≡ w
  words_are : words ≡ others

front_once : (v w : Version) (front other words others : List (List Word)) → EncodesVersion v front → EncodesVersion w other → front ++ words ≡ other ++ others → IsAnew v words → IsAnew w others → SameFront v w words others
front_once _ _ _ _ words others EncodesVersion.unsaid EncodesVersion.unsaid e a b = record { version_is = refl; words_are = e }
front_once _ _ _ _ words others EncodesVersion.unsaid (EncodesVersion.said w line f) e a b = no_version_anew (version_number w) line words others e a f
front_once _ _ _ _ words others (EncodesVersion.said v line f) EncodesVersion.unsaid e a b = no_version_anew (version_number v) line others words (sym e) b f
front_once _ _ _ _ words others (EncodesVersion.said v line f) (EncodesVersion.said w other g) e a b =
    let same = cons_is line other words others e in
    let numbers : version_number v ≡ version_number w = alike (SkipsTo [] 0) (SkipsTo [] 0) (OfVersion (version_number v)) (OfVersion (version_number w)) line f (subst (Encodes One (SkipsTo [] 0) (OfVersion (version_number w))) (sym same.0) g) in
    record { version_is = sym (number_back v) ∙ (ap version_by numbers ∙ number_back w); words_are = same.1 }

versioned_same : (p q : Versioned) → p.version ≡ q.version → p.procedures ≡ q.procedures → p ≡ q
versioned_same p q v s = ap (λ (x : Version). record p { version = x }) v ∙ ap (λ (x : List Procedure). record q { procedures = x }) s

-- a text denotes at most one program
pub spells_once : (text : List ℕ) (p q : Versioned) → EncodesProgram p text → EncodesProgram q text → p ≡ q
spells_once text p q s t =
    let lines_same = words_once (lines text) (s.front ++ s.words) (t.front ++ t.words) s.lines_are t.lines_are in
    let same =
    front_once p.version q.version s.front t.front s.words t.words s.version_is t.version_is lines_same (anew p.version p.procedures s.words s.procedures_are) (anew q.version q.procedures t.words t.procedures_are) in
    let mine = subst (λ (v : Version). EncodeProcedures v p.procedures s.words) same.version_is s.procedures_are in
    versioned_same p q same.version_is (procedures_once q.version p.procedures q.procedures s.words t.words mine t.procedures_are same.words_are)
