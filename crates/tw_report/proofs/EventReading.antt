-- The words that are read as an event are those that write it.
use Rattle.tw_report.proofs.Names.{Actor, Ask, Bool, Call, Deliver, EncodeParts, EncodesDigits, EncodesEvent, EncodesPart, End, Engine, Event, IsByte, IsEvent, IsInRange, List, Local, Name, None, Number, Option, Parameter, Part, Release, Server, Some, Take, Worker, [], actor_part, ap, arith, codes, cond, eqb-true, event_parts, false, min, min-le_right, number_in_kind, refl, subst, sym, true, with_word, words_in, ℕ, ◌==◌, ◌∙◌, ◌∷◌, ◌≡◌}
use Rattle.std.specs.Option.{MatchOption, option_and_then, option_map, option_or}
use Rattle.std.specs.Str.{bytes_eq}
use Rattle.std.proofs.lemmas.Slice.Eq.{bytes_eq-Decides}
use Rattle.tw_report.specs.reading.Event.{actor_in, alone, ask_in, number_after, deliver_in, event_in, first, for_actor, local_in, named, number_in, parameter_in, release_in, words_64}
use Rattle.tw_report.proofs.Readings.{number_read, number_encoded}

-- ---- one word

plain_read : (low high n : ℕ) (word : List ℕ) → IsInRange low high n → EncodesPart (Number [] n) word → number_in low high word ≡ Some n
plain_read low high n word inside (digits, spells, is) = number_read low high n word (subst (EncodesDigits n) (sym is) spells) inside

number_read_after : (letter n : ℕ) (word : List ℕ) → (letter == letter) ≡ true → IsByte n → EncodesPart (Number (letter ∷ []) n) word → number_after letter word ≡ Some n
unfolding number_after
number_read_after letter n word same inside (digits, spells, is) = rw (is, same) (number_read 0 255 n digits spells inside)

not_after : (letter other : ℕ) (word digits : List ℕ) → word ≡ other ∷ digits → (other == letter) ≡ false → number_after letter word ≡ None
unfolding number_after
not_after letter other word digits is apart = rw (is, apart) refl

actor_read : (actor : Actor) (word : List ℕ) → IsByte (number_in_kind actor) → EncodesPart (actor_part actor) word → actor_in word ≡ Some actor
unfolding actor_in
actor_read (Engine n) word inside spells = rw (number_read_after 101 n word refl inside spells) refl
actor_read (Server n) word inside spells = rw (not_after 101 115 word spells.0 spells.2 refl, number_read_after 115 n word refl inside spells) refl
actor_read (Worker n) word inside spells = rw (not_after 101 119 word spells.0 spells.2 refl, not_after 115 119 word spells.0 spells.2 refl, number_read_after 119 n word refl inside spells) refl

parameter_read : (parameter : ℕ) (word : List ℕ) → EncodesPart (Parameter parameter) word → parameter_in word ≡ Some parameter
unfolding parameter_in
parameter_read parameter word (n, digits, inside, is) = ap (option_map (λ (k : ℕ). min k 255)) (number_read 0 0xFFFFFFFFFFFFFFFF n word digits inside) ∙ ap (λ (k : ℕ). Some k) (sym is)

parameter_encoded : (parameter : ℕ) (word : List ℕ) → parameter_in word ≡ Some parameter → IsByte parameter × EncodesPart (Parameter parameter) word
unfolding parameter_in
parameter_encoded parameter word e = by (words_64 word) refl e
  where
    by : (o : Option ℕ) → words_64 word ≡ o → option_map (λ (k : ℕ). min k 255) o ≡ Some parameter → IsByte parameter × EncodesPart (Parameter parameter) word
    by None is e = cc
    by (Some n) is e =
        let same : parameter ≡ min n 255 = cc in
        let s = number_encoded 0 0xFFFFFFFFFFFFFFFF n word is in
        (subst IsByte (sym same) (omega arith, min-le_right n 255), (n, s.0, s.1, same))

plain_encoded : (low high n : ℕ) (word : List ℕ) → number_in low high word ≡ Some n → IsInRange low high n × EncodesPart (Number [] n) word
plain_encoded low high n word e = let s = number_encoded low high n word e in (s.1, (word, s.0, refl))

encoded_after : (letter n : ℕ) (word : List ℕ) → number_after letter word ≡ Some n → IsByte n × EncodesPart (Number (letter ∷ []) n) word
unfolding number_after
encoded_after letter n [] e = cc
encoded_after letter n (b ∷ rest) e = by (b == letter) refl e
  where
    by : (t : Bool) → (b == letter) ≡ t → cond t (number_in 0 255 rest) None ≡ Some n → IsByte n × EncodesPart (Number (letter ∷ []) n) (b ∷ rest)
    by true is e = let s = number_encoded 0 255 n rest e in (s.1, (rest, s.0, ap (λ (c : ℕ). c ∷ rest) (eqb-true b letter is)))
    by false is e = cc

actor_encoded : (actor : Actor) (word : List ℕ) → actor_in word ≡ Some actor → IsByte (number_in_kind actor) × EncodesPart (actor_part actor) word
unfolding actor_in
actor_encoded actor word e = by (number_after 101 word) (number_after 115 word) (number_after 119 word) refl refl refl e
  where
    Is : Actor → Type 0
    Is a = IsByte (number_in_kind a) × EncodesPart (actor_part a) word

    by : (e s w : Option ℕ) → number_after 101 word ≡ e → number_after 115 word ≡ s → number_after 119 word ≡ w → option_or (option_map Engine e) (option_or (option_map Server s) (option_map Worker w)) ≡ Some actor → IsByte (number_in_kind actor) × EncodesPart (actor_part actor) word
    by (Some n) s w is _ _ f = let same : Engine n ≡ actor = cc in subst (λ a. IsByte (number_in_kind a) × EncodesPart (actor_part a) word) same (encoded_after 101 n word is)
    by None (Some n) w _ is _ f = let same : Server n ≡ actor = cc in subst (λ a. IsByte (number_in_kind a) × EncodesPart (actor_part a) word) same (encoded_after 115 n word is)
    by None None (Some n) _ _ is f = let same : Worker n ≡ actor = cc in subst (λ a. IsByte (number_in_kind a) × EncodesPart (actor_part a) word) same (encoded_after 119 n word is)
    by None None None _ _ _ f = cc

-- ---- a written event is read

-- a part more
step_read : {A B : Type 0} (read : List ℕ → Option A) (next : A × List (List ℕ) → Option B) (part : Part) (parts : List Part) (words : List (List ℕ)) (a : A) (b : B)
    → ((word : List ℕ) → EncodesPart part word → read word ≡ Some a) → ((rest : List (List ℕ)) → EncodeParts parts rest → next (a, rest) ≡ Some b) → EncodeParts (part ∷ parts) words → option_and_then next (first read words) ≡ Some b
step_read read next part parts [] a b one others spells = absurd spells
step_read read next part parts (word ∷ words) a b one others spells = rw (one word spells.0) (others words spells.1)

alone_read : (event : Event) (words : List (List ℕ)) → EncodeParts [] words → alone event words ≡ Some event
alone_read event [] spells = refl
alone_read event (word ∷ words) spells = absurd spells

name_read : (name : List ℕ) (parts : List Part) (words : List (List ℕ)) (event : Event) → ((rest : List (List ℕ)) → EncodeParts parts rest → named name rest ≡ Some event) → EncodeParts (Name name ∷ parts) words → event_in words ≡ Some event
name_read name parts [] event others spells = absurd spells
name_read name parts (word ∷ words) event others spells = ap (λ (n : List ℕ). named n words) spells.0 ∙ others words spells.1

pub event_read : (event : Event) (words : List (List ℕ)) → IsEvent event → EncodeParts (event_parts event) words → event_in words ≡ Some event
unfolding named
event_read (Take a) words may = name_read (codes "take") (actor_part a ∷ []) words (Take a) (λ rest. step_read actor_in _ (actor_part a) [] rest a (Take a) (λ w. actor_read a w may) (alone_read (Take a)))
event_read (Local a n) words may =
    name_read (codes "local") (actor_part a ∷ Number [] n ∷ []) words (Local a n)
    (λ rest. step_read actor_in _ (actor_part a) (Number [] n ∷ []) rest a (Local a n) (λ w. actor_read a w may.0)
    (λ rest. step_read (number_in 1 1000000000) _ (Number [] n) [] rest n (Local a n) (λ w. plain_read 1 1000000000 n w may.1) (alone_read (Local a n))))
event_read (Call a) words may = name_read (codes "call") (actor_part a ∷ []) words (Call a) (λ rest. step_read actor_in _ (actor_part a) [] rest a (Call a) (λ w. actor_read a w may) (alone_read (Call a)))
event_read (End a) words may = name_read (codes "end") (actor_part a ∷ []) words (End a) (λ rest. step_read actor_in _ (actor_part a) [] rest a (End a) (λ w. actor_read a w may) (alone_read (End a)))
event_read (Ask e r j) words may =
    name_read (codes "ask") (actor_part (Engine e) ∷ Number [] r ∷ Parameter j ∷ []) words (Ask e r j)
    (λ rest. step_read (number_after 101) _ (actor_part (Engine e)) (Number [] r ∷ Parameter j ∷ []) rest e (Ask e r j) (λ w. number_read_after 101 e w refl may.0)
    (λ rest. step_read words_64 _ (Number [] r) (Parameter j ∷ []) rest r (Ask e r j) (λ w. plain_read 0 0xFFFFFFFFFFFFFFFF r w may.1)
    (λ rest. step_read parameter_in _ (Parameter j) [] rest j (Ask e r j) (λ w. parameter_read j w) (alone_read (Ask e r j)))))
event_read (Deliver s d r j) words may =
    name_read (codes "deliver") (actor_part (Server s) ∷ Number [] d ∷ Number [] r ∷ Parameter j ∷ []) words (Deliver s d r j)
    (λ rest. step_read (number_after 115) _ (actor_part (Server s)) (Number [] d ∷ Number [] r ∷ Parameter j ∷ []) rest s (Deliver s d r j) (λ w. number_read_after 115 s w refl may.0)
    (λ rest. step_read words_64 _ (Number [] d) (Number [] r ∷ Parameter j ∷ []) rest d (Deliver s d r j) (λ w. plain_read 0 0xFFFFFFFFFFFFFFFF d w may.1)
    (λ rest. step_read words_64 _ (Number [] r) (Parameter j ∷ []) rest r (Deliver s d r j) (λ w. plain_read 0 0xFFFFFFFFFFFFFFFF r w may.2)
    (λ rest. step_read parameter_in _ (Parameter j) [] rest j (Deliver s d r j) (λ w. parameter_read j w) (alone_read (Deliver s d r j))))))
event_read (Release e r) words may =
    name_read (codes "release") (actor_part (Engine e) ∷ Number [] r ∷ []) words (Release e r)
    (λ rest. step_read (number_after 101) _ (actor_part (Engine e)) (Number [] r ∷ []) rest e (Release e r) (λ w. number_read_after 101 e w refl may.0)
    (λ rest. step_read words_64 _ (Number [] r) [] rest r (Release e r) (λ w. plain_read 0 0xFFFFFFFFFFFFFFFF r w may.1) (alone_read (Release e r))))

-- ---- an event that is read was written so

-- the first word, what it says, and what the others do
record Stepped {A B : Type 0} (read : List ℕ → Option A) (next : A × List (List ℕ) → Option B) (words : List (List ℕ)) (b : B) : Type 0 where
  word : List ℕ
  rest : List (List ℕ)
  a : A
  is : words ≡ word ∷ rest
  says : read word ≡ Some a
  goes_on : next (a, rest) ≡ Some b

stepped : {A B : Type 0} (read : List ℕ → Option A) (next : A × List (List ℕ) → Option B) (words : List (List ℕ)) (b : B) → option_and_then next (first read words) ≡ Some b → Stepped read next words b
stepped read next [] b e = cc
stepped {A} read next (word ∷ words) b e = by (read word) refl e
  where
    by : (o : Option A) → read word ≡ o → option_and_then next (option_map (λ a. (a, words)) o) ≡ Some b → Stepped read next (word ∷ words) b
    by None is e = cc
    by (Some a) is e = record { word = word; rest = words; a = a; is = refl; says = is; goes_on = e }

alone_is : (made event : Event) (words : List (List ℕ)) → alone made words ≡ Some event → (words ≡ []) × (made ≡ event)
alone_is made event [] e = (refl, cc)
alone_is made event (word ∷ words) e = cc

one_more : (part : Part) (parts : List Part) (words : List (List ℕ)) (word : List ℕ) (rest : List (List ℕ)) → words ≡ word ∷ rest → EncodesPart part word → EncodeParts parts rest → EncodeParts (part ∷ parts) words
one_more part parts words word rest is one others = subst (EncodeParts (part ∷ parts)) (sym is) (one, others)

no_more : (words : List (List ℕ)) → words ≡ [] → EncodeParts [] words
no_more words is = subst (EncodeParts []) (sym is) tt

-- the event, within its limits, and its parts after the name
abbrev IsEventLine : List ℕ → Event → List (List ℕ) → Type 0
IsEventLine name event words = IsEvent event × EncodeParts (event_parts event) (name ∷ words)

source : (name : List ℕ) (made event : Event) (words : List (List ℕ)) → made ≡ event → IsEventLine name made words → IsEventLine name event words
source name made event words same t = subst (λ e. IsEventLine name e words) same t

for_actor_event : (name : List ℕ) (make : Actor → Event) (event : Event) (words : List (List ℕ)) → ((a : Actor) (w : List (List ℕ)) → IsByte (number_in_kind a) → EncodeParts (actor_part a ∷ []) w → IsEventLine name (make a) w) → for_actor make words ≡ Some event → IsEventLine name event words
for_actor_event name make event words to e =
    let s = stepped actor_in _ words event e in
    let last = alone_is (make s.a) event s.rest s.goes_on in
    let actor = actor_encoded s.a s.word s.says in
    source name (make s.a) event words last.1 (to s.a words actor.0 (one_more (actor_part s.a) [] words s.word s.rest s.is actor.1 (no_more s.rest last.0)))

local_event : (event : Event) (words : List (List ℕ)) → local_in words ≡ Some event → IsEventLine (codes "local") event words
local_event event words e =
    let s = stepped actor_in _ words event e in
    let t = stepped (number_in 1 1000000000) _ s.rest event s.goes_on in
    let last = alone_is (Local s.a t.a) event t.rest t.goes_on in
    let actor = actor_encoded s.a s.word s.says in
    let steps = plain_encoded 1 1000000000 t.a t.word t.says in
    source (codes "local") (Local s.a t.a) event words last.1 ((actor.0, steps.0), (refl, one_more (actor_part s.a) (Number [] t.a ∷ []) words s.word s.rest s.is actor.1 (one_more (Number [] t.a) [] s.rest t.word t.rest t.is steps.1 (no_more t.rest last.0))))

ask_event : (event : Event) (words : List (List ℕ)) → ask_in words ≡ Some event → IsEventLine (codes "ask") event words
ask_event event words e =
    let s = stepped (number_after 101) _ words event e in
    let t = stepped words_64 _ s.rest event s.goes_on in
    let u = stepped parameter_in _ t.rest event t.goes_on in
    let last = alone_is (Ask s.a t.a u.a) event u.rest u.goes_on in
    let engine = encoded_after 101 s.a s.word s.says in
    let rule = plain_encoded 0 0xFFFFFFFFFFFFFFFF t.a t.word t.says in
    let parameter = parameter_encoded u.a u.word u.says in
    source (codes "ask") (Ask s.a t.a u.a) event words last.1
    ((engine.0, rule.0, parameter.0), (refl, one_more (actor_part (Engine s.a)) (Number [] t.a ∷ Parameter u.a ∷ []) words s.word s.rest s.is engine.1 (one_more (Number [] t.a) (Parameter u.a ∷ []) s.rest t.word t.rest t.is rule.1 (one_more (Parameter u.a) [] t.rest u.word u.rest u.is parameter.1 (no_more u.rest last.0)))))

deliver_event : (event : Event) (words : List (List ℕ)) → deliver_in words ≡ Some event → IsEventLine (codes "deliver") event words
deliver_event event words e =
    let s = stepped (number_after 115) _ words event e in
    let t = stepped words_64 _ s.rest event s.goes_on in
    let u = stepped words_64 _ t.rest event t.goes_on in
    let v = stepped parameter_in _ u.rest event u.goes_on in
    let last = alone_is (Deliver s.a t.a u.a v.a) event v.rest v.goes_on in
    let server = encoded_after 115 s.a s.word s.says in
    let datum = plain_encoded 0 0xFFFFFFFFFFFFFFFF t.a t.word t.says in
    let rule = plain_encoded 0 0xFFFFFFFFFFFFFFFF u.a u.word u.says in
    let parameter = parameter_encoded v.a v.word v.says in
    source (codes "deliver") (Deliver s.a t.a u.a v.a) event words last.1 (
      (server.0, datum.0, rule.0, parameter.0),
      (
        refl,
        one_more (actor_part (Server s.a)) (Number [] t.a ∷ Number [] u.a ∷ Parameter v.a ∷ []) words s.word s.rest s.is server.1 (one_more (Number [] t.a) (Number [] u.a ∷ Parameter v.a ∷ []) s.rest t.word t.rest t.is datum.1
            (one_more (Number [] u.a) (Parameter v.a ∷ []) t.rest u.word u.rest u.is rule.1 (one_more (Parameter v.a) [] u.rest v.word v.rest v.is parameter.1 (no_more v.rest last.0)))),
      ),
    )

release_event_is : (event : Event) (words : List (List ℕ)) → release_in words ≡ Some event → IsEventLine (codes "release") event words
release_event_is event words e =
    let s = stepped (number_after 101) _ words event e in
    let t = stepped words_64 _ s.rest event s.goes_on in
    let last = alone_is (Release s.a t.a) event t.rest t.goes_on in
    let engine = encoded_after 101 s.a s.word s.says in
    let rule = plain_encoded 0 0xFFFFFFFFFFFFFFFF t.a t.word t.says in
    source (codes "release") (Release s.a t.a) event words last.1 ((engine.0, rule.0), (refl, one_more (actor_part (Engine s.a)) (Number [] t.a ∷ []) words s.word s.rest s.is engine.1 (one_more (Number [] t.a) [] s.rest t.word t.rest t.is rule.1 (no_more t.rest last.0))))

name_is : (name word : List ℕ) → bytes_eq name word ≡ true → word ≡ name
name_is name word e = sym ((bytes_eq-Decides name word).0 e)

named_event : (name : List ℕ) (words : List (List ℕ)) (event : Event) → named name words ≡ Some event → IsEventLine name event words
unfolding named
named_event name words event e =
    by (bytes_eq name (codes "take")) (bytes_eq name (codes "local")) (bytes_eq name (codes "call")) (bytes_eq name (codes "end")) (bytes_eq name (codes "ask")) (bytes_eq name (codes "deliver")) (bytes_eq name (codes "release"))
    refl refl refl refl refl refl refl e
  where
    at_home : (word : List ℕ) → bytes_eq name word ≡ true → IsEventLine word event words → IsEventLine name event words
    at_home word is t = subst (λ n. IsEventLine n event words) (name_is name word is) t

    by : (t l c n a d r : Bool) → bytes_eq name (codes "take") ≡ t → bytes_eq name (codes "local") ≡ l → bytes_eq name (codes "call") ≡ c → bytes_eq name (codes "end") ≡ n → bytes_eq name (codes "ask") ≡ a → bytes_eq name (codes "deliver") ≡ d
        → bytes_eq name (codes "release") ≡ r
        → cond t (for_actor Take words) (cond l (local_in words) (cond c (for_actor Call words) (cond n (for_actor End words) (cond a (ask_in words) (cond d (deliver_in words) (cond r (release_in words) None)))))) ≡ Some event → IsEventLine name event words
    by true l c n a d r is _ _ _ _ _ _ e = at_home (codes "take") is (for_actor_event (codes "take") Take event words (λ a w may spells. (may, (refl, spells))) e)
    by false true c n a d r _ is _ _ _ _ _ e = at_home (codes "local") is (local_event event words e)
    by false false true n a d r _ _ is _ _ _ _ e = at_home (codes "call") is (for_actor_event (codes "call") Call event words (λ a w may spells. (may, (refl, spells))) e)
    by false false false true a d r _ _ _ is _ _ _ e = at_home (codes "end") is (for_actor_event (codes "end") End event words (λ a w may spells. (may, (refl, spells))) e)
    by false false false false true d r _ _ _ _ is _ _ e = at_home (codes "ask") is (ask_event event words e)
    by false false false false false true r _ _ _ _ _ is _ e = at_home (codes "deliver") is (deliver_event event words e)
    by false false false false false false true _ _ _ _ _ _ is e = at_home (codes "release") is (release_event_is event words e)
    by false false false false false false false _ _ _ _ _ _ _ e = cc

pub event_shown : (words : List (List ℕ)) (event : Event) → event_in words ≡ Some event → IsEvent event × EncodeParts (event_parts event) words
event_shown [] event e = cc
event_shown (name ∷ words) event e = named_event name words event e

-- ---- the line

pub line_event : (line : List ℕ) (o : Option Event) → event_in (words_in line) ≡ o → MatchOption o ((event : Event) → EncodesEvent event line → ⊥) (λ event. EncodesEvent event line)
line_event line None e = λ event spells. none event (sym (event_read event (words_in line) spells.limits spells.parts) ∙ e)
  where
    none : (event : Event) → Some event ≡ None → ⊥
    none event e = cc
line_event line (Some event) e = let t = event_shown (words_in line) event e in record { limits = t.0; parts = t.1 }

no_name : (words : List (List ℕ)) → named [] words ≡ None
unfolding named
no_name words = refl

pub line_named : (line name : List ℕ) (words : List (List ℕ)) (o : Option Event) → words_in line ≡ with_word name words → o ≡ named name words → event_in (words_in line) ≡ o
line_named line [] words o e is = ap event_in e ∙ sym (no_name words) ∙ sym is
line_named line (b ∷ name) words o e is = ap event_in e ∙ sym is

-- ---- the first word

pub first_some : {A : Type 0} (read : List ℕ → Option A) (line word : List ℕ) (words : List (List ℕ)) (a : A) → words_in line ≡ with_word word words → read [] ≡ None → Some a ≡ read word → Some (a, words) ≡ first read (words_in line)
first_some {A} read line [] words a e none is = absurd (no (is ∙ none))
  where
    no : Some a ≡ None → ⊥
    no e = cc
first_some read line (b ∷ word) words a e none is = sym (ap (first read) e ∙ ap (option_map (λ x. (x, words))) (sym is))

pub number_none : (low high : ℕ) → number_in low high [] ≡ None
unfolding number_in
number_none low high = refl

pub parameter_none : parameter_in [] ≡ None
unfolding parameter_in
parameter_none = ap (option_map (λ (k : ℕ). min k 255)) (number_none 0 0xFFFFFFFFFFFFFFFF)

pub none_after : (letter : ℕ) → number_after letter [] ≡ None
unfolding number_after
none_after letter = refl

pub actor_none : actor_in [] ≡ None
unfolding actor_in
actor_none = rw (none_after 101, none_after 115, none_after 119) refl
