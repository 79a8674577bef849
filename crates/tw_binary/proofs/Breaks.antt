-- Where a parser fails: whole items of an encoding are before the item, and the item is wrong or cut off. Theorems for joined parsers.
use Rattle.tw_binary.proofs.Names.{AllByRecursion, Bool, Broken, Err, FaultNo, IsList, IsWithin, Item, List, Ok, Reading, Result, [], ap, append_assoc, as_is, both, concat, cond, counted, false, flat_map, inl, inr, length, many, refl, subst, suc, sym, then_at, true, zero, ℕ, ◌++◌, ◌<◌, ◌>>=◌, ◌∙◌, ◌∷◌, ◌≡◌, ◌⊎◌}
use Rattle.tw_binary.specs.declared.fault.FaultNo.TheVariants.{Magic, Version, Missing, Limit, Unknown, Nesting, Utf8, Trailing, NoMemory}
use Rattle.tw_binary.proofs.Formats.{IsBytes, IsFormat, then_format, counted_format, IsMade, as_is_format}
use Rattle.tw_binary.proofs.Joined.{joined}

-- ---- the theorem

abbrev pub ended : Broken
ended = record { no = Missing; left = 0 }

-- the faults of a whole item
abbrev pub IsOfItem : FaultNo → Type 0
IsOfItem Magic = Unit {0}
IsOfItem Version = Unit {0}
IsOfItem Missing = ⊥
IsOfItem Limit = Unit {0}
IsOfItem Unknown = Unit {0}
IsOfItem Nesting = Unit {0}
IsOfItem Utf8 = Unit {0}
IsOfItem Trailing = ⊥
IsOfItem NoMemory = ⊥

-- after these bytes, which are whole items of some value, an item of this many bytes is due
pub record IsDueIn {A : Type 0} (F : A → Type 0) (w : A → List Item) (before : List ℕ) (size : ℕ) : Type 0 where
  pub value : A
  pub fits : F value
  pub done : List Item
  pub next : Item
  pub later : List Item
  pub items : w value ≡ done ++ (next ∷ later)
  pub joined : concat done ≡ before
  pub size_is : length next ≡ size

-- the input ends before the item that is due is complete
pub record Lacks {A : Type 0} (F : A → Type 0) (w : A → List Item) (bytes : List ℕ) (f : Broken) : Type 0 where
  pub before : List ℕ
  pub part : List ℕ
  pub size : ℕ
  pub parts : bytes ≡ before ++ part
  pub is : f ≡ ended
  pub due : IsDueIn F w before size
  pub short : length part < size

-- the item that is due is wrong, with any bytes after it
pub record Breaks {A : Type 0} (F : A → Type 0) (w : A → List Item) (r : Reading A) (bytes : List ℕ) (f : Broken) : Type 0 where
  pub before : List ℕ
  pub item : List ℕ
  pub after : List ℕ
  pub parts : bytes ≡ before ++ (item ++ after)
  pub left : f.left ≡ length (item ++ after)
  pub of_item : IsOfItem f.no
  pub due : IsDueIn F w before (length item)
  pub stops : (rest : List ℕ) → r (before ++ (item ++ rest)) ≡ Err (record { no = f.no; left = length (item ++ rest) })

abbrev pub FailsAt : {A : Type 0} → (A → Type 0) → (A → List Item) → Reading A → List ℕ → Broken → Type 0
FailsAt F w r bytes f = Lacks F w bytes f ⊎ Breaks F w r bytes f

-- a parser of a format, which determines where it fails
pub record IsStrict {A : Type 0} (F : A → Type 0) (w : A → List Item) (r : Reading A) : Type 0 where
  pub format : IsFormat F w r
  pub some : A
  pub some_fits : F some
  pub fails : (bytes : List ℕ) (f : Broken) → IsBytes bytes → r bytes ≡ Err f → FailsAt F w r bytes f

-- ---- steps that fail

-- a step that failed, or the next one
pub bind_err : {A B : Type 0} (r : Result A Broken) (g : A → Result B Broken) (f : Broken) → (r >>= g) ≡ Err f → (r ≡ Err f) ⊎ ((x : A) × (r ≡ Ok x) × (g x ≡ Err f))
bind_err (Ok x) g f e = inr (x, refl, e)
bind_err (Err d) g f e = inl cc

pub no_err : {Z : Type 0} (x : Z) (f : Broken) → Ok x ≡ Err f → ⊥
no_err x f h = cc

abbrev err : {Z : Type 0} → Broken → Result Z Broken
err d = Err d

pub err_is : {Z : Type 0} (d f : Broken) → err {Z = Z} d ≡ err f → d ≡ f
err_is d f e = cc

-- a test that failed
pub refused : {Z : Type 0} (b : Bool) (x : Z) (d f : Broken) → cond b (Ok x) (Err d) ≡ Err f → (b ≡ false) × (d ≡ f)
refused true x d f e = absurd cc
refused false x d f e = (refl, cc)

-- ---- a parser that continues in another one

-- if the one fails, the other fails after this text
pub record GoesOn {A B : Type 0} (F : A → Type 0) (w : A → List Item) (r : Reading A) (G : B → Type 0) (v : B → List Item) (s : Reading B) (text : List ℕ) : Type 0 where
  pub due : (before : List ℕ) (size : ℕ) → IsDueIn F w before size → IsDueIn G v (text ++ before) size
  pub fails : (rest : List ℕ) (d : Broken) → r rest ≡ Err d → s (text ++ rest) ≡ Err d

module _ {A B : Type 0} {F : A → Type 0} {w : A → List Item} {r : Reading A} {G : B → Type 0} {v : B → List Item} {s : Reading B} {text : List ℕ} (on : GoesOn F w r G v s text) where
  pub carried : (bytes whole : List ℕ) (f : Broken) → whole ≡ text ++ bytes → FailsAt F w r bytes f → FailsAt G v s whole f
  carried bytes whole f is (inl l) = inl (record {
    before = text ++ l.before;
    part = l.part;
    size = l.size;
    parts = is ∙ ap (λ (x : List ℕ). text ++ x) l.parts ∙ sym (append_assoc text l.before l.part);
    is = l.is;
    due = on.due l.before l.size l.due;
    short = l.short;
  })
  carried bytes whole f is (inr b) = inr (record {
    before = text ++ b.before;
    item = b.item;
    after = b.after;
    parts = is ∙ ap (λ (x : List ℕ). text ++ x) b.parts ∙ sym (append_assoc text b.before (b.item ++ b.after));
    left = b.left;
    of_item = b.of_item;
    due = on.due b.before (length b.item) b.due;
    stops = λ rest. ap s (append_assoc text b.before (b.item ++ rest)) ∙ on.fails (b.before ++ (b.item ++ rest)) _ (b.stops rest);
  })

module _ {A B : Type 0} {F : A → Type 0} {w : A → List Item} {G : B → Type 0} {v : B → List Item} (make : A → B) (fit : (x : A) → F x → G (make x)) where
  -- an item that is due in the first part is due in the whole
  pub due_first : (more : A → List Item) → ((x : A) → F x → v (make x) ≡ w x ++ more x) → (before : List ℕ) (size : ℕ) → IsDueIn F w before size → IsDueIn G v before size
  due_first more spelled before size d = record {
    value = make d.value;
    fits = fit d.value d.fits;
    done = d.done;
    next = d.next;
    later = d.later ++ more d.value;
    items = spelled d.value d.fits ∙ ap (λ (t : List Item). t ++ more d.value) d.items ∙ append_assoc d.done (d.next ∷ d.later) (more d.value);
    joined = d.joined;
    size_is = d.size_is;
  }

  -- an item that is due in the last part is due in the whole, after the parts before it
  pub due_after : (front : List Item) → ((x : A) → F x → v (make x) ≡ front ++ w x) → (before : List ℕ) (size : ℕ) → IsDueIn F w before size → IsDueIn G v (concat front ++ before) size
  due_after front spelled before size d = record {
    value = make d.value;
    fits = fit d.value d.fits;
    done = front ++ d.done;
    next = d.next;
    later = d.later;
    items = spelled d.value d.fits ∙ ap (λ (t : List Item). front ++ t) d.items ∙ sym (append_assoc front d.done (d.next ∷ d.later));
    joined = joined front d.done ∙ ap (λ (t : List ℕ). concat front ++ t) d.joined;
    size_is = d.size_is;
  }

-- ---- a value, and another with the parser that depends on it

module _ {A B : Type 0} {F : A → Type 0} {G : A → B → Type 0} {w : A → List Item} {v : A → B → List Item} {r : Reading A} {s : A → Reading B} (first : IsStrict F w r) (second : (x : A) → IsStrict (G x) (v x) (s x)) where
  abbrev BothFit : A × B → Type 0
  BothFit x = F x.0 × G x.0 x.1

  abbrev both_items : A × B → List Item
  both_items x = w x.0 ++ v x.0 x.1

  in_first : GoesOn F w r BothFit both_items (then_at r s) []
  in_first = record {
    due = due_first (λ x. (x, (second x).some)) (λ x h. (h, (second x).some_fits)) (λ x. v x (second x).some) (λ x h. refl);
    fails = λ rest d h. rw h refl;
  }

  in_second : (x : A) → F x → GoesOn (G x) (v x) (s x) BothFit both_items (then_at r s) (concat (w x))
  in_second x fits = record {
    due = due_after (λ y. (x, y)) (λ y h. (fits, h)) (w x) (λ y h. refl);
    fails = λ rest d h. rw (first.format.again x rest fits, h) refl;
  }

  pub then_strict : IsStrict (λ (x : A × B). F x.0 × G x.0 x.1) (λ (x : A × B). w x.0 ++ v x.0 x.1) (then_at r s)
  then_strict = record { format = then_format first.format (λ x. (second x).format); some = (first.some, (second first.some).some); some_fits = (first.some_fits, (second first.some).some_fits); fails = broken } where
    broken : (bytes : List ℕ) (f : Broken) → IsBytes bytes → then_at r s bytes ≡ Err f → FailsAt BothFit both_items (then_at r s) bytes f
    broken bytes f fits e =
        elim (bind_err (r bytes) (λ a. s a.0 a.1 >>= λ b. Ok ((a.0, b.0), b.1)) f e) [
          | inl h ↦ carried in_first bytes bytes f refl (first.fails bytes f fits h)
          | inr h ↦
              let t = first.format.takes bytes h.0.0 h.0.1 fits h.1 in
              elim (bind_err (s h.0.0 h.0.1) (λ b. Ok ((h.0.0, b.0), b.1)) f h.2) [
                | inl k ↦ carried (in_second h.0.0 t.1) h.0.1 bytes f t.0.parts ((second h.0.0).fails h.0.1 f t.0.rest_fits k)
                | inr k ↦ absurd (no_err _ f k.2)
              ]
        ]

-- two values in sequence
pub both_strict : {A B : Type 0} {F : A → Type 0} {G : B → Type 0} {w : A → List Item} {v : B → List Item} {r : Reading A} {s : Reading B} → IsStrict F w r → IsStrict G v s
    → IsStrict (λ (x : A × B). F x.0 × G x.1) (λ (x : A × B). w x.0 ++ v x.1) (both r s)
both_strict first second = then_strict first (λ _. second)

-- ---- several values in sequence

module _ {A : Type 0} {F : A → Type 0} {w : A → List Item} {r : Reading A} (each : IsStrict F w r) where
  pub copies : ℕ → List A
  copies zero = []
  copies (suc n) = each.some ∷ copies n

  pub copies_len : (n : ℕ) → length (copies n) ≡ n
  unfolding copies
  copies_len zero = refl
  copies_len (suc n) = ap suc (copies_len n)

  pub copies_fit : (n : ℕ) → AllByRecursion F (copies n)
  unfolding copies
  copies_fit zero = tt
  copies_fit (suc n) = (each.some_fits, copies_fit n)

  abbrev SoMany : ℕ → List A → Type 0
  SoMany n xs = (length xs ≡ n) × AllByRecursion F xs

  in_head : (n : ℕ) → GoesOn F w r (SoMany (suc n)) (flat_map w) (many r (suc n)) []
  in_head n = record {
    due = due_first (λ x. x ∷ copies n) (λ x h. (ap suc (copies_len n), (h, copies_fit n))) (λ x. flat_map w (copies n)) (λ x h. refl);
    fails = λ rest d h. rw h refl;
  }

  in_tail : (n : ℕ) (x : A) → F x → GoesOn (SoMany n) (flat_map w) (many r n) (SoMany (suc n)) (flat_map w) (many r (suc n)) (concat (w x))
  in_tail n x fits = record {
    due = due_after (λ xs. x ∷ xs) (λ xs h. (ap suc h.0, (fits, h.1))) (w x) (λ xs h. refl);
    fails = λ rest d h. rw (each.format.again x rest fits, h) refl;
  }

  many_fails : (n : ℕ) (bytes : List ℕ) (f : Broken) → IsBytes bytes → many r n bytes ≡ Err f → FailsAt (SoMany n) (flat_map w) (many r n) bytes f
  many_fails zero bytes f fits e = absurd (no_err _ f e)
  many_fails (suc n) bytes f fits e =
      elim (bind_err (r bytes) (λ x. many r n x.1 >>= λ others. Ok (x.0 ∷ others.0, others.1)) f e) [
        | inl h ↦ carried (in_head n) bytes bytes f refl (each.fails bytes f fits h)
        | inr h ↦
            let t = each.format.takes bytes h.0.0 h.0.1 fits h.1 in
            elim (bind_err (many r n h.0.1) (λ others. Ok (h.0.0 ∷ others.0, others.1)) f h.2) [
              | inl k ↦ carried (in_tail n h.0.0 t.1) h.0.1 bytes f t.0.parts (many_fails n h.0.1 f t.0.rest_fits k)
              | inr k ↦ absurd (no_err _ f k.2)
            ]
      ]

  module _ {low high : ℕ} {c : ℕ → List Item} {q : Reading ℕ} (count : IsStrict (IsWithin low high) c q) where
    abbrev counted_by : List A → List Item
    counted_by xs = c (length xs) ++ flat_map w xs

    in_count : GoesOn (IsWithin low high) c q (IsList low high F) counted_by (counted q r) []
    in_count = record {
      due = due_first copies (λ n h. (subst (λ (k : ℕ). IsWithin low high k) (sym (copies_len n)) h, copies_fit n)) (λ n. flat_map w (copies n)) (λ n h. ap (λ (k : ℕ). c k ++ flat_map w (copies n)) (copies_len n));
      fails = λ rest d h. rw h refl;
    }

    in_items : (n : ℕ) → IsWithin low high n → GoesOn (SoMany n) (flat_map w) (many r n) (IsList low high F) counted_by (counted q r) (concat (c n))
    in_items n fits = record {
      due = due_after (λ xs. xs) (λ xs h. (subst (λ (k : ℕ). IsWithin low high k) (sym h.0) fits, h.1)) (c n) (λ xs h. ap (λ (k : ℕ). c k ++ flat_map w xs) h.0);
      fails = λ rest d h. rw (count.format.again n rest fits) h;
    }

    -- a count, and this many values
    pub counted_strict : IsStrict (IsList low high F) (λ (xs : List A). c (length xs) ++ flat_map w xs) (counted q r)
    counted_strict = record {
      format = counted_format each.format count.format;
      some = copies count.some;
      some_fits = (subst (λ (n : ℕ). IsWithin low high n) (sym (copies_len count.some)) count.some_fits, copies_fit count.some);
      fails = broken;
    } where
      broken : (bytes : List ℕ) (f : Broken) → IsBytes bytes → counted q r bytes ≡ Err f → FailsAt (IsList low high F) counted_by (counted q r) bytes f
      broken bytes f fits e =
          elim (bind_err (q bytes) (λ n. many r n.0 n.1) f e) [
            | inl h ↦ carried in_count bytes bytes f refl (count.fails bytes f fits h)
            | inr h ↦
                let t = count.format.takes bytes h.0.0 h.0.1 fits h.1 in
                carried (in_items h.0.0 t.1) h.0.1 bytes f t.0.parts (many_fails h.0.0 h.0.1 f t.0.rest_fits h.2)
          ]

-- ---- a parsed value, converted

pub as_is_goes_on : {A B : Type 0} {F : A → Type 0} {w : A → List Item} {r : Reading A} {G : B → Type 0} {v : B → List Item} (make : A → B) → ((x : A) → F x → G (make x)) → ((x : A) → F x → v (make x) ≡ w x)
    → GoesOn F w r G v (as_is make r) []
as_is_goes_on make fit spelled = record { due = due_after make fit [] spelled; fails = λ rest d h. rw h refl }

pub as_is_fails : {A B : Type 0} (make : A → B) (r : Reading A) (bytes : List ℕ) (f : Broken) → as_is make r bytes ≡ Err f → r bytes ≡ Err f
as_is_fails make r bytes f e =
    elim (bind_err (r bytes) (λ a. Ok (make a.0, a.1)) f e) [
      | inl h ↦ h
      | inr k ↦ absurd (no_err _ f k.2)
    ]

pub as_is_strict : {A B : Type 0} {F : A → Type 0} {G : B → Type 0} {w : A → List Item} {r : Reading A} {make : A → B} {parts : B → A} → IsMade F G make parts → IsStrict F w r
    → IsStrict G (λ (y : B). w (parts y)) (as_is make r)
as_is_strict {A} {B} {F} {G} {w} {r} {make} {parts} of strict = record {
  format = as_is_format of strict.format;
  some = make strict.some;
  some_fits = of.fits strict.some strict.some_fits;
  fails = λ bytes f fits e. carried (as_is_goes_on {r = r} make of.fits (λ x h. ap w (of.undone x h))) bytes bytes f refl (strict.fails bytes f fits (as_is_fails make r bytes f e));
}
