-- The first fault of the input, in terms of the encodings of programs.
use Rattle.tw_binary.proofs.Names.{Broken, Err, FaultNo, IsVersioned, List, Ok, Versioned, [], ap, arith, cond, encoding, eqb, inl, inr, length, length-append, subst, suc, sym, ℕ, ◌++◌, ◌-◌, ◌∙◌, ◌∷◌, ◌≡◌}
use Rattle.tw_binary.specs.declared.fault.FaultNo.TheVariants.{Magic, Version, Missing, Limit, Unknown, Nesting, Utf8, Trailing, NoMemory}
use Rattle.tw_binary.specs.Fault.{IsDue, IsWrongItem, IsFirstFault}
use Rattle.tw_binary.specs.Reading.{front_at, whole, wrong}
use Rattle.tw_binary.proofs.Formats.{IsBytes}
use Rattle.tw_binary.proofs.Breaks.{IsOfItem, IsDueIn, FailsAt, bind_err, no_err, refused}
use Rattle.tw_binary.proofs.Programs.{versioned, FrontFits, front_items, front_strict, front_again}

due_of : (before : List ℕ) (size : ℕ) → IsDueIn FrontFits front_items before size → IsDue before size
due_of before size d = record {
  program = versioned d.value;
  is_program = d.fits.1;
  done = d.done;
  next = d.next;
  later = d.later;
  items = d.items;
  joined = d.joined;
  size_is = d.size_is;
}

-- bytes that can't be parsed are no program's encoding
not_encoded : (bytes : List ℕ) (f : Broken) (other : Versioned) → front_at bytes ≡ Err f → IsVersioned other → encoding other ≡ bytes → ⊥
not_encoded bytes f other e fits spelled = no_err _ f (sym (front_again other fits) ∙ ap front_at spelled ∙ e)

-- a fault of an item, by its code
of_item : (no : FaultNo) (bytes : List ℕ) (offset : ℕ) → IsOfItem no → IsWrongItem bytes offset → IsFirstFault no bytes offset
of_item Magic bytes offset h wrong = wrong
of_item Version bytes offset h wrong = wrong
of_item Missing bytes offset h wrong = absurd h
of_item Limit bytes offset h wrong = wrong
of_item Unknown bytes offset h wrong = wrong
of_item Nesting bytes offset h wrong = wrong
of_item Utf8 bytes offset h wrong = wrong
of_item Trailing bytes offset h wrong = absurd h
of_item NoMemory bytes offset h wrong = absurd h

in_item : (bytes : List ℕ) (f : Broken) (offset : ℕ) → offset ≡ length bytes - f.left → FailsAt FrontFits front_items front_at bytes f → IsFirstFault f.no bytes offset
in_item bytes f offset at (inl l) =
    subst (λ (d : Broken). IsFirstFault d.no bytes offset) (sym l.is) (record {
      before = l.before;
      part = l.part;
      size = l.size;
      parts = l.parts;
      offset_is = omega (arith, at, ap (λ (d : Broken). d.left) l.is);
      due = due_of l.before l.size l.due;
      short = l.short;
    })
in_item bytes f offset at (inr b) = of_item f.no bytes offset b.of_item (record {
  before = b.before;
  item = b.item;
  after = b.after;
  parts = b.parts;
  offset_is = omega (arith, at, b.left, ap length b.parts, length-append b.before (b.item ++ b.after));
  due = due_of b.before (length b.item) b.due;
  stops = λ other rest fits spelled. not_encoded (b.before ++ (b.item ++ rest)) _ other (b.stops rest) fits spelled;
})

-- bytes follow the last procedure
after_end : (bytes : List ℕ) (ps : Versioned) (rest : List ℕ) (f : Broken) (offset : ℕ) → IsVersioned ps → bytes ≡ encoding ps ++ rest → cond (eqb (length rest) 0) (Ok ps) (wrong Trailing rest) ≡ Err f → offset ≡ length bytes - f.left
    → IsFirstFault f.no bytes offset
after_end bytes ps [] f offset fits parts e at = absurd (no_err _ f e)
after_end bytes ps (b ∷ rest) f offset fits parts e at =
    let is : record { no = Trailing; left = suc (length rest) } ≡ f = (refused (eqb (length (b ∷ rest)) 0) ps (record { no = Trailing; left = suc (length rest) }) f e).1 in
    subst (λ (d : Broken). IsFirstFault d.no bytes offset) is (record {
      program = ps;
      is_program = fits;
      after = b ∷ rest;
      parts = parts;
      some = omega arith;
      offset_is = omega (arith, at, ap length parts, ap (λ (d : Broken). d.left) is, length-append (encoding ps) (b ∷ rest));
    })

pub first_fault : (bytes : List ℕ) (f : Broken) (offset : ℕ) → IsBytes bytes → whole bytes ≡ Err f → offset ≡ length bytes - f.left → IsFirstFault f.no bytes offset
unfolding whole
first_fault bytes f offset fits e at =
    elim (bind_err (front_at bytes) (λ x. cond (eqb (length x.1) 0) (Ok (versioned x.0)) (wrong Trailing x.1)) f e) [
      | inl h ↦ in_item bytes f offset at (front_strict.fails bytes f fits h)
      | inr h ↦
          let t = front_strict.format.takes bytes h.0.0 h.0.1 fits h.1 in
          after_end bytes (versioned h.0.0) h.0.1 f offset t.1.1 t.0.parts h.2 at
    ]
