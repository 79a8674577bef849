-- Instructions: each is parsed as it was written, and one that is wrong or cut off is reported.
use Rattle.tw_binary.proofs.Names.{AllByRecursion, Args, Bool, Broken, Callee, Content, Contents, Err, Five, Form, Four, Instr, IsInstrOf, IsList, IsOperandOf, IsRegister, IsTarget, IsWithin, Item, Iterations, List, Literal, None, Number, Ok, One, Opcode, Operand, Option, Right, Row, Skip, Some, Target, Two, TypeOf, Unknown, Value, Version, [], a_row, ap, arith, byte, code_known, code_of, concat, cond, counted_items, eqb-true, find, flat_map, forms_in, forms_of, has_opcode, holds, if_had, inl, inr, instr_in, instr_items, instr_of, is_made, made_row, opcode_at, operand_items, operands_of, refl, register_items, row, row_of, subst, suc, sym, target_code, true, zero, ℕ, ◌++◌, ◌==◌, ◌∙◌, ◌∷◌, ◌≡◌}
use Rattle.tw_code.specs.declared.instr.Instr.TheVariants as instr
use Rattle.tw_code.specs.declared.opcode.TheConstants.{OPCODES}
use Rattle.tw_binary.specs.Reading.{as_is, args_at, after_code, content_at, contents_at, instr_at, made_at, target_in, target_at}
use Rattle.tw_binary.proofs.Formats.{chosen, IsBytes, IsBytes-rest, Takes, IsMade, as_is_takes, as_is_again, ok_is}
use Rattle.tw_binary.proofs.Breaks.{IsStrict, FailsAt, GoesOn, carried, due_after, no_err, err_is, both_strict, counted_strict, as_is_strict, as_is_fails}
use Rattle.tw_binary.proofs.Bytes.{a_byte, nothing_left, wrong_byte, byte_strict, register_strict}
use Rattle.tw_binary.proofs.Numbers.{number_strict, wide_strict}
use Rattle.tw_binary.proofs.TextFormat.{text_strict}
use Rattle.tw_binary.proofs.Types.{type_strict}

-- ---- operands

target_made : IsMade (IsWithin 0 16) IsTarget target_in target_code
target_made = record { made = made; undone = undone; fits = fits; parts_fit = parts_fit } where
  made : (t : Option ℕ) → IsTarget t → target_in (target_code t) ≡ t
  made None h = refl
  made (Some number) h = refl

  undone : (n : ℕ) → IsWithin 0 16 n → target_code (target_in n) ≡ n
  undone zero h = refl
  undone (suc n) h = omega arith

  fits : (n : ℕ) → IsWithin 0 16 n → IsTarget (target_in n)
  fits zero h = tt
  fits (suc n) h = (omega (arith, h.1), omega (arith, h.1))

  parts_fit : (t : Option ℕ) → IsTarget t → IsWithin 0 16 (target_code t)
  parts_fit None h = (omega arith, omega arith)
  parts_fit (Some number) h = (omega (arith, h.1), omega (arith, h.1))

target_strict : IsStrict IsTarget (λ t. a_byte (target_code t)) target_at
target_strict = as_is_strict target_made (byte_strict 0 16 (omega arith))

args_strict : IsStrict (IsList 0 8 IsRegister) (counted_items byte register_items) args_at
args_strict = counted_strict register_strict (byte_strict 0 8 (omega arith))

-- one line for each form
content_strict : (version : Version) (form : Form) → IsStrict (λ (x : Content form). IsOperandOf version (holds form x)) (λ (x : Content form). operand_items (holds form x)) (content_at version form)
content_strict version Value = register_strict
content_strict version Right = register_strict
content_strict version Number = number_strict
content_strict version Iterations = wide_strict 1 1000 (omega arith) (omega arith)
content_strict version Literal = text_strict
content_strict version TypeOf = type_strict version 3
content_strict version Skip = wide_strict 0 65535 (omega arith) (omega arith)
content_strict version Callee = byte_strict 0 255 (omega arith)
content_strict version Target = target_strict
content_strict version Args = args_strict

abbrev contents_items : (forms : List Form) → Contents forms → List Item
contents_items forms x = flat_map operand_items (operands_of forms x)

abbrev AreContents : Version → (forms : List Form) → Contents forms → Type 0
AreContents version forms x = AllByRecursion (IsOperandOf version) (operands_of forms x)

nothing_strict : (version : Version) → IsStrict (AreContents version []) (contents_items []) (contents_at version [])
nothing_strict version = record {
  format = record {
    takes = λ bytes x rest fits e. (subst (λ (y : Unit {0} × List ℕ). Takes bytes [] y.1) (ok_is (tt, bytes) (x, rest) e) (record { parts = refl; rest_fits = fits }), tt);
    again = λ x rest h. refl;
  };
  some = tt;
  some_fits = tt;
  fails = λ bytes f fits e. absurd (no_err _ f e);
}

contents_strict : (version : Version) (forms : List Form) → IsStrict (AreContents version forms) (contents_items forms) (contents_at version forms)
contents_strict version [] = nothing_strict version
contents_strict version (form ∷ forms) = both_strict (content_strict version form) (contents_strict version forms)

-- ---- an instruction of this opcode

pub by_row : (version : Version) (r : Row) (bytes : List ℕ) → made_at version r bytes ≡ as_is (instr_in r) (contents_at version (forms_in r)) bytes
by_row version (a_row code forms make) bytes = refl

module _ (version : Version) (o : Opcode) (had : has_opcode version o ≡ true) where
  spelled : (x : Contents (forms_of o)) → instr_items (instr_of o x) ≡ byte (code_of o) ∷ contents_items (forms_of o) x
  spelled x = ap (λ (r : Opcode × List Operand). byte (code_of r.0) ∷ flat_map operand_items r.1) (is_made o x)

  fit : (x : Contents (forms_of o)) → AreContents version (forms_of o) x → IsInstrOf version (instr_of o x)
  fit x h = subst (λ (r : Opcode × List Operand). (has_opcode version r.0 ≡ true) × AllByRecursion (IsOperandOf version) r.1) (sym (is_made o x)) (had, h)

  known : opcode_at version (code_of o) ≡ Some o
  known = ap (if_had version) (code_known o) ∙ ap (λ (b : Bool). cond b (Some o) None) had

  goes_after : GoesOn (AreContents version (forms_of o)) (contents_items (forms_of o)) (contents_at version (forms_of o)) (IsInstrOf version) instr_items (instr_at version) (concat (byte (code_of o) ∷ []))
  unfolding instr_at
  goes_after = record { due = due_after (instr_of o) fit (byte (code_of o) ∷ []) (λ x h. spelled x); fails = fails } where
    fails : (rest : List ℕ) (d : Broken) → contents_at version (forms_of o) rest ≡ Err d → instr_at version (concat (byte (code_of o) ∷ []) ++ rest) ≡ Err d
    fails rest d h =
        let stops : as_is (instr_of o) (contents_at version (forms_of o)) rest ≡ Err d = rw h refl in
        ap (λ (found : Option Opcode). after_code version (code_of o) found rest) known ∙ by_row version (row_of o) rest ∙ stops

  again : (x : Contents (forms_of o)) (rest : List ℕ) → AreContents version (forms_of o) x → instr_at version (concat (byte (code_of o) ∷ contents_items (forms_of o) x) ++ rest) ≡ Ok (instr_of o x, rest)
  unfolding instr_at
  again x rest h =
      ap (λ (found : Option Opcode). after_code version (code_of o) found (concat (contents_items (forms_of o) x) ++ rest)) known
      ∙ by_row version (row_of o) (concat (contents_items (forms_of o) x) ++ rest)
      ∙ as_is_again (contents_strict version (forms_of o)).format (instr_of o) x rest h

-- ---- the theorem

-- the result of looking up a code
none_found : {Z : Type 0} (p : Opcode) → None ≡ Some p → Z
none_found p h = absurd cc

same_found : (p q : Opcode) → Some p ≡ Some q → p ≡ q
same_found p q h = cc

of_code : (code : ℕ) (all : List Opcode) (p : Opcode) → find (λ q. code_of q == code) all ≡ Some p → code_of p ≡ code
of_code code [] p h = none_found p h
of_code code (first ∷ others) p h =
    elim (chosen (code_of first == code) (Some first) (find (λ q. code_of q == code) others) (Some p) h) [
      | inl k ↦ ap code_of (sym (same_found first p k.1)) ∙ eqb-true (code_of first) code k.0
      | inr k ↦ of_code code others p k.1
    ]

found_had : (version : Version) (code : ℕ) (first : Option Opcode) (o : Opcode) → find (λ p. code_of p == code) OPCODES ≡ first → if_had version first ≡ Some o → (code_of o ≡ code) × (has_opcode version o ≡ true)
found_had version code None o is h = none_found o h
found_had version code (Some p) o is h =
    elim (chosen (has_opcode version p) (Some p) None (Some o) h) [
      | inl k ↦ let same = same_found p o k.1 in (ap code_of (sym same) ∙ of_code code OPCODES p is, ap (has_opcode version) (sym same) ∙ k.0)
      | inr k ↦ none_found o k.1
    ]

found : (version : Version) (code : ℕ) (o : Opcode) → opcode_at version code ≡ Some o → (code_of o ≡ code) × (has_opcode version o ≡ true)
found version code o e = found_had version code (find (λ p. code_of p == code) OPCODES) o refl e

-- each version has RET
ret_fits : (version : Version) → IsInstrOf version instr.Ret
ret_fits One = (refl, tt)
ret_fits Two = (refl, tt)
ret_fits Four = (refl, tt)
ret_fits Five = (refl, tt)

pub instr_strict : (version : Version) → IsStrict (IsInstrOf version) instr_items (instr_at version)
unfolding instr_at
instr_strict version = record { format = record { takes = takes; again = instr_again }; some = instr.Ret; some_fits = ret_fits version; fails = fails } where
  takes : (bytes : List ℕ) (x : Instr) (rest : List ℕ) → IsBytes bytes → instr_at version bytes ≡ Ok (x, rest) → Takes bytes (concat (instr_items x)) rest × IsInstrOf version x
  takes [] x rest fits e = absurd cc
  takes (c ∷ bytes) x rest fits e = by (opcode_at version c) refl e
    where
      by : (o : Option Opcode) → opcode_at version c ≡ o → after_code version c o bytes ≡ Ok (x, rest) → Takes (c ∷ bytes) (concat (instr_items x)) rest × IsInstrOf version x
      by None is h = absurd cc
      by (Some o) is h =
          let of = found version c o is in
          let a = as_is_takes (contents_strict version (forms_of o)).format (instr_of o) bytes x rest (IsBytes-rest c bytes fits) (sym (by_row version (row_of o) bytes) ∙ h) in
          let text : Takes (c ∷ bytes) (concat (byte c ∷ contents_items (forms_of o) a.0)) rest = record { parts = ap (λ (t : List ℕ). c ∷ t) a.1.parts; rest_fits = a.1.rest_fits } in
          let so : byte c ∷ contents_items (forms_of o) a.0 ≡ instr_items (instr_of o a.0) = ap (λ (k : ℕ). byte k ∷ contents_items (forms_of o) a.0) (sym of.0) ∙ sym (spelled version o of.1 a.0) in
          subst (λ (y : Instr). Takes (c ∷ bytes) (concat (instr_items y)) rest × IsInstrOf version y) a.3 (subst (λ (t : List Item). Takes (c ∷ bytes) (concat t) rest) so text, fit version o of.1 a.0 a.2)

  instr_again : (x : Instr) (rest : List ℕ) → IsInstrOf version x → instr_at version (concat (instr_items x) ++ rest) ≡ Ok (x, rest)
  instr_again x rest h =
      let m = made_row x in
      let items = ap (λ (os : List Operand). byte (code_of (row x).0) ∷ flat_map operand_items os) m.1 in
      ap (λ (t : List Item). instr_at version (concat t ++ rest)) items ∙ again version (row x).0 h.0 m.0 rest (subst (AllByRecursion (IsOperandOf version)) m.1 h.1) ∙ ap (λ (y : Instr). Ok (y, rest)) m.2

  fails : (bytes : List ℕ) (f : Broken) → IsBytes bytes → instr_at version bytes ≡ Err f → FailsAt (IsInstrOf version) instr_items (instr_at version) bytes f
  fails [] f fits e = inl (nothing_left f instr.Ret (ret_fits version) 0x42 [] refl (err_is {Z = Instr × List ℕ} _ f e))
  fails (c ∷ bytes) f fits e = by (opcode_at version c) refl e
    where
      by : (o : Option Opcode) → opcode_at version c ≡ o → after_code version c o bytes ≡ Err f → FailsAt (IsInstrOf version) instr_items (instr_at version) (c ∷ bytes) f
      by None is h = inr (wrong_byte c bytes Unknown f instr.Ret (ret_fits version) 0x42 [] refl tt (err_is {Z = Instr × List ℕ} _ f h) (λ rest. rw is refl))
      by (Some o) is h =
          let of = found version c o is in
          let strict = contents_strict version (forms_of o) in
          carried (goes_after version o of.1) bytes (c ∷ bytes) f (ap (λ (k : ℕ). k ∷ bytes) (sym of.0)) (strict.fails bytes f (IsBytes-rest c bytes fits) (as_is_fails (instr_of o) (contents_at version (forms_of o)) bytes f (sym (by_row version (row_of o) bytes) ∙ h)))
