-- The rights of a bundle are moved to the first registers of a file.
use Rattle.std.proofs.Common.{[], ◌≡◌, ◌<◌, ◌≤◌, ◌-◌, ◌∙◌, ℕ, suc, List, ◌∷◌, ◌++◌, Option, Some, None, refl, sym, ap, arith, map as each, set, length, length-append, replicate, append-nil}
use Rattle.tw_types.specs.declared.value.Value.{Value}
use Rattle.tw_rights.specs.declared.arg.Arg.{Arg}
use Rattle.tw_rights.specs.declared.arg.Arg.TheVariants as arg
use Rattle.tw_rights.specs.declared.held.Held.{Held}
use Rattle.tw_rights.specs.declared.held.Held.TheVariants as held
use Rattle.tw_rights.specs.Filed.{filed, rights_in}
use Rattle.tw_rights.specs.Rights.{Right}

pub rights_more : (xs ys : List Arg) → rights_in (xs ++ ys) ≡ rights_in xs ++ rights_in ys
rights_more [] ys = refl
rights_more (arg.Val value ∷ xs) ys = rights_more xs ys
rights_more (arg.Read right ∷ xs) ys = ap (λ rs. held.Read right ∷ rs) (rights_more xs ys)
rights_more (arg.Write right ∷ xs) ys = ap (λ rs. held.Write right ∷ rs) (rights_more xs ys)

pub rights_few : (xs : List Arg) → length (rights_in xs) ≤ length xs
rights_few [] = omega arith
rights_few (arg.Val value ∷ xs) = let rest = rights_few xs in omega arith
rights_few (arg.Read right ∷ xs) = let rest = rights_few xs in omega arith
rights_few (arg.Write right ∷ xs) = let rest = rights_few xs in omega arith

put_after : (xs : List Held) (x : Held) (n : ℕ) → set (each Some xs ++ replicate (suc n) None) (length xs) (Some x) ≡ each Some (xs ++ x ∷ []) ++ replicate n None
put_after [] x n = refl
put_after (y ∷ xs) x n = ap (λ ys. Some y ∷ ys) (put_after xs x n)

pub filed_more : (xs : List Held) (x : Held) → length xs < 16 → set (filed xs) (length xs) (Some x) ≡ filed (xs ++ x ∷ [])
filed_more xs x room =
    let left : 16 - length xs ≡ suc (16 - length (xs ++ x ∷ [])) = omega (arith, room, length-append xs (x ∷ [])) in
    ap (λ (n : ℕ). set (each Some xs ++ replicate n None) (length xs) (Some x)) left ∙ put_after xs x (16 - length (xs ++ x ∷ []))

-- ---- the last argument

module _ (old new : List Arg) (last : Arg) (popped : old ≡ new ++ last ∷ []) where
  pub few_left : length old ≤ 8 → length (rights_in new) < 8
  few_left few = omega (arith, few, rights_few new, ap length popped, length-append new (last ∷ []))

  pub value_last : (value : Value) → last ≡ arg.Val value → rights_in new ≡ rights_in old
  value_last value is = sym (ap rights_in (popped ∙ ap (λ (a : Arg). new ++ a ∷ []) is) ∙ rights_more new (arg.Val value ∷ []) ∙ append-nil (rights_in new))

  pub read_last : (right : Right) → last ≡ arg.Read right → rights_in old ≡ rights_in new ++ held.Read right ∷ []
  read_last right is = ap rights_in (popped ∙ ap (λ (a : Arg). new ++ a ∷ []) is) ∙ rights_more new (arg.Read right ∷ [])

  pub write_last : (right : Right) → last ≡ arg.Write right → rights_in old ≡ rights_in new ++ held.Write right ∷ []
  write_last right is = ap rights_in (popped ∙ ap (λ (a : Arg). new ++ a ∷ []) is) ∙ rights_more new (arg.Write right ∷ [])

-- a file with one right more
pub filed_one : (rights all : List Held) (x : Held) (file next : List (Option Held)) (count : ℕ) → length rights < 8 → file ≡ filed rights → count ≡ length rights → next ≡ set file count (Some x) → all ≡ rights ++ x ∷ [] → next ≡ filed all
filed_one rights all x file next count few was long put is =
    put ∙ ap (λ (f : List (Option Held)). set f count (Some x)) was ∙ ap (λ (n : ℕ). set (filed rights) n (Some x)) long ∙ filed_more rights x (omega (arith, few)) ∙ ap filed (sym is)
