-- Write rights in registers that aren't marked, by their number.
use Rattle.tw_copies.proofs.Names.{Arg, ArgFits, ArgsFit, Bool, List, None, Option, Param, RightArg, RightType, Rights, Some, Store, Typing, ValueArg, [], ap, arith, false, first_rights, id_of, ids_in, if◌then◌else◌, is_val, length, map, option_to_list, refl, replicate, right_of, rights_given, slice_get, slice_set, start_typing, suc, true, write_by, zero, ℕ, ◌++◌, ◌+◌, ◌-◌, ◌∷◌, ◌≡◌, ◌≤◌}
use Rattle.tw_copies.proofs.Marking.{Marked}

abbrev pub unmarked : Marked
unmarked k = false

-- the marks of the registers after the first
abbrev pub others : Marked → Marked
others m k = m (suc k)

-- ---- one register

abbrev pub one_spare : ℕ → Bool → Option RightType → Option ℕ → ℕ
one_spare d marked t r = if marked then 0 else write_by d t r

pub one_less : (d : ℕ) (m n : Bool) (t : Option RightType) (r : Option ℕ) → (m ≡ true → n ≡ true) → one_spare d n t r ≤ one_spare d m t r
one_less d m true t r h = omega arith
one_less d false false t r h = omega arith
one_less d true false t r h = let no : false ≡ true = h refl in cc

pub one_at_most : (d : ℕ) (m : Bool) (t : Option RightType) (r : Option ℕ) → one_spare d m t r ≤ write_by d t r
one_at_most d true t r = omega arith
one_at_most d false t r = omega arith

pub one_empty : (d : ℕ) (m : Bool) (r : Option ℕ) → one_spare d m None r ≡ 0
one_empty d true r = refl
one_empty d false r = refl

-- ---- all registers

abbrev pub spare : ℕ → Marked → Typing → Rights → ℕ
spare d m [] rights = 0
spare d m (t ∷ typing) [] = 0
spare d m (t ∷ typing) (r ∷ rights) = one_spare d (m 0) t r + spare d (others m) typing rights

pub spare_less : (d : ℕ) (m n : Marked) (typing : Typing) (rights : Rights) → ((k : ℕ) → m k ≡ true → n k ≡ true) → spare d n typing rights ≤ spare d m typing rights
spare_less d m n [] rights h = omega arith
spare_less d m n (t ∷ typing) [] h = omega arith
spare_less d m n (t ∷ typing) (r ∷ rights) h =
    let one = one_less d (m 0) (n 0) t r (h 0) in
    let rest = spare_less d (others m) (others n) typing rights (λ k. h (suc k)) in
    omega (arith, one, rest)

-- one register is set, and the others have the marks that they had, or more
pub spare_set : (d : ℕ) (m n : Marked) (typing : Typing) (rights : Rights) (k : ℕ) (t : Option RightType) (r : Option ℕ) → ((j : ℕ) → (j ≡ k → ⊥) → m j ≡ true → n j ≡ true)
    → spare d n (slice_set typing k t) (slice_set rights k r) ≤ spare d m typing rights + one_spare d (n k) t r
spare_set d m n [] rights k t r h = omega arith
spare_set d m n (t₀ ∷ typing) [] zero t r h = omega arith
spare_set d m n (t₀ ∷ typing) [] (suc k) t r h = omega arith
spare_set d m n (t₀ ∷ typing) (r₀ ∷ rights) zero t r h =
    let rest = spare_less d (others m) (others n) typing rights (λ k e. h (suc k) (λ same. cc) e) in
    omega (arith, rest)
spare_set d m n (t₀ ∷ typing) (r₀ ∷ rights) (suc k) t r h =
    let one = one_less d (m 0) (n 0) t₀ r₀ (h 0 (λ same. cc)) in
    let rest = spare_set d (others m) (others n) typing rights k t r (λ j apart e. h (suc j) (λ same. apart (let s : j ≡ k = omega (arith, same) in s)) e) in
    omega (arith, one, rest)

-- one register is emptied
pub spare_emptied : (d : ℕ) (m : Marked) (typing : Typing) (rights : Rights) (k : ℕ) (t : Option RightType) (r : Option ℕ) → slice_get typing k ≡ Some t → slice_get rights k ≡ Some r
    → spare d m (slice_set typing k None) (slice_set rights k None) + one_spare d (m k) t r ≡ spare d m typing rights
spare_emptied d m [] rights k t r a b = cc
spare_emptied d m (t₀ ∷ typing) [] k t r a b = cc
spare_emptied d m (t₀ ∷ typing) (r₀ ∷ rights) zero t r a b =
    let none = one_empty d (m 0) None in let p : t₀ ≡ t = cc in let q : r₀ ≡ r = cc in rw (p, q) (omega (arith, none))
spare_emptied d m (t₀ ∷ typing) (r₀ ∷ rights) (suc k) t r a b = let h = spare_emptied d (others m) typing rights k t r a b in omega (arith, h)

-- a right in an unmarked register counts
pub spare_there : (d : ℕ) (m : Marked) (typing : Typing) (rights : Rights) (k : ℕ) (t : Option RightType) (r : Option ℕ) → slice_get typing k ≡ Some t → slice_get rights k ≡ Some r
    → one_spare d (m k) t r ≤ spare d m typing rights
spare_there d m typing rights k t r a b = let h = spare_emptied d m typing rights k t r a b in omega (arith, h)

-- a right in a marked register counts only if no marks are regarded
pub spare_marked : (d : ℕ) (m : Marked) (typing : Typing) (rights : Rights) (k : ℕ) (t : Option RightType) (r : Option ℕ) → slice_get typing k ≡ Some t → slice_get rights k ≡ Some r → m k ≡ true
    → spare d m typing rights + write_by d t r ≤ spare d unmarked typing rights
spare_marked d m typing rights k t r a b marked =
    let h = spare_emptied d m typing rights k t r a b in
    let i = spare_emptied d unmarked typing rights k t r a b in
    let none : one_spare d (m k) t r ≡ 0 = ap (λ z. one_spare d z t r) marked in
    let less = spare_less d unmarked m (slice_set typing k None) (slice_set rights k None) (λ j e. cc) in
    omega (arith, h, i, none, less)

-- ---- arguments

abbrev pub next_marks : Bool → Marked → Marked
next_marks value m = if value then m else others m

abbrev pub spare_args : ℕ → Marked → List Param → List Arg → ℕ
spare_args d m [] args = 0
spare_args d m (p ∷ params) [] = 0
spare_args d m (p ∷ params) (arg ∷ args) = one_spare d (m 0) (right_of p) (id_of arg) + spare_args d (if is_val p.mode then m else (λ k. m (suc k))) params args

nothing_spare : (d : ℕ) (m : Marked) (n : ℕ) (rights : Rights) → spare d m (replicate n None) rights ≡ 0
nothing_spare d m zero rights = refl
nothing_spare d m (suc n) [] = refl
nothing_spare d m (suc n) (r ∷ rights) = let none = one_empty d (m 0) r in let rest = nothing_spare d (others m) n rights in omega (arith, none, rest)

-- the registers of a task that starts have what its arguments have
given_spare : (d : ℕ) (m : Marked) (s : Store) (params : List Param) (args : List Arg) (n : ℕ) (vs : Rights) → ArgsFit s params args
    → spare d m (map Some (rights_given params) ++ replicate n None) (map Some (ids_in args) ++ vs) ≤ spare_args d m params args
given_spare d m s [] args n vs h = let none = nothing_spare d m n (map Some (ids_in args) ++ vs) in omega (arith, none)
given_spare d m s (p ∷ params) [] n vs h = absurd h
given_spare d m s (p ∷ params) (arg ∷ args) n vs h = one (is_val p.mode) arg h.0 (given_spare d m s params args n vs h.1) (given_spare d (others m) s params args n vs h.1)
  where
    one : (b : Bool) (arg : Arg) → ArgFits s p (if b then None else Some (record { mode = p.mode; ty = p.ty })) arg
        → spare d m (map Some (rights_given params) ++ replicate n None) (map Some (ids_in args) ++ vs) ≤ spare_args d m params args
        → spare d (others m) (map Some (rights_given params) ++ replicate n None) (map Some (ids_in args) ++ vs) ≤ spare_args d (others m) params args
        → spare d m (map Some (option_to_list (if b then None else Some (record { mode = p.mode; ty = p.ty })) ++ rights_given params) ++ replicate n None) (map Some (ids_in (arg ∷ args)) ++ vs)
        ≤ one_spare d (m 0) (if b then None else Some (record { mode = p.mode; ty = p.ty })) (id_of arg) + spare_args d (if b then m else (λ k. m (suc k))) params args
    one true (ValueArg x) f same less = omega (arith, same)
    one true (RightArg id) f same less = absurd f
    one false (ValueArg x) f same less = absurd f
    one false (RightArg id) f same less = omega (arith, less)

pub start_spare : (d : ℕ) (m : Marked) (s : Store) (params : List Param) (args : List Arg) → ArgsFit s params args → spare d m (start_typing params) (first_rights (ids_in args)) ≤ spare_args d m params args
start_spare d m s params args h = given_spare d m s params args (16 - length (rights_given params)) (replicate (16 - length (ids_in args)) None) h
