-- Arguments leave the right registers one by one.
use Rattle.std.proofs.Common.{◌≡◌, ◌<◌, ◌≤◌, ◌+◌, ℕ, true, false, List, [], ◌∷◌, ◌++◌, refl, sym, ap, subst, ◌∙◌, arith, get_or, length, drop, IsSome}
use Rattle.std.proofs.lemmas.List.{drop_more, drop_all, append_assoc}
use Rattle.std.specs.declared.option.Option.{Option}
use Rattle.std.specs.declared.option.Option.TheVariants.{None, Some}
use Rattle.std.specs.Option.{option_and_then, option_map}
use Rattle.tw_types.specs.declared.param.Param.{Param}
use Rattle.tw_types.specs.declared.value.Value.{Value}
use Rattle.tw_rights.specs.declared.arg.Arg.{Arg}
use Rattle.tw_rights.specs.declared.held.Held.{Held}
use Rattle.tw_rights.specs.Bundled.{BundledOne, Bundled, with_arg, bundled_one, bundled}

abbrev pub File : Type 0
File = List (Option Held)

no_some : false ≡ true → ⊥
no_some e = cc

-- the arguments that are done, and that the others follow
pub record IsUnderWay (whole : Option Bundled) (file : File) (params : List Param) (args : List ℕ) (values : List Value) (done : List Arg) : Type 0 where
  pub others : Bundled
  pub follow : bundled file params args values ≡ Some others
  pub whole_is : whole ≡ Some (record { args = done ++ others.args; file = others.file })

pub begins : (file : File) (params : List Param) (args : List ℕ) (values : List Value) → IsSome (bundled file params args values) → IsUnderWay (bundled file params args values) file params args values []
begins file params args values some = at (bundled file params args values) refl some
  where
    at : (r : Option Bundled) → bundled file params args values ≡ r → IsSome r → IsUnderWay (bundled file params args values) file params args values []
    at None e s = absurd (no_some s)
    at (Some h) e s = record { others = h; follow = e; whole_is = e }

-- the next one of these
pub record Next (file : File) (p : Param) (params : List Param) (args : List ℕ) (values : List Value) (h : Bundled) : Type 0 where
  pub register : ℕ
  pub registers : List ℕ
  pub named : args ≡ register ∷ registers
  pub one : BundledOne
  pub is : bundled_one file p.mode register values ≡ Some one
  pub others : Bundled
  pub follow : bundled one.file params registers one.values ≡ Some others
  pub whole_is : h ≡ with_arg one.arg others

none_is : {A : Type 0} (x : A) → None ≡ Some x → ⊥
none_is x e = cc

same_is : {A : Type 0} (x y : A) → Some x ≡ Some y → x ≡ y
same_is x y e = cc

next : (file : File) (p : Param) (params : List Param) (args : List ℕ) (values : List Value) (h : Bundled) → bundled file (p ∷ params) args values ≡ Some h → Next file p params args values h
next file p params [] values h e = absurd (none_is h e)
next file p params (register ∷ registers) values h e = at (bundled_one file p.mode register values) refl e
  where
    Whole : Option BundledOne → Option Bundled
    Whole r = option_and_then (λ (one : BundledOne). option_map (with_arg one.arg) (bundled one.file params registers one.values)) r

    both : (one : BundledOne) → bundled_one file p.mode register values ≡ Some one → (r : Option Bundled) → bundled one.file params registers one.values ≡ r → option_map (with_arg one.arg) r ≡ Some h → Next file p params (register ∷ registers) values h
    both one is None f e = absurd (none_is h e)
    both one is (Some others) f e = record { register = register; registers = registers; named = refl; one = one; is = is; others = others; follow = f; whole_is = sym (same_is _ _ e) }

    at : (r : Option BundledOne) → bundled_one file p.mode register values ≡ r → Whole r ≡ Some h → Next file p params (register ∷ registers) values h
    at None is e = absurd (none_is h e)
    at (Some one) is e = both one is (bundled one.file params registers one.values) refl e

first_is : (x y : ℕ) (xs ys : List ℕ) → x ∷ xs ≡ y ∷ ys → x ≡ y
first_is x y xs ys e = cc

rest_is : (x y : ℕ) (xs ys : List ℕ) → x ∷ xs ≡ y ∷ ys → xs ≡ ys
rest_is x y xs ys e = cc

not_none : (x : ℕ) (xs : List ℕ) → [] ≡ x ∷ xs → ⊥
not_none x xs e = cc

module _ (whole : Option Bundled) (file : File) (params : List Param) (args : List ℕ) (values : List Value) (done : List Arg) (i : ℕ) (u : IsUnderWay whole file (drop i params) (drop i args) values done) (d : Param) (inside : i < length params) where
  there : Next file (get_or params i d) (drop (i + 1) params) (drop i args) values u.others
  there = next file (get_or params i d) (drop (i + 1) params) (drop i args) values u.others (ap (λ ps. bundled file ps (drop i args) values) (sym (drop_more params i d inside)) ∙ u.follow)

  -- a register is named for it
  pub has_register : i < length args
  has_register =
      let inside_too : (length args ≤ i → ⊥) = λ h. not_none there.register there.registers (sym (drop_all i args h) ∙ there.named) in
      omega (arith, inside_too)

  named : (r : ℕ) → there.register ≡ get_or args i r
  named r = first_is _ _ _ _ (sym there.named ∙ drop_more args i r has_register)

  pub one_there : (r : ℕ) → IsSome (bundled_one file (get_or params i d).mode (get_or args i r) values)
  one_there r = subst (λ k. IsSome (bundled_one file (get_or params i d).mode k values)) (named r) (subst IsSome (sym there.is) refl)

  pub goes_on : (r : ℕ) (one : BundledOne) → bundled_one file (get_or params i d).mode (get_or args i r) values ≡ Some one → IsUnderWay whole one.file (drop (i + 1) params) (drop (i + 1) args) one.values (done ++ one.arg ∷ [])
  goes_on r one is =
      let same : there.one ≡ one = same_is _ _ (sym there.is ∙ ap (λ k. bundled_one file (get_or params i d).mode k values) (named r) ∙ is) in
      let registers : there.registers ≡ drop (i + 1) args = rest_is _ _ _ _ (sym there.named ∙ drop_more args i r has_register) in
      record {
        others = there.others;
        follow = ap (λ (o : BundledOne). bundled o.file (drop (i + 1) params) (drop (i + 1) args) o.values) (sym same)
            ∙ ap (λ rs. bundled there.one.file (drop (i + 1) params) rs there.one.values) (sym registers) ∙ there.follow;
        whole_is = u.whole_is ∙ ap (λ (h : Bundled). Some (record { args = done ++ h.args; file = h.file })) there.whole_is
            ∙ ap (λ (o : BundledOne). Some (record { args = done ++ o.arg ∷ there.others.args; file = there.others.file })) same
            ∙ ap (λ args. Some (record { args = args; file = there.others.file })) (sym (append_assoc done (one.arg ∷ []) there.others.args));
      }

-- all are done
pub ends : (whole : Option Bundled) (file : File) (params : List Param) (args : List ℕ) (values : List Value) (done : List Arg) (i : ℕ) → IsUnderWay whole file (drop i params) args values done → length params ≤ i → whole ≡ Some (record { args = done; file = file })
ends whole file params args values done i u past =
    let is : Some (record { args = []; file = file }) ≡ Some u.others = ap (λ ps. bundled file ps args values) (sym (drop_all i params past)) ∙ u.follow in
    u.whole_is ∙ ap (λ (h : Bundled). Some (record { args = done ++ h.args; file = h.file })) (sym (same_is _ _ is)) ∙ ap (λ args. Some (record { args = args; file = file })) (append-none done)
  where
    append-none : (xs : List Arg) → xs ++ [] ≡ xs
    append-none [] = refl
    append-none (x ∷ xs) = ap (λ ys. x ∷ ys) (append-none xs)
