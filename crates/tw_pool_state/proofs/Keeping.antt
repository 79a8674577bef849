-- Data that are held before and after an instruction on data are live, so they keep their places, whatever was freed.
use Rattle.tw_pool_state.proofs.PartNames.{AreAt, ArePlaced, Arg, ArgMatches, ArgsMatch, Held, List, None, Option, Param, Places, Read, Right, RightArg, RightType, Some, Val, Write, [], ap, bare_arg, bare_file, get, map as each, option_flatten, refl, right_of, slice_get, suc, ℕ, ◌∷◌, ◌≡◌}
use Rattle.tw_rights.specs.declared.held.Held.TheVariants as held

-- every right of these still has its place, if its datum is live
module _ (places new_places : Places) (Lives : ℕ → Type 0) (stays : (id place : ℕ) → Lives id → get places id ≡ Some place → get new_places id ≡ Some place) where
  pub file_kept : (file : List (Option Held)) → ((k d : ℕ) → option_flatten (slice_get (bare_file file) k) ≡ Some d → Lives d) → ArePlaced places file → ArePlaced new_places file
  file_kept [] live h = tt
  file_kept (None ∷ file) live h = (tt, file_kept file (λ k d at. live (suc k) d at) h.1)
  file_kept (Some (held.Read right) ∷ file) live h = (stays right.id right.place (live 0 right.id refl) h.0, file_kept file (λ k d at. live (suc k) d at) h.1)
  file_kept (Some (held.Write right) ∷ file) live h = (stays right.id right.place (live 0 right.id refl) h.0, file_kept file (λ k d at. live (suc k) d at) h.1)

  arg_kept : (o : Option RightType) (arg : Arg) → ((d : ℕ) → bare_arg arg ≡ RightArg d → Lives d) → ArgMatches places o arg → ArgMatches new_places o arg
  arg_kept None (Val x) live h = tt
  arg_kept None (Read right) live h = absurd h
  arg_kept None (Write right) live h = absurd h
  arg_kept (Some t) (Val x) live h = absurd h
  arg_kept (Some t) (Read right) live h = (h.0, stays right.id right.place (live right.id refl) h.1)
  arg_kept (Some t) (Write right) live h = (h.0, stays right.id right.place (live right.id refl) h.1)

  pub args_kept : (params : List Param) (args : List Arg) → ((k d : ℕ) → slice_get (each bare_arg args) k ≡ Some (RightArg d) → Lives d) → ArgsMatch places params args → ArgsMatch new_places params args
  args_kept [] [] live h = tt
  args_kept [] (arg ∷ args) live h = absurd h
  args_kept (p ∷ params) [] live h = absurd h
  args_kept (p ∷ params) (arg ∷ args) live h = (arg_kept (right_of p) arg (λ d is. live 0 d (ap Some is)) h.0, args_kept params args (λ k d at. live (suc k) d at) h.1)

  pub all_kept : (rights : List Right) → ((k d : ℕ) → slice_get (each (λ (r : Right). r.id) rights) k ≡ Some d → Lives d) → AreAt places rights → AreAt new_places rights
  all_kept [] live h = tt
  all_kept (right ∷ rights) live h = (stays right.id right.place (live 0 right.id refl) h.0, all_kept rights (λ k d at. live (suc k) d at) h.1)
