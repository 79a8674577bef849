-- `empty` makes a slot that is null.
use Rattle.tw_handles.proofs.Names.{List, Option, [], handle_tells, leaves, proved_at, refl, subst, sym, ◌++◌, ◌∷◌, ◌≡◌}
use Rattle.tw_handles.proofs.Walks.{ !, Goes-dropped, None, R, SProp, Stays, Val, WpFn, agg, alloc_all, and_then, by, emp, ent, enter, fact, fact_i, fjoin, free_all, fsplit, ftrue, get, id⊢, keep, lit, look_at, move, no_more, nothing, null_ptr, owns, pass_all, plain, qed, raw, returns, sets, split, stay_dropped, suffices, tables, types_at, use0, vnull, walk_of, yes, ‵, ◌$◌, ◌∵◌, ◌⊛◌}
use Rattle.tw_handles.proofs.Values.{both, Z, slot_in_none, heap_al, nowhere_good}
use Rattle.tw_handles.specs.contracts.handle.Handle.empty.{ended, clauses}
use Rattle.tw_handles.specs.contracts.handle.Handle.empty.Key.{name as #self}
use Rattle.tw_handles.proofs.handle.Handle.empty.Statement.{statement}
use Rattle.tw_handles.proofs.handle.Handle.empty.Code as code

pub empty_spec : {M : Type 1} → statement M
empty_spec 𝓤 𝓛 𝓜 𝓡 wired =
    let H = 𝓛.H in let 𝓣 = tables 𝓤 H 𝓜 𝓡 𝓡.env in let En = ended in let c = clauses 𝓛 𝓜.mem 𝓡.returns in let fn = code.function in
    let hs : Stays En.signature.params En.kept = (stay_dropped (plain (λ _. Z)) yes, tt) in
    proved_at 𝓛 En hs c 𝓜 𝓡 (Goes-dropped 𝓛 0 (plain (λ _. Z)) yes (λ κs x f. refl), tt) #self fn (code.unfolded 𝓤 H 𝓜 𝓡 wired) (λ z are.
    let a = z.0.3.0 in let Post : Val → SProp 𝓤 = (walk_of 𝓛 En hs c).post z in let Run : List Val → SProp 𝓤 = λ ws. WpFn 𝓤 H 𝓣.C 𝓣.Λ fn ws Post in
    qed 𝓛 ((‵ ftrue ⊛ ‵ (owns (types_at En.signature.params z.0.0) z.0.3 z.0.4)) ∷ raw ((c z.0.0 z.0.3).requires z.1) ∷ []) ∵ split ! $ move ! (1 ∷ []) $ fsplit ! $ handle_tells heap_al ! a z.0.4.0 (λ h ws fits.
    let made : Val = both vnull h in
    suffices ! (Run (h ∷ [])) (subst (λ (us : List Val). ent 𝓤 (Run (h ∷ [])) (Run us)) (sym (λ i. ws i ++ [])) (id⊢ 𝓤 (Run (h ∷ [])))) $
    enter ! 𝓣.C 𝓣.Λ fn (h ∷ []) Post $ alloc_all ! (λ l. pass_all ! refl (fits, tt) $
    sets ! (agg ! (and_then ! (lit ! tt) (and_then ! (get ! refl) (no_more !)))) refl (nowhere_good h fits) $
    slot_in_none ! h a $ use0 𝓛 (raw (fact 𝓤 (◌≡◌ {A = Option R.Denot} None None))) (fact_i 𝓤 _ (emp 𝓤) refl) $ nothing ! $ nothing ! $ fjoin ! $
    returns ! (look_at ! 0 refl) $ free_all ! refl $ keep ! (4 ∷ 0 ∷ 2 ∷ 1 ∷ []) $ by ! (leaves 𝓛 En hs c z made (record { at = null_ptr; alloc = a; held = None }) (tt, tt) (tt, tt)))))
