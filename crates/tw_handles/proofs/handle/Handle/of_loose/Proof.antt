-- `of_loose` moves the ownership of the box.
use Rattle.tw_handles.proofs.Names.{List, [], ghosts, leaves, proved_at, refl, subst, sym, ◌++◌, ◌∷◌, ◌≡◌}
use Rattle.tw_handles.proofs.Walks.{ !, Goes-dropped, R, RattleType, SProp, Some, Stays, Val, WpFn, agg, alloc_all, and_then, block_ptr, by, emp, ent, enter, fact, fact_i, fjoin, fld, free_all, fsplit, ftrue, get, get_in, id⊢, keep, look_at, move, no_more, nothing, of_opd, owns, pass_all, plain, qed, raw, returns, sets, split, stay_dropped, stop, sub, suffices, tables, types_at, use0, vptr, walk_of, whole, yes, ‵, ◌$◌, ◌∵◌, ◌⊛◌}
use Rattle.std.proofs.alloc.Global.TheLaws as heap_laws
use Rattle.tw_handles.proofs.Values.{both, Loose, loose_good, loose_out, Z, slot_in_some}
use Rattle.tw_handles.specs.contracts.handle.Handle.of_loose.{ended, clauses}
use Rattle.tw_handles.specs.contracts.handle.Handle.of_loose.Key.{name as #self}
use Rattle.tw_handles.proofs.handle.Handle.of_loose.Statement.{statement}
use Rattle.tw_handles.proofs.handle.Handle.of_loose.Code as code

pub of_loose_spec : {M : Type 1} → statement M
of_loose_spec 𝓤 𝓛 𝓜 𝓡 wired =
    let H = 𝓛.H in let 𝓣 = tables 𝓤 H 𝓜 𝓡 𝓡.env in let En = ended in let c = clauses 𝓛 𝓜.mem 𝓡.returns in let fn = code.function in
    let LZ = heap_laws.the_row_laws in let Lo : RattleType = Loose R Z LZ ghosts in
    let hs : Stays En.signature.params En.kept = (stay_dropped (plain (λ _. Lo)) yes, tt) in
    proved_at 𝓛 En hs c 𝓜 𝓡 (Goes-dropped 𝓛 0 (plain (λ _. Lo)) yes (λ κs x f. refl), tt) #self fn (code.unfolded 𝓤 H 𝓜 𝓡 wired) (λ z are.
    let v = z.0.3.0 in let a = v.alloc in let Post : Val → SProp 𝓤 = (walk_of 𝓛 En hs c).post z in let Run : List Val → SProp 𝓤 = λ ws. WpFn 𝓤 H 𝓣.C 𝓣.Λ fn ws Post in
    qed 𝓛 ((‵ ftrue ⊛ ‵ (owns (types_at En.signature.params z.0.0) z.0.3 z.0.4)) ∷ raw ((c z.0.0 z.0.3).requires z.1) ∷ []) ∵ split ! $ move ! (1 ∷ []) $ fsplit ! $ loose_out R Z LZ ghosts ! v z.0.4.0 (λ b o h e ws fits.
    let w : Val = both (vptr b o) h in let typed = loose_good R Z LZ ghosts b o h fits in
    suffices ! (Run (w ∷ [])) (subst (λ (us : List Val). ent 𝓤 (Run (w ∷ [])) (Run us)) (sym (λ i. ws i ++ [])) (id⊢ 𝓤 (Run (w ∷ [])))) $
    enter ! 𝓣.C 𝓣.Λ fn (w ∷ []) Post $ alloc_all ! (λ l. pass_all ! refl (typed, tt) $
    sets ! (of_opd ! (get_in ! (fld ! refl (stop !)) (sub ! 0 refl (whole !)))) refl (tt, tt) $ sets ! (of_opd ! (get_in ! (fld ! refl (stop !)) (sub ! 1 refl (whole !)))) refl fits $
    sets ! (of_opd ! (get ! refl)) refl (tt, tt) $ sets ! (agg ! (and_then ! (get ! refl) (and_then ! (get ! refl) (no_more !)))) refl typed $
    slot_in_some ! b o h a v.value $ use0 𝓛 (raw (fact 𝓤 (Some v.value ≡ Some v.value))) (fact_i 𝓤 (Some v.value ≡ Some v.value) (emp 𝓤) refl) $ nothing ! $ nothing ! $ fjoin ! $
    returns ! (look_at ! 0 refl) $ free_all ! refl $ keep ! (4 ∷ 0 ∷ 2 ∷ 1 ∷ []) $ by ! (leaves 𝓛 En hs c z w (record { at = block_ptr b o; alloc = a; held = Some v.value }) (tt, tt) (tt, tt)))))
