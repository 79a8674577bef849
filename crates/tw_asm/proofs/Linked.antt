-- Goals, resolved one by one.
use Rattle.tw_asm.proofs.AsmNames.{AllByRecursion, AsmFault, Drafted, Instr, List, None, Placed, Procedure, Section, [], ap, arith, drop, flat_map, get_or, inl, inr, length, map, map-append, map-id, refl, split_at, subst, suc, sym, take, ℕ, ◌++◌, ◌+◌, ◌<◌, ◌∙◌, ◌∷◌, ◌≡◌}
use Rattle.tw_asm.specs.reading.Goals.{AreLinkedCode, AreLinkedProcedures, FirstUnlinked, Goal, HasLabelsWithin, IsLinked, IsLinkedProcedure, IsUnlinked, goals_in, section_goals}

abbrev goal_at : List Placed → ℕ → Drafted → Goal
goal_at labels place draft = record { labels = labels; place = place; draft = draft }

pub linked_length : (labels : List Placed) (place : ℕ) (drafts : List Drafted) (code : List Instr) → AreLinkedCode (goals_in labels place drafts) code → length code ≡ length drafts
linked_length labels place [] [] l = refl
linked_length labels place [] (i ∷ code) l = absurd l
linked_length labels place (d ∷ drafts) [] l = absurd l
linked_length labels place (d ∷ drafts) (i ∷ code) l = ap suc (linked_length labels (place + 1) drafts code l.1)

pub linked_more : (labels : List Placed) (place : ℕ) (drafts : List Drafted) (code : List Instr) (d : Drafted) (i : Instr) → AreLinkedCode (goals_in labels place drafts) code
    → IsLinked (goal_at labels (place + length drafts) d) i → AreLinkedCode (goals_in labels place (drafts ++ (d ∷ []))) (code ++ (i ∷ []))
linked_more labels place [] [] d i l here =
    let e : place + 0 ≡ place = omega arith in
    (subst (λ (k : ℕ). IsLinked (goal_at labels k d) i) e here, tt)
linked_more labels place [] (j ∷ code) d i l here = absurd l
linked_more labels place (x ∷ drafts) [] d i l here = absurd l
linked_more labels place (x ∷ drafts) (j ∷ code) d i l here =
    let e : place + suc (length drafts) ≡ (place + 1) + length drafts = omega arith in
    (l.0, linked_more labels (place + 1) drafts code d i l.1 (subst (λ (k : ℕ). IsLinked (goal_at labels k d) i) e here))

pub unlinked_there : (labels : List Placed) (place : ℕ) (drafts : List Drafted) (code : List Instr) (d : Drafted) (others : List Drafted) (f : AsmFault) → AreLinkedCode (goals_in labels place drafts) code
    → IsUnlinked (goal_at labels (place + length drafts) d) f → FirstUnlinked (goals_in labels place (drafts ++ (d ∷ others))) f
unlinked_there labels place [] [] d others f l here =
    let e : place + 0 ≡ place = omega arith in
    inl (subst (λ (k : ℕ). IsUnlinked (goal_at labels k d) f) e here)
unlinked_there labels place [] (j ∷ code) d others f l here = absurd l
unlinked_there labels place (x ∷ drafts) [] d others f l here = absurd l
unlinked_there labels place (x ∷ drafts) (j ∷ code) d others f l here =
    let e : place + suc (length drafts) ≡ (place + 1) + length drafts = omega arith in
    inr ((j, l.0), unlinked_there labels (place + 1) drafts code d others f l.1 (subst (λ (k : ℕ). IsUnlinked (goal_at labels k d) f) e here))

pub found_last : (goals : List Goal) (f : AsmFault) → FirstUnlinked goals f → f.found ≡ None
found_last [] f u = absurd u
found_last (goal ∷ goals) f (inl u) = u.4
found_last (goal ∷ goals) f (inr u) = found_last goals f u.1

unlinked_front : (goals others : List Goal) (f : AsmFault) → FirstUnlinked goals f → FirstUnlinked (goals ++ others) f
unlinked_front [] others f u = absurd u
unlinked_front (g ∷ goals) others f (inl u) = inl u
unlinked_front (g ∷ goals) others f (inr u) = inr (u.0, unlinked_front goals others f u.1)

unlinked_after : (goals others : List Goal) (code : List Instr) (f : AsmFault) → AreLinkedCode goals code → FirstUnlinked others f → FirstUnlinked (goals ++ others) f
unlinked_after [] others [] f l u = u
unlinked_after [] others (i ∷ code) f l u = absurd l
unlinked_after (g ∷ goals) others [] f l u = absurd l
unlinked_after (g ∷ goals) others (i ∷ code) f l u = inr ((i, l.0), unlinked_after goals others code f l.1 u)

pub procedures_more : (sections : List Section) (procedures : List Procedure) (section : Section) (procedure : Procedure) → AreLinkedProcedures sections procedures → IsLinkedProcedure section procedure
    → AreLinkedProcedures (sections ++ (section ∷ [])) (procedures ++ (procedure ∷ []))
procedures_more [] [] section procedure l here = (here, tt)
procedures_more [] (p ∷ ps) section procedure l here = absurd l
procedures_more (s ∷ ss) [] section procedure l here = absurd l
procedures_more (s ∷ ss) (p ∷ ps) section procedure l here = (l.0, procedures_more ss ps section procedure l.1 here)

pub section_unlinked : (sections : List Section) (procedures : List Procedure) (section : Section) (others : List Section) (f : AsmFault) → AreLinkedProcedures sections procedures
    → FirstUnlinked (section_goals section) f → FirstUnlinked (flat_map section_goals (sections ++ (section ∷ others))) f
section_unlinked [] [] section others f l u = unlinked_front (section_goals section) (flat_map section_goals others) f u
section_unlinked [] (p ∷ ps) section others f l u = absurd l
section_unlinked (s ∷ ss) [] section others f l u = absurd l
section_unlinked (s ∷ ss) (p ∷ ps) section others f l u =
    unlinked_after (section_goals s) (flat_map section_goals (ss ++ (section ∷ others))) p.code f l.0.code (section_unlinked ss ps section others f l.1 u)

-- the list is the items before the loop's position, its item, and the items after
pub turn_parts : {X : Type 0} (xs : List X) (n : ℕ) (x : X) → n < length xs → x ≡ get_or xs n x → xs ≡ take n xs ++ (x ∷ drop (suc n) xs)
turn_parts {X} xs n x low e = split_at xs n x low ∙ ap (λ (y : X). take n xs ++ (y ∷ drop (suc n) xs)) (sym e)

pub parts_of : {X : Type 0} (all front : List X) (x : X) → map (λ (y : X). y) front ≡ take (length front) all → length front < length all → x ≡ get_or all (length front) x → all ≡ front ++ (x ∷ drop (suc (length front)) all)
parts_of {X} all front x e low at = turn_parts all (length front) x low at ∙ ap (λ (f : List X). f ++ (x ∷ drop (suc (length front)) all)) (sym e ∙ map-id front)

pub seen_parts : {X Y : Type 0} (f : X → Y) (all front : List X) (x : X) (others : List X) → all ≡ front ++ (x ∷ others) → map f all ≡ map f front ++ (f x ∷ map f others)
seen_parts f all front x others e = ap (map f) e ∙ map-append f front (x ∷ others)

pub within_there : (front : List Section) (section : Section) (others : List Section) → AllByRecursion HasLabelsWithin (front ++ (section ∷ others)) → HasLabelsWithin section
within_there [] section others a = a.0
within_there (s ∷ front) section others a = within_there front section others a.1
