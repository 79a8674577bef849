use Rattle.tw_asm.proofs.AsmNames.{Contains, Placed, ap, arith, inl, inr, is_some, map, refl, seen_label, subst, sym, ℕ, ◌+◌, ◌-◌, ◌≡◌, ◌≤◌}
use Rattle.tw_asm.proofs.Walk.{all_of}
use Rattle.tw_asm.proofs.LabelMaps.{label_found, name_absent}
use Rattle.tw_asm.proofs.link.skip_to.Goals as goal

pub overflow_cast-result : goal.overflow_cast-result
overflow_cast-result c =
    let found = label_found c.args.name.now c.args.labels.now.entries c.in-Some.at.now (sym c.in-Some.ensures.value) in
    let low : c.in-Some.at.now ≤ 4096 = all_of (λ (label : Placed). label.place ≤ 4096) (map seen_label c.args.labels.now.entries) (record { name = c.args.name.now; place = c.in-Some.at.now }) c.requires found in
    omega (arith, low)

pub returns-in-None : goal.returns-in-None
returns-in-None c = inl (refl, name_absent c.args.name.now c.args.labels.now.entries (ap is_some c.in-None.ensures.value))

pub returns-then-at-place : goal.returns-then-at-place
returns-then-at-place c =
    let found = label_found c.args.name.now c.args.labels.now.entries c.in-Some.at.now (sym c.in-Some.ensures.value) in
    let low : c.in-Some.at.now ≤ 4096 = all_of (λ (label : Placed). label.place ≤ 4096) (map seen_label c.args.labels.now.entries) (record { name = c.args.name.now; place = c.in-Some.at.now }) c.requires found in
    let there : c.in-Some.at.now ≡ c.args.place + 1 + (c.in-Some.at.now - c.args.place - 1) = omega arith in
    (subst (λ (k : ℕ). Contains (map seen_label c.args.labels.now.entries) (record { name = c.args.name.now; place = k })) there found, omega (arith, low))

pub returns-else-at-place : goal.returns-else-at-place
returns-else-at-place c =
    let found = label_found c.args.name.now c.args.labels.now.entries c.in-Some.at.now (sym c.in-Some.ensures.value) in
    inr (refl, (c.in-Some.at.now, found, omega arith))
