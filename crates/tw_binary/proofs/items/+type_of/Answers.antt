use Rattle.tw_binary.proofs.Names.{None, Some, ap, container_in, container_of, rules, sym, type_at, ◌-◌, ◌<◌, ◌∙◌, ◌≡◌}
use Rattle.tw_binary.proofs.Types.{begins_container, begins_leaf, fails_within, inside, made, too_deep}
use Rattle.tw_binary.proofs.items.+type_of.Goals as goal

pub returns-in_default-container_of-clause-reads : goal.returns-in_default-container_of-clause-reads
returns-in_default-container_of-clause-reads t c =
    let leaf : container_in c.args.version c.in-Some.code.now ≡ None = search rules in
    rw (begins_leaf _ c.args.room _ _ _ c.in-Some.ensures.cases.0 leaf) c.leaf_of.ensures.reads

pub returns-then-room-eq0-clause-reads : goal.returns-then-room-eq0-clause-reads
returns-then-room-eq0-clause-reads t c =
    let begins : container_in c.args.version c.in-Some.code.now ≡ Some c.in-Some-container_of.by = search rules in
    rw c.wrong.ensures (ap (λ room. type_at c.args.version room c.args.bytes.now) c.if-room-eq0.true ∙ too_deep _ _ _ _ _ c.in-Some.ensures.cases.0 begins)

pub returns-in-Ok-clause-reads : goal.returns-in-Ok-clause-reads
returns-in-Ok-clause-reads t c =
    let begins : container_in c.args.version c.in-Some.code.now ≡ Some c.in-Some-container_of.by = search rules in
    let some : 0 < c.args.room = search rules in
    let inner = made _ _ _ (sym c.container.ensures ∙ c.unwrap.ensures) in
    begins_container _ _ _ _ _ _ c.in-Some.ensures.cases.0 begins some ∙ rw (c.in-Ok.ensures.reads, sym inner) (inside _ _ _ _ _ (search rules) (search rules))

pub returns-in-Err-clause-reads : goal.returns-in-Err-clause-reads
returns-in-Err-clause-reads t c =
    let begins : container_in c.args.version c.in-Some.code.now ≡ Some c.in-Some-container_of.by = search rules in
    let some : 0 < c.args.room = search rules in
    rw (begins_container _ _ _ _ _ _ c.in-Some.ensures.cases.0 begins some)
    (fails_within c.in-Err.e (container_of c.in-Some-container_of.by) (type_at c.args.version (c.args.room - 1)) c.in-Some.rest.now c.in-Err.ensures.reads)
