use Rattle.tw_copies.proofs.Names.{AllMet, Bool, IsFirst, IsMarkedInsertion, IsProgram, List, MatchOption, Nowhere, OnlyCopies, Procedure, subst, ◌∙◌}
use Rattle.tw_verify.specs.Typed.{typings_of}
use Rattle.tw_copies.proofs.Fitting.{answer, never_if}
use Rattle.tw_copies.proofs.check.first_copy_insertion.Goals as goal

pub returns-clause-first : goal.returns-clause-first
returns-clause-first c =
    let program = c.args.verified.now.program in
    let marks = c.in_ok-marks.marks.items in
    let same = c.procedures-program.ensures.is ∙ c.program.ensures.is in
    let proper = subst IsProgram c.program.ensures.is c.procedures-program.ensures.within in
    let met = subst (λ (ps : List Procedure). AllMet ps marks) same c.in_ok-marks.ensures.met in
    let only = subst (λ (ps : List Procedure). OnlyCopies ps marks) same c.in_ok-marks.ensures.only in
    let found = subst (λ (ps : List Procedure). MatchOption c.first_insertion.result (Nowhere (IsMarkedInsertion ps marks)) (λ at. IsFirst (IsMarkedInsertion ps marks) at.procedure at.place)) same
    (subst (λ (ms : List Bool). MatchOption c.first_insertion.result (Nowhere (IsMarkedInsertion c.procedures-program.result.now ms)) (λ at. IsFirst (IsMarkedInsertion c.procedures-program.result.now ms) at.procedure at.place)) c.deref.ensures.value c.first_insertion.ensures) in
    answer program proper marks met only c.first_insertion.result found

pub returns-clause-never : goal.returns-clause-never
returns-clause-never c none =
    let program = c.args.verified.now.program in
    let marks = c.in_ok-marks.marks.items in
    let same = c.procedures-program.ensures.is ∙ c.program.ensures.is in
    let proper = subst IsProgram c.program.ensures.is c.procedures-program.ensures.within in
    let met = subst (λ (ps : List Procedure). AllMet ps marks) same c.in_ok-marks.ensures.met in
    let found = subst (λ (ps : List Procedure). MatchOption c.first_insertion.result (Nowhere (IsMarkedInsertion ps marks)) (λ at. IsFirst (IsMarkedInsertion ps marks) at.procedure at.place)) same
    (subst (λ (ms : List Bool). MatchOption c.first_insertion.result (Nowhere (IsMarkedInsertion c.procedures-program.result.now ms)) (λ at. IsFirst (IsMarkedInsertion c.procedures-program.result.now ms) at.procedure at.place)) c.deref.ensures.value c.first_insertion.ensures) in
    never_if program (typings_of c.args.verified.now) proper c.program.ensures.right marks met c.first_insertion.result found none

pub returns-clause-same : goal.returns-clause-same
returns-clause-same c none =
    let program = c.args.verified.now.program in
    let marks = c.in_ok-marks.marks.items in
    let same = c.procedures-program.ensures.is ∙ c.program.ensures.is in
    let proper = subst IsProgram c.program.ensures.is c.procedures-program.ensures.within in
    let met = subst (λ (ps : List Procedure). AllMet ps marks) same c.in_ok-marks.ensures.met in
    let found = subst (λ (ps : List Procedure). MatchOption c.first_insertion.result (Nowhere (IsMarkedInsertion ps marks)) (λ at. IsFirst (IsMarkedInsertion ps marks) at.procedure at.place)) same
    (subst (λ (ms : List Bool). MatchOption c.first_insertion.result (Nowhere (IsMarkedInsertion c.procedures-program.result.now ms)) (λ at. IsFirst (IsMarkedInsertion c.procedures-program.result.now ms) at.procedure at.place)) c.deref.ensures.value c.first_insertion.ensures) in
    c.one_result_if_uncontested.ensures.deterministic (never_if program (typings_of c.args.verified.now) proper c.program.ensures.right marks met c.first_insertion.result found none)
