use Rattle.tw_handles.proofs.Names.{NoMemory, ap, finished_in, inl, inr, refl}
use Rattle.tw_handles.proofs.Certified.{of_run}
use Rattle.tw_handles.proofs.running.run_on.Goals as goal

pub certify_if-requires : goal.certify_if-requires
certify_if-requires g c =
    let left = c.in-Ok.ensures.left in
    of_run c.args.verified.now c.args.inputs.now c.args.layout c.args.order.limit c.in-Ok.ensures.allowed c.args.order.seed left.0 c.in-Ok.left left.2

pub returns-in_default : goal.returns-in_default
returns-in_default g c = inr (NoMemory, c.in-Ok.ensures.allowed, (refl, refl))

pub returns-in-Ok-of_held : goal.returns-in-Ok-of_held
returns-in-Ok-of_held g c =
    let left = c.in-Ok.ensures.left in
    inl (record { left = c.in-Ok.left; certificate = c.in-Ok-certify_if.certificate; partial = c.args.order.partial }, left.0, left.1, ap finished_in c.in-Ok-of_held.ensures, c.in-Ok.ensures.allowed, left.2, c.in-Ok-certify_if.ensures, refl, refl)

pub returns-in-Err-of_held : goal.returns-in-Err-of_held
returns-in-Err-of_held g c = inr (NoMemory, c.in-Ok.ensures.allowed, (refl, refl))
