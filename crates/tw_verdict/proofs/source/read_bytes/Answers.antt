use Rattle.std.proofs.Common.{◌≡◌, ◌⊎◌, Err, ap, inl, inr, refl}
use Rattle.tw_binary.specs.declared.fault.Fault.{Fault}
use Rattle.tw_binary.specs.Reading.{out_of_memory, program_of}
use Rattle.tw_verdict.proofs.source.read_bytes.Goals as goal

pub returns-in_default-clause-none : goal.returns-in_default-clause-none
returns-in_default-clause-none c = λ other. (c.in-Err.fault, refl, by c.in-Err.ensures.exact)
  where
    by : (c.in-Err.fault ≡ out_of_memory) ⊎ (program_of c.args.bytes.now ≡ Err c.in-Err.fault) → program_of c.args.bytes.now ≡ Err c.in-Err.fault
    by (inl e) = absurd (c.in_default.not-NoMemory (ap (λ (f : Fault). f.no) e))
    by (inr e) = e
