-- How definitions see what arguments name, and what files hold.
use Rattle.std.specs.Prelude.{map, string_bytes}
use Rattle.std.specs.Option.{option_map}
use Rattle.tw_files.specs.declared.naming.Naming.{Naming as Named}
use Rattle.tw_files.specs.declared.opening.Contents.{Contents as Read}
use Rattle.tw_files.specs.Input.{Contents}
use Rattle.tw_files.specs.Naming.{Naming, naming}

abbrev pub seen : Named → Naming
seen n = naming n.before.now (map string_bytes n.others.items) (option_map (λ word. word.now) n.program) (option_map (λ word. word.now) n.inputs) (option_map (λ word. word.now) n.events)

abbrev pub seen_contents : Read → Contents
seen_contents c = record { program = c.program.items; inputs = option_map (λ bytes. bytes.items) c.inputs; trace = option_map (λ bytes. bytes.items) c.trace; follows = c.trace_follows }
