-- The model of a verified program.
use Rattle.std.specs.Prelude.{List, [], get_or}
use Rattle.tw_code.specs.declared.procedure.Procedure.{Procedure}
use Rattle.tw_code.specs.declared.version.Version.{Version}
use Rattle.tw_code.specs.machine.Holders.{Typings}
use Rattle.tw_code.specs.machine.Rights.{Typing}

-- the version and the procedures of the accepted program, with the typings of each procedure, one for each place
pub record TypedProgram : Type 0 where
  pub version : Version
  pub program : List Procedure
  pub typings : List (List Typing)

-- returns the typings of a procedure, by its number
abbrev pub typings_of : TypedProgram → Typings
typings_of v procedure = get_or v.typings procedure []
