-- Disassembly of a program. What its listing has is only tested, except that it hides nothing.
use Rattle.std.specs.Prelude.{◌≡◌, ℕ, List}
use Rattle.tw_code.specs.format.Program.{Versioned}
use Rattle.tw_asm.specs.Disassembly.{disassembly}
use Rattle.tw_order.specs.declared.form.Places.{Places}
use Rattle.tw_order.specs.declared.form.Places.TheVariants.{Hidden, Shown}
use Rattle.tw_source.specs.Reply.{Reply}
use Rattle.tw_source.specs.declared.close.Close.TheVariants.{Success}
use Rattle.tw_visible.specs.Visible.{HidesNothing}

-- holds for the program's assembly text, unless its listing is requested
abbrev pub IsDisassembly : Places → Versioned → List ℕ → Type 0
IsDisassembly Hidden program text = text ≡ disassembly program
IsDisassembly Shown program text = HidesNothing text

-- holds for the reply with it
abbrev pub IsDisassembled : Places → Versioned → Reply → Type 0
IsDisassembled places program r = IsDisassembly places program r.text × (r.close ≡ Success)
