-- The text that the command writes.
use Rattle.std.specs.Prelude.{ℕ, List, Option, Some, None}
use Rattle.tw_visible.specs.Visible.{visible}
use Rattle.tw_visible.specs.declared.characters.Kind.{Kind}

-- returns the text itself, or if hidden characters are replaced, what is printed of it
abbrev pub written : Option Kind → List ℕ → List ℕ
written None text = text
written (Some kind) text = visible kind text
