use Rattle.std.proofs.Common.{◌∙◌, ℕ, List, string_bytes}
use Rattle.std.specs.Str.{bytes_eq}
use Rattle.tw_files.proofs.Words.{any_map}
use Rattle.tw_files.proofs.arguments.has_word.Goals as goal

pub returns : goal.returns
returns c = c.is_among.ensures ∙ any_map (λ (other : List ℕ). bytes_eq other c.args.word.now) string_bytes c.args.words.now
