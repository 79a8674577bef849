use Rattle.std.proofs.Common.{◌≡◌, [], None, map, string_bytes, take}
use Rattle.tw_files.specs.Naming.{after_words, naming}
use Rattle.tw_files.specs.Seen.{seen}
use Rattle.tw_files.proofs.naming.naming_of.Given as goal

-- this many arguments are read
abbrev pub invariant-loop-word : goal.invariant-loop-word
invariant-loop-word l = seen l.named ≡ after_words (naming [] [] None None None) (map string_bytes (take l.word-index l.words))
