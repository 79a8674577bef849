-- Hashing of the names of a text.
use Rattle.std.specs.declared.hash.DefaultHasher.{DefaultHasher}
use Rattle.tw_lexer.specs.declared.hash.TextHash.{TextHash}

-- returns the hasher that has read the text
abbrev pub after_text : TextHash → DefaultHasher
after_text h = h.after_text
