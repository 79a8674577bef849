-- The content of a datum whose members are stored as ids.
use Rattle.std.specs.Prelude.{ℕ}
use Rattle.tw_types.specs.Store.{Content as Meaning, Unset, Set, Contains, Maps}
use Rattle.tw_datum.specs.declared.datum.Content.{Content}
use Rattle.tw_datum.specs.declared.datum.Content.TheVariants as content

abbrev pub content_of : Content ℕ → Meaning
content_of content.Unset = Unset
content_of (content.Set value) = Set value
content_of (content.Contains members) = Contains members
content_of (content.Maps values) = Maps values
