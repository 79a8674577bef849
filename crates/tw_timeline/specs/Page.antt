-- A writer that holds XML.
use Rattle.std.specs.Prelude.{◌≡◌, false}
use Rattle.tw_writer.specs.declared.writer.Writer.{Writer}
use Rattle.tw_timeline.specs.Xml.{IsXml}

-- holds for a writer whose bytes are XML, if no piece is missing
abbrev pub HoldsXml : Writer → Type 0
HoldsXml w = w.is_short ≡ false → IsXml w.bytes.items
