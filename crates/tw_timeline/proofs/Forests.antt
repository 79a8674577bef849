-- The texts of forests that are put together.
use Rattle.std.proofs.Common.{Global, Vec, ◌≡◌, ℕ, false, List, [], ◌∷◌, ◌++◌, codes, refl, sym, ap, subst, ◌∙◌, append_assoc}
use Rattle.std.proofs.Math.Logic.{∥∥₁_map, ∥∥₁_map₂}
use Rattle.std.proofs.lemmas.List.{append-nil}
use Rattle.std.specs.List.{flat_map}
use Rattle.tw_timeline.specs.declared.page.Attribute.{Attribute}
use Rattle.tw_timeline.specs.Page.{HoldsXml}
use Rattle.tw_timeline.specs.Xml.{Forest, Nothing, Words, Element, IsXml, close_text, escaped, open_text, xml_text}
use Rattle.tw_writer.proofs.Pieces.{both_added}
use Rattle.tw_writer.specs.Appended.{IsAppended}
use Rattle.tw_writer.specs.declared.writer.Writer.{Writer}

-- returns one forest after the other
joined : Forest → Forest → Forest
joined Nothing following = following
joined (Words words rest) following = Words words (joined rest following)
joined (Element name attributes inside rest) following = Element name attributes inside (joined rest following)

joined_text : (first following : Forest) → xml_text (joined first following) ≡ xml_text first ++ xml_text following
unfolding xml_text joined
joined_text Nothing following = refl
joined_text (Words words rest) following =
    ap (λ (t : List ℕ). flat_map escaped words ++ t) (joined_text rest following) ∙ sym (append_assoc (flat_map escaped words) (xml_text rest) (xml_text following))
joined_text (Element name attributes inside rest) following =
    ap (λ (t : List ℕ). open_text name attributes ++ (xml_text inside ++ (close_text name ++ t))) (joined_text rest following)
    ∙ ap (λ (t : List ℕ). open_text name attributes ++ (xml_text inside ++ t)) (sym (append_assoc (close_text name) (xml_text rest) (xml_text following)))
    ∙ ap (λ (t : List ℕ). open_text name attributes ++ t) (sym (append_assoc (xml_text inside) (close_text name ++ xml_text rest) (xml_text following)))
    ∙ sym (append_assoc (open_text name attributes) (xml_text inside ++ (close_text name ++ xml_text rest)) (xml_text following))

-- ---- what functions append

pub empty_xml : IsXml []
unfolding xml_text
empty_xml = ∣ (Nothing, refl) ∣₁

pub element_text : (name : List ℕ) (attributes : List Attribute) (inside : Forest) → open_text name attributes ++ (xml_text inside ++ close_text name) ≡ xml_text (Element name attributes inside Nothing)
unfolding xml_text
element_text name attributes inside = ap (λ (t : List ℕ). open_text name attributes ++ (xml_text inside ++ t)) (sym (append-nil (close_text name)))

pub words_text : (name : List ℕ) (attributes : List Attribute) (words : List ℕ)
    → open_text name attributes ++ (flat_map escaped words ++ close_text name) ≡ xml_text (Element name attributes (Words words Nothing) Nothing)
unfolding xml_text
words_text name attributes words =
    ap (λ (t : List ℕ). open_text name attributes ++ (t ++ close_text name)) (sym (append-nil (flat_map escaped words))) ∙ element_text name attributes (Words words Nothing)

more : (text : List ℕ) (f : Forest) → IsXml text → IsXml (text ++ xml_text f)
more text f is = ∥∥₁_map is (λ g. (joined g.0 f, ap (λ (t : List ℕ). t ++ xml_text f) g.1 ∙ sym (joined_text g.0 f)))

-- a writer that held XML holds XML after an element was appended
pub appended : (a b : Writer) (f : Forest) → HoldsXml a → IsAppended a b (xml_text f) → HoldsXml b
appended a b f before added fine = subst IsXml (sym (added.added fine)) (more a.bytes.items f (before (added.fine fine)))

-- ---- pages within others

within : (name : List ℕ) (attributes : List Attribute) (text : List ℕ) → IsXml text → IsXml (open_text name attributes ++ (text ++ close_text name))
within name attributes text is =
    ∥∥₁_map is (λ g. (Element name attributes g.0 Nothing, ap (λ (t : List ℕ). open_text name attributes ++ (t ++ close_text name)) g.1 ∙ element_text name attributes g.0))

-- ---- what pages hold

abbrev words_shape : List ℕ → List Attribute → List ℕ → Forest
words_shape name attributes words = Element name attributes (Words words Nothing) Nothing

-- a page that held XML holds XML after an element with words was added
pub words_added : (a b : Writer) (name : List ℕ) (attributes : List Attribute) (words : List ℕ) → HoldsXml a
    → IsAppended a b (open_text name attributes ++ (flat_map escaped words ++ close_text name)) → HoldsXml b
words_added a b name attributes words before added = appended a b (words_shape name attributes words) before (subst (λ (t : List ℕ). IsAppended a b t) (words_text name attributes words) added)

-- likewise after an element with a title was added
pub titled_added : (a b : Writer) (name : List ℕ) (attributes : List Attribute) (title : List ℕ) → HoldsXml a
    → IsAppended a b (open_text name attributes ++ ((open_text (codes "title") [] ++ (flat_map escaped title ++ close_text (codes "title"))) ++ close_text name)) → HoldsXml b
titled_added a b name attributes title before added =
    let inside = words_shape (codes "title") [] title in
    appended a b (Element name attributes inside Nothing) before
    (subst (λ (t : List ℕ). IsAppended a b t)
    (ap (λ (t : List ℕ). open_text name attributes ++ (t ++ close_text name)) (words_text (codes "title") [] title) ∙ element_text name attributes inside) added)

-- an element that holds all of a page is XML
pub within_holds : (a b : Writer) (name : List ℕ) (attributes : List Attribute) (text : List ℕ) → a.bytes.items ≡ [] → IsXml text
    → IsAppended a b (open_text name attributes ++ (text ++ close_text name)) → HoldsXml b
within_holds a b name attributes text none is added fine =
    subst IsXml (sym (added.added fine ∙ ap (λ (t : List ℕ). t ++ (open_text name attributes ++ (text ++ close_text name))) none)) (within name attributes text is)

-- a page that held XML holds XML after another page was added
pub page_added : (a b : Writer) (text : List ℕ) → HoldsXml a → IsXml text → IsAppended a b text → HoldsXml b
page_added a b text before is added fine =
    subst IsXml (sym (added.added fine)) (∥∥₁_map₂ (before (added.fine fine)) is (λ f g. (joined f.0 g.0, ap (λ (t : List ℕ). t ++ text) f.1 ∙ ap (λ (t : List ℕ). xml_text f.0 ++ t) g.1 ∙ sym (joined_text f.0 g.0))))

-- a page whose bytes are as before, and that is short if it was short, holds XML as before
pub same_held : (a b : Writer) → HoldsXml a → b.bytes ≡ a.bytes → (b.is_short ≡ false → a.is_short ≡ false) → HoldsXml b
same_held a b before same fine is = subst (λ (v : Vec ℕ Global). IsXml v.items) (sym same) (before (fine is))

pub empty_held : (w : Writer) → w.bytes.items ≡ [] → HoldsXml w
empty_held w none fine = subst IsXml (sym none) empty_xml

-- three pieces, one after the other
pub three_added : (a b c d : Writer) (x y z : List ℕ) → IsAppended a b x → IsAppended b c y → IsAppended c d z → IsAppended a d (x ++ (y ++ z))
three_added a b c d x y z first second third = both_added a b d x (y ++ z) first (both_added b c d y z second third)

-- likewise where what is inside, or the other page, is XML only if no piece of it is missing, which is noted last
module _ (a b c inside : Writer) (same : c.bytes ≡ b.bytes) (before : c.is_short ≡ false → b.is_short ≡ false) (other : c.is_short ≡ false → inside.is_short ≡ false) where
  held_last : (b.is_short ≡ false → inside.is_short ≡ false → IsXml b.bytes.items) → HoldsXml c
  held_last holds fine = subst (λ (v : Vec ℕ Global). IsXml v.items) (sym same) (holds (before fine) (other fine))

  pub page_noted : HoldsXml a → HoldsXml inside → IsAppended a b inside.bytes.items → HoldsXml c
  page_noted held is added = held_last (λ fine whole. page_added a b inside.bytes.items held (is whole) added fine)

pub within_noted : (a b c inside : Writer) (name : List ℕ) (attributes : List Attribute) → a.bytes.items ≡ [] → HoldsXml inside
    → IsAppended a b (open_text name attributes ++ (inside.bytes.items ++ close_text name)) → c.bytes ≡ b.bytes → (c.is_short ≡ false → b.is_short ≡ false) → (c.is_short ≡ false → inside.is_short ≡ false) → HoldsXml c
within_noted a b c inside name attributes none is added same before other = held_last a b c inside same before other (λ fine whole. within_holds a b name attributes inside.bytes.items none (is whole) added fine)
