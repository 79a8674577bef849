use Rattle.std.proofs.Common.{ap, ◌∙◌, sym}
use Rattle.tw_types.specs.ValueOrder.{value_cmp}
use Rattle.tw_types.specs.Store.{Contains}
use Rattle.tw_datum.specs.Kept.{ids_of}
use Rattle.tw_types.proofs.Mapped.{empty_mapped}
use Rattle.tw_datum.proofs.Members.{container_empty}
use Rattle.tw_datum.proofs.datum.empty_content.Goals as goal

pub returns-else-is_map-clause-content : goal.returns-else-is_map-clause-content
returns-else-is_map-clause-content g c = let id = g.M.Member.id in ap (λ m. Contains (ids_of id m)) c.new-else-is_map.ensures ∙ ap Contains (empty_mapped {R = value_cmp} id) ∙ sym (container_empty c.args.ty (sym c.is_scalar.ensures ∙ c.if-is_scalar.false) (sym c.is_map.ensures ∙ c.if-is_map.false))
