use Rattle.tw_pool_state.proofs.PartNames.{IsProper, subst, sym}
use Rattle.tw_pool_state.proofs.input_data.add_value.Goals as goal

pub try_to_value-requires : goal.try_to_value-requires
try_to_value-requires g c = subst IsProper (sym c.as_value.ensures.is) (c.as_value.ensures.proper c.requires.short)
