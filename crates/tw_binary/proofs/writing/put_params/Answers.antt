use Rattle.tw_binary.specs.Spelling.{param_items}
use Rattle.tw_binary.proofs.Joined.{wrote_item}
use Rattle.tw_binary.proofs.writing.put_params.Goals as goal

pub loop-param-preserved : goal.loop-param-preserved
loop-param-preserved c = wrote_item param_items c.args.params.now c.loop-param.param-index c.param-item.result _ _ _ c.loop-param-test.true c.param-item.is c.loop-param.invariant c.in_ok-put_param.ensures
