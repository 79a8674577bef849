use Rattle.std.proofs.Common.{refl}
use Rattle.tw_code.specs.declared.instr.Instr.TheVariants.{Data as DATA, Put as PUT, Rule as RULE}
use Rattle.tw_machine.proofs.Calls.{calls_come}
use Rattle.tw_machine.proofs.events.calls.call_of.Goals as goal

pub returns-in-Data-clause-comes : goal.returns-in-Data-clause-comes
returns-in-Data-clause-comes c = calls_come c.args.program.now c.args.actor c.in_ok-procedure.procedure.now (DATA c.in-Data.on_data) c.args.tables.now c.args.frame.now
    c.procedure.result c.place.result c.as_slice.result.now _ c.procedure.ensures c.in_ok-procedure.ensures c.as_slice.ensures c.place.ensures c.in_ok-on_data.ensures.gives c.in-Data.is
    c.do_data.result c.do_data.new.tables c.do_data.new.frame (c.do_data.ensures.comes c.args.program.now c.args.actor c.in_ok-procedure.procedure.now)

pub returns-in-Rule-clause-comes : goal.returns-in-Rule-clause-comes
returns-in-Rule-clause-comes c = calls_come c.args.program.now c.args.actor c.in_ok-procedure.procedure.now (RULE c.in-Rule.action) c.args.tables.now c.args.frame.now
    c.procedure.result c.place.result c.as_slice.result.now _ c.procedure.ensures c.in_ok-procedure.ensures c.as_slice.ensures c.place.ensures c.in_ok-on_data.ensures.gives c.in-Rule.is
    c.make_rule.result c.make_rule.new.tables c.make_rule.new.frame (c.make_rule.ensures c.in_ok-procedure.procedure.now refl)

pub returns-in-Put-clause-comes : goal.returns-in-Put-clause-comes
returns-in-Put-clause-comes c = calls_come c.args.program.now c.args.actor c.in_ok-procedure.procedure.now (PUT c.in-Put.action) c.args.tables.now c.args.frame.now
    c.procedure.result c.place.result c.as_slice.result.now _ c.procedure.ensures c.in_ok-procedure.ensures c.as_slice.ensures c.place.ensures c.in_ok-on_data.ensures.gives c.in-Put.is
    c.put_task.result c.put_task.new.tables c.put_task.new.frame (c.put_task.ensures c.in_ok-procedure.procedure.now refl)
