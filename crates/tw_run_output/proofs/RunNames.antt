-- Imports for the proofs here: runs, their events and their reports.
pub use Rattle.std.proofs.lemmas.Result.{on_ok_weaker}
pub use Rattle.tw_code.specs.declared.procedure.Procedure.{Procedure}
pub use Rattle.tw_code.specs.format.Program.{IsProgram}
pub use Rattle.tw_code.specs.machine.Machine.{run}
pub use Rattle.tw_code.specs.machine.Opening.{reached}
pub use Rattle.tw_code.specs.machine.Pending.{circle}
pub use Rattle.tw_code.specs.machine.State.{State}
pub use Rattle.tw_machine.specs.Opening.{rejection_of}
pub use Rattle.tw_machine.specs.PlainView.{PlainView}
pub use Rattle.tw_replay_output.specs.Counted.{AreShort}
pub use Rattle.tw_source.specs.Source.{text_of}
pub use Rattle.tw_run_output.specs.Run.{begins, start_of}
pub use Rattle.tw_types.specs.Outcome.{Went}
pub use Rattle.tw_types.specs.declared.event.Event.{Event}
pub use Rattle.tw_verify.specs.Typed.{typings_of}
