use Rattle.std.proofs.Common.{◌≡◌, ◌+◌, ◌*◌}
use Rattle.tw_code.specs.machine.Bounds.{AreBelow, opening_bound}
use Rattle.tw_certificate.specs.Noted.{IsAfter}
use Rattle.tw_certificate.proofs.certificate.first_contest_from.Given as goal

abbrev pub invariant-loop-event : goal.invariant-loop-event
invariant-loop-event l = record {
  program : l.plain.program ≡ l.fn.plain.program;
  layout : l.plain.layout ≡ l.fn.plain.layout;
  noted : IsAfter l.fn.plain.program l.fn.plain.layout l.events l.event-index l.fn.plain.state l.plain.state l.copied;
  below : AreBelow (opening_bound + 1000000000 * l.event-index) l.plain.state;
}
