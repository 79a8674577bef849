-- A flag may be sent to another thread.
use denote.Param.Send.{IsSend, sendable}
use Rattle.std.proofs.Crossing.{crosses}
use Rattle.logbook.proofs.tokens.Seen.TheSendSync as OfSeen
use Rattle.logbook.proofs.word.Word.TheSendSync as OfWord
use Rattle.tw_flags.specs.contracts.flag.StopFlag.{the_field}

pub flag_send : IsSend (the_field).row
flag_send = search (OfSeen.the_send, OfWord.the_send, OfWord.the_sync, crosses, sendable) depth 60 fits 20000
