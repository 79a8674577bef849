-- The end of a session whose program is run on lines that are read apart from it.
use Rattle.std.specs.Prelude.{◌≡◌, ◌⊎◌}
use Rattle.tw_session.specs.Names.{ℕ, List, Option, Ok, Err, ⊤, codes, Appends, Keeps, Order, Source, reply}
use Rattle.tw_order.specs.declared.runs.EachOrder.{EachOrder}
use Rattle.tw_order.specs.declared.order.Order.TheVariants.{Each}
use Rattle.tw_each.specs.Worst.{close_of}
use Rattle.tw_each.specs.declared.worst.WorstEnd.{WorstEnd}
use Rattle.tw_each.specs.Stream.{BreaksFirst, IsRejection, RunsOnLines}
use Rattle.tw_each.specs.declared.stream.StreamError.TheVariants as stream
use Rattle.tw_session.specs.Session.{MayReply}
use Rattle.tw_session.specs.Status.{EndsWithReply}
use Rattle.tw_session.specs.declared.status.Status.{Status}
use Rattle.tw_session.specs.declared.status.Status.TheVariants.{Ended, NoMemory, ReadFailed, WriteFailed}

-- holds for the status, and for what was in the reader and the writer before and after: all lines are answered, or the program is rejected; or an
-- allocation or a read failed, after the answers to the first lines. After a failed write nothing is required.
abbrev pub EndsEach : Source → EachOrder → List ℕ → Option (List ℕ) → Option (List ℕ) → Option (List ℕ) → Option (List ℕ) → Status → Type 0
EndsEach source order input from left old new (Ended close) =
    ((worst : WorstEnd) × (close ≡ close_of worst) × RunsOnLines source order input from left old new (Ok worst))
    ⊎ ((text : List ℕ) × IsRejection source order input (reply text close) × Keeps from left × Appends old new text)
EndsEach source order input from left old new NoMemory =
    (mid : Option (List ℕ)) × (RunsOnLines source order input from left old mid (Err stream.NoMemory) ⊎ BreaksFirst from left old mid stream.NoMemory) × Appends mid new (codes "memory\n")
EndsEach source order input from left old new ReadFailed = RunsOnLines source order input from left old new (Err stream.Read)
EndsEach source order input from left old new WriteFailed = ⊤

-- holds for the end of a session whose lines are read apart; for another order than that of `--each` only the program is read
abbrev pub EndsEachSession : Order → List ℕ → Option (List ℕ) → Option (List ℕ) → Option (List ℕ) → Option (List ℕ) → Status → Type 0
EndsEachSession order input from left old new status =
    ((source : Source) × (each : EachOrder) × (order ≡ Each source each) × EndsEach source each input from left old new status)
    ⊎ EndsWithReply (MayReply order input) status old new
