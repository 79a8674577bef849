use Rattle.tw_instr.proofs.on_data.data_instr.Goals as goal

pub returns-in_ok-look-in-Look-clause-does : goal.returns-in_ok-look-in-Look-clause-does
returns-in_ok-look-in-Look-clause-does c = rw c.in-Look.is (c.in_ok-look-in-Look.ensures c.args.notices.now)

pub returns-in_ok-size-in-Size-clause-does : goal.returns-in_ok-size-in-Size-clause-does
returns-in_ok-size-in-Size-clause-does c = rw c.in-Size.is (c.in_ok-size-in-Size.ensures c.args.notices.now)

pub returns-in_ok-copy_read-in-CopyRead-clause-does : goal.returns-in_ok-copy_read-in-CopyRead-clause-does
returns-in_ok-copy_read-in-CopyRead-clause-does c = rw c.in-CopyRead.is (c.in_ok-copy_read-in-CopyRead.ensures c.args.notices.now)

pub returns-in_ok-copy_write-in-CopyWrite-clause-does : goal.returns-in_ok-copy_write-in-CopyWrite-clause-does
returns-in_ok-copy_write-in-CopyWrite-clause-does c = rw c.in-CopyWrite.is (c.in_ok-copy_write-in-CopyWrite.ensures c.args.notices.now)

pub returns-in_ok-drop_read-in-DropRead-clause-does : goal.returns-in_ok-drop_read-in-DropRead-clause-does
returns-in_ok-drop_read-in-DropRead-clause-does c = rw c.in-DropRead.is (c.in_ok-drop_read-in-DropRead.ensures c.args.notices.now)
