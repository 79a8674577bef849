-- The exit status of the command.
use Rattle.std.specs.Prelude.{ℕ}
use Rattle.tw_main.specs.declared.exit.Exit.{Exit}
use Rattle.tw_main.specs.declared.exit.Exit.TheVariants.{Session, Unread, Abandoned}
use Rattle.tw_session.specs.Status.{code_of}

-- returns the exit status: that of the session; 66 if a file can't be read; 141, as after SIGPIPE, if nobody reads the output any more
abbrev pub code_of_exit : Exit → ℕ
code_of_exit (Session status) = code_of status
code_of_exit Unread = 66
code_of_exit Abandoned = 141
