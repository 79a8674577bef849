-- The output of a session, and its end. For `session` and `reply_to` a reader has to trust all files except the last one, and those of
-- tw_program_output, tw_replay_output and tw_run_output. The files of tw_cli define the arguments, and those of tw_report the texts. Begin with
-- Session; the parts of what is read are in Parts, runs in Run, statuses in Status.
pub mod Status
pub mod Run
pub mod Json
pub mod Parts
pub mod Session
pub mod Each
pub mod Clockless
-- The definitions for private clauses: what the code keeps before a program is run, and its run.
pub mod ProgramAction
-- Names of other crates that several files here use.
pub mod Names
