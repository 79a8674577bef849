-- The definition that a reader has to trust for tw_rules is Table: the model of the table of rules. The rest is in tw_types: Rule.
-- The other files are for private clauses and the invariant.
pub mod Numbers
pub mod Table
pub mod Entries
pub mod Indexed
pub mod Agendas
