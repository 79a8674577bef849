-- The first head of a text; what is printed of errors is only tested.
pub mod FirstHead
