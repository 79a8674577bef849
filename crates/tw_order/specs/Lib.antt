-- Orders: the greatest cap, and orders whose runs are single-threaded.
pub mod Orders
