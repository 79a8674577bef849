pub mod Visibles
