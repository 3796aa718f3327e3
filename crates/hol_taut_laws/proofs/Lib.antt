pub mod LawLemmas
mod Copies
