pub mod Branched
