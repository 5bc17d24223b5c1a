pub mod Leads
pub mod Candidates
pub mod StandIns
