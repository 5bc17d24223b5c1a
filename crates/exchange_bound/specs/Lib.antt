pub mod Leads
pub mod Exchanges
pub mod StandIns
