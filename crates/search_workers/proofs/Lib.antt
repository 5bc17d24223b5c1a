mod Agendas
mod Balanced
mod BroughtIn
mod Concluded
pub mod Crews
mod Disposed
pub mod Gone
mod Limits
pub mod Mustered
mod Ready
mod Recorded
mod Scouted
pub mod Settling
mod Shared
pub mod Standings
pub mod Told
pub mod Worked
