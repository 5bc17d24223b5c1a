pub mod Places
pub mod MoveCases
pub mod Beginnings
pub mod NewNames
pub mod GivenLooks
pub mod Carried
pub mod WorkedByHand
pub mod MoveLists
