pub mod History
pub mod Words
pub mod Boards
pub mod Offers
pub mod Rule
pub mod Joins
