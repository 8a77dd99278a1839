-- The claims of demands 2 and 3, over what the operations give back.
pub mod Guarantees
pub mod Picks
pub mod Conversions
pub mod Pages
pub mod Scores
pub mod Enumerations
pub mod RoundTrips
pub mod Steinbach
pub mod Cancellations
pub mod Turns
pub mod Courses
