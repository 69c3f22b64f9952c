mod Searches
mod Tests
mod Serving
mod Rulings
mod Straight
mod OneReading
pub mod Promises
