-- Where the desk stops.
pub mod Stops
