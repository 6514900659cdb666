-- How often the desk may still read.
pub mod Reads
