-- A leaf's key or hash as a part of the script.
pub mod LeafPart
pub mod LeafPartTheorems
pub mod DataLengths
