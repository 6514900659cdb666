-- The correctness types. Definitions: the reasons of a refusal, the rules of correctness.rs, its sanity checks, BIP 379's type table. Theorems: the files named Laws.
pub mod Reasons
pub mod Typed
pub mod Rules
pub mod Sanity
pub mod Bip379
pub mod AndVLaws
pub mod ShorthandLaws
pub mod SubtypeLaws
