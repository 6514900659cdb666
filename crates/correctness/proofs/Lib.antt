-- Laws behind the theorems of specs/.
pub mod SanityLaws
pub mod Bip379Laws
