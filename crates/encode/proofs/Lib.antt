-- Laws of the encoder.
pub mod EncodeLaws
