-- The words of this crate, for those that use it.
pub use Rattle.mic_words.specs.Arithmetic.{before, complement, is_negative, minus, negation, next, plus}
unfoldable pub use Rattle.mic_words.specs.Arithmetic.{half, signed_byte, signed_pair, wrap}
