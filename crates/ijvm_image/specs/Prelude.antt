-- The words of this crate, for those that use it.
pub use Rattle.ijvm_image.specs.Header.{header}
pub use Rattle.ijvm_image.specs.Image.{ImageView, IsImage, IsWithinLimits, method_at}
unfoldable pub use Rattle.ijvm_image.specs.Image.{others, params}
pub use Rattle.ijvm_image.specs.ImageFile.{IsFileOf, IsRefused, block_end, block_of, block_rows, file_of, first_refusal, is_origin, is_size, magic, pool_origin, refusals, text_first, text_origin, word_at, word_bytes}
pub use Rattle.ijvm_image.specs.Reading.{and_then, block_at, block_from, ended, field, image_of, image_read, joined, words_at}
