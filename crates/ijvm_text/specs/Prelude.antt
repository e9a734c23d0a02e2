-- The words of this crate, for those that use it.
pub use Rattle.ijvm_text.specs.Adding.{empty_text, joined, jump_added, no_code, none, one, then}
pub use Rattle.ijvm_text.specs.Adds.{Adds, AddsCode, AddsJump, IsCode, IsText, Puts}
unfoldable pub use Rattle.ijvm_text.specs.Bytes.{code_bytes}
pub use Rattle.ijvm_text.specs.Layout.{ExceedsJump, ExceedsPool, ExceedsText, IsImageOf, Layout, Part, begins, bytes_of, jumps_in, jumps_of, pool_of, text_of}
pub use Rattle.ijvm_text.specs.Parts.{AddsPart, AddsParts, AreUnits, length-begins, no_parts, part_then, whole}
