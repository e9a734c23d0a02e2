-- The words of this crate, for those that use it.
pub use Rattle.ijvm_soak.specs.Generated.{block, block_at, blocks, main_code, main_text, method_code, method_text}
unfoldable pub use Rattle.ijvm_soak.specs.Generated.{generated}
