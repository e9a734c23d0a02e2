-- The words of this crate, for those that use it.
pub use Rattle.method_linker.specs.Linked.{IsLinked, distance, entries_of, header_of, line_instr, line_jumps, method_part, pool_size}
unfoldable pub use Rattle.method_linker.specs.Linked.{layout_of, unit_code, unit_jumps}
pub use Rattle.method_linker.specs.Steps.{AddsLine, AddsLines, AddsUnit}
unfoldable pub use Rattle.method_linker.specs.Steps.{line_places}
