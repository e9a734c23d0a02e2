-- The words of this crate, for those that use it.
pub use Rattle.micro_word.specs.Coding.{a_code, a_of, addr_bits, bus_code, codes, decoded_next, fetch_bit, idle, idle_code, is_code, jam_bits, mem_bits, mem_of, microword_of, named, op_of, operation_of_gates, operations, row, shift_bits, shift_of, source_code, source_of, sources}
unfoldable pub use Rattle.micro_word.specs.Coding.{statement_of}
pub use Rattle.micro_word.specs.ControlStore.{AreCanonical, AreDecoded, ControlStore, IsStore}
pub use Rattle.micro_word.specs.Destinations.{loads, register_bit}
pub use Rattle.micro_word.specs.Layout.{fields_of, word_with}
pub use Rattle.micro_word.specs.Lines.{AreLines, AreSlots, IsSlot, bytes_shown, bytes_taken, names, on_each_bit, place_on_bus}
pub use Rattle.micro_word.specs.Operation.{alu, shifted}
pub use Rattle.micro_word.specs.Words.{IsCanonical, SpellsWord, Valid, are_apart, are_canonical, decoded_as, fits_side, has_operation, is_byte, is_h, is_mixed, is_next, is_one_at_most, is_pair, is_part, is_row, is_side, is_side_a, is_target, is_valid, may_be_a, may_be_b, may_fetch, word_end}
unfoldable pub use Rattle.micro_word.specs.Words.{is_canonical}
