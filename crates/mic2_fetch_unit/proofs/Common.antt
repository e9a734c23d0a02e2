-- The words of other crates that these proofs use.
pub use Rattle.std.proofs.Common.{Bool, IfSome, List, None, Option, Some, [], add-zero, ap, ap₂, arith, bit_or, drop, false, get_or, get_or-drop, if◌then◌else◌}
pub use Rattle.std.proofs.Common.{inl, inr, is_some, length, length-append, length-drop, nat_le, nat_lt, pow-add, refl, slice_index, subst, suc, sym, true}
pub use Rattle.std.proofs.Common.{zero, ℕ, ◌%◌, ◌*◌, ◌++◌, ◌+◌, ◌-◌, ◌/◌, ◌<◌, ◌==◌, ◌^◌, ◌||◌, ◌∙◌, ◌∷◌, ◌≡◌, ◌≤◌}
pub use Rattle.std.proofs.lemmas.Bool.{cases_Bool, cases_lt}
pub use Rattle.std.proofs.lemmas.Bool.Decides.{nat_tests}
pub use Rattle.std.proofs.lemmas.List.{get_or-append_right, get_or_append_left}
pub use Rattle.std.proofs.lemmas.Nat.{and_mask, or_comm, or_shifted, shl_whole, shr_below}
pub use Rattle.std.specs.Option.{option_map}
pub use Rattle.mic_words.specs.Prelude.{next}
unfoldable pub use Rattle.mic_words.specs.Prelude.{wrap}
pub use Rattle.console_port.specs.Prelude.{byte_of}
unfoldable pub use Rattle.console_port.specs.Prelude.{byte_in, word_refusal}
pub use Rattle.mic2_fetch_unit.specs.Prelude.{AtLeast, Bounds, Held, HoldsSame, IsHeld, IsKept, IsUnit, IsWait, Jumped, Lack, One, Prefetch, StandsAt, Waits}
pub use Rattle.mic2_fetch_unit.specs.Prelude.{WaitsFirst, WaitsLate, WaitsOn, appended, at_start, bytes_from, bytes_of_word, held_after, held_waited, is_enough}
pub use Rattle.mic2_fetch_unit.specs.Prelude.{jump_refusal, sample_refusal, sampled_at, sampled_by, text_from, turned_word, with_pending, without}
unfoldable pub use Rattle.mic2_fetch_unit.specs.Prelude.{bytes_in, edge, edge_refusal, have_after, jump, unit_at}
