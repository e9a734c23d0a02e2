-- The words of other crates that these proofs use.
pub use Rattle.std.proofs.Common.{Bool, Err, IfOk, IsErr, IsUtf8, List, None, Ok, Option, Result, Some, String, Vec, [], add-one, arith, cond}
pub use Rattle.std.proofs.Common.{false, inl, inr, le-ltb, length, length-append, lt-ltb, map, min, nat_le, ne_eqb, not, option_map, pos, refl, rules}
pub use Rattle.std.proofs.Common.{slice_index, string_bytes, subst, suc, sym, take, true, zero, ℕ, ◌%◌, ◌&&◌, ◌*◌, ◌++◌, ◌+◌, ◌-◌, ◌/◌, ◌<◌, ◌^◌, ◌∙◌}
pub use Rattle.std.proofs.Common.{◌∷◌, ◌≡◌, ◌≢◌, ◌≤◌}
pub use Rattle.std.proofs.Math.Nat.{mul-le-mul_left, pow-suc, pow-zero}
pub use Rattle.std.proofs.lemmas.List.{take_more}
pub use Rattle.std.proofs.lemmas.List.Folds.{list_all-append}
pub use Rattle.std.proofs.lemmas.Map.Text.{text_keys}
pub use Rattle.std.proofs.lemmas.Str.{IsUtf8-from_ascii, digit_value-digit_char}
pub use Rattle.std.specs.BTreeMap.{get_by_text}
pub use Rattle.std.specs.Char.{digit_char, digit_value, is_digit}
pub use Rattle.std.specs.Cmp.Lexicographic.{slice_cmp}
pub use Rattle.std.specs.FinMap.{find}
pub use Rattle.std.specs.List.{list_all, position, position_or_len, prefix_len}
pub use Rattle.std.specs.Map.{lookup}
pub use Rattle.std.specs.Ordering.{is_eq, nat_cmp}
pub use Rattle.std.specs.Result.{IsOk, MatchResult}
pub use Rattle.std.specs.Str.{IsAscii}
pub use Rattle.std.specs.declared.alloc.Global.{Global}
pub use Rattle.mic_base.specs.Prelude.{ReadsNext, begins_digit, file_in, files_contents, is_name, is_name_byte, quoted, value_of}
unfoldable pub use Rattle.mic_base.specs.Prelude.{hex_text, number_of}
pub use Rattle.mic_base.specs.declared.memory.files.MemFiles.{MemFiles}
