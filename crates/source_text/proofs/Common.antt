-- The words of other crates that these proofs use.
pub use Rattle.std.proofs.Common.{Bool, Err, List, None, Ok, Option, Result, Some, [], ap, append-nil, append_assoc, arith, cond, drop, false, inl, inr, is_ok}
pub use Rattle.std.proofs.Common.{length, length-append, length-drop, map, not, option_and_then, option_map, refl, rules, subst, suc, sym, take}
pub use Rattle.std.proofs.Common.{take-append-drop, true, zero, ℕ, ◌&&◌, ◌++◌, ◌+◌, ◌-◌, ◌<◌, ◌==◌, ◌∙◌, ◌∷◌, ◌≡◌, ◌≤◌, ◌⊎◌}
pub use Rattle.std.proofs.lemmas.Bool.Decides.{nat_tests}
pub use Rattle.std.proofs.lemmas.List.{length_push, take_rest}
pub use Rattle.std.proofs.lemmas.List.Sums.{fails_before_first}
pub use Rattle.std.specs.BTreeMap.{is_at}
pub use Rattle.std.specs.Cmp.Lexicographic.{slice_cmp, texts_ties}
pub use Rattle.std.specs.List.{list_all, prefix_len}
pub use Rattle.std.specs.Ordering.{nat_cmp}
pub use Rattle.std.specs.Str.{bytes_eq}
pub use Rattle.std.specs.Str.Lines.{lines, lines_of_parts, strip_carriage_return}
pub use Rattle.mic_base.specs.Prelude.{is_name_byte}
pub use Rattle.source_text.specs.Prelude.{Agrees, AreBlank, EndsLexeme, GoesOn, Grammar, IsLexeme, IsReadAsSpelled, IsRefused, IsRefusedAfter}
pub use Rattle.source_text.specs.Prelude.{Leads, Makes, MayEnd, Parser, SayAll, SaysLine, Spells, SpellsProgram, StopsAt, StopsBy, Table, add_read, add_said}
pub use Rattle.source_text.specs.Prelude.{before_more, begins_comment, contents, cut_at, extent, front_of, is_blank, is_pair, lex_blank, lex_token, parts}
pub use Rattle.source_text.specs.Prelude.{is_called, place_again, place_of, quote_len, reach, run_all, run_passes, run_stops, step, token_of, walk, without_comment}
unfoldable pub use Rattle.source_text.specs.Prelude.{lex}
pub use Rattle.source_text.specs.declared.table.Front.{Front}
