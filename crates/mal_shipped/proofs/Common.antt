-- The words of other crates that these proofs use.
pub use Rattle.std.proofs.Common.{All, Bool, Err, IfSome, IsSome, IsTrue, List, None, Ok, Option, Result, Some, [], add-zero, ap, arith, eqb-true, false, inl}
pub use Rattle.std.proofs.Common.{inr, is_some, length, ltb-true, map, nat_lt, not, option_map, refl, slice_get, slice_index, slice_index_or, subst, suc, sym}
pub use Rattle.std.proofs.Common.{take, take_all, true, zero, zero-add, ℕ, ◌&&◌, ◌++◌, ◌+◌, ◌<◌, ◌==◌, ◌∙◌, ◌∷◌, ◌≡◌, ◌≢◌, ◌≤◌, ◌⊎◌}
pub use Rattle.std.proofs.lemmas.Bool.{and_parts, eqb-false, not-true, or_right}
pub use Rattle.std.proofs.lemmas.List.{map-append, take_more}
pub use Rattle.std.proofs.lemmas.Option.{get_or_from_slice_get, slice_get_within}
pub use Rattle.std.proofs.lemmas.Slice.Eq.{bytes_eq-Decides}
pub use Rattle.std.specs.List.{list_all, list_any}
pub use Rattle.std.specs.Str.{bytes_eq}
pub use Rattle.mic_words.specs.declared.machine.Machine.{Machine}
pub use Rattle.mic_words.specs.declared.machine.Machine.TheVariants.{Mic1, Mic2}
pub use Rattle.mic_base.specs.Prelude.{is_name}
unfoldable pub use Rattle.mic_base.specs.Prelude.{hex_text}
pub use Rattle.micro_word.specs.Prelude.{is_part, is_valid, microword_of, statement_of}
pub use Rattle.micro_word.specs.declared.statement.Placed.{Placed}
pub use Rattle.mal_tokens.specs.Prelude.{IsLabelText, is_reserved}
pub use Rattle.mal_line.specs.declared.next.Next.{Next}
pub use Rattle.mal_parser.specs.Prelude.{HasTargets, IsMalProgram, IsStatement, MalView, SpellsProgram, canonical_text, label_at, on_line, on_lines, relined}
pub use Rattle.mal_parser.specs.declared.error.MalError.{MalError}
pub use Rattle.mal_parser.specs.declared.error.MalError.TheVariants.{OutOfMemory}
pub use Rattle.mal_parser.specs.declared.statement.Statement.{Statement}
pub use Rattle.store_placement.specs.Prelude.{AreFixedInside, AreWithin, Decodes, Demands, HasPlacement, IsChosenList, IsFilled, IsListed, IsOfStatements}
pub use Rattle.store_placement.specs.Prelude.{placed_default, placed_statement}
unfoldable pub use Rattle.store_placement.specs.Prelude.{demands_of}
pub use Rattle.store_placement.specs.declared.pair.Pair.{Pair}
pub use Rattle.mal_shipped.specs.Prelude.{HasShipped, ListingRow, addresses1, addresses2, addresses_of, listed_program, text_of, unlined, without_line}
unfoldable pub use Rattle.mal_shipped.specs.Prelude.{program1, program2, rows1, rows2, shipped}
pub use Rattle.mal_shipped.specs.declared.loaded.Loaded.{Loaded}
pub use Rattle.mal_shipped.specs.declared.mic2.TheConstants.{MIC2}
