-- The words of other crates that this one uses.
pub use Rattle.std.proofs.lemmas.List.{length-map}
pub use Rattle.std.specs.Fmt.{decimal}
pub use Rattle.mic_words.specs.declared.machine.Machine.{Machine}
pub use Rattle.mic_words.specs.declared.machine.Machine.TheVariants.{Mic1, Mic2}
pub use Rattle.mic_base.specs.Prelude.{hex_text}
pub use Rattle.micro_word.specs.Prelude.{ControlStore, IsStore, statement_of}
pub use Rattle.mal_parser.specs.Prelude.{IsRefused, MalView, SpellsProgram, canonical_text, is_memory, placed_text, statement_text, text_of}
pub use Rattle.mal_parser.specs.declared.error.MalError.{MalError}
pub use Rattle.mal_parser.specs.declared.statement.Statement.{Statement}
pub use Rattle.store_placement.specs.Prelude.{IsChosenList, IsFilled, Places, RefusesFile, below, fixed_count, machine_of, pair_count, store_file}
unfoldable pub use Rattle.store_placement.specs.Prelude.{demands_of}
pub use Rattle.store_placement.specs.declared.refusal.PlaceError.{PlaceError}
pub use Rattle.store_placement.specs.declared.store_error.StoreError.{StoreError}
pub use Rattle.mal_shipped.specs.Prelude.{listed_program}
pub use Rattle.cli_outside.specs.Prelude.{Ends, IsRefusal, OutsideView, Over, PrintsOnOut, WritesThenPrints, by_reason, of_file, of_line, refusal_by}
pub use Rattle.cli_outside.specs.declared.refusal.Refusal.{Refusal}
