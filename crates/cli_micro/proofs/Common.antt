-- The words of other crates that these proofs use.
pub use Rattle.std.proofs.Common.{Bool, IsSome, IsTrue, List, None, Option, Some, [], ap, append-nil, append_assoc, arith, false, inl, inr, length, map, nat_lt}
pub use Rattle.std.proofs.Common.{refl, subst, sym, true, ℕ, ◌&&◌, ◌++◌, ◌+◌, ◌<◌, ◌^◌, ◌∙◌, ◌∷◌, ◌≡◌, ◌⊎◌}
pub use Rattle.std.proofs.lemmas.Bool.Decides.{nat_tests}
pub use Rattle.mic_words.specs.declared.machine.Machine.{Machine}
pub use Rattle.mic_words.specs.declared.machine.Machine.TheVariants.{Mic1, Mic2}
pub use Rattle.mal_parser.specs.Prelude.{IsRefused, MalView, is_memory, text_of}
pub use Rattle.mal_parser.specs.declared.error.MalError.{MalError}
pub use Rattle.store_placement.specs.Prelude.{Demands, IsChosenList, RefusesFile, demands_of, machine_of}
unfoldable pub use Rattle.store_placement.specs.Prelude.{below}
pub use Rattle.store_placement.specs.declared.refusal.PlaceError.{PlaceError}
pub use Rattle.store_placement.specs.declared.store_error.StoreError.{StoreError}
pub use Rattle.cli_outside.specs.Prelude.{IsRefusal, by_reason, refusal_by}
pub use Rattle.cli_outside.specs.declared.refusal.Refusal.{Refusal}
pub use Rattle.cli_micro.specs.Prelude.{IsUnprinted, NoPlacement, NoStore, NoText, OfStoreFile, OfText, counts_line, is_refusal, length_fixed, listing}
pub use Rattle.cli_micro.specs.Prelude.{mal_reason, names_inside, no_program, statement_line, store_line, store_reason, word_digits}
