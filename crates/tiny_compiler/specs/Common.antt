-- The words of other crates that this one uses.
pub use Rattle.mic_words.specs.declared.machine.Machine.{Machine}
pub use Rattle.console_port.specs.declared.map.TheConstants.MemoryMap.{STANDARD}
pub use Rattle.ijvm_image.specs.Prelude.{ImageView}
pub use Rattle.ijvm_meaning.specs.Prelude.{timing_of}
pub use Rattle.verifier_facts.specs.Prelude.{Accepts, IsAccepted, VerifiedView}
pub use Rattle.ijvm_text.specs.declared.text.Text.{Text}
pub use Rattle.tiny_tree.specs.Prelude.{Function, IsNamed, Program}
pub use Rattle.tiny_parser.specs.Prelude.{IsRefused, Spells, is_memory}
pub use Rattle.tiny_parser.specs.declared.error.TinyError.{TinyError}
pub use Rattle.tiny_parser.specs.declared.error.TinyError.TheVariants.{JumpTooFar, PoolTooLong, TextTooLong}
pub use Rattle.tiny_code.specs.Prelude.{IsCodeOf, IsCoded, IsLaidOut, layout_of, places_of}
pub use Rattle.tiny_emit.specs.Prelude.{program_of}
pub use Rattle.tiny_runs.specs.Prelude.{RunsAsMeant, runs_of}
