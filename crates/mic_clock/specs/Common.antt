-- The words of other crates that this one uses.
pub use Rattle.std.proofs.Math.ListN.{take-append-drop}
pub use Rattle.std.specs.Fn.{iterate}
pub use Rattle.std.specs.List.{flat_map}
pub use Rattle.mic_words.specs.declared.machine.Machine.{Machine}
pub use Rattle.mic_base.specs.Prelude.{IsFlushed, Rose, hex_text}
pub use Rattle.micro_word.specs.Prelude.{AreLines, ControlStore, IsCanonical, fields_of, is_canonical}
pub use Rattle.micro_word.specs.declared.lines.Lines.{Lines}
pub use Rattle.console_port.specs.Prelude.{BusView, ChangesOnly, Given, HasFaultCause, IsFault, IsLed, IsLost, KeepsMemoryAndInput, LosesLast, Refusal, Shows}
pub use Rattle.console_port.specs.Prelude.{SinkGoesOn, SourceGoesOn, Stands, Untaken, World, fault_of, most_kept}
pub use Rattle.console_port.specs.declared.fault.BusFault.{BusFault}
pub use Rattle.console_port.specs.declared.fault.BusFault.TheVariants.{ReadFault, WriteFault}
