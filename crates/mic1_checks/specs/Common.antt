-- The words of other crates that this one uses.
pub use Rattle.std.specs.List.{All, Contains}
pub use Rattle.mic_words.specs.Prelude.{plus, signed_byte, wrap}
pub use Rattle.mic_words.specs.declared.machine.Machine.TheVariants.{Mic1}
pub use Rattle.console_port.specs.Prelude.{World, byte_in}
pub use Rattle.mic_datapath.specs.Prelude.{arrived}
pub use Rattle.mic1_datapath.specs.Prelude.{IsReady, Micro, mic1_meaning}
pub use Rattle.ijvm_instr.specs.declared.instr.Instr.{Instr}
pub use Rattle.ijvm_instr.specs.declared.row.Cost.{Cost}
pub use Rattle.ijvm_instr.specs.declared.row.Cost.TheVariants.{Always, ByEntry, IfTaken}
pub use Rattle.ijvm_meaning.specs.Prelude.{State, Timing, base, cost, frames_of}
pub use Rattle.verifier_facts.specs.Prelude.{VerifiedView}
pub use Rattle.ijvm_simulation.specs.Prelude.{Boots, Fine, IsAt, IsNext, Loads, Moment, Moves, Origin, Overran, Overruns, RegistersStand, ShowsState}
pub use Rattle.ijvm_simulation.specs.Prelude.{StopsAfter, Takes, Went, pass, reset_moment}
pub use Rattle.micro_terms.specs.Prelude.{AreOrdered, Environment, Grows, Holds, IsNode, value}
pub use Rattle.micro_terms.specs.declared.node.Node.{Node}
pub use Rattle.micro_terms.specs.declared.node.Node.TheVariants.{Free}
pub use Rattle.micro_terms.specs.declared.range.Range.{Range}
pub use Rattle.mic1_cycles.specs.Known.{StandsAt}
pub use Rattle.mic1_cycles.specs.Prelude.{AreAnswered, HasSigns, IsPath, Knows, micro_of, written_by}
pub use Rattle.mic1_cycles.specs.declared.known.Known.{Known}
pub use Rattle.mic1_cycles.specs.declared.path.Path.{Path}
pub use Rattle.mic1_cycles.specs.declared.question.Answer.{Answer}
pub use Rattle.mic1_cycles.specs.declared.refusal.Stop.{Stop}
pub use Rattle.mic1_cycles.specs.declared.refusal.Stop.TheVariants.{Limit, OutOfMap}
pub use Rattle.mic1_cycles.specs.declared.symbols.Symbols.{Symbols}
pub use Rattle.mic1_cycles.specs.declared.symbols.Write.{Write}
pub use Rattle.mic1_passes.specs.Prelude.{StopsAt, moment}
pub use Rattle.mic1_passes.specs.declared.run.Followed.{Followed}
