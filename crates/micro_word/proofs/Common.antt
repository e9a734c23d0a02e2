-- The words of other crates that these proofs use.
pub use Rattle.std.proofs.Common.{Bool, IfNone, IfSome, IsTrue, List, None, Option, Some, ap, arith, false, get_or, get_or-set_other, get_or-set_same}
pub use Rattle.std.proofs.Common.{if◌then◌else◌, inl, inr, is_some, length, nat_lt, not, refl, replicate, slice_index, slice_set, subst, suc, sym, true}
pub use Rattle.std.proofs.Common.{unwrap_or, zero, ℕ, ◌%◌, ◌*◌, ◌-◌, ◌/◌, ◌<◌, ◌==◌, ◌^◌, ◌||◌, ◌∙◌, ◌≡◌}
pub use Rattle.std.proofs.Math.Pow.{pow-lt}
pub use Rattle.std.proofs.lemmas.Bool.{cases_eq}
pub use Rattle.std.proofs.lemmas.Bool.Decides.{nat_tests}
pub use Rattle.std.proofs.lemmas.List.{get_or-replicate, length-replicate}
pub use Rattle.std.proofs.lemmas.Nat.{and_mask}
pub use Rattle.mic_words.specs.declared.machine.Machine.{Machine}
pub use Rattle.mic_words.specs.declared.machine.Machine.TheVariants.{Mic1, Mic2}
pub use Rattle.micro_word.specs.declared.layout.Fields.{Fields}
pub use Rattle.micro_word.specs.declared.lines.Lines.{Lines}
pub use Rattle.micro_word.specs.declared.statement.AluOp.{AluOp}
pub use Rattle.micro_word.specs.declared.statement.BusSource.{BusSource}
pub use Rattle.micro_word.specs.declared.statement.Mem.{Mem}
pub use Rattle.micro_word.specs.declared.statement.Placed.{Placed}
pub use Rattle.micro_word.specs.declared.statement.PlacedNext.{PlacedNext}
pub use Rattle.micro_word.specs.declared.statement.Shift.{Shift}
