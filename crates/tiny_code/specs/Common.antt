-- The words of other crates that this one uses.
pub use Rattle.std.proofs.lemmas.Bool.{le-ltb, lt-ltb}
pub use Rattle.std.proofs.lemmas.Bool.Decides.{eqb_tells}
pub use Rattle.std.proofs.lemmas.Grind.{flat_map-append}
pub use Rattle.std.proofs.lemmas.List.Elements.{All-cons, All-head, All-nil, All-tail}
pub use Rattle.std.specs.List.{enumerate_from, filter, flat_map, position_or_len}
unfoldable pub use Rattle.mic_words.specs.Prelude.{wrap}
pub use Rattle.ijvm_instr.specs.Prelude.{HasLines, IsInstr, distance_in, distances, instr_at, jumps_of, row_of, size_of, spelling, target}
pub use Rattle.ijvm_instr.specs.declared.instr.Instr.{Instr}
pub use Rattle.ijvm_image.specs.Prelude.{ImageView, header, others, params}
pub use Rattle.ijvm_text.specs.Prelude.{IsImageOf, Layout, Part}
unfoldable pub use Rattle.ijvm_text.specs.Prelude.{code_bytes}
pub use Rattle.tiny_tree.specs.declared.tree.Operator.{Operator}
pub use Rattle.tiny_tree.specs.declared.tree.Operator.TheVariants.{And, Minus, Or, Plus}
