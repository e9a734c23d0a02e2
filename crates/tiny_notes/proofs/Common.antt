-- The words of other crates that these proofs use.
pub use Rattle.std.proofs.Common.{Bool, List, None, Some, [], ap, append_assoc, arith, eq-eqb, eqb-true, false, if◌then◌else◌, inl, inr, le-ltb, length}
pub use Rattle.std.proofs.Common.{ltb-false, nat_le, nat_lt, neg_ℤ, pos, refl, slice_get, subst, suc, sym, true, true≢false, zero, ℕ, ℤ}
pub use Rattle.std.proofs.Common.{◌++◌, ◌+◌, ◌-◌, ◌<◌, ◌==◌, ◌∙◌, ◌∷◌, ◌≡◌, ◌≢◌, ◌≤◌, ◌⊎◌}
pub use Rattle.std.proofs.lemmas.List.Elements.{All-cons, All-contains, All-contains_itself, All-head, All-nil, All-tail, All-weaker}
pub use Rattle.std.proofs.lemmas.Option.{same_Some}
pub use Rattle.std.specs.List.{All, Contains}
pub use Rattle.ijvm_instr.specs.Prelude.{row_of, size_of, target}
unfoldable pub use Rattle.ijvm_instr.specs.Prelude.{instr_at, of_bytes}
pub use Rattle.ijvm_instr.specs.declared.instr.Instr.{Instr}
pub use Rattle.ijvm_instr.specs.declared.instr.Instr.TheVariants.{Bipush, Goto, Halt, IfIcmpeq, Iflt, Iload, In, Invokevirtual, Ireturn, Istore, Isub, LdcW}
pub use Rattle.ijvm_instr.specs.declared.instr.Instr.TheVariants.{Out, Pop}
pub use Rattle.ijvm_image.specs.Prelude.{ImageView}
unfoldable pub use Rattle.ijvm_image.specs.Prelude.{others, params}
pub use Rattle.verifier_notes.specs.Prelude.{AllMet, AreRead, Code, FindsMethod, Fine, Frame, HasHeader, Header, IsAt, IsBranch, IsListed, IsSimple, Item}
pub use Rattle.verifier_notes.specs.Prelude.{Locals, Met}
pub use Rattle.verifier_notes.specs.Prelude.{MetWith, Note, Part, Runs, Scene, Spells, Stands, Suits, There, begun, branch_met, head_of, head_there}
pub use Rattle.verifier_notes.specs.Prelude.{header_after}
pub use Rattle.verifier_notes.specs.Prelude.{in_pool, items_append, items_size, its_own, joined, joins, led, main_frame, main_scene, met, met_append}
pub use Rattle.verifier_notes.specs.Prelude.{next_depth, none, note_at, note_with}
pub use Rattle.verifier_notes.specs.Prelude.{method_frame, method_scene, params_by, part_append, part_none, plain, run_fine, simple_met}
pub use Rattle.verifier_notes.specs.Prelude.{stands_back, stands_end, stands_front}
pub use Rattle.verifier_notes.specs.Prelude.{at_depth, head_note, straight, straight_spells, suits_wider, takes, unit_fine, unit_items, unit_spells}
pub use Rattle.tiny_tree.specs.declared.tree.Operator.{Operator}
pub use Rattle.tiny_tree.specs.declared.tree.Operator.TheVariants.{Minus, Plus}
