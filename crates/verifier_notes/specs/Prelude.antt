-- The words of this crate, for those that use it.
pub use Rattle.verifier_notes.specs.Listed.{AllMet, Code, HasHeader, Header, IsListed, IsMet, Item, item_size, items_size, note_at, note_from, own_note}
pub use Rattle.verifier_notes.specs.Meeting.{Finds, FindsCall, IsBranch, IsLocal, IsSet, IsSimple, JumpLed, Led, MayReturn, NextLed, branch_met, in_pool, led}
pub use Rattle.verifier_notes.specs.Meeting.{met, plain, simple_met}
pub use Rattle.verifier_notes.specs.Noted.{FindsMethod, IsNoted, LeadsOn, Meets, Note}
pub use Rattle.verifier_notes.specs.Parts.{AllSimple, Fine, Part, Runs, begun, head_note, joined, none, part_append, part_none, run_fine, run_part}
pub use Rattle.verifier_notes.specs.Parts.{straight_met, suits_wider, unit_fine}
pub use Rattle.verifier_notes.specs.Scenes.{AreInstrs, AreRead, Frame, IsAt, IsCounted, Locals, Met, MetWith, Scene, Spells, Stands, Suits, There, at_depth}
pub use Rattle.verifier_notes.specs.Scenes.{depth_after, head_of, head_there, its_own, joins, main_frame, main_scene, method_frame, method_scene, next_depth}
pub use Rattle.verifier_notes.specs.Scenes.{note_with, params_by, read_back, read_front, spelled_size, stands_at, stands_back, stands_end, stands_front}
pub use Rattle.verifier_notes.specs.Scenes.{straight, straight_spells, takes, takes_by, unit_items, unit_spells, written_read}
pub use Rattle.verifier_notes.specs.Seams.{header_after, items_append, met_append, note_at_seam}
