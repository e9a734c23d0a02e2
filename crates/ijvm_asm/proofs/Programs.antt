-- What a text spells is a program.
use Rattle.ijvm_asm.proofs.Common.{◌≡◌, List, [], Some, None, IsReadAsSpelled, Constant, UnitView, IsProgram, ProgramView}
use Rattle.ijvm_line.specs.declared.place.Place.TheVariants as places
use Rattle.ijvm_asm.specs.Prelude.{DraftView, declarations_of, empty, Source, constants_of, IsProgramOf, missing, unit_of, units_from, IsRead, parser, grammar}
use Rattle.ijvm_asm.proofs.Resolved.{is_program}
use Rattle.ijvm_asm.proofs.Sections.{made_of}
use Rattle.ijvm_asm.proofs.Sound.{made_sound}
use Rattle.ijvm_asm.proofs.WholeSource.{ends_outside, is_program_of}

read_program : IsReadAsSpelled grammar parser empty → (s : Source) (p : ProgramView) → IsRead s → s.place ≡ places.Outside → IsProgramOf (declarations_of s) p → IsProgram p
read_program laws s p (text, led) outside is =
    let r = laws.says text s led in
    let w = made_of r.0 s r.2 outside in
    is_program s (made_sound w.sections s w.made) p is

-- constants, main and methods of what was read
pub parts_are_program : IsReadAsSpelled grammar parser empty → (s : Source) (cs : List Constant) (u : DraftView) (v : UnitView) (us : List UnitView) → IsRead s → missing s ≡ None → s.main ≡ Some u
    → unit_of s.constants s.methods u ≡ Some v → units_from s.constants s.methods [] s.units ≡ Some us → cs ≡ constants_of (declarations_of s) → IsProgram (record { constants = cs; main = v; methods = us })
parts_are_program laws s cs u v us read none at main methods e =
    read_program laws s (record { constants = cs; main = v; methods = us }) read (ends_outside s none)
    (is_program_of s (record { constants = cs; main = v; methods = us }) u v us at main methods (cc))
