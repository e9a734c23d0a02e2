-- What a file holds, by its bytes: an image or a source of one, that is accepted or refused for a reason.
use Rattle.std.specs.Prelude.{◌≡◌, ℕ, Bool, false, true, ◌==◌, List, [], ◌∷◌, Some}
use Rattle.cli_programs.specs.Common.{MemoryMap, ImageError, ImageView, IsWithinLimits, IsFileOf, IsRefused as IsRefusedFile, ProgramView, AsmError}
use Rattle.cli_programs.specs.Common.{SpellsProgram, LinkError, IsLinked, VerifyError, IsAccepted, VerifiedView, IsTrueOf, image_reason, link_reason}
use Rattle.cli_programs.specs.Common.{source_reason, verify_reason, Refusal, OutsideView, IsNotHad, IsRefusal}
use Rattle.ijvm_asm.specs.Text as assembler
use Rattle.method_linker.specs.Linked as linker

-- A file is an image file by its first byte. Every other file is a source.
abbrev pub begins_image : List ℕ → Bool
begins_image [] = false
begins_image (first ∷ rest) = first == 0x1D

-- the text is a source of this image
pub record IsSource (text : List ℕ) (image : ImageView) : Type 0 where
  pub source : ProgramView
  pub spelled : SpellsProgram text source
  pub linked : IsLinked source image

-- the text is no source of an image, for this reason
pub data IsNoSource (text reason : List ℕ) : Type 0 where
  NoSource : (e : AsmError) → assembler.IsRefused text e → source_reason e ≡ Some reason → IsNoSource text reason
  NotLinked : (source : ProgramView) (e : LinkError) → SpellsProgram text source → linker.IsRefused source e → link_reason e ≡ Some reason →
      IsNoSource text reason

-- the file is this image's, or a source of it
pub data IsOf (bytes : List ℕ) (image : ImageView) : Type 0 where
  AsFile : begins_image bytes ≡ true → IsWithinLimits image.text image.pool → IsFileOf bytes image → IsOf bytes image
  AsSource : begins_image bytes ≡ false → IsSource bytes image → IsOf bytes image

-- the file is an image's that is accepted for this map
pub record IsAcceptedProgram (map : MemoryMap) (bytes : List ℕ) (program : VerifiedView) : Type 0 where
  pub is : IsOf bytes program.image
  pub map_is : program.map ≡ map
  pub accepted : IsAccepted program

-- the file is refused, for this reason
pub data IsRefusedProgram (map : MemoryMap) (bytes reason : List ℕ) : Type 0 where
  NoImage : (e : ImageError) → begins_image bytes ≡ true → IsRefusedFile bytes e → image_reason e ≡ Some reason → IsRefusedProgram map bytes reason
  NoProgram : begins_image bytes ≡ false → IsNoSource bytes reason → IsRefusedProgram map bytes reason
  NotAccepted : (image : ImageView) (e : VerifyError) → IsOf bytes image → IsTrueOf image map.stack_end e → verify_reason e ≡ Some reason →
      IsRefusedProgram map bytes reason

-- at most one program is accepted of these bytes
abbrev pub HasOneProgram : MemoryMap → List ℕ → Type 0
HasOneProgram map bytes = (p q : VerifiedView) → IsAcceptedProgram map bytes p → IsAcceptedProgram map bytes q → p ≡ q

-- bytes of which one is accepted are not refused
abbrev pub IsNotBoth : MemoryMap → List ℕ → Type 0
IsNotBoth map bytes = (reason : List ℕ) (p : VerifiedView) → IsAcceptedProgram map bytes p → IsRefusedProgram map bytes reason → ⊥

-- no program comes from a file that should hold one
abbrev pub HasNoProgram : MemoryMap → List ℕ → OutsideView → OutsideView → ℕ → Type 0
HasNoProgram map = IsNotHad (IsRefusedProgram map)

-- what it means that no image comes from these bytes: they hold no accepted program for any map
abbrev pub IsRefusalByAll : List ℕ → Refusal → Type 0
IsRefusalByAll bytes refusal = (map : MemoryMap) → IsRefusal (IsRefusedProgram map) bytes refusal
