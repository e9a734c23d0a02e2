-- Why there is no accepted program.
use Rattle.cli_programs.proofs.Common.{◌≡◌, ◌⊎◌, inl, inr, ℕ, List, Some, refl, sym, ◌∙◌, ap, subst, true, false, Result, Ok, Err, IfErr, MemoryMap, ImageError}
use Rattle.cli_programs.proofs.Common.{ImageView, IsRefused as IsRefusedFile, VerifyError, IsTrueOf, image_reason, link_reason, source_reason, verify_reason}
use Rattle.cli_programs.proofs.Common.{Refusal, IsRefusal, refusal_by, by_reason, IsNoSource, IsOf, IsRefusedProgram, IsRefusalByAll, NoImage, NoProgram}
use Rattle.cli_programs.proofs.Common.{NoSource, NotAccepted, NotLinked, begins_image, ProgramView, AsmError, is_memory, SpellsProgram, LinkError}
use Rattle.ijvm_image.specs.declared.image.ImageError.TheVariants as images
use Rattle.verifier_facts.specs.declared.error.VerifyError.TheVariants as facts
use Rattle.cli_outside.specs.declared.refusal.Refusal.TheVariants as refusals
use Rattle.ijvm_asm.specs.declared.error.AsmError.TheVariants as sources
use Rattle.ijvm_asm.specs.Text as assembler
use Rattle.method_linker.specs.Linked as linker

pub no_image : (map : MemoryMap) (bytes : List ℕ) (e : ImageError) (u : Refusal) → begins_image bytes ≡ true → (e ≡ images.OutOfMemory) ⊎ IsRefusedFile bytes e →
    u ≡ refusal_by (image_reason e) → IsRefusal (IsRefusedProgram map) bytes u
no_image map bytes e u begins (inl short) is =
    subst (IsRefusal (IsRefusedProgram map) bytes) (sym (is ∙ ap (λ (x : ImageError). refusal_by (image_reason x)) short)) tt
no_image map bytes e u begins (inr read) is =
    subst (IsRefusal (IsRefusedProgram map) bytes) (sym is) (by_reason (IsRefusedProgram map) bytes (image_reason e) (λ text said. NoImage e begins read said))

pub not_accepted : (map : MemoryMap) (bytes : List ℕ) (image : ImageView) (e : VerifyError) (u : Refusal) → IsOf bytes image → (e ≡ facts.OutOfMemory) ⊎ IsTrueOf image map.stack_end e →
    u ≡ refusal_by (verify_reason e) → IsRefusal (IsRefusedProgram map) bytes u
not_accepted map bytes image e u of (inl short) is =
    subst (IsRefusal (IsRefusedProgram map) bytes) (sym (is ∙ ap (λ (x : VerifyError). refusal_by (verify_reason x)) short)) tt
not_accepted map bytes image e u of (inr holds) is =
    subst (IsRefusal (IsRefusedProgram map) bytes) (sym is) (by_reason (IsRefusedProgram map) bytes (verify_reason e) (λ text said. NotAccepted image e of holds said))

-- a refusal with a reason is not out of memory
is_told : (e : AsmError) (said : List ℕ) → source_reason e ≡ Some said → is_memory e ≡ false
is_told sources.OutOfMemory said h = cc
is_told _ said h = refl

pub no_source : (text : List ℕ) (e : AsmError) (u : Refusal) → (is_memory e ≡ false → assembler.IsRefused text e) → u ≡ refusal_by (source_reason e) → IsRefusal IsNoSource text u
no_source text e u refused is =
    subst (IsRefusal IsNoSource text) (sym is) (by_reason IsNoSource text (source_reason e) (λ said h. NoSource e (refused (is_told e said h)) h))

pub not_linked : (text : List ℕ) (source : ProgramView) (e : LinkError) (u : Refusal) → SpellsProgram text source → linker.IsRefused source e →
    u ≡ refusal_by (link_reason e) → IsRefusal IsNoSource text u
not_linked text source e u spelled refused is =
    subst (IsRefusal IsNoSource text) (sym is) (by_reason IsNoSource text (link_reason e) (λ said h. NotLinked source e spelled refused h))

-- a source that has no image holds no accepted program
pub no_program : (map : MemoryMap) (bytes : List ℕ) (u : Refusal) → begins_image bytes ≡ false → IsRefusal IsNoSource bytes u → IsRefusal (IsRefusedProgram map) bytes u
no_program map bytes (refusals.Refused reason) begins h = NoProgram begins h
no_program map bytes refusals.OutOfMemory begins h = tt

pub no_program_in : {T : Type 0} (bytes : List ℕ) (r : Result T Refusal) → begins_image bytes ≡ false → IfErr r (IsRefusal IsNoSource bytes) → IfErr r (IsRefusalByAll bytes)
no_program_in bytes (Ok x) begins h = tt
no_program_in bytes (Err u) begins h = λ map. no_program map bytes u begins h
