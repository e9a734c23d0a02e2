-- A file holds at most one program, and is not refused if it holds one.
use Rattle.cli_programs.proofs.Common.{◌≡◌, ◌∙◌, ℕ, List, Some, sym, subst, true, false, arith, MemoryMap, ImageError, ImageView, IsWithinLimits, IsFileOf}
use Rattle.cli_programs.proofs.Common.{IsRefused as IsRefusedFile, ProgramView, AsmError, SpellsProgram, LinkError, VerifiedView, IsMainCount, IsTrueOf}
use Rattle.cli_programs.proofs.Common.{one_count, link_reason, AsFile, AsSource, IsNoSource, IsOf, IsAcceptedProgram, IsRefusedProgram, IsSource, NoImage}
use Rattle.cli_programs.proofs.Common.{NoProgram, NoSource, NotAccepted, NotLinked, begins_image}
use Rattle.ijvm_asm.specs.Text as assembler
use Rattle.method_linker.specs.declared.error.LinkError.TheVariants as limits
use Rattle.method_linker.specs.Linked as linker

-- ---- links

linked_once : (source : ProgramView) (p q : ImageView) → linker.IsLinked source p → linker.IsLinked source q → p ≡ q
linked_once source p q one other = λ i. record { text = (one.text ∙ sym other.text) i; pool = (one.pool ∙ sym other.pool) i }

linked_unrefused : (source : ProgramView) (image : ImageView) (e : LinkError) (reason : List ℕ) → linker.IsLinked source image → linker.IsRefused source e → link_reason e ≡ Some reason → ⊥
linked_unrefused source image (limits.PoolTooLong count) reason linked refused said =
    let is = refused.0 in
    let above = refused.1 in
    let fits = linked.pool_fits in
    absurd (omega (arith, is, above, fits))
linked_unrefused source image (limits.TextTooLong size) reason linked refused said =
    let is = refused.1 in
    let above = refused.2 in
    let fits = linked.text_fits in
    absurd (omega (arith, is, above, fits))
linked_unrefused source image (limits.JumpTooFar line far) reason linked refused said = let none = sym linked.jumps_fit ∙ refused.2 in cc
linked_unrefused source image limits.OutOfMemory reason linked refused said = cc

-- ---- files and sources, by what holds of each

module _
    (one_image : (file : List ℕ) (p q : ImageView) → IsWithinLimits p.text p.pool → IsWithinLimits q.text q.pool → IsFileOf file p → IsFileOf file q → p ≡ q)
    (file_unrefused : (file : List ℕ) (p : ImageView) (e : ImageError) → IsWithinLimits p.text p.pool → IsFileOf file p → IsRefusedFile file e → ⊥)
    (one_source : (text : List ℕ) (p q : ProgramView) → SpellsProgram text p → SpellsProgram text q → p ≡ q)
    (source_unrefused : (text : List ℕ) (p : ProgramView) (e : AsmError) → SpellsProgram text p → assembler.IsRefused text e → ⊥) where
  source_once : (text : List ℕ) (p q : ImageView) → IsSource text p → IsSource text q → p ≡ q
  source_once text p q s t =
      linked_once t.source p q (subst (λ (x : ProgramView). linker.IsLinked x p) (one_source text s.source t.source s.spelled t.spelled) s.linked) t.linked

  no_reason : (text reason : List ℕ) (p : ImageView) → IsSource text p → IsNoSource text reason → ⊥
  no_reason text reason p s (NoSource e refused said) = source_unrefused text s.source e s.spelled refused
  no_reason text reason p s (NotLinked source e spelled refused said) =
      linked_unrefused source p e reason (subst (λ (x : ProgramView). linker.IsLinked x p) (one_source text s.source source s.spelled spelled) s.linked) refused said

  image_once : (bytes : List ℕ) (p q : ImageView) → IsOf bytes p → IsOf bytes q → p ≡ q
  image_once bytes p q (AsFile begins fits is) (AsFile begins' fits' is') = one_image bytes p q fits fits' is is'
  image_once bytes p q (AsFile begins fits is) (AsSource begins' is') = let no : true ≡ false = sym begins ∙ begins' in absurd (cc)
  image_once bytes p q (AsSource begins is) (AsFile begins' fits' is') = let no : false ≡ true = sym begins ∙ begins' in absurd (cc)
  image_once bytes p q (AsSource begins is) (AsSource begins' is') = source_once bytes p q is is'

  pub program_once : (map : MemoryMap) (bytes : List ℕ) (p q : VerifiedView) → IsAcceptedProgram map bytes p → IsAcceptedProgram map bytes q → p ≡ q
  program_once map bytes p q one other =
      let image : p.image ≡ q.image = image_once bytes p.image q.image one.is other.is in
      let locals : p.main_locals ≡ q.main_locals =
      one_count q.image p.main_locals q.main_locals (subst (λ (x : ImageView). IsMainCount x p.main_locals) image one.accepted.main) other.accepted.main in
      λ i. record { image = image i; main_locals = locals i; map = (one.map_is ∙ sym other.map_is) i }

  of_file : (bytes : List ℕ) (p : ImageView) (e : ImageError) → begins_image bytes ≡ true → IsRefusedFile bytes e → IsOf bytes p → ⊥
  of_file bytes p e begins refused (AsFile begins' fits is) = file_unrefused bytes p e fits is refused
  of_file bytes p e begins refused (AsSource begins' is) = let no : true ≡ false = sym begins ∙ begins' in cc

  of_source : (bytes reason : List ℕ) (p : ImageView) → begins_image bytes ≡ false → IsNoSource bytes reason → IsOf bytes p → ⊥
  of_source bytes reason p begins refused (AsFile begins' fits is) = let no : false ≡ true = sym begins ∙ begins' in cc
  of_source bytes reason p begins refused (AsSource begins' is) = no_reason bytes reason p is refused

  pub program_unrefused : (map : MemoryMap) (bytes reason : List ℕ) (p : VerifiedView) → IsAcceptedProgram map bytes p → IsRefusedProgram map bytes reason → ⊥
  program_unrefused map bytes reason p program (NoImage e begins refused said) = of_file bytes p.image e begins refused program.is
  program_unrefused map bytes reason p program (NoProgram begins unspelled) = of_source bytes reason p.image begins unspelled program.is
  program_unrefused map bytes reason p program (NotAccepted image e of holds said) =
      program.accepted.accepts e
      (subst (λ (m : MemoryMap). IsTrueOf p.image m.stack_end e) (sym program.map_is)
      (subst (λ (x : ImageView). IsTrueOf x map.stack_end e) (image_once bytes image p.image of program.is) holds))
