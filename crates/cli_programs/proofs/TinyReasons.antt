-- Why there is no compiled program.
use Rattle.cli_programs.proofs.Common.{◌≡◌, ℕ, List, Some, refl, sym, subst, false, Refusal, IsRefusal, refusal_by, by_reason, TinyError, HasNoCode}
use Rattle.cli_programs.proofs.Common.{IsRefusedTiny, tiny_reason}
use Rattle.tiny_parser.specs.Prelude.{is_memory}
use Rattle.tiny_parser.specs.declared.error.TinyError.TheVariants as errors

-- a refusal with a reason is not out of memory
is_told : (e : TinyError) (said : List ℕ) → tiny_reason e ≡ Some said → is_memory e ≡ false
is_told errors.OutOfMemory said h = cc
is_told _ said h = refl

pub no_code : (text : List ℕ) (e : TinyError) (u : Refusal) → (is_memory e ≡ false → HasNoCode text e) → u ≡ refusal_by (tiny_reason e) → IsRefusal IsRefusedTiny text u
no_code text e u refused is =
    subst (IsRefusal IsRefusedTiny text) (sym is)
    (by_reason IsRefusedTiny text (tiny_reason e) (λ said h. record { error = e; refused = refused (is_told e said h); said = h }))
