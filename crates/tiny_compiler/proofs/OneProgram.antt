-- A text compiles to one program at most, or has one refusal.
use Rattle.tiny_compiler.proofs.Common.{◌≡◌, ◌∙◌, ℕ, List, Some, sym, ap, subst, arith, slice_get, none-some, same_Some, Jump, ImageView, IsImageOf, Layout}
use Rattle.tiny_compiler.proofs.Common.{pool_of, text_of, VerifiedView, IsMainCount, one_count, IsRefused, Spells, TinyError, JumpTooFar, PoolTooLong}
use Rattle.tiny_compiler.proofs.Common.{TextTooLong, HasNoCode, IsCompiled, NoProgram, TooLarge, ExceedsBy, IsTooLarge}
use Rattle.tiny_tree.specs.Prelude.{Function, Program}
use Rattle.tiny_code.specs.Prelude.{IsCodeOf, layout_of}

-- ---- images and limits

image_once : (program : Program) (p q : ImageView) → IsCodeOf program p → IsCodeOf program q → p ≡ q
image_once program p q one other =
    let main : one.main ≡ other.main = same_Some _ _ (sym one.main_is ∙ other.main_is) in
    let text : p.text ≡ q.text = one.laid.text ∙ ap (λ (g : Function). text_of (layout_of program g)) main ∙ sym other.laid.text in
    let pool : p.pool ≡ q.pool = one.laid.pool ∙ ap (λ (g : Function). pool_of (layout_of program g)) main ∙ sym other.laid.pool in
    λ i. record { text = text i; pool = pool i }

laid_fits : (l : Layout) (image : ImageView) (e : TinyError) → IsImageOf l image → ExceedsBy l e → ⊥
laid_fits l image (PoolTooLong count) is exceeds = omega (arith, exceeds.0, exceeds.1, is.pool_fits)
laid_fits l image (TextTooLong size) is exceeds = omega (arith, exceeds.1, exceeds.2, is.text_fits)
laid_fits l image (JumpTooFar line far) is exceeds = none-some (line, far) (sym is.jumps_fit ∙ exceeds.2)
laid_fits l image _ is exceeds = exceeds

fits : (program : Program) (image : ImageView) (main : Function) (e : TinyError) → IsCodeOf program image →
    slice_get program.functions program.main ≡ Some main → ExceedsBy (layout_of program main) e → ⊥
fits program image main e is at exceeds =
    laid_fits _ image e (subst (λ (g : Function). IsImageOf (layout_of program g) image) (same_Some is.main main (sym is.main_is ∙ at)) is.laid) exceeds

-- ---- the first limit

one_limit : (l : Layout) (d e : TinyError) → ExceedsBy l d → ExceedsBy l e → d ≡ e
one_limit l (PoolTooLong a) (PoolTooLong b) f g = ap PoolTooLong (f.0 ∙ sym g.0)
one_limit l (PoolTooLong a) (TextTooLong b) f g = absurd (omega (arith, f.0, f.1, g.0))
one_limit l (PoolTooLong a) (JumpTooFar line far) f g = absurd (omega (arith, f.0, f.1, g.0))
one_limit l (TextTooLong a) (PoolTooLong b) f g = absurd (omega (arith, g.0, g.1, f.0))
one_limit l (TextTooLong a) (TextTooLong b) f g = ap TextTooLong (f.1 ∙ sym g.1)
one_limit l (TextTooLong a) (JumpTooFar line far) f g = absurd (omega (arith, f.1, f.2, g.1))
one_limit l (JumpTooFar line far) (PoolTooLong b) f g = absurd (omega (arith, g.0, g.1, f.0))
one_limit l (JumpTooFar line far) (TextTooLong b) f g = absurd (omega (arith, g.1, g.2, f.1))
one_limit l (JumpTooFar line far) (JumpTooFar other more) f g =
    ap (λ (j : Jump). JumpTooFar j.0 j.1) (same_Some (line, far) (other, more) (sym f.2 ∙ g.2))
one_limit l (PoolTooLong a) _ f g = absurd g
one_limit l (TextTooLong a) _ f g = absurd g
one_limit l (JumpTooFar line far) _ f g = absurd g
one_limit l _ e f g = absurd f

-- ---- texts, by what holds of each

module _
    (one_program : (text : List ℕ) (p q : Program) → Spells text p → Spells text q → p ≡ q)
    (unrefused : (text : List ℕ) (p : Program) (e : TinyError) → Spells text p → IsRefused text e → ⊥)
    (one_refusal : (text : List ℕ) (d e : TinyError) → IsRefused text d → IsRefused text e → d ≡ e) where
  pub program_once : (text : List ℕ) (v w : VerifiedView) → IsCompiled text v → IsCompiled text w → v ≡ w
  program_once text v w one other =
      let same : one.program ≡ other.program = one_program text one.program other.program one.spelled other.spelled in
      let image : v.image ≡ w.image = image_once _ v.image w.image (subst (λ (p : Program). IsCodeOf p v.image) same one.code) other.code in
      let locals : v.main_locals ≡ w.main_locals =
      one_count w.image v.main_locals w.main_locals (subst (λ (x : ImageView). IsMainCount x v.main_locals) image one.accepted.main) other.accepted.main in
      λ i. record { image = image i; main_locals = locals i; map = (one.map_is ∙ sym other.map_is) i }

  pub program_unrefused : (text : List ℕ) (v : VerifiedView) (e : TinyError) → IsCompiled text v → HasNoCode text e → ⊥
  program_unrefused text v e is (NoProgram refused) = unrefused text is.program e is.spelled refused
  program_unrefused text v e is (TooLarge program spelled large) =
      let same : is.program ≡ program = one_program text is.program program is.spelled spelled in
      fits program v.image large.0 e (subst (λ (p : Program). IsCodeOf p v.image) same is.code) large.1 large.2

  pub refused_once : (text : List ℕ) (d e : TinyError) → HasNoCode text d → HasNoCode text e → d ≡ e
  refused_once text d e (NoProgram f) (NoProgram g) = one_refusal text d e f g
  refused_once text d e (NoProgram f) (TooLarge program spelled large) = absurd (unrefused text program d spelled f)
  refused_once text d e (TooLarge program spelled large) (NoProgram g) = absurd (unrefused text program e spelled g)
  refused_once text d e (TooLarge p spelled f) (TooLarge q spelled' g) =
      let same : p ≡ q = one_program text p q spelled spelled' in
      let f' : IsTooLarge q d = subst (λ (x : Program). IsTooLarge x d) same f in
      let main : f'.0 ≡ g.0 = same_Some f'.0 g.0 (sym f'.1 ∙ g.1) in
      one_limit (layout_of q g.0) d e (subst (λ (x : Function). ExceedsBy (layout_of q x) d) main f'.2) g.2
