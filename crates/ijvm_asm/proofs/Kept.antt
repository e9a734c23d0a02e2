-- What the lines of a unit keep of the reader's record, and of its unit.
use Rattle.ijvm_asm.proofs.Common.{◌≡◌, ℕ, Bool, List, ◌++◌, Option, Some, None, refl, ap, sym, ◌∙◌, Place}
use Rattle.ijvm_asm.specs.Prelude.{Body, Locals, DraftView, Source, code_from, lines_in}
use Rattle.ijvm_asm.proofs.Made.{MakesBody, OpensLocals}

module _ {A : Type 0} (f : Source → A) (keeps : (w : Source) (p : Place) (n : ℕ) (b : Bool) (u : DraftView) → f (record w { place = p; inner = n; may_declare = b; unit = u }) ≡ f w) where
  opens_keeps : (o : Option Locals) (k : ℕ) (s v : Source) → OpensLocals k s o v → f v ≡ f s
  opens_keeps None k s v q = ap f (sym q)
  opens_keeps (Some d) k s v q = ap f q.1 ∙ keeps s _ _ _ _

  pub body_keeps : (k : ℕ) (s : Source) (b : Body) (t : Source) → MakesBody k s b t → f t ≡ f s
  body_keeps k s b t m = ap f m.makes.1 ∙ (keeps m.after_locals _ _ _ _ ∙ opens_keeps b.locals k s m.after_locals m.opens)

module _ {A : Type 0} (f : DraftView → A) (keeps : (u : DraftView) (ns : List (List ℕ)) → f (record u { names = ns }) ≡ f u) where
  pub opens_unit : (o : Option Locals) (k : ℕ) (s v : Source) → OpensLocals k s o v → f v.unit ≡ f s.unit
  opens_unit None k s v q = ap (λ w. f w.unit) (sym q)
  opens_unit (Some d) k s v q = ap (λ w. f w.unit) q.1 ∙ keeps s.unit _

pub body_lines_are : (k : ℕ) (s : Source) (b : Body) (t : Source) → MakesBody k s b t → t.unit.lines ≡ s.unit.lines ++ lines_in (code_from k b.locals) b.code
body_lines_are k s b t m =
    ap (λ w. w.unit.lines) m.makes.1 ∙ ap (λ ls. ls ++ lines_in (code_from k b.locals) b.code) (opens_unit (λ u. u.lines) (λ u ns. refl) b.locals k s m.after_locals m.opens)
