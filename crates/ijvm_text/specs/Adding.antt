-- What is appended to a text, piece by piece.
use Rattle.std.proofs.Common.{◌≡◌, ℕ, ℤ, ◌+◌, Bool, true, false, List, [], ◌∷◌, ◌++◌, length}
use Rattle.std.proofs.Common.{Option, Some, None, refl, sym, ap, ◌∙◌, subst, append_assoc, length-append, arith}
use Rattle.std.specs.Prelude.{cond}
use Rattle.std.specs.Option.{option_or}
use Rattle.std.proofs.lemmas.List.{append-nil}
use Rattle.std.proofs.lemmas.List.Folds.{find-append}
use Rattle.std.proofs.lemmas.Grind.{flat_map-append}
use Rattle.ijvm_instr.specs.declared.instr.Instr.{Instr}
use Rattle.ijvm_instr.specs.Prelude.{spelling, Jump, first_far, is_far}
use Rattle.ijvm_program.specs.declared.line.Jump as kinds
use Rattle.ijvm_program.specs.declared.line.Jump.TheVariants.{Ifeq}
use Rattle.ijvm_program.specs.Prelude.{jump_by}
use Rattle.ijvm_text.specs.declared.text.FarJump.{FarJump}
use Rattle.ijvm_text.specs.declared.text.Text.{Text}
use Rattle.ijvm_text.specs.Adds.{Adds, AddsJump, IsText, far_of}
use Rattle.ijvm_text.specs.Bytes.{code_bytes}

pub or_none : (o : Option Jump) → option_or o None ≡ o
or_none None = refl
or_none (Some j) = refl

pub or_assoc : (a b c : Option Jump) → option_or (option_or a b) c ≡ option_or a (option_or b c)
or_assoc None b c = refl
or_assoc (Some j) b c = refl

pub front_none : (a b : Option Jump) → option_or a b ≡ None → a ≡ None
front_none None b h = refl
front_none (Some j) b h = h

back_none : (a b : Option Jump) → option_or a b ≡ None → b ≡ None
back_none None b h = h
back_none (Some j) b h = cc

pub far_or : (a b : Option FarJump) → far_of (option_or a b) ≡ option_or (far_of a) (far_of b)
far_or None b = refl
far_or (Some j) b = refl

pub straight : (a b : Text) (bytes : List ℕ) → b.bytes.items ≡ a.bytes.items ++ bytes → b.far ≡ a.far → Adds a b bytes []
straight a b bytes is far =
    record {
      size = ap length is ∙ length-append a.bytes.items bytes;
      far = ap far_of far ∙ sym (or_none (far_of a.far));
      bytes = λ h. is;
    }

pub then : (a b c : Text) (x y : List ℕ) (i j : List Jump) → Adds a b x i → Adds b c y j → Adds a c (x ++ y) (i ++ j)
then a b c x y i j h k =
    record {
      size = omega (arith, h.size, k.size, length-append x y);
      far = k.far ∙ ap (λ (o : Option Jump). option_or o (first_far j)) h.far
          ∙ or_assoc (far_of a.far) (first_far i) (first_far j)
          ∙ ap (λ (o : Option Jump). option_or (far_of a.far) o) (sym (find-append (λ j. is_far j.1) i j));
      bytes = λ near_all. k.bytes near_all
          ∙ ap (λ (l : List ℕ). l ++ y) (h.bytes (front_none (far_of b.far) (first_far j) (sym k.far ∙ near_all)))
          ∙ append_assoc a.bytes.items x y;
    }

pub nothing : (a : Text) → Adds a a [] []
nothing a = straight a a [] (sym (append-nil a.bytes.items)) refl

pub is_text : (a b : Text) (bytes : List ℕ) (js : List Jump) → a.bytes.items ≡ [] → a.far ≡ None → Adds a b bytes js → IsText b bytes js
is_text a b bytes js empty near h =
    record {
      size = h.size ∙ ap (λ (l : List ℕ). length l + length bytes) empty ∙ omega arith;
      far = h.far ∙ ap (λ (o : Option FarJump). option_or (far_of o) (first_far js)) near;
      bytes = λ near_all. h.bytes near_all ∙ ap (λ (l : List ℕ). l ++ bytes) empty;
    }

pub appended : (a b other : Text) (bytes : List ℕ) (js : List Jump) → b.bytes.items ≡ a.bytes.items ++ other.bytes.items →
    b.far ≡ option_or a.far other.far → IsText other bytes js → Adds a b bytes js
appended a b other bytes js is far h =
    let all : far_of b.far ≡ option_or (far_of a.far) (far_of other.far) = ap far_of far ∙ far_or a.far other.far in
    record {
      size = ap length is ∙ length-append a.bytes.items other.bytes.items ∙ ap (λ (n : ℕ). length a.bytes.items + n) h.size;
      far = all ∙ ap (λ (o : Option Jump). option_or (far_of a.far) o) h.far;
      bytes = λ near_all. is
          ∙ ap (λ (l : List ℕ). a.bytes.items ++ l) (h.bytes (back_none (far_of a.far) (far_of other.far) (sym all ∙ near_all)));
    }

-- ---- code

pub one : (i : Instr) → spelling i ≡ code_bytes (i ∷ [])
unfolding code_bytes
one i = sym (append-nil (spelling i))

pub none : code_bytes [] ≡ []
unfolding code_bytes
none = refl

pub joined : (a b : List Instr) → code_bytes (a ++ b) ≡ code_bytes a ++ code_bytes b
unfolding code_bytes
joined a b = flat_map-append spelling a b

pub no_code : (a : Text) → Adds a a (code_bytes []) []
no_code a = subst (λ (l : List ℕ). Adds a a l []) (sym none) (nothing a)

pub empty_text : (a : Text) → a.bytes.items ≡ [] → a.far ≡ None → IsText a (code_bytes []) []
empty_text a empty near = is_text a a (code_bytes []) [] empty near (no_code a)

-- ---- a jump

not_far : (b : Bool) (j : Jump) → cond b (Some j) None ≡ None → b ≡ false
not_far true j h = cc
not_far false j h = refl

-- the bytes y of a jump, or others of their size where it leads too far
jumped : (a b : Text) (line : ℕ) (z : ℤ) (x y : List ℕ) → length x ≡ length y → b.bytes.items ≡ a.bytes.items ++ x →
    far_of b.far ≡ option_or (far_of a.far) (first_far ((line, z) ∷ [])) → (is_far z ≡ false → x ≡ y) → Adds a b y ((line, z) ∷ [])
jumped a b line z x y long is far near =
    record {
      size = ap length is ∙ length-append a.bytes.items x ∙ ap (λ (n : ℕ). length a.bytes.items + n) long;
      far = far;
      bytes = λ near_all. is ∙ ap (λ (l : List ℕ). a.bytes.items ++ l)
          (near (not_far (is_far z) (line, z) (back_none (far_of a.far) (first_far ((line, z) ∷ [])) (sym far ∙ near_all))));
    }

-- how long a jump is does not depend on how far it leads
jump_size : (j : kinds.Jump) (o z : ℤ) → length (spelling (jump_by j o)) ≡ length (spelling (jump_by j z))
jump_size Ifeq o z = refl
jump_size _ o z = refl

pub jump_added : (a b : Text) (j : kinds.Jump) (line : ℕ) (z o : ℤ) → b.bytes.items ≡ a.bytes.items ++ code_bytes (jump_by j o ∷ []) →
    far_of b.far ≡ option_or (far_of a.far) (first_far ((line, z) ∷ [])) → (is_far z ≡ false → o ≡ z) → AddsJump a b j line z
jump_added a b j line z o is far near =
    jumped a b line z (code_bytes (jump_by j o ∷ [])) (code_bytes (jump_by j z ∷ []))
    (ap length (sym (one (jump_by j o))) ∙ jump_size j o z ∙ ap length (one (jump_by j z))) is far
    (λ h. ap (λ (k : ℤ). code_bytes (jump_by j k ∷ [])) (near h))
