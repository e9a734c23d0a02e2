-- What is appended to units, part by part.
use Rattle.std.proofs.Common.{◌≡◌, ℕ, suc, ◌+◌, List, [], ◌∷◌, ◌++◌, length, None, sym, ap, ◌∙◌, refl, append_assoc}
use Rattle.std.proofs.lemmas.List.{append-nil}
use Rattle.ijvm_text.specs.declared.text.Text.{Text}
use Rattle.ijvm_text.specs.declared.units.Units.{Units}
use Rattle.ijvm_text.specs.Adds.{Adds, IsText}
use Rattle.ijvm_text.specs.Adding.{is_text, nothing, then}
use Rattle.ijvm_text.specs.Layout.{Layout, Part, begins, bytes_of, jumps_in, jumps_of, text_of}

-- this part is added to the old units
pub record AddsPart (old new : Units) (part : Part) : Type 0 where
  pub text : Adds old.text new.text part.bytes part.jumps
  pub entries : new.entries.items ≡ old.entries.items ++ length old.text.bytes.items ∷ []

-- these parts are added, one after the other
pub record AddsParts (old new : Units) (parts : List Part) : Type 0 where
  pub text : Adds old.text new.text (bytes_of parts) (jumps_in parts)
  pub entries : new.entries.items ≡ old.entries.items ++ begins (length old.text.bytes.items) parts

-- the units are those of the layout; where a jump is too far, only the number of the text's bytes is kept
pub record AreUnits (l : Layout) (units : Units) : Type 0 where
  pub text : IsText units.text (text_of l) (jumps_of l)
  pub entries : units.entries.items ≡ begins (length l.main.bytes) l.methods

pub no_parts : (a : Units) → AddsParts a a []
no_parts a = record { text = nothing a.text; entries = sym (append-nil a.entries.items) }

pub part_then : (a b c : Units) (p : Part) (ps : List Part) → AddsPart a b p → AddsParts b c ps → AddsParts a c (p ∷ ps)
part_then a b c p ps h k =
    let begin : ℕ = length a.text.bytes.items in
    record {
      text = then a.text b.text c.text p.bytes (bytes_of ps) p.jumps (jumps_in ps) h.text k.text;
      entries = k.entries ∙ ap (λ (l : List ℕ). l ++ begins (length b.text.bytes.items) ps) h.entries
          ∙ append_assoc a.entries.items (begin ∷ []) (begins (length b.text.bytes.items) ps)
          ∙ ap (λ (n : ℕ). a.entries.items ++ (begin ∷ begins n ps)) h.text.size;
    }

-- main's code, and then the methods
pub whole : (l : Layout) (a : Text) (b c : Units) → a.bytes.items ≡ [] → a.far ≡ None → Adds a b.text l.main.bytes l.main.jumps →
    b.entries.items ≡ [] → AddsParts b c l.methods → AreUnits l c
whole l a b c empty near main none rest =
    record {
      text = is_text a c.text (text_of l) (jumps_of l) empty near
          (then a b.text c.text l.main.bytes (bytes_of l.methods) l.main.jumps (jumps_in l.methods) main rest.text);
      entries = rest.entries ∙ ap (λ (e : List ℕ). e ++ begins (length b.text.bytes.items) l.methods) none
          ∙ ap (λ (n : ℕ). begins n l.methods) (is_text a b.text l.main.bytes l.main.jumps empty near main).size;
    }

pub length-begins : (at : ℕ) (ps : List Part) → length (begins at ps) ≡ length ps
length-begins at [] = refl
length-begins at (p ∷ ps) = ap suc (length-begins (at + length p.bytes) ps)
