-- What tokens say at the place where they stand, and which lines are those of sections.
use Rattle.ijvm_asm.proofs.Common.{◌≡◌, ℕ, ◌+◌, List, [], ◌∷◌, Some, None, length, refl, ap, sym, subst, ◌∙◌, Result, Ok, Err, ⊤, Token, Place, Form, Content}
use Rattle.ijvm_asm.proofs.Common.{LineFault, IsForm, parameters, mark_place, instruction_of, made, word, line_from}
use Rattle.ijvm_line.specs.declared.place.Place.TheVariants as places
use Rattle.ijvm_line.specs.declared.form.Form.TheVariants as forms
use Rattle.ijvm_line.specs.declared.content.Content.TheVariants as contents
use Rattle.ijvm_line.specs.Lines as lines
use Rattle.ijvm_asm.specs.Prelude.{BlankAt, Heads, line_meant, Lists, place_of, Said, said_at, Says, lines_of, Section, section_lines, declarations_of, empty, Source, Declarations, IsSource, ReadsLines, said_next}
use Rattle.ijvm_asm.proofs.Building.{Build}
use Rattle.ijvm_asm.proofs.Declaring.{declared_make, sections_declare}
use Rattle.ijvm_asm.proofs.Fronts.{same_end}
use Rattle.ijvm_asm.proofs.InOrder.{ends_outside, from_order, in_order}
use Rattle.ijvm_asm.proofs.Made.{SectionsMake}
use Rattle.ijvm_asm.proofs.Sectioning.{left_of}

-- ---- where a line stands

abbrev ok : {A : Type 0} → A → Result A LineFault
ok a = Ok a

same_ok : {A : Type 0} (P : A → Type 0) (a b : A) → ok a ≡ ok b → P a → P b
same_ok P a b e h = let q : a ≡ b = cc in subst P q h

of_made : {A B : Type 0} (P : B → Type 0) (f : A → B) (b : B) (r : Result A LineFault) → made f r ≡ Ok b → ((a : A) → r ≡ Ok a → P (f a)) → P b
of_made P f b (Ok a) e h = same_ok P (f a) b e (h a refl)
of_made P f b (Err x) e h = absurd (cc)

abbrev StandsAt : Place → Content → Type 0
StandsAt p contents.Nothing = ⊤
StandsAt p (contents.Mark m) = p ≡ mark_place m
StandsAt p (contents.Method n) = p ≡ places.Outside
StandsAt p (contents.Constant n v) = p ≡ places.Constants
StandsAt p (contents.Local n) = p ≡ places.Locals
StandsAt p (contents.Code l i) = p ≡ places.Code

form_stands : (p : Place) (ts : List Token) (f : Form) → IsForm p ts f → (m : Content) → lines.content_of f ≡ Ok m → StandsAt p m
form_stands p ts forms.Nothing h m e = same_ok (StandsAt p) contents.Nothing m e tt
form_stands p ts (forms.Mark mark) h m e = same_ok (StandsAt p) (contents.Mark mark) m e h.0
form_stands p ts (forms.Method n) h m e = same_ok (StandsAt p) (contents.Method n) m e h.0
form_stands p ts (forms.Constant n v) h m e = of_made (StandsAt p) (λ w. contents.Constant n w) m (word v) e (λ w _. h.0)
form_stands p ts (forms.Local n) h m e = same_ok (StandsAt p) (contents.Local n) m e h.0
form_stands p ts (forms.Code l None) h m e = same_ok (StandsAt p) (contents.Code l None) m e h.0
form_stands p ts (forms.Code l (Some st)) h m e = of_made (StandsAt p) (λ i. contents.Code l (Some i)) m (instruction_of st) e (λ i _. h.0)

stands : (p : Place) (ts : List Token) (m : Content) → lines.SpellsLine p ts m → StandsAt p m
stands p ts m s = form_stands p ts s.form s.has m s.says

-- ---- what tokens say at the place of the next line

module _ (laws : ReadsLines) (s : Source) (ts : List Token) where
  at_place : (p : Place) (m : Content) → s.place ≡ p → lines.SpellsLine s.place ts m → lines.SpellsLine p ts m
  at_place p m e w = subst (λ p. lines.SpellsLine p ts m) e w

  said_is : (m : Content) → lines.SpellsLine s.place ts m → StandsAt s.place m
      → Says ts (said_at s.place (parameters ts) m) × (s.place ≡ place_of (said_at s.place (parameters ts) m))
  said_is contents.Nothing w e = ((w, tt), refl)
  said_is (contents.Mark mark) w e = ((at_place (mark_place mark) (contents.Mark mark) e w, tt), e)
  said_is (contents.Method n) w e = ((at_place places.Outside (contents.Method n) e w, refl), e)
  said_is (contents.Constant n v) w e = ((at_place places.Constants (contents.Constant n v) e w, tt), e)
  said_is (contents.Local n) w e = ((at_place places.Locals (contents.Local n) e w, tt), e)
  said_is (contents.Code l i) w e = ((at_place places.Code (contents.Code l i) e w, tt), e)

  said_again : (x : Said) → Lists ts x → s.place ≡ place_of x → said_at s.place (parameters ts) (line_meant x) ≡ x
  said_again (BlankAt p) w e = ap (λ p. BlankAt p) e
  said_again (Heads n ps) w e = ap (λ qs. Heads n qs) w
  said_again _ w e = refl

  pub next_says : (x : Said) → said_next s ts ≡ Ok x → Says ts x × (s.place ≡ place_of x)
  next_says x h =
      of_made (λ x. Says ts x × (s.place ≡ place_of x)) (said_at s.place (parameters ts)) x (line_from s.place ts) h
      (λ m e. let w = (laws.said s.place ts m).0 e in said_is m w (stands s.place ts m w))

  pub says_next : (x : Said) → Says ts x × (s.place ≡ place_of x) → said_next s ts ≡ Ok x
  says_next x (w, e) =
      ap (made (said_at s.place (parameters ts))) ((laws.said s.place ts (line_meant x)).1 (subst (λ p. lines.SpellsLine p ts (line_meant x)) (sym e) w.0))
      ∙ ap Ok (said_again x w.1 e)

  pub next_refused : (f : LineFault) → said_next s ts ≡ Err f → lines.IsRefused s.place ts f
  next_refused f h = go (line_from s.place ts) refl h
    where
      go : (r : Result Content LineFault) → line_from s.place ts ≡ r → made (said_at s.place (parameters ts)) r ≡ Err f → lines.IsRefused s.place ts f
      go (Ok m) e h = absurd (cc)
      go (Err g) e h = let q : g ≡ f = cc in (laws.refused s.place ts f).0 (e ∙ ap Err q)

  pub refused_next : (f : LineFault) → lines.IsRefused s.place ts f → said_next s ts ≡ Err f
  refused_next f w = ap (made (said_at s.place (parameters ts))) ((laws.refused s.place ts f).1 w)

-- ---- all lines

-- what sections make stands outside of them
made_outside : (xs : List Section) (k : ℕ) (s t : Source) → s.place ≡ places.Outside → SectionsMake k s xs t → t.place ≡ places.Outside
made_outside [] k s t e m = ap (λ w. w.place) (sym m) ∙ e
made_outside (x ∷ xs) k s t e (u, m, more) = made_outside xs (k + length (section_lines x [])) u t (ends_outside x k s u e m) more

-- the lines are those of sections, which make this of the reader's record
pub record AreSections (xs : List Said) (s : Source) : Type 0 where
  pub sections : List Section
  pub are : xs ≡ lines_of sections
  pub made : SectionsMake 1 empty sections s

module _ (xs : List Said) (s : Source) (b : Build 1 empty xs s) where
  pub made_of : s.place ≡ places.Outside → AreSections xs s
  made_of outside =
      let left : (rest : List Section) × (xs ≡ lines_of rest) = left_of xs 1 empty s outside b in
      record { sections = left.0; are = left.1; made = in_order left.0 1 empty s refl (subst (λ xs. Build 1 empty xs s) left.1 b) }

  pub source_of : s.place ≡ places.Outside → IsSource xs (declarations_of s)
  source_of outside = let w = made_of outside in record { sections = w.sections; are = w.are; made = sections_declare w.sections 1 empty s refl w.made }

  pub of_source : (d : Declarations) → IsSource xs d → (s.place ≡ places.Outside) × (declarations_of s ≡ d)
  of_source d w =
      let m = declared_make w.sections 1 empty d refl w.made in
      let e = same_end xs 1 empty m.0 s (subst (λ ws. Build 1 empty ws m.0) (sym w.are) (from_order w.sections 1 empty m.0 refl m.1)) b in
      (subst (λ (t : Source). t.place ≡ places.Outside) e (made_outside w.sections 1 empty m.0 refl m.1), subst (λ t. declarations_of t ≡ d) e m.2)
