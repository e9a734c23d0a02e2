-- The lines of sections make what the sections make, one after the other.
use Rattle.ijvm_asm.proofs.Common.{◌≡◌, ℕ, ◌+◌, List, [], ◌∷◌, ◌++◌, map, replicate, length, Option, Some, None, refl, ap, sym, subst, ◌∙◌, append_assoc, Mark}
use Rattle.ijvm_line.specs.declared.place.Mark.TheVariants as marks
use Rattle.ijvm_line.specs.declared.place.Place.TheVariants as places
use Rattle.ijvm_asm.specs.Prelude.{BlankAt, Dotted, Heads, Said, Between, Body, body_lines, code_line, constant_line, Constants, lines_of, local_line, Locals, locals_lines, Main, Method, Section, section_lines, Source}
use Rattle.ijvm_asm.proofs.Made.{Makes, SectionsMake}
use Rattle.ijvm_asm.proofs.Building.{Build, join, split}
use Rattle.ijvm_asm.proofs.Constants.{makes_section, section_makes}
use Rattle.ijvm_asm.proofs.Mains.{main_makes, makes_main}
use Rattle.ijvm_asm.proofs.Methods.{makes_method, method_makes}

-- ---- one section

lines_make : (x : Section) (k : ℕ) (s u : Source) → s.place ≡ places.Outside → Build k s (section_lines x []) u → Makes k s x u
lines_make Between k s u e (v, p, h, m) = let q : s ≡ v = cc in q ∙ m
lines_make (Constants items) k s u e b = section_makes k s u items e b
lines_make (Main body) k s u e b = main_makes k s u body e b
lines_make (Method n ps body) k s u e b = method_makes k s u n ps body e b

make_lines : (x : Section) (k : ℕ) (s u : Source) → s.place ≡ places.Outside → Makes k s x u → Build k s (section_lines x []) u
make_lines Between k s u e m = (s, e, refl, m)
make_lines (Constants items) k s u e m = makes_section k s u items e m
make_lines (Main body) k s u e m = makes_main k s u body e m
make_lines (Method n ps body) k s u e m = makes_method k s u n ps body e m

-- after a section the next one begins
pub ends_outside : (x : Section) (k : ℕ) (s u : Source) → s.place ≡ places.Outside → Makes k s x u → u.place ≡ places.Outside
ends_outside Between k s u e m = ap (λ w. w.place) (sym m) ∙ e
ends_outside (Constants items) k s u e (n, new, q) = ap (λ w. w.place) q
ends_outside (Main body) k s u e m = ap (λ w. w.place) m.ends
ends_outside (Method n ps body) k s u e m = ap (λ w. w.place) m.ends

-- ---- the lines of a section, before those of the others

locals_before : (o : Option Locals) (zs ys : List Said) → locals_lines o (zs ++ ys) ≡ locals_lines o zs ++ ys
locals_before None zs ys = refl
locals_before (Some d) zs ys =
    ap (λ ws. replicate d.blank_lines (BlankAt places.Code) ++ (Dotted marks.BeginLocals ∷ ws)) (sym (append_assoc (map local_line d.names) (Dotted marks.EndLocals ∷ zs) ys))
    ∙ sym (append_assoc (replicate d.blank_lines (BlankAt places.Code)) (Dotted marks.BeginLocals ∷ (map local_line d.names ++ (Dotted marks.EndLocals ∷ zs))) ys)

body_before : (b : Body) (m : Mark) (ys : List Said) → body_lines b (Dotted m ∷ ys) ≡ body_lines b (Dotted m ∷ []) ++ ys
body_before b m ys = ap (locals_lines b.locals) (sym (append_assoc (map code_line b.code) (Dotted m ∷ []) ys)) ∙ locals_before b.locals (map code_line b.code ++ (Dotted m ∷ [])) ys

section_before : (x : Section) (ys : List Said) → section_lines x ys ≡ section_lines x [] ++ ys
section_before Between ys = refl
section_before (Constants items) ys = ap (λ ws. Dotted marks.BeginConstants ∷ ws) (sym (append_assoc (map constant_line items) (Dotted marks.EndConstants ∷ []) ys))
section_before (Main b) ys = ap (λ ws. Dotted marks.BeginMain ∷ ws) (body_before b marks.EndMain ys)
section_before (Method n ps b) ys = ap (λ ws. Heads n ps ∷ ws) (body_before b marks.EndMethod ys)

-- ---- sections

pub in_order : (xs : List Section) (k : ℕ) (s t : Source) → s.place ≡ places.Outside → Build k s (lines_of xs) t → SectionsMake k s xs t
in_order [] k s t e b = b
in_order (x ∷ xs) k s t e b =
    let r = split (section_lines x []) (lines_of xs) k s t (subst (λ ws. Build k s ws t) (section_before x (lines_of xs)) b) in
    let m : Makes k s x r.0 = lines_make x k s r.0 e r.1 in
    (r.0, m, in_order xs (k + length (section_lines x [])) r.0 t (ends_outside x k s r.0 e m) r.2)

pub from_order : (xs : List Section) (k : ℕ) (s t : Source) → s.place ≡ places.Outside → SectionsMake k s xs t → Build k s (lines_of xs) t
from_order [] k s t e b = b
from_order (x ∷ xs) k s t e (u, m, more) =
    subst (λ ws. Build k s ws t) (sym (section_before x (lines_of xs)))
    (join (section_lines x []) (lines_of xs) k s u t (make_lines x k s u e m)
    (from_order xs (k + length (section_lines x [])) u t (ends_outside x k s u e m) more))
