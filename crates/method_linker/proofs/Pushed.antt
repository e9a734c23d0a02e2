-- The text of a program, line by line and method by method.
use Rattle.method_linker.proofs.Common.{◌≡◌, ℕ, ◌+◌, ◌<◌, ◌≤◌, ℤ, List, [], ◌∷◌, ◌++◌, length, drop, map, get_or, None, sym, ap, ◌∙◌, zero-add, subst, arith}
use Rattle.method_linker.proofs.Common.{flat_map, enumerate_from, drop_all, drop_more, get_or_default, Instr, Text, Units, Adds, joined, no_code, then}
use Rattle.method_linker.proofs.Common.{code_bytes, AddsPart, AddsParts, AreUnits, no_parts, part_then, whole, CodeLine, ProgramView, UnitView, distance}
use Rattle.method_linker.proofs.Common.{layout_of, line_instr, line_jumps, method_part, unit_code, unit_jumps, AddsLine, AddsLines, AddsUnit}
use Rattle.std.proofs.lemmas.List.FromFn.{length-enumerate_from, get_or-enumerate_from}

-- ---- lines

line_at : (lines : List CodeLine) (i : ℕ) (d : CodeLine) → i < length lines →
    (i, get_or lines i d) ≡ get_or (enumerate_from 0 lines) i (i, get_or lines i d)
line_at lines i d h =
    let x = get_or lines i d in
    let e = get_or-enumerate_from 0 lines i (i, x) h in
    let same : get_or lines i x ≡ x = get_or_default lines i x d h in
    sym (e ∙ ap (λ y. (0 + i, y)) same ∙ ap (λ k. (k, x)) (zero-add i))

-- one more line
pub line_more : (first : ℕ) (lines : List CodeLine) (i : ℕ) (d : CodeLine) (far : ℤ) (a b end : Text) → i < length lines →
    far ≡ distance lines i (get_or lines i d).operation → AddsLine first a b (get_or lines i d) far →
    AddsLines first lines b end (drop (i + 1) (enumerate_from 0 lines)) → AddsLines first lines a end (drop i (enumerate_from 0 lines))
line_more first lines i d far a b end h is added rest =
    let x = get_or lines i d in
    let all = enumerate_from 0 lines in
    let inside : i < length all = omega (arith, length-enumerate_from 0 lines) in
    let item : drop i all ≡ (i, x) ∷ drop (i + 1) all =
    drop_more all i (i, x) inside ∙ ap (λ (y : ℕ × CodeLine). y ∷ drop (i + 1) all) (sym (line_at lines i d h)) in
    let one : Instr = line_instr first lines (i, x) in
    let more : List Instr = map (line_instr first lines) (drop (i + 1) all) in
    subst (AddsLines first lines a end) (sym item)
    (subst (λ (l : List ℕ). Adds a end l (line_jumps lines (i, x) ++ flat_map (line_jumps lines) (drop (i + 1) all))) (sym (joined (one ∷ []) more))
    (then a b end (code_bytes (one ∷ [])) (code_bytes more) (line_jumps lines (i, x)) (flat_map (line_jumps lines) (drop (i + 1) all))
    (subst (AddsLine first a b x) is added) rest))

-- no further line
pub lines_all : (first : ℕ) (lines : List CodeLine) (i : ℕ) (a b : Text) → length lines ≤ i →
    (AddsLines first lines b b (drop i (enumerate_from 0 lines)) → AddsLines first lines a b (enumerate_from 0 lines)) → AddsUnit first a b lines
unfolding unit_code unit_jumps
lines_all first lines i a b past all =
    all (subst (AddsLines first lines b b) (sym (drop_all i (enumerate_from 0 lines) (omega (arith, past, length-enumerate_from 0 lines)))) (no_code b))

-- ---- methods

-- one more method
pub method_more : (first : ℕ) (methods : List UnitView) (i : ℕ) (m : UnitView) (a b end : Units) → i < length methods → m ≡ get_or methods i m →
    AddsPart a b (method_part first m) → AddsParts b end (map (method_part first) (drop (i + 1) methods)) →
    AddsParts a end (map (method_part first) (drop i methods))
method_more first methods i m a b end h is added rest =
    subst (λ (ms : List UnitView). AddsParts a end (map (method_part first) ms))
    (sym (drop_more methods i m h ∙ ap (λ (y : UnitView). y ∷ drop (i + 1) methods) (sym is)))
    (part_then a b end (method_part first m) (map (method_part first) (drop (i + 1) methods)) added rest)

-- no further method
pub methods_all : (first : ℕ) (methods : List UnitView) (i : ℕ) (a : Units) → length methods ≤ i →
    AddsParts a a (map (method_part first) (drop i methods))
methods_all first methods i a past =
    subst (λ (ms : List UnitView). AddsParts a a (map (method_part first) ms)) (sym (drop_all i methods past)) (no_parts a)

-- ---- main's code and the methods together

pub units_all : (p : ProgramView) (a : Text) (b c : Units) → a.bytes.items ≡ [] → a.far ≡ None → AddsUnit (length p.constants) a b.text p.main.lines →
    b.entries.items ≡ [] → AddsParts b c (map (method_part (length p.constants)) p.methods) → AreUnits (layout_of p) c
unfolding layout_of
units_all p a b c empty near main none rest = whole (layout_of p) a b c empty near main none rest
