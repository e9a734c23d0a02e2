-- The canonical text of a statement spells that statement.
use Rattle.mal_print.proofs.Common.{◌≡◌, ℕ, zero, suc, ◌<◌, ◌≤◌, ◌/◌, ◌%◌, Bool, true, false, List, [], ◌∷◌, ◌++◌, Option, Some, None, refl, ap, ◌∙◌, inl}
use Rattle.mal_print.proofs.Common.{arith, ◌&&◌, ◌||◌, ◌^◌, IfSome, Ok, codes, nat_lt, option_map, pos, digit_char, AllByRecursion as Each, list_all, nat_tests}
use Rattle.mal_print.proofs.Common.{Machine, Part, is_part, hex_text, is_name_byte, number_of, Token, IsLabelText, label_lexeme, number_lexeme, sign_lexeme}
use Rattle.mal_print.proofs.Common.{word_lexeme, IsLexeme, Parts, Content, Form, Next}
use Rattle.std.specs.Fmt.{digits}
use Rattle.mal_tokens.specs.declared.sign.Sign.TheVariants as signs
use Rattle.mal_tokens.specs.declared.token.Token.TheVariants as tokens
use Rattle.mal_line.specs.declared.content.Content.TheVariants as contents
use Rattle.mal_line.specs.declared.line.Form.TheVariants as forms
use Rattle.mal_line.specs.declared.next.Next.TheVariants as nexts
use Rattle.mal_line.specs.Prelude.{content_of, is_foreign, IsForm, names_foreign, next_by_jump, part_by, part_of, parts_by, parts_of, with_access, EachTarget}
use Rattle.mal_print.specs.Prelude.{IsLineOf, address_of, number_text, printed, fallback, fix, HasLabels, is_absent, labelled, or_semicolon, parts, statement}
use Rattle.mal_print.proofs.Chained.{absent_bare}
use Rattle.mal_print.proofs.Each.{each_lone, each_parts, Stands}
use Rattle.mal_print.proofs.Fitting.{Fits, part_fits}
use Rattle.mal_print.proofs.Parted.{assigned_by, jump_of, or_semicolon_is, or_semicolon_some, tree_for, tree_is}
use Rattle.mal_print.proofs.Plain.{all_append, plain_printed}
use Rattle.mal_print.proofs.Spelling.{AreLexemes, IsShown, prints, shown_lexemes}

-- ---- what the parts say

part_again : (m : Machine) (part : Part) (next : Next (List ℕ)) → Fits m part → part_of (tree_for part next) ≡ Some part
part_again m part next h = go (is_absent part) refl
  where
    go : (absent : Bool) → is_absent part ≡ absent → option_map (with_access (tree_for part next)) (part_by (assigned_by absent part)) ≡ Some part
    go true e = ap Some (absent_bare m part h e)
    go false e = refl

next_again : (next : Next (List ℕ)) → next_by_jump (jump_of next) ≡ Some next
next_again nexts.Following = refl
next_again _ = refl

parts_again : (m : Machine) (p : Parts) → Fits m p.part → parts_of (tree_for p.part p.next) ≡ Some p
parts_again m p h = ap (λ o. parts_by o (next_by_jump (jump_of p.next))) (part_again m p.part p.next h) ∙ ap (parts_by (Some p.part)) (next_again p.next)

-- ---- what holds of each token

-- no word of the other machine
abbrev pub IsOwn : Machine → Token → Type 0
IsOwn m t = is_foreign m t ≡ false

own_targets : (m : Machine) (next : Next (List ℕ)) → EachTarget (IsOwn m) (labelled next)
own_targets m nexts.Following = tt
own_targets m (nexts.Goto label) = refl
own_targets m (nexts.Dispatch high) = tt
own_targets m (nexts.Branch test high low) = (refl, refl)

own_parts : (m : Machine) (part : Part) (next : Next (List ℕ)) → Fits m part → Each (IsOwn m) (parts m part (labelled next))
own_parts m part next f =
    let of : Stands (IsOwn m) m = record { word = λ w h. h; sign = λ s h. refl; zero = refl; one = refl; eight = refl; offset = refl } in
    each_parts (IsOwn m) m of refl part (labelled next) f (own_targets m next)

own_all : (m : Machine) (ts : List Token) → Each (IsOwn m) ts → names_foreign m ts ≡ false
own_all m [] h = refl
own_all m (t ∷ ts) h = ap (λ b. b || names_foreign m ts) h.0 ∙ own_all m ts h.1

shown_targets : (next : Next (List ℕ)) → HasLabels next → EachTarget IsShown (labelled next)
shown_targets nexts.Following h = tt
shown_targets (nexts.Goto label) h = λ b. label_lexeme label h
shown_targets (nexts.Dispatch high) h = tt
shown_targets (nexts.Branch test high low) h = (λ b. label_lexeme high h.0, λ b. label_lexeme low h.1)

shown_parts : (m : Machine) (part : Part) (next : Next (List ℕ)) → Fits m part → HasLabels next → Each IsShown (parts m part (labelled next))
unfolding number_of hex_text digits
shown_parts m part next f h =
    let of : Stands IsShown m = record {
      word = λ w h b. word_lexeme w;
      sign = λ s h b. sign_lexeme s;
      zero = elim [ true ↦ (refl, refl, refl) | false ↦ (refl, refl, refl) ];
      one = elim [ true ↦ (refl, refl, refl) | false ↦ (refl, refl, refl) ];
      eight = elim [ true ↦ (refl, refl, refl) | false ↦ (refl, refl, refl) ];
      offset = elim [ true ↦ (refl, refl, refl) | false ↦ (refl, refl, refl) ];
    } in
    each_parts IsShown m of (λ b. sign_lexeme signs.Semicolon) part (labelled next) f (shown_targets next h)

shown_label : (label : List ℕ) → IsLabelText label → IsShown (tokens.Name label)
shown_label label h = λ b. label_lexeme label h

-- ---- lines

line_of : (m : Machine) (ts : List Token) (form : Form) (content : Content) → AreLexemes false ts → Each (IsOwn m) ts → IsForm m ts form
    → content_of form ≡ Some content → IsLineOf m (printed ts) content
line_of m ts form content l own has says =
    record {
      sequence = ts;
      plain = plain_printed false ts l;
      spelled = prints false ts l;
      means = record { form = form; has = has; own = own_all m ts own; says = says };
    }

pub statement_said : (m : Machine) (label : Option (List ℕ)) (p : Parts) → is_part m p.part ≡ true → IfSome label IsLabelText → HasLabels p.next
    → IsLineOf m (printed (statement m label p.part (labelled p.next))) (contents.Statement label p)
statement_said m None p h l n =
    let f = part_fits m p.part h in
    let ts = parts m p.part (labelled p.next) in
    line_of m (or_semicolon ts) (forms.Statement None (tree_for p.part p.next)) (contents.Statement None p)
    (shown_lexemes false (or_semicolon ts) (each_lone IsShown (λ b. sign_lexeme signs.Semicolon) ts (shown_parts m p.part p.next f n)))
    (each_lone (IsOwn m) refl ts (own_parts m p.part p.next f))
    (or_semicolon_some ts, or_semicolon_is m p.part p.next f)
    (ap (option_map (λ p. contents.Statement None p)) (parts_again m p f))
statement_said m (Some label) p h l n =
    let f = part_fits m p.part h in
    let ts = parts m p.part (labelled p.next) in
    line_of m (tokens.Name label ∷ ts) (forms.Statement (Some label) (tree_for p.part p.next)) (contents.Statement (Some label) p)
    (shown_lexemes false (tokens.Name label ∷ ts) ((λ b. label_lexeme label l), shown_parts m p.part p.next f n))
    (refl, own_parts m p.part p.next f)
    (ts, inl refl, tree_is m p.part p.next f)
    (ap (option_map (λ p. contents.Statement (Some label) p)) (parts_again m p f))

pub fallback_said : (m : Machine) (p : Parts) → is_part m p.part ≡ true → HasLabels p.next → IsLineOf m (printed (fallback m p.part (labelled p.next))) (contents.Fallback p)
fallback_said m p h n =
    let f = part_fits m p.part h in
    let ts = parts m p.part (labelled p.next) in
    line_of m (tokens.Sign signs.Default ∷ ts) (forms.Fallback (tree_for p.part p.next)) (contents.Fallback p)
    (shown_lexemes false (tokens.Sign signs.Default ∷ ts) ((λ b. sign_lexeme signs.Default), shown_parts m p.part p.next f n))
    (refl, own_parts m p.part p.next f)
    (ts, refl, tree_is m p.part p.next f)
    (ap (option_map (λ p. contents.Fallback p)) (parts_again m p f))

-- ---- addresses

hex_name : (n value : ℕ) → list_all is_name_byte (hex_text n value) ≡ true
unfolding hex_text
hex_name zero value = refl
hex_name (suc n) value = all_append is_name_byte (hex_text n (value / 16)) (digit_char (value % 16) ∷ []) (hex_name n (value / 16)) (digit_name (value % 16) (omega arith))
  where
    digit_name : (d : ℕ) → d < 16 → (is_name_byte (digit_char d) && true) ≡ true
    digit_name d h = grind arith

-- digits after `0x` are read as their value
abbrev pub ReadsHex : Type 0
ReadsHex = (digits value : ℕ) → 1 ≤ digits → value < 16 ^ digits → value < 2 ^ 32 → number_of (codes "0x" ++ hex_text digits value) ≡ Ok (pos value)

shown_address : ReadsHex → (address : ℕ) → address < 512 → IsLexeme (tokens.Number (pos address)) (number_text true (address_of (pos address)) (pos address))
shown_address hex address lt =
    let few : nat_lt address 4096 ≡ true = grind (arith, nat_tests) in
    rw few (number_lexeme (codes "0x" ++ hex_text 3 address) (pos address) refl (hex_name 3 address)
    (hex 3 address (omega arith) (omega (arith, lt)) (omega (arith, lt))))

pub fix_said : ReadsHex → (m : Machine) (label : List ℕ) (address : ℕ) → IsLabelText label → address < 512 → IsLineOf m (printed (fix label address)) (contents.Fix label (pos address))
fix_said hex m label address l lt =
    line_of m (fix label address) (forms.Fix label (pos address)) (contents.Fix label (pos address))
    (sign_lexeme signs.Label, (label_lexeme label l, (shown_address hex address lt, tt))) (refl, (refl, (refl, tt))) refl refl
