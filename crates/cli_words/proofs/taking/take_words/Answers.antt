use Rattle.cli_words.proofs.Common.{◌≡◌, ◌∙◌, sym, refl, arith, ◌<◌, length, List, [], ◌∷◌, None, Some, IsUtf8, inl, inr, Bool, true, false, ◌&&◌, subst, codes}
use Rattle.cli_words.proofs.Common.{string_bytes, All, All-map, HasKind, IsAmong, Kinds, App, HasMatchesOf, app_of, kind_of, Error, OutOfMemory, ArgMatches}
use Rattle.clap.specs.Faults.{fault_of, is_simple_and_free}
use Rattle.cli_words.specs.Prelude.{Entry, Form, Text, reads, HoldsGiven, app_for, bytes_of, form_of}
use Rattle.cli_words.proofs.Rules.{app_is, free_for}
use Rattle.cli_words.proofs.Ends.{Agrees, agrees_with}
use Rattle.cli_words.proofs.Getting.{holds}
use Rattle.cli_words.proofs.taking.take_words.Goals as goal

-- the command of a row, as clap's clauses see it
agrees : (name : Text) (f : Form) (words : List Text) (a : App) → a ≡ app_for name f → length f.plain < 100 → All IsUtf8 words → Agrees a f words
agrees name f words a is_app few utf8 = subst (λ (b : App). Agrees b f words) (sym (is_app ∙ app_is name f)) (agrees_with name f words (omega arith) utf8)

is_free : (name : Text) (f : Form) (a : App) → a ≡ app_for name f → is_simple_and_free a ≡ true
is_free name f a is_app = subst (λ (b : App). is_simple_and_free b ≡ true) (sym (is_app ∙ app_is name f)) (free_for name f)

first_true : (b d : Bool) → (b && d) ≡ true → b ≡ true
first_true true d h = refl
first_true false d h = cc

taken : (f : Form) (a : App) (words : List Text) (m : ArgMatches) → is_simple_and_free a ≡ true → Agrees a f words → fault_of a words ≡ [] → HasMatchesOf a words m
    → (g : List Entry) × (reads f words ≡ Some g) × HoldsGiven f g m
taken f a words m free (inl h) passes matches = (h.0, h.1, holds f h.0 m ((matches (first_true _ _ free)).0 ∙ h.3))
taken f a words m free (inr h) passes matches = let bad : [] ≡ h.1.0 ∷ h.1.1 = sym passes ∙ h.1.2 in cc

refused : (f : Form) (a : App) (words : List Text) (e : Error) → Agrees a f words → HasKind (fault_of a words) e → (kind_of e ≡ OutOfMemory → ⊥) → reads f words ≡ None
refused f a words e (inr h) k other = h.0
refused f a words e (inl h) (inl memory) other = absurd (other memory)
refused f a words e (inl h) (inr among) other = absurd (subst (λ (ks : Kinds). IsAmong (kind_of e) ks) h.2 among)

pub returns-in-Ok-try_get_matches_from : goal.returns-in-Ok-try_get_matches_from
returns-in-Ok-try_get_matches_from c =
    let f = form_of c.args.row.now in
    let utf8 : All IsUtf8 (bytes_of c.args.words.now) = All-map IsUtf8 string_bytes c.args.words.now c.note_texts.ensures in
    let a = app_of c.in-Ok.command in
    let free = is_free (codes "mic") f a c.in-Ok.ensures in
    taken f a (bytes_of c.args.words.now) c.in-Ok-try_get_matches_from.matches free
    (agrees (codes "mic") f (bytes_of c.args.words.now) a c.in-Ok.ensures c.requires utf8)
    (c.in-Ok-try_get_matches_from.ensures.kinds free) c.in-Ok-try_get_matches_from.ensures.matches

pub returns : goal.returns
returns c =
    let f = form_of c.args.row.now in
    let utf8 : All IsUtf8 (bytes_of c.args.words.now) = All-map IsUtf8 string_bytes c.args.words.now c.note_texts.ensures in
    let a = app_of c.in-Ok.command in
    refused f a (bytes_of c.args.words.now) c.in-Err-try_get_matches_from.error
    (agrees (codes "mic") f (bytes_of c.args.words.now) a c.in-Ok.ensures c.requires utf8)
    (c.in-Err-try_get_matches_from.ensures.kinds (is_free (codes "mic") f a c.in-Ok.ensures))
    (λ memory. c.in_default.not-OutOfMemory (c.kind.ensures ∙ memory))
