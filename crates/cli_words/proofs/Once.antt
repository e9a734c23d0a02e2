-- Each name is given at most once.
use Rattle.cli_words.proofs.Common.{◌≡◌, Bool, true, false, if◌then◌else◌, List, [], ◌∷◌, ◌++◌, Option, Some, None, refl, sym, subst, append_assoc, append-nil}
use Rattle.cli_words.proofs.Common.{option_and_then, same_Some}
use Rattle.cli_words.specs.Prelude.{Entry, Form, Look, NextWord, Rest, Text, add, any, dashes, has, is_complete, is_filled, is_in, is_value, long, look, only_plain, option_name, option_value, plain, read, read_any, read_end, read_flag, read_option, read_plain, read_word, reads, short, value, AreNewAfter, IsGiven, IsNew}

-- one more entry
new_more : (before es : List Entry) (e : Entry) → AreNewAfter before es → IsNew (before ++ es) e → AreNewAfter before (es ++ e ∷ [])
new_more before [] e are is = (subst (λ (g : List Entry). IsNew g e) (append-nil before) is, tt)
new_more before (x ∷ es) e are is = (are.0, new_more (before ++ x ∷ []) es e are.1 (subst (λ (g : List Entry). IsNew g e) (sym (append_assoc before (x ∷ []) es)) is))

-- the rest of the words keeps that each name is new
abbrev Keeps : Rest → Type 0
Keeps next = (left : List Text) (place : NextWord) (given result : List Entry) → AreNewAfter [] given → next left place given ≡ Some result → AreNewAfter [] result

abbrev KeepsOn : (List Entry → Option (List Entry)) → Type 0
KeepsOn next = (given result : List Entry) → AreNewAfter [] given → next given ≡ Some result → AreNewAfter [] result

by_add : (e : Entry) (given result : List Entry) (next : List Entry → Option (List Entry)) (had filled : Bool) → has e.0 given ≡ had → is_filled e.1 ≡ filled → KeepsOn next →
    AreNewAfter [] given → (if had then None else (if filled then next (given ++ e ∷ []) else None)) ≡ Some result → AreNewAfter [] result
by_add e given result next true filled had_is filled_is keeps are is = absurd (let none : None ≡ Some result = is in cc)
by_add e given result next false true had_is filled_is keeps are is = keeps (given ++ e ∷ []) result (new_more [] given e are (had_is, filled_is)) is
by_add e given result next false false had_is filled_is keeps are is = absurd (let none : None ≡ Some result = is in cc)

keeps_add : (e : Entry) (next : List Entry → Option (List Entry)) → KeepsOn next → KeepsOn (λ given. add e given next)
keeps_add e next keeps given result are is = by_add e given result next (has e.0 given) (is_filled e.1) refl refl keeps are is

keeps_plain : (word : Text) (left : List Text) (place : NextWord) (next : Rest) → Keeps next → KeepsOn (λ given. read_plain word left place given next)
keeps_plain word [] place next keeps = λ given result are is. absurd (let none : None ≡ Some result = is in cc)
keeps_plain word (name ∷ left) place next keeps = keeps_add (name, Some word) (next left place) (keeps left place)

keeps_option : (name : Text) (v : Option Text) (left : List Text) (next : Rest) → Keeps next → KeepsOn (λ given. read_option name v left given next)
keeps_option name (Some v) left next keeps = keeps_add (name, Some v) (next left any) (keeps left any)
keeps_option name None left next keeps = keeps left (value name)

keeps_flag : (name : Text) (v : Option Text) (left : List Text) (next : Rest) → Keeps next → KeepsOn (λ given. read_flag name v left given next)
keeps_flag name (Some v) left next keeps = λ given result are is. absurd (let none : None ≡ Some result = is in cc)
keeps_flag name None left next keeps = keeps_add (name, None) (next left any) (keeps left any)

by_kind : (option flag : Bool) (name : Text) (v : Option Text) (left : List Text) (next : Rest) → Keeps next →
    KeepsOn (λ given. if option then read_option name v left given next else (if flag then read_flag name v left given next else None))
by_kind true flag name v left next keeps = keeps_option name v left next keeps
by_kind false true name v left next keeps = keeps_flag name v left next keeps
by_kind false false name v left next keeps = λ given result are is. absurd (let none : None ≡ Some result = is in cc)

keeps_any : (f : Form) (l : Look) (word : Text) (left : List Text) (next : Rest) → Keeps next → KeepsOn (λ given. read_any f l word left given next)
keeps_any f plain word left next keeps = keeps_plain word left any next keeps
keeps_any f dashes word left next keeps = keeps left only_plain
keeps_any f (long text) word left next keeps =
    by_kind (is_in (option_name text) f.options) (is_in (option_name text) f.flags) (option_name text) (option_value text) left next keeps
keeps_any f short word left next keeps = λ given result are is. absurd (let none : None ≡ Some result = is in cc)

by_value : (fits : Bool) (name word : Text) (left : List Text) (next : Rest) → Keeps next → KeepsOn (λ given. if fits then add (name, Some word) given (next left any) else None)
by_value true name word left next keeps = keeps_add (name, Some word) (next left any) (keeps left any)
by_value false name word left next keeps = λ given result are is. absurd (let none : None ≡ Some result = is in cc)

keeps_word : (f : Form) (word : Text) (next : Rest) → Keeps next → Keeps (read_word f word next)
keeps_word f word next keeps left any = keeps_any f (look word) word left next keeps
keeps_word f word next keeps left (value name) = by_value (is_value (look word)) name word left next keeps
keeps_word f word next keeps left only_plain = keeps_plain word left only_plain next keeps

keeps_end : (place : NextWord) → KeepsOn (read_end place)
keeps_end any given result are is = subst (λ (g : List Entry). AreNewAfter [] g) (same_Some given result is) are
keeps_end (value name) given result are is = absurd (let none : None ≡ Some result = is in cc)
keeps_end only_plain given result are is = subst (λ (g : List Entry). AreNewAfter [] g) (same_Some given result is) are

keeps_read : (f : Form) (words : List Text) → Keeps (read f words)
unfolding read
keeps_read f [] = λ left place. keeps_end place
keeps_read f (word ∷ words) = keeps_word f word (read f words) (keeps_read f words)

whole : (f : Form) (g given : List Entry) (t : Bool) → is_complete f g ≡ t → AreNewAfter [] g → (if t then Some g else None) ≡ Some given → IsGiven f given
whole f g given true complete are is = subst (IsGiven f) (same_Some g given is) (record { once = are; complete = complete })
whole f g given false complete are is = absurd (let none : None ≡ Some given = is in cc)

pub given_once : (f : Form) (words : List Text) (given : List Entry) → reads f words ≡ Some given → IsGiven f given
given_once f words given = by (read f words f.plain any []) refl
  where
    by : (o : Option (List Entry)) → read f words f.plain any [] ≡ o → option_and_then (λ g. if is_complete f g then Some g else None) o ≡ Some given → IsGiven f given
    by None was is = absurd (let none : None ≡ Some given = is in cc)
    by (Some g) was is = whole f g given (is_complete f g) refl (keeps_read f words f.plain any [] g tt was) is
