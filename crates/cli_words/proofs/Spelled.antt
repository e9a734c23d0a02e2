-- What is read of a command line is written there.
use Rattle.cli_words.proofs.Common.{◌≡◌, ◌∙◌, ℕ, zero, suc, arith, Bool, true, false, if◌then◌else◌, List, [], ◌∷◌, ◌++◌, Option, Some, None, ◌⊎◌, inl, inr}
use Rattle.cli_words.proofs.Common.{refl, sym, ap, subst, append_assoc, append-nil, ◌==◌, option_and_then, after_first, eqb-true, same_Some}
use Rattle.clap.proofs.CutLemmas.{Lacks, after_first-at, before_first-Lacks, before_first-at, list_any-Lacks, list_any-at}
use Rattle.cli_words.specs.Prelude.{Entry, Form, Look, NextWord, Rest, Text, add, any, dashes, has, is_complete, is_filled, is_in, is_value, long, look, look_after_one, look_after_two, only_plain, option_name, option_value, plain, read, read_any, read_end, read_flag, read_long, read_option, read_plain, read_word, reads, short, value, Plain, Apart, Joined, Flag, Dashes, ArePlain, IsLine, IsNameOf, IsSpelled, IsSpelledBy, has_equals}

-- ---- words by their look

abbrev WordOf : Look → Text → Type 0
WordOf dashes word = word ≡ 45 ∷ 45 ∷ []
WordOf (long text) word = word ≡ 45 ∷ 45 ∷ text
WordOf plain word = Unit {0}
WordOf short word = Unit {0}

word_of_two : (rest : Text) → WordOf (look_after_two rest) (45 ∷ 45 ∷ rest)
word_of_two [] = refl
word_of_two (x ∷ rest) = refl

word_of_one : (rest : Text) → WordOf (look_after_one rest) (45 ∷ rest)
word_of_one [] = tt
word_of_one (x ∷ rest) = by (x == 45) refl
  where
    by : (b : Bool) → (x == 45) ≡ b → WordOf (if b then look_after_two rest else short) (45 ∷ x ∷ rest)
    by true is = subst (λ (y : ℕ). WordOf (look_after_two rest) (45 ∷ y ∷ rest)) (sym (eqb-true x 45 is)) (word_of_two rest)
    by false is = tt

word_of : (word : Text) → WordOf (look word) word
word_of [] = tt
word_of (x ∷ rest) = by (x == 45) refl
  where
    by : (b : Bool) → (x == 45) ≡ b → WordOf (if b then look_after_one rest else plain) (x ∷ rest)
    by true is = subst (λ (y : ℕ). WordOf (look_after_one rest) (y ∷ rest)) (sym (eqb-true x 45 is)) (word_of_one rest)
    by false is = tt

-- ---- a word before and after its first `=`

abbrev is_equals : ℕ → Bool
is_equals x = x == 61

record HasCut (text : Text) : Type 0 where
  before : Text
  after : Text
  is : text ≡ before ++ 61 ∷ after
  lacks : Lacks 61 before

lacks_none : Lacks 61 []
lacks_none i lt e = absurd (omega (arith, lt))

lacks_more : (x : ℕ) (rest : Text) → (x == 61) ≡ false → Lacks 61 rest → Lacks 61 (x ∷ rest)
lacks_more x rest is lacks zero lt e = let same : x ≡ 61 = e in let bad : true ≡ false = rw same at is in cc
lacks_more x rest is lacks (suc i) lt e = lacks i (omega (arith, lt)) e

cut : (text : Text) → Lacks 61 text ⊎ HasCut text
cut [] = inl lacks_none
cut (x ∷ rest) = by (x == 61) refl (cut rest)
  where
    by : (b : Bool) → (x == 61) ≡ b → Lacks 61 rest ⊎ HasCut rest → Lacks 61 (x ∷ rest) ⊎ HasCut (x ∷ rest)
    by true is c = inr (record { before = []; after = rest; is = ap (λ (y : ℕ). y ∷ rest) (eqb-true x 61 is); lacks = lacks_none })
    by false is (inl lacks) = inl (lacks_more x rest is lacks)
    by false is (inr c) = inr (record { before = x ∷ c.before; after = c.after; is = ap (λ (t : Text). x ∷ t) c.is; lacks = lacks_more x c.before is c.lacks })

name_before : (text : Text) (c : HasCut text) → option_name text ≡ c.before
name_before text c = ap option_name c.is ∙ before_first-at 61 c.before c.after c.lacks

has_one : (text : Text) → HasCut text → has_equals text ≡ true
has_one text c = ap has_equals c.is ∙ list_any-at 61 c.before c.after

pub lacks : (text : Text) → has_equals text ≡ false → Lacks 61 text
lacks text none = by (cut text)
  where
    by : Lacks 61 text ⊎ HasCut text → Lacks 61 text
    by (inl is) = is
    by (inr c) = let bad : true ≡ false = sym (has_one text c) ∙ none in cc

pub whole_name : (text : Text) → has_equals text ≡ false → option_name text ≡ text
whole_name text none = before_first-Lacks 61 text (lacks text none)

name_alone : (text : Text) → has_equals (option_name text) ≡ false
name_alone text = by (cut text)
  where
    by : Lacks 61 text ⊎ HasCut text → has_equals (option_name text) ≡ false
    by (inl lacks) = ap has_equals (before_first-Lacks 61 text lacks) ∙ list_any-Lacks 61 text lacks
    by (inr c) = ap has_equals (name_before text c) ∙ list_any-Lacks 61 c.before c.lacks

both_sides : (text : Text) → has_equals text ≡ true → text ≡ option_name text ++ 61 ∷ after_first is_equals text
both_sides text some = by (cut text)
  where
    by : Lacks 61 text ⊎ HasCut text → text ≡ option_name text ++ 61 ∷ after_first is_equals text
    by (inl lacks) = let bad : false ≡ true = sym (list_any-Lacks 61 text lacks) ∙ some in cc
    by (inr c) =
        c.is ∙ ap (λ (t : Text). t ++ 61 ∷ c.after) (sym (name_before text c))
        ∙ ap (λ (t : Text). option_name text ++ 61 ∷ t) (sym (ap (after_first is_equals) c.is ∙ after_first-at 61 c.before c.after c.lacks))

-- ---- an entry that is added

abbrev Next : Type 0
Next = List Entry → Option (List Entry)

added : (e : Entry) (given result : List Entry) (next : Next) → add e given next ≡ Some result → next (given ++ e ∷ []) ≡ Some result
added e given result next is = by (has e.0 given) (is_filled e.1) is
  where
    by : (had filled : Bool) → (if had then None else (if filled then next (given ++ e ∷ []) else None)) ≡ Some result → next (given ++ e ∷ []) ≡ Some result
    by true filled is = let none : None ≡ Some result = is in cc
    by false true is = is
    by false false is = let none : None ≡ Some result = is in cc

module _ (f : Form) where
  -- ---- what the words from here on are

  record IsValue (name : Text) (names words : List Text) (es : List Entry) : Type 0 where
    v : Text
    rest : List Text
    more : List Entry
    words_are : words ≡ v ∷ rest
    is_value : is_value (look v) ≡ true
    es_are : es ≡ (name, Some v) ∷ more
    spelled : IsSpelledBy (IsLine f) names rest more

  abbrev Spells : NextWord → List Text → List Text → List Entry → Type 0
  Spells any names words es = IsSpelledBy (IsLine f) names words es
  Spells only_plain names words es = IsSpelledBy ArePlain names words es
  Spells (value name) names words es = IsValue name names words es

  -- an option waits for its value
  abbrev Waits : NextWord → Type 0
  Waits (value name) = IsNameOf f.options name
  Waits any = Unit {0}
  Waits only_plain = Unit {0}

  record Finds (place : NextWord) (names words : List Text) (given result : List Entry) : Type 0 where
    es : List Entry
    result_is : result ≡ given ++ es
    spells : Spells place names words es

  abbrev FindsOn : NextWord → List Text → List Text → Next → Type 0
  FindsOn place names words next = (given result : List Entry) → next given ≡ Some result → Finds place names words given result

  abbrev FindsAll : List Text → Rest → Type 0
  FindsAll words next = (names : List Text) (place : NextWord) → Waits place → FindsOn place names words (next names place)

  -- ---- one more piece

  finds_more : (e : Entry) (given es result : List Entry) → result ≡ (given ++ e ∷ []) ++ es → result ≡ given ++ e ∷ es
  finds_more e given es result h = h ∙ append_assoc given (e ∷ []) es

  plain_more : (word name : Text) (names words : List Text) (given result : List Entry) → look word ≡ plain →
      Finds any names words (given ++ (name, Some word) ∷ []) result → Finds any (name ∷ names) (word ∷ words) given result
  plain_more word name names words given result looks r = record {
    es = (name, Some word) ∷ r.es;
    result_is = finds_more (name, Some word) given r.es result r.result_is;
    spells = record {
      pieces = Plain name word ∷ r.spells.pieces;
      are = (looks, r.spells.are);
      words_are = ap (λ (ws : List Text). word ∷ ws) r.spells.words_are;
      given_is = ap (λ (es : List Entry). (name, Some word) ∷ es) r.spells.given_is;
      left = r.spells.left;
      in_order = ap (λ (ns : List Text). name ∷ ns) r.spells.in_order;
    };
  }

  only_plain_more : (word name : Text) (names words : List Text) (given result : List Entry) →
      Finds only_plain names words (given ++ (name, Some word) ∷ []) result → Finds only_plain (name ∷ names) (word ∷ words) given result
  only_plain_more word name names words given result r = record {
    es = (name, Some word) ∷ r.es;
    result_is = finds_more (name, Some word) given r.es result r.result_is;
    spells = record {
      pieces = Plain name word ∷ r.spells.pieces;
      are = r.spells.are;
      words_are = ap (λ (ws : List Text). word ∷ ws) r.spells.words_are;
      given_is = ap (λ (es : List Entry). (name, Some word) ∷ es) r.spells.given_is;
      left = r.spells.left;
      in_order = ap (λ (ns : List Text). name ∷ ns) r.spells.in_order;
    };
  }

  joined_more : (name v : Text) (names words : List Text) (given result : List Entry) → IsNameOf f.options name →
      Finds any names words (given ++ (name, Some v) ∷ []) result → Finds any names ((45 ∷ 45 ∷ name ++ 61 ∷ v) ∷ words) given result
  joined_more name v names words given result is r = record {
    es = (name, Some v) ∷ r.es;
    result_is = finds_more (name, Some v) given r.es result r.result_is;
    spells = record {
      pieces = Joined name v ∷ r.spells.pieces;
      are = (is, r.spells.are);
      words_are = ap (λ (ws : List Text). (45 ∷ 45 ∷ name ++ 61 ∷ v) ∷ ws) r.spells.words_are;
      given_is = ap (λ (es : List Entry). (name, Some v) ∷ es) r.spells.given_is;
      left = r.spells.left;
      in_order = r.spells.in_order;
    };
  }

  apart_more : (name : Text) (names words : List Text) (given result : List Entry) → IsNameOf f.options name →
      Finds (value name) names words given result → Finds any names ((45 ∷ 45 ∷ name) ∷ words) given result
  apart_more name names words given result is r =
      let s = r.spells in
      record {
        es = r.es;
        result_is = r.result_is;
        spells = record {
          pieces = Apart name s.v ∷ s.spelled.pieces;
          are = (is, s.is_value, s.spelled.are);
          words_are = ap (λ (ws : List Text). (45 ∷ 45 ∷ name) ∷ ws) (s.words_are ∙ ap (λ (ws : List Text). s.v ∷ ws) s.spelled.words_are);
          given_is = s.es_are ∙ ap (λ (es : List Entry). (name, Some s.v) ∷ es) s.spelled.given_is;
          left = s.spelled.left;
          in_order = s.spelled.in_order;
        };
      }

  value_more : (name v : Text) (names words : List Text) (given result : List Entry) → is_value (look v) ≡ true →
      Finds any names words (given ++ (name, Some v) ∷ []) result → Finds (value name) names (v ∷ words) given result
  value_more name v names words given result is r = record {
    es = (name, Some v) ∷ r.es;
    result_is = finds_more (name, Some v) given r.es result r.result_is;
    spells = record { v = v; rest = words; more = r.es; words_are = refl; is_value = is; es_are = refl; spelled = r.spells };
  }

  flag_more : (name : Text) (names words : List Text) (given result : List Entry) → IsNameOf f.flags name →
      Finds any names words (given ++ (name, None) ∷ []) result → Finds any names ((45 ∷ 45 ∷ name) ∷ words) given result
  flag_more name names words given result is r = record {
    es = (name, None) ∷ r.es;
    result_is = finds_more (name, None) given r.es result r.result_is;
    spells = record {
      pieces = Flag name ∷ r.spells.pieces;
      are = (is, r.spells.are);
      words_are = ap (λ (ws : List Text). (45 ∷ 45 ∷ name) ∷ ws) r.spells.words_are;
      given_is = ap (λ (es : List Entry). (name, None) ∷ es) r.spells.given_is;
      left = r.spells.left;
      in_order = r.spells.in_order;
    };
  }

  dashes_more : (names words : List Text) (given result : List Entry) → Finds only_plain names words given result →
      Finds any names ((45 ∷ 45 ∷ []) ∷ words) given result
  dashes_more names words given result r = record {
    es = r.es;
    result_is = r.result_is;
    spells = record {
      pieces = Dashes ∷ r.spells.pieces;
      are = r.spells.are;
      words_are = ap (λ (ws : List Text). (45 ∷ 45 ∷ []) ∷ ws) r.spells.words_are;
      given_is = r.spells.given_is;
      left = r.spells.left;
      in_order = r.spells.in_order;
    };
  }

  -- ---- word by word

  finds_plain : (word : Text) (names words : List Text) (next : Rest) → FindsAll words next → look word ≡ plain →
      FindsOn any names (word ∷ words) (λ given. read_plain word names any given next)
  finds_plain word [] words next finds looks given result is = let none : None ≡ Some result = is in cc
  finds_plain word (name ∷ names) words next finds looks given result is =
      plain_more word name names words given result looks
      (finds names any tt _ result (added (name, Some word) given result (next names any) is))

  finds_only_plain : (word : Text) (names words : List Text) (next : Rest) → FindsAll words next →
      FindsOn only_plain names (word ∷ words) (λ given. read_plain word names only_plain given next)
  finds_only_plain word [] words next finds given result is = let none : None ≡ Some result = is in cc
  finds_only_plain word (name ∷ names) words next finds given result is =
      only_plain_more word name names words given result
      (finds names only_plain tt _ result (added (name, Some word) given result (next names only_plain) is))

  finds_option : (text : Text) (names words : List Text) (next : Rest) → FindsAll words next → is_in (option_name text) f.options ≡ true →
      FindsOn any names ((45 ∷ 45 ∷ text) ∷ words) (λ given. read_option (option_name text) (option_value text) names given next)
  finds_option text names words next finds is_option given result is = by (has_equals text) refl is
    where
      name : Text
      name = option_name text

      by : (b : Bool) → has_equals text ≡ b →
          read_option name (if b then Some (after_first is_equals text) else None) names given next ≡ Some result →
          Finds any names ((45 ∷ 45 ∷ text) ∷ words) given result
      by true has is =
          subst (λ (t : Text). Finds any names ((45 ∷ 45 ∷ t) ∷ words) given result) (sym (both_sides text has))
          (joined_more name (after_first is_equals text) names words given result (is_option, name_alone text)
          (finds names any tt _ result (added (name, Some (after_first is_equals text)) given result (next names any) is)))
      by false has is =
          subst (λ (t : Text). Finds any names ((45 ∷ 45 ∷ t) ∷ words) given result) (whole_name text has)
          (apart_more name names words given result (is_option, name_alone text)
          (finds names (value name) (is_option, name_alone text) given result is))

  finds_flag : (text : Text) (names words : List Text) (next : Rest) → FindsAll words next → is_in (option_name text) f.flags ≡ true →
      FindsOn any names ((45 ∷ 45 ∷ text) ∷ words) (λ given. read_flag (option_name text) (option_value text) names given next)
  finds_flag text names words next finds is_flag given result is = by (has_equals text) refl is
    where
      name : Text
      name = option_name text

      by : (b : Bool) → has_equals text ≡ b →
          read_flag name (if b then Some (after_first is_equals text) else None) names given next ≡ Some result →
          Finds any names ((45 ∷ 45 ∷ text) ∷ words) given result
      by true has is = let none : None ≡ Some result = is in cc
      by false has is =
          subst (λ (t : Text). Finds any names ((45 ∷ 45 ∷ t) ∷ words) given result) (whole_name text has)
          (flag_more name names words given result (is_flag, name_alone text)
          (finds names any tt _ result (added (name, None) given result (next names any) is)))

  finds_long : (text : Text) (names words : List Text) (next : Rest) → FindsAll words next →
      FindsOn any names ((45 ∷ 45 ∷ text) ∷ words) (λ given. read_long f (option_name text) (option_value text) names given next)
  finds_long text names words next finds given result is = by (is_in (option_name text) f.options) (is_in (option_name text) f.flags) refl refl is
    where
      by : (option flag : Bool) → is_in (option_name text) f.options ≡ option → is_in (option_name text) f.flags ≡ flag →
          (if option then read_option (option_name text) (option_value text) names given next
          else (if flag then read_flag (option_name text) (option_value text) names given next else None)) ≡ Some result →
          Finds any names ((45 ∷ 45 ∷ text) ∷ words) given result
      by true flag is_option is_flag is = finds_option text names words next finds is_option given result is
      by false true is_option is_flag is = finds_flag text names words next finds is_flag given result is
      by false false is_option is_flag is = let none : None ≡ Some result = is in cc

  finds_any : (word : Text) (l : Look) → look word ≡ l → WordOf l word → (names words : List Text) (next : Rest) → FindsAll words next →
      FindsOn any names (word ∷ words) (λ given. read_any f l word names given next)
  finds_any word plain looks is names words next finds given result read_is = finds_plain word names words next finds looks given result read_is
  finds_any word dashes looks is names words next finds given result read_is =
      subst (λ (w : Text). Finds any names (w ∷ words) given result) (sym is)
      (dashes_more names words given result (finds names only_plain tt given result read_is))
  finds_any word (long text) looks is names words next finds given result read_is =
      subst (λ (w : Text). Finds any names (w ∷ words) given result) (sym is) (finds_long text names words next finds given result read_is)
  finds_any word short looks is names words next finds given result read_is = let none : None ≡ Some result = read_is in cc

  finds_value : (word name : Text) (names words : List Text) (next : Rest) → FindsAll words next →
      FindsOn (value name) names (word ∷ words) (λ given. if is_value (look word) then add (name, Some word) given (next names any) else None)
  finds_value word name names words next finds given result is = by (is_value (look word)) refl is
    where
      by : (b : Bool) → is_value (look word) ≡ b → (if b then add (name, Some word) given (next names any) else None) ≡ Some result →
          Finds (value name) names (word ∷ words) given result
      by true fits is =
          value_more name word names words given result fits
          (finds names any tt _ result (added (name, Some word) given result (next names any) is))
      by false fits is = let none : None ≡ Some result = is in cc

  finds_word : (word : Text) (words : List Text) (next : Rest) → FindsAll words next → FindsAll (word ∷ words) (read_word f word next)
  finds_word word words next finds names any waits = finds_any word (look word) refl (word_of word) names words next finds
  finds_word word words next finds names (value name) waits = finds_value word name names words next finds
  finds_word word words next finds names only_plain waits = finds_only_plain word names words next finds

  finds_end : (names : List Text) (place : NextWord) → FindsOn place names [] (read_end place)
  finds_end names any given result is = record {
    es = [];
    result_is = sym (same_Some given result is) ∙ sym (append-nil given);
    spells = record { pieces = []; are = tt; words_are = refl; given_is = refl; left = names; in_order = refl };
  }
  finds_end names (value name) given result is = let none : None ≡ Some result = is in cc
  finds_end names only_plain given result is = record {
    es = [];
    result_is = sym (same_Some given result is) ∙ sym (append-nil given);
    spells = record { pieces = []; are = tt; words_are = refl; given_is = refl; left = names; in_order = refl };
  }

  finds_read : (words : List Text) → FindsAll words (read f words)
  unfolding read
  finds_read [] = λ names place waits. finds_end names place
  finds_read (word ∷ words) = finds_word word words (read f words) (finds_read words)

pub spelled : (f : Form) (words : List Text) (given : List Entry) → reads f words ≡ Some given → IsSpelled f words given
spelled f words given = by (read f words f.plain any []) refl
  where
    whole : (g : List Entry) (t : Bool) → (if t then Some g else None) ≡ Some given → Finds f any f.plain words [] g → IsSpelled f words given
    whole g true is found = subst (IsSpelled f words) (sym found.result_is ∙ same_Some g given is) found.spells
    whole g false is found = let none : None ≡ Some given = is in cc

    by : (o : Option (List Entry)) → read f words f.plain any [] ≡ o → option_and_then (λ g. if is_complete f g then Some g else None) o ≡ Some given → IsSpelled f words given
    by None was is = let none : None ≡ Some given = is in cc
    by (Some g) was is = whole g (is_complete f g) is (finds_read f words f.plain any tt [] g was)
