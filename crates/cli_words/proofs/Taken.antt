-- What is written in a command line is read there.
use Rattle.cli_words.proofs.Common.{◌≡◌, ◌∙◌, true, false, List, [], ◌∷◌, ◌++◌, Option, Some, None, refl, sym, ap, subst, append_assoc, append-nil, flat_map}
use Rattle.clap.proofs.CutLemmas.{after_first-at, before_first-at, list_any-at}
use Rattle.cli_words.specs.Prelude.{Entry, Form, NextWord, Text, add, any, is_in, is_value, long, look, only_plain, plain, read, read_plain, reads, AreNewAfter, IsGiven, IsNew, Piece, Plain, Apart, Joined, Flag, Dashes, ArePlain, IsLine, IsNameOf, IsSpelled, entries, plain_names, written}
use Rattle.cli_words.proofs.Spelled.{lacks, whole_name}

-- no name of the row is empty, and no option is a flag
pub record IsTidy (f : Form) : Type 0 where
  pub options : is_in [] f.options ≡ false
  pub flags : is_in [] f.flags ≡ false
  pub apart : (name : Text) → is_in name f.flags ≡ true → is_in name f.options ≡ false

look_long : (text : Text) → (text ≡ [] → ⊥) → look (45 ∷ 45 ∷ text) ≡ long text
look_long [] full = absurd (full refl)
look_long (x ∷ rest) full = refl

not_empty : (names : List Text) (name : Text) → is_in [] names ≡ false → is_in name names ≡ true → name ≡ [] → ⊥
not_empty names name none is empty = let bad : false ≡ true = sym none ∙ (rw empty at is) in cc

adds : (e : Entry) (given : List Entry) (next : List Entry → Option (List Entry)) → IsNew given e → add e given next ≡ next (given ++ e ∷ [])
adds e given next is = rw is.0 (rw is.1 refl)

module _ (f : Form) where
  abbrev Reads : NextWord → List Piece → Type 0
  Reads place pieces = (names left : List Text) (given : List Entry) → names ≡ flat_map plain_names pieces ++ left → AreNewAfter given (flat_map entries pieces) →
      read f (flat_map written pieces) names place given ≡ Some (given ++ flat_map entries pieces)

  more : (place : NextWord) (ps : List Piece) (e : Entry) (names left : List Text) (given : List Entry) → Reads place ps → names ≡ flat_map plain_names ps ++ left →
      AreNewAfter given (e ∷ flat_map entries ps) →
      add e given (read f (flat_map written ps) names place) ≡ Some (given ++ e ∷ flat_map entries ps)
  more place ps e names left given reads in_order new =
      adds e given (read f (flat_map written ps) names place) new.0 ∙ reads names left (given ++ e ∷ []) in_order new.1
      ∙ ap Some (append_assoc given (e ∷ []) (flat_map entries ps))

  reads_plain : (ps : List Piece) → ArePlain ps → Reads only_plain ps
  unfolding read
  reads_plain [] are names left given in_order new = ap Some (sym (append-nil given))
  reads_plain (Plain name word ∷ ps) are names left given in_order new =
      subst (λ (ns : List Text). read f (flat_map written (Plain name word ∷ ps)) ns only_plain given ≡ Some (given ++ (name, Some word) ∷ flat_map entries ps))
      (sym in_order)
      (more only_plain ps (name, Some word) (flat_map plain_names ps ++ left) left given (reads_plain ps are) refl new)
  reads_plain (Apart name v ∷ ps) are names left given in_order new = absurd are
  reads_plain (Joined name v ∷ ps) are names left given in_order new = absurd are
  reads_plain (Flag name ∷ ps) are names left given in_order new = absurd are
  reads_plain (Dashes ∷ ps) are names left given in_order new = absurd are

  module _ (tidy : IsTidy f) where
    plain_read : (name word : Text) (ps : List Piece) → look word ≡ plain → Reads any ps → Reads any (Plain name word ∷ ps)
    unfolding read
    plain_read name word ps looks reads names left given in_order new =
        rw looks (subst (λ (ns : List Text). read_plain word ns any given (read f (flat_map written ps)) ≡ Some (given ++ (name, Some word) ∷ flat_map entries ps))
        (sym in_order) (more any ps (name, Some word) (flat_map plain_names ps ++ left) left given reads refl new))

    apart_read : (name v : Text) (ps : List Piece) → IsNameOf f.options name → is_value (look v) ≡ true → Reads any ps → Reads any (Apart name v ∷ ps)
    unfolding read
    apart_read name v ps is fits reads names left given in_order new =
        rw (look_long name (not_empty f.options name tidy.options is.0))
        (rw (whole_name name is.1) (rw is.0 (rw is.1 (rw fits (more any ps (name, Some v) names left given reads in_order new)))))

    joined_read : (name v : Text) (ps : List Piece) → IsNameOf f.options name → Reads any ps → Reads any (Joined name v ∷ ps)
    unfolding read
    joined_read name v ps is reads names left given in_order new =
        rw (look_long (name ++ 61 ∷ v) (joined name))
        (rw (before_first-at 61 name v (lacks name is.1)) (rw is.0 (rw (list_any-at 61 name v) (rw (after_first-at 61 name v (lacks name is.1))
        (more any ps (name, Some v) names left given reads in_order new)))))
      where
        joined : (name : Text) → name ++ 61 ∷ v ≡ [] → ⊥
        joined [] e = cc
        joined (x ∷ rest) e = cc

    flag_read : (name : Text) (ps : List Piece) → IsNameOf f.flags name → Reads any ps → Reads any (Flag name ∷ ps)
    unfolding read
    flag_read name ps is reads names left given in_order new =
        rw (look_long name (not_empty f.flags name tidy.flags is.0))
        (rw (whole_name name is.1) (rw (tidy.apart name is.0) (rw is.0 (rw is.1 (more any ps (name, None) names left given reads in_order new)))))

    reads_line : (ps : List Piece) → IsLine f ps → Reads any ps
    unfolding read
    reads_line [] are = λ names left given in_order new. ap Some (sym (append-nil given))
    reads_line (Plain name word ∷ ps) are = plain_read name word ps are.0 (reads_line ps are.1)
    reads_line (Apart name v ∷ ps) are = apart_read name v ps are.0 are.1 (reads_line ps are.2)
    reads_line (Joined name v ∷ ps) are = joined_read name v ps are.0 (reads_line ps are.1)
    reads_line (Flag name ∷ ps) are = flag_read name ps are.0 (reads_line ps are.1)
    reads_line (Dashes ∷ ps) are = reads_plain ps are

    pub taken : (words : List Text) (given : List Entry) → IsSpelled f words given → IsGiven f given → reads f words ≡ Some given
    taken words given s g =
        subst (λ (ws : List Text). reads f ws ≡ Some given) (sym s.words_are)
        (rw (reads_line s.pieces s.are f.plain s.left [] s.in_order (subst (AreNewAfter []) s.given_is g.once) ∙ ap Some (sym s.given_is)) (rw g.complete refl))
