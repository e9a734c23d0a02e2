-- How parameters and functions go on.
use Rattle.tiny_grammar.proofs.Common.{◌≡◌, ℕ, ◌+◌, List, [], ◌∷◌, ◌++◌, map, refl, ap, sym, ◌∙◌, arith, append_assoc, None, map_push, Word, Statements}
use Rattle.tiny_grammar.proofs.Common.{function_tree, Kind, Token, Refusal}
use Rattle.tiny_draft.specs.declared.tree.Function as declared
use Rattle.tiny_draft.specs.declared.token.Kind.TheVariants as kinds
use Rattle.tiny_draft.specs.declared.token.Sign.TheVariants as signs
use Rattle.tiny_grammar.specs.Prelude.{first_kind, sign, word, spell_block, spell_functions, spell_parameters, spell_signature, ABlock, AName, Functions, MoreParameters, Parameters, Part, Want, before, begins_parameters, fault, is_name, is_sign, signature, Moves, NameAt, Reads, ReadsAll, Sees, Stops}
use Rattle.tiny_grammar.proofs.Beginnings.{more_parameters_none}
use Rattle.tiny_grammar.proofs.Blocks.{name_wanted}
use Rattle.tiny_grammar.proofs.Exprs.{name_at, wanted}
use Rattle.tiny_grammar.proofs.Lists.{functions_more, words_end, words_more, words_with_commas}
use Rattle.tiny_grammar.proofs.Moving.{closes_at, frame, frame_stops, opens_at, regroup, stays_at, stop_at, stops_as, text_as, then, then_stops}

-- ---- parameters

not_closed : (k : Kind) → is_sign signs.Close k ≡ None → begins_parameters k ≡ before (MoreParameters ∷ []) (is_name k)
not_closed (kinds.Of signs.Close) a = absurd (cc)
not_closed (kinds.Name n) a = refl
not_closed _ a = refl

pub parameters_begin : (levels : ℕ) (ts : List Token) → is_sign signs.Close (first_kind ts) ≡ None
    → Moves levels (Parameters ∷ []) ts [] levels (AName ∷ MoreParameters ∷ []) ts
parameters_begin levels ts n = regroup levels Parameters AName (MoreParameters ∷ []) ts refl refl (not_closed (first_kind ts) n)

module _ (levels : ℕ) (ts rest after : List Token) (found : List Word) (w : Word)
    (inv : Moves levels (Parameters ∷ []) ts (words_with_commas found) levels (AName ∷ MoreParameters ∷ []) rest) where
  pub parameter_stops : (e : Refusal) → e ≡ fault rest → is_name (first_kind rest) ≡ None → Stops levels (Parameters ∷ []) ts e
  parameter_stops e h n = then_stops e inv (frame_stops levels (AName ∷ []) rest e (MoreParameters ∷ []) (name_wanted levels rest e h n))

  module _ (at : NameAt w rest after) where
    one_more : Moves levels (Parameters ∷ []) ts (words_with_commas found ++ word w ∷ []) levels (MoreParameters ∷ []) after
    one_more = then inv (frame (MoreParameters ∷ []) (name_at levels AName [] rest w after at refl))

    pub more_parameters : (new : List Word) → new ≡ found ++ w ∷ [] → (more : List Token) → Sees signs.Comma after more
        → Moves levels (Parameters ∷ []) ts (words_with_commas new) levels (AName ∷ MoreParameters ∷ []) more
    more_parameters new pushed more s = text_as (words_with_commas new)
        (append_assoc (words_with_commas found) (word w ∷ []) (sign signs.Comma ∷ []) ∙ (words_more found w ∙ ap words_with_commas (sym pushed)))
        (then one_more (stays_at levels MoreParameters (AName ∷ MoreParameters ∷ []) (kinds.Of signs.Comma) after s.token more s.split s.is refl refl))

    pub parameters_close : (new : List Word) → new ≡ found ++ w ∷ [] → (more : List Token) → Sees signs.Close after more
        → Moves levels (Parameters ∷ []) ts (spell_parameters new) (levels + 1) [] more
    parameters_close new pushed more s = text_as (spell_parameters new)
        (append_assoc (words_with_commas found) (word w ∷ []) (sign signs.Close ∷ []) ∙ (words_end found w ∙ ap spell_parameters (sym pushed)))
        (then one_more (closes_at levels MoreParameters [] (kinds.Of signs.Close) after s.token more s.split s.is refl refl))

    pub parameters_unended : (e : Refusal) → e ≡ fault after → is_sign signs.Comma (first_kind after) ≡ None → is_sign signs.Close (first_kind after) ≡ None
        → Stops levels (Parameters ∷ []) ts e
    parameters_unended e h x y = then_stops e one_more
        (stops_as levels (MoreParameters ∷ []) after e (fault after) h (stop_at levels MoreParameters after refl (more_parameters_none (first_kind after) x y)))

-- ---- the rest of a function after `fn`

abbrev after_name : List Part
after_name = Want signs.Open ∷ Parameters ∷ ABlock ∷ []

pub unnamed : (ts : List Token) (e : Refusal) → e ≡ fault ts → is_name (first_kind ts) ≡ None → Stops 64 signature ts e
unnamed ts e h n = frame_stops 64 (AName ∷ []) ts e after_name (name_wanted 64 ts e h n)

module _ (ts after : List Token) (w : Word) (named : NameAt w ts after) where
  called : Moves 64 signature ts (word w ∷ []) 64 after_name after
  called = frame after_name (name_at 64 AName [] ts w after named refl)

  pub unopened : (e : Refusal) → e ≡ fault after → is_sign signs.Open (first_kind after) ≡ None → Stops 64 signature ts e
  unopened e h n = then_stops e called (frame_stops 64 (Want signs.Open ∷ []) after e (Parameters ∷ ABlock ∷ []) (wanted 64 signs.Open after e h n))

  module _ (inside : List Token) (open_sign : Sees signs.Open after inside) where
    opened : Moves 64 signature ts (word w ∷ sign signs.Open ∷ []) 63 (Parameters ∷ ABlock ∷ []) inside
    opened = then called (frame (Parameters ∷ ABlock ∷ [])
        (opens_at 64 (Want signs.Open) [] (kinds.Of signs.Open) after open_sign.token inside open_sign.split open_sign.is refl refl (omega arith)))

    pub parameters_refused : (e : Refusal) → Stops 63 (Parameters ∷ []) inside e → Stops 64 signature ts e
    parameters_refused e s = then_stops e opened (frame_stops 63 (Parameters ∷ []) inside e (ABlock ∷ []) s)

    module _ (ws : List Word) (outside : List Token) (taken : Moves 63 (Parameters ∷ []) inside (spell_parameters ws) 64 [] outside) where
      before_body : Moves 64 signature ts ((word w ∷ sign signs.Open ∷ []) ++ spell_parameters ws) 64 (ABlock ∷ []) outside
      before_body = then opened (frame (ABlock ∷ []) taken)

      pub body_refused : (e : Refusal) → Stops 64 (ABlock ∷ []) outside e → Stops 64 signature ts e
      body_refused e s = then_stops e before_body s

      pub signature_reads : (b : Statements) (last : List Token) → Reads 64 ABlock outside (spell_block b) last
          → ReadsAll 64 signature ts (spell_signature (record { name = w; parameters = ws; body = b })) last
      signature_reads b last read = then before_body read

-- ---- functions

pub no_function : (levels : ℕ) (ts : List Token) → Moves levels (Functions ∷ []) ts [] levels (Functions ∷ []) ts
no_function levels ts = record { spelled = refl; goes = λ ps. refl; long = omega arith }

module _ (ts rest after : List Token) (found : List declared.Function)
    (inv : Moves 64 (Functions ∷ []) ts (spell_functions (map function_tree found)) 64 (Functions ∷ []) rest) (s : Sees signs.Fn rest after) where
  begun : Moves 64 (Functions ∷ []) ts (spell_functions (map function_tree found) ++ sign signs.Fn ∷ []) 64 (signature ++ Functions ∷ []) after
  begun = then inv (stays_at 64 Functions (signature ++ Functions ∷ []) (kinds.Of signs.Fn) rest s.token after s.split s.is refl refl)

  pub function_stops : (e : Refusal) → Stops 64 signature after e → Stops 64 (Functions ∷ []) ts e
  function_stops e stop = then_stops e begun (frame_stops 64 signature after e (Functions ∷ []) stop)

  pub function_more : (f : declared.Function) (new : List declared.Function) (last : List Token) → ReadsAll 64 signature after (spell_signature (function_tree f)) last
      → new ≡ found ++ f ∷ [] → Moves 64 (Functions ∷ []) ts (spell_functions (map function_tree new)) 64 (Functions ∷ []) last
  function_more f new last read pushed = text_as (spell_functions (map function_tree new))
      (append_assoc (spell_functions (map function_tree found)) (sign signs.Fn ∷ []) (spell_signature (function_tree f))
      ∙ (functions_more (map function_tree found) (function_tree f) ∙ ap spell_functions (sym (ap (map function_tree) pushed ∙ map_push function_tree found f))))
      (then begun (frame (Functions ∷ []) read))
