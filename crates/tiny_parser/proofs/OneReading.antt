-- A text has one reading.
use Rattle.std.proofs.Common.{◌≡◌, ℕ, ◌+◌, [], ◌∷◌, ◌++◌, List, map, ap, sym, subst, ◌∙◌, inl, inr}
use Rattle.std.specs.Prelude.{Option, Some, ◌↔◌}
use Rattle.source_text.specs.Prelude.{contents}
use Rattle.tiny_draft.specs.Tree as draft
use Rattle.tiny_draft.specs.declared.token.Token.{Token}
use Rattle.tiny_lexemes.specs.declared.lexeme.Lexeme.{Lexeme}
use Rattle.tiny_lexemes.specs.Prelude.{SpellsLexemes, read}
use Rattle.tiny_tokens.specs.Prelude.{HasTokens, SpellsLines, main_only, number_all}
use Rattle.tiny_tree.specs.Prelude.{Program}
use Rattle.tiny_grammar.specs.declared.refusal.Refusal.{Refusal}
use Rattle.tiny_grammar.specs.Prelude.{SpellsProgram, AreProgram}
use Rattle.tiny_grammar.specs.Refusals as grammar
use Rattle.tiny_names.specs.declared.fault.Fault.{Fault}
use Rattle.tiny_names.specs.Prelude.{all_faults, first, resolved}
use Rattle.tiny_parser.specs.declared.error.TinyError.{TinyError}
use Rattle.tiny_parser.specs.Prelude.{fault_error, grammar_error, IsRefused, IsUnwritten, IsWritten, Spells, last_line}

module _ (lexemes_law : (line : List ℕ) (lexemes : List Lexeme) → (read line ≡ Some lexemes) ↔ SpellsLexemes line lexemes) where
  some_is : (a b : List Lexeme) (r : Option (List Lexeme)) → r ≡ Some a → r ≡ Some b → a ≡ b
  some_is a b r x y = cc

  lexemes_are : (line : List ℕ) (a b : List Lexeme) → SpellsLexemes line a → SpellsLexemes line b → a ≡ b
  lexemes_are line a b x y = some_is a b (read line) ((lexemes_law line a).1 x) ((lexemes_law line b).1 y)

  lines_are : (k : ℕ) (ls : List (List ℕ)) (a b : List (Lexeme × ℕ)) → SpellsLines k ls a → SpellsLines k ls b → a ≡ b
  lines_are k [] a b x y = x ∙ sym y
  lines_are k (l ∷ ls) a b (here, later, split, spelled, rest) (here', later', split', spelled', rest') =
      split ∙ (ap (λ (h : List Lexeme). map (λ t. (t, k)) h ++ later) (lexemes_are l here here' spelled spelled')
      ∙ (ap (λ (m : List (Lexeme × ℕ)). map (λ t. (t, k)) here' ++ m) (lines_are (k + 1) ls later later' rest rest') ∙ sym split'))

  tokens_are : (text : List ℕ) (a b : List Token) → HasTokens text a → HasTokens text b → a ≡ b
  tokens_are text a b (ts, spells, is) (ts', spells', is') = is ∙ (ap (number_all main_only) (lines_are 1 (contents text) ts ts' spells spells') ∙ sym is')

  module _ (one_program : (ts : List Token) (p q : List draft.Function) → SpellsProgram ts p → SpellsProgram ts q → p ≡ q) where
    written_is : (text : List ℕ) (a b : List draft.Function) → IsWritten text a → IsWritten text b → a ≡ b
    written_is text a b x y = one_program x.tokens a b x.spells (subst (λ (ts : List Token). SpellsProgram ts b) (tokens_are text y.tokens x.tokens y.has x.has) y.spells)

    pub program_is : (text : List ℕ) (p q : Program) → Spells text p → Spells text q → p ≡ q
    program_is text p q x y = x.is ∙ (ap resolved (written_is text x.written y.written x.is_written y.is_written) ∙ sym y.is)

    no_first : (faults : List Fault) (f : Fault) → faults ≡ [] → first faults ≡ Some f → ⊥
    no_first [] f x y = cc
    no_first (g ∷ faults) f x y = cc

    module _ (not_both : (levels : ℕ) (ts : List Token) (e : Refusal) → AreProgram levels ts → grammar.IsRefused levels ts e → ⊥) where
      not_unwritten : (text : List ℕ) (a : List draft.Function) (e : TinyError) → IsWritten text a → IsUnwritten text e → ⊥
      not_unwritten text a e x y = not_both 64 x.tokens y.refusal (a, x.spells, x.shallow)
          (subst (λ (ts : List Token). grammar.IsRefused 64 ts y.refusal) (tokens_are text y.tokens x.tokens y.has x.has) y.refused)

      pub not_refused : (text : List ℕ) (p : Program) (e : TinyError) → Spells text p → IsRefused text e → ⊥
      not_refused text p e x (inl y) = not_unwritten text x.written e x.is_written y
      not_refused text p e x (inr y) = no_first (all_faults x.written) y.fault x.fits
          (ap (λ fs. first (all_faults fs)) (written_is text x.written y.written x.is_written y.is_written) ∙ y.faulty)

      fault_is : (o : Option Fault) (f g : Fault) → o ≡ Some f → o ≡ Some g → f ≡ g
      fault_is o f g x y = cc

      module _ (one_refusal : (levels : ℕ) (ts : List Token) (d e : Refusal) →
          grammar.IsRefused levels ts d → grammar.IsRefused levels ts e → d ≡ e) where
        pub refusal_is : (text : List ℕ) (d e : TinyError) → IsRefused text d → IsRefused text e → d ≡ e
        refusal_is text d e (inl x) (inl y) = x.is ∙ (ap (grammar_error (last_line text)) (one_refusal 64 x.tokens x.refusal y.refusal x.refused
            (subst (λ (ts : List Token). grammar.IsRefused 64 ts y.refusal) (tokens_are text y.tokens x.tokens y.has x.has) y.refused)) ∙ sym y.is)
        refusal_is text d e (inl x) (inr y) = absurd (not_unwritten text y.written d y.is_written x)
        refusal_is text d e (inr x) (inl y) = absurd (not_unwritten text x.written e x.is_written y)
        refusal_is text d e (inr x) (inr y) = x.is ∙ (ap fault_error (fault_is (first (all_faults x.written)) x.fault y.fault x.faulty
            (ap (λ fs. first (all_faults fs)) (written_is text x.written y.written x.is_written y.is_written) ∙ y.faulty)) ∙ sym y.is)
