-- What a sink holds of what was given, and how a machine that only gives adds to that.
use Rattle.std.proofs.Common.{◌≡◌, ◌∙◌, ◌++◌, ℕ, Bool, true, false, List, [], length, take, drop, Option, Some, None, Result, Ok, Err, refl, sym, ap, subst, append_assoc}
use Rattle.std.specs.Prelude.{OnErr}
use Rattle.std.specs.Option.{option_map}
use Rattle.std.proofs.lemmas.List.{append-nil, take-append-drop}
use Rattle.std.proofs.Math.Seq.{take-length}
use Rattle.console_port.specs.Prelude.{Given, IsLost, Untaken}
use Rattle.mic_clock.specs.declared.end.End.{End}
use Rattle.mic_clock.specs.Prelude.{Meaning, Outcome, Done, Refused, MicroRun, after_end_or_step, after_step, end_before, turn_by, word_at}
use Rattle.cli_outside.specs.Prelude.{Got, GotInPart}
use Rattle.cli_session.specs.Meaning.{IsFrontOf}
use Rattle.cli_session.specs.Giving.{OnlyGives}

-- ---- fronts

abbrev pub IsFront : List ℕ → List ℕ → Type 0
IsFront a b = (more : List ℕ) × (b ≡ a ++ more)

pub front_same : (a : List ℕ) → IsFront a a
front_same a = ([], sym (append-nil a))

pub front_then : (a b c : List ℕ) → IsFront a b → IsFront b c → IsFront a c
front_then a b c p q = (p.0 ++ q.0, q.1 ∙ ap (λ (x : List ℕ). x ++ q.0) p.1 ∙ append_assoc a p.0 q.0)

pub held_front : (held : Option (List ℕ)) (a b : List ℕ) → IsFrontOf held a → IsFront a b → IsFrontOf held b
held_front None a b p q = tt
held_front (Some h) a b p q = front_then h a b p q

-- what a sink holds that shows a run is a front of what was given
pub front_given : (held : Option (List ℕ)) (kept given : List ℕ) → Given held kept given → IsFrontOf held given
front_given None kept given is = tt
front_given (Some h) kept given is = (kept, is)

pub front_lost : (held held' : Option (List ℕ)) (kept kept' given : List ℕ) → IsLost held kept held' kept' → Given held kept given → IsFrontOf held' given
front_lost None held' kept kept' given lost is = subst (λ (o : Option (List ℕ)). IsFrontOf o given) (sym lost.prefix.1) tt
front_lost (Some h) held' kept kept' given lost is =
    subst (λ (o : Option (List ℕ)). IsFrontOf o given) (sym lost.prefix.1) (
      drop lost.prefix.0 kept,
      is ∙ ap (λ (k : List ℕ). h ++ k) (sym (take-append-drop lost.prefix.0 kept))
          ∙ sym (append_assoc h (take lost.prefix.0 kept) (drop lost.prefix.0 kept)),
    )

-- a text that was put whole was put in part
pub in_part : (said said' : Option (List ℕ)) (text : List ℕ) → Got said text said' → GotInPart said text said'
in_part said said' text is = (length text, is ∙ ap (λ (x : List ℕ). option_map (λ (h : List ℕ). h ++ x) said) (sym (take-length text)))

-- what holds anyway holds after an Err
pub on_err_of : {T E : Type 0} (P : Type 0) (r : Result T E) → P → OnErr r P
on_err_of P (Ok v) p = tt
on_err_of P (Err e) p = p

-- ---- only one list may be untaken of a source whose rest is known

abbrev pub untaken_of : List ℕ → Bool → List ℕ
untaken_of left true = []
untaken_of left false = left

pub is_untaken : (left : List ℕ) (ended : Bool) → Untaken (Some left) ended (untaken_of left ended)
is_untaken left true = refl
is_untaken left false = refl

pub one_untaken : (left : List ℕ) (ended : Bool) (a b : List ℕ) → Untaken (Some left) ended a → Untaken (Some left) ended b → a ≡ b
one_untaken left true a b x y = x ∙ sym y
one_untaken left false a b x y = x ∙ sym y

-- ---- a machine that only gives

module _ {State : Type 0} (m : Meaning State) (words : List ℕ) (only : OnlyGives m) where
  stepped_gives : (r : MicroRun State) (o : Outcome State) → m.step (word_at m words r.state) r.state r.world ≡ o →
      IsFront r.world.given (after_step m words r o).world.given
  stepped_gives r (Done s w) is = only (word_at m words r.state) r.state s r.world w is
  stepped_gives r (Refused why) is = front_same r.world.given

  gone_gives : (e : Option End) (r : MicroRun State) → IsFront r.world.given (after_end_or_step m words e r).world.given
  gone_gives (Some e) r = front_same r.world.given
  gone_gives None r = stepped_gives r (m.step (word_at m words r.state) r.state r.world) refl

  -- what a turn has given begins with what was given before it
  pub turn_gives : (e : Option End) (r : MicroRun State) → IsFront r.world.given (turn_by m words e r).world.given
  turn_gives (Some e) r = front_same r.world.given
  turn_gives None r = gone_gives (end_before m r.state r.counts) r
