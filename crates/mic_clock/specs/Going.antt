-- Lemmas on what calls of a board, one after the other, leave of the board, its source and its sink.
use Rattle.std.proofs.Common.{◌≡◌, ◌≢◌, ◌≤◌, ◌∙◌, ℕ, List, [], ◌++◌, Bool, Option, Some, None, refl, sym, ap, subst, take, drop, append_assoc, arith}
use Rattle.std.specs.Prelude.{IfSome}
use Rattle.mic_clock.specs.Common.{take-append-drop, IsLost, Given, LosesLast, SinkGoesOn, SourceGoesOn, Rose}
use Rattle.mic_clock.specs.declared.end.End.{End}
use Rattle.mic_clock.specs.declared.end.End.TheVariants as ends
use Rattle.mic_clock.specs.Board.{GoesOn, HasEndCause, NoFault}
use Rattle.mic_clock.specs.View.{BoardView}

-- ---- what a failed write leaves of the output

-- a sink that lost the end of what was kept has a front of what was given
pub front_lost : (held held' : Option (List ℕ)) (kept kept' given : List ℕ) → IsLost held kept held' kept' → Given held kept given →
    IfSome held' (λ h. (more : List ℕ) × (given ≡ h ++ more))
front_lost None held' kept kept' given lost told = subst (λ o. IfSome o (λ h. (more : List ℕ) × (given ≡ h ++ more))) (sym lost.prefix.1) tt
front_lost (Some h) held' kept kept' given lost told =
    subst (λ o. IfSome o (λ h. (more : List ℕ) × (given ≡ h ++ more))) (sym lost.prefix.1)
    (drop lost.prefix.0 kept, told ∙ ap (λ (k : List ℕ). h ++ k) (sym (take-append-drop lost.prefix.0 kept)) ∙ sym (append_assoc h (take lost.prefix.0 kept) (drop lost.prefix.0 kept)))

-- where something was kept, it is the last that was given
pub last_lost : (held held' : Option (List ℕ)) (kept kept' given : List ℕ) → kept ≢ [] → IsLost held kept held' kept' → Given held kept given → LosesLast held' given
last_lost None held' kept kept' given some lost told = subst (λ o. LosesLast o given) (sym lost.prefix.1) tt
last_lost (Some h) held' kept kept' given some lost told = subst (λ o. LosesLast o given) (sym lost.prefix.1) (h, kept, lost.prefix.0, some, told, refl)

-- ---- faults

-- a board that came to no fault
pub no_fault : (old new : Option End) → (old ≡ None → new ≢ Some ends.ReadFault) → (old ≡ None → new ≢ Some ends.WriteFault) → NoFault old new
no_fault None (Some ends.ReadFault) read write = absurd (read refl refl)
no_fault None (Some ends.WriteFault) read write = absurd (write refl refl)
no_fault _ _ read write = tt

-- causes of one call after another
cause_then : (a b c d e f : ℕ) (start end end' : Option End) → start ≡ None → end ≡ None → HasEndCause a b c d start end → HasEndCause b e d f end end' → HasEndCause a e c f start end'
cause_then a b c d e f start end end' running not_ended first next =
    let source_same : b ≡ a = first.source_same (λ n q. cc) in
    let sink_same : d ≡ c = first.sink_same (λ n q. cc) in
    subst (λ x. HasEndCause x e c f start end') source_same
    (subst (λ x. HasEndCause b e x f start end') sink_same (subst (λ x. HasEndCause b e d f x end') (not_ended ∙ sym running) next))

-- the last flush of an ended run was done
pub cause-flushed : (a a' b b' b'' : ℕ) (start end end' : Option End) → b'' ≡ b' → end ≡ end' → HasEndCause a a' b b' start end → HasEndCause a a' b b'' start end'
cause-flushed a a' b b' b'' start end end' quiet is first =
    subst (λ (x : Option End). HasEndCause a a' b b'' start x) is (subst (λ (n : ℕ). HasEndCause a a' b n start end) (sym quiet) first)

-- the last flush of an ended run failed
pub cause-lost : (a a' b b' b'' : ℕ) (start end : Option End) → start ≡ None → NoFault None end → HasEndCause a a' b b' start end → Rose b' b'' → b' ≤ b'' →
    HasEndCause a a' b b'' start (Some ends.WriteFault)
cause-lost a a' b b' b'' start end running plain first rose later =
    let same : b' ≡ b = first.sink_same (λ n q. subst (λ (e : Option End). NoFault None e) q plain) in
    record {
      source_later = first.source_later;
      sink_later = omega (arith, same, later);
      read = λ n p. absurd (cc);
      write = λ n p. subst (λ (x : ℕ). Rose x b'') same rose;
      source_same = λ h. first.source_same (λ n q. subst (λ (e : Option End). NoFault None e) q plain);
      sink_same = λ h. absurd (h running refl);
    }

module _ {S K M : Type 0} {left : S → Option (List ℕ)} {source_faults : S → ℕ} {held passed : K → Option (List ℕ)} {sink_faults : K → ℕ}
    {source0 : S} {sink0 : K} {board0 : BoardView M} where
  -- nothing was called
  pub goes-nowhere : GoesOn left source_faults held passed sink_faults source0 sink0 board0 source0 sink0 board0
  goes-nowhere =
      record {
        ended = λ e p. (refl, refl, refl);
        kept = λ e n f p. absurd (let q = sym n ∙ p in cc);
        store = refl;
        source_goes_on = record { asked_no_more = λ e. (e, refl); tells_left = λ t. t };
        sink_goes_on = record { keeps = λ front h. h; tells = λ h. h; flushed = λ q h. h };
        cause = record {
          source_later = omega arith;
          sink_later = omega arith;
          read = λ n p. absurd (let q = sym n ∙ p in cc);
          write = λ n p. absurd (let q = sym n ∙ p in cc);
          source_same = λ h. refl;
          sink_same = λ h. refl;
        };
      }

  module _ (running : board0.end ≡ None) {source : S} {sink : K} {board : BoardView M} (first : GoesOn left source_faults held passed sink_faults source0 sink0 board0 source sink board) where
    -- one call after the others
    pub goes-then : {source' : S} {sink' : K} {board' : BoardView M} → board.end ≡ None →
        GoesOn left source_faults held passed sink_faults source sink board source' sink' board' → GoesOn left source_faults held passed sink_faults source0 sink0 board0 source' sink' board'
    goes-then {board' = board'} not_ended next =
        record {
          ended = λ e p. absurd (let q = sym running ∙ p in cc);
          kept = λ e n. next.kept e not_ended;
          store = next.store ∙ first.store;
          source_goes_on = record {
            asked_no_more = λ e. let was = first.source_goes_on.asked_no_more e in let is = next.source_goes_on.asked_no_more was.0 in (is.0, is.1 ∙ was.1);
            tells_left = λ t. next.source_goes_on.tells_left (first.source_goes_on.tells_left t);
          };
          sink_goes_on = record {
            keeps = λ front h. next.sink_goes_on.keeps front (first.sink_goes_on.keeps front h);
            tells = λ h. next.sink_goes_on.tells (first.sink_goes_on.tells h);
            flushed = λ q h. next.sink_goes_on.flushed q (first.sink_goes_on.flushed (λ w. cc) h);
          };
          cause = cause_then _ _ _ _ _ _ board0.end board.end board'.end running not_ended first.cause next.cause;
        }

    -- the last flush, after which the run has this end
    pub goes-flushed : {sink' : K} (board' : BoardView M) (end : Option End) → board'.store ≡ board.store → board'.bus.console.ended ≡ board.bus.console.ended →
        board'.bus.console.kept ≡ [] → {Fails : Type 0} → SinkGoesOn held passed Fails sink sink' →
        ((end ≡ Some ends.WriteFault → ⊥) → (board.end ≡ Some ends.WriteFault → ⊥) × (Fails → ⊥)) →
        HasEndCause (source_faults source0) (source_faults source) (sink_faults sink0) (sink_faults sink') board0.end end → GoesOn left source_faults held passed sink_faults source0 sink0 board0 source sink' (record board' { end = end })
    goes-flushed board' end store input kept goes done cause =
        record {
          ended = λ e p. absurd (let q = sym running ∙ p in cc);
          kept = λ e n f p. kept;
          store = store ∙ first.store;
          source_goes_on = subst (λ (x : Bool). SourceGoesOn left board0.bus.console.ended source0 x source) (sym input) first.source_goes_on;
          sink_goes_on = record {
            keeps = λ front h. goes.keeps front (first.sink_goes_on.keeps front h);
            tells = λ h. goes.tells (first.sink_goes_on.tells h);
            flushed = λ q h. goes.flushed (done q).1 (first.sink_goes_on.flushed (done q).0 h);
          };
          cause = cause;
        }
