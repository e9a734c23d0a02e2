-- What is carried over, in the cycles of the second store.
use Rattle.mic1_checks.proofs.Common.{◌≡◌, ◌⊎◌, ℕ, List, inl, inr, refl, sym, subst, Contains, Micro, Instr, Err, Halt, Timing, cost, entry_of, is_taken, State}
use Rattle.mic1_checks.proofs.Common.{VerifiedView, Origin, Moment, Counts, CarriedBy, Onward, row_number, DecideSeconds, GoesOn, MovesOn, spent_by, timing_by}
use Rattle.mic1_checks.specs.declared.judged.Costs.{Costs}
use Rattle.mic1_checks.proofs.Seconds.{cost_is, spent_is}

-- what a leaf carries over, where the leaves decide the second counts
pub moves_on : (leaves : List Counts) → DecideSeconds leaves → (xs : List Counts) → ((c : Counts) → Contains xs c → Contains leaves c) → (row : ℕ)
    (store' before : List ℕ) (o : Origin) (entry' spent : ℕ) (q : Moment Micro) (to : State) →
    CarriedBy xs row store' before o entry' spent q to → MovesOn store' entry' before o q (spent_by leaves row spent) to
moves_on leaves decide xs kept row store' before o entry' spent q to by =
    subst (λ (n : ℕ). MovesOn store' entry' before o q n to)
    (sym (spent_is leaves by.counts row spent decide (kept by.counts by.is_leaf) by.its_row by.carries.spent_is))
    (record { moves = by.carries.moves; words = by.carries.words })

-- the row of an instruction that does not end the run says what it costs
pub by_row : (costs : Costs) (timing : Timing) (v : VerifiedView) (s : State) (i : Instr) →
    (i ≡ Halt) ⊎ ((i ≡ Err) ⊎ (cost v.image (timing_by costs timing) i s ≡ spent_by costs.leaves.items (row_number i) (cost v.image timing i s)))
by_row costs timing v s Halt = inl refl
by_row costs timing v s Err = inr (inl refl)
by_row costs timing v s i =
    inr (inr (cost_is (spent_by costs.leaves.items (row_number i)) (timing.of i) (is_taken i s.running.operands) (entry_of v.image.pool i)))

-- where an instruction leads, in the second store's cycles
pub goes_on : (costs : Costs) → DecideSeconds costs.leaves.items → (xs : List Counts) → ((c : Counts) → Contains xs c → Contains costs.leaves.items c) →
    (store' : List ℕ) (entry' : ℕ) (before : List ℕ) (timing : Timing) (v : VerifiedView) (o : Origin) (s : State) (q : Moment Micro) (i : Instr) →
    (i ≡ Halt) ⊎ ((i ≡ Err) ⊎ Onward xs (row_number i) store' entry' before timing v o s q i) →
    (i ≡ Halt) ⊎ ((i ≡ Err) ⊎ GoesOn store' entry' before (timing_by costs timing) v o s q i)
goes_on costs decide xs kept store' entry' before timing v o s q i (inl halt) = inl halt
goes_on costs decide xs kept store' entry' before timing v o s q i (inr (inl err)) = inr (inl err)
goes_on costs decide xs kept store' entry' before timing v o s q i (inr (inr on)) = elim (by_row costs timing v s i) [
  | inl halt ↦ inl halt
  | inr rest ↦ elim rest [
    | inl err ↦ inr (inl err)
    | inr is ↦
        inr (inr (record {
          goes = λ to went.
              subst (λ (n : ℕ). MovesOn store' entry' before o q n to) (sym is)
              (moves_on costs.leaves.items decide xs kept (row_number i) store' before o entry' (cost v.image timing i s) q to (on.goes to went));
          limits = on.limits;
        }))
  ]
]
