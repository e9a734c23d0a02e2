-- Runs of Mic-1 from one reset are the same over every store that holds the microprogram which ships, and over every loaded memory.
use Rattle.cli_call.proofs.Common.{◌≡◌, ◌⊎◌, inl, inr, ◌∙◌, ◌<◌, ◌≤◌, ◌+◌, ◌-◌, ◌*◌, ◌==◌, ◌&&◌, ℕ, zero, suc, nat_le, nat_lt, Bool, true, false, if◌then◌else◌}
use Rattle.cli_call.proofs.Common.{List, [], ◌∷◌, length, slice_index, Option, Some, None, IfSome, IsSome, IsTrue, refl, sym, ap, subst, arith, cases_lt}
use Rattle.cli_call.proofs.Common.{nat_tests, same_number_lists, mod-lt, HasTextWords, IsLoaded, World, Refusal, byte_in, statement_of, is_next, Placed}
use Rattle.cli_call.proofs.Common.{PlacedNext, End, Outcome, Done, Refused, MicroRun, HasOneEnd, after_end_or_step, after_step, bounded, bounded_by}
use Rattle.cli_call.proofs.Common.{counts_after, end_before, turn, turn_by, turns, word_at, Ports, byte_under_way, outcome, flag, next_address, arrived, Micro}
use Rattle.cli_call.proofs.Common.{clock, refusal, result_of, settled, world_after, driven, mic1_meaning, microstep, step_of_word, ListingRow, table1}
use Rattle.cli_call.proofs.Common.{HasShipped, shipped, statement_among, reset_run}
use Rattle.mic_words.specs.declared.machine.Machine.TheVariants as machines
use Rattle.micro_word.specs.declared.statement.PlacedNext.TheVariants as nexts

-- A loaded memory is one list of words.

module _ (text pool before one other : List ℕ) (loaded : IsLoaded text pool before one) (has : HasTextWords text one)
    (loaded' : IsLoaded text pool before other) (has' : HasTextWords text other) where
  in_pool : (at : ℕ) → (at < 0x4000 + length pool) ⊎ (0x4000 + length pool ≤ at) → 0x4000 ≤ at → length text ≤ 4 * at → slice_index one at ≡ slice_index other at
  in_pool at (inl below) pooled past =
      let k : at - 0x4000 < length pool = omega (arith, below, pooled) in
      let is : 0x4000 + (at - 0x4000) ≡ at = omega (arith, pooled) in
      subst (λ (a : ℕ). slice_index one a ≡ slice_index other a) is (loaded.pool_words (at - 0x4000) k ∙ sym (loaded'.pool_words (at - 0x4000) k))
  in_pool at (inr above) pooled past = loaded.others at past (inr above) ∙ sym (loaded'.others at past (inr above))

  past_text : (at : ℕ) → (at < 0x4000) ⊎ (0x4000 ≤ at) → length text ≤ 4 * at → slice_index one at ≡ slice_index other at
  past_text at (inl below) past = loaded.others at past (inl below) ∙ sym (loaded'.others at past (inl below))
  past_text at (inr pooled) past = in_pool at (cases_lt at (0x4000 + length pool)) pooled past

  word_same : (at : ℕ) → (4 * at < length text) ⊎ (length text ≤ 4 * at) → slice_index one at ≡ slice_index other at
  word_same at (inl inside) = has at inside ∙ sym (has' at inside)
  word_same at (inr past) = past_text at (cases_lt at 0x4000) past

  pub same_memory : one ≡ other
  same_memory = same_number_lists one other (loaded.size ∙ sym loaded'.size) (λ at inside. word_same at (cases_lt (4 * at) (length text)))

-- Each statement that ships goes on inside the store.

abbrev fits : List ListingRow → Bool
fits [] = true
fits (r ∷ rows) = is_next r.placed.next && fits rows

both : (a b : Bool) → IsTrue (a && b) → IsTrue a × IsTrue b
both true b h = (refl, h)
both false b h = absurd (cc)

next_among : (rows : List ListingRow) (at : ℕ) → IsTrue (fits rows) → IsTrue (is_next (statement_among rows at).next)
next_among [] at h = refl
next_among (r ∷ rows) at h =
    let parts = both (is_next r.placed.next) (fits rows) h in
    by (r.address == at) parts.0 (next_among rows at parts.1)
  where
    by : (here : Bool) → IsTrue (is_next r.placed.next) → IsTrue (is_next (statement_among rows at).next) →
        IsTrue (is_next (elim here as (λ b. Placed) [ true ↦ r.placed | false ↦ statement_among rows at ]).next)
    by true first rest = first
    by false first rest = rest

next_fits : (at : ℕ) → IsTrue (is_next (shipped machines.Mic1 at).next)
unfolding shipped
next_fits at = next_among table1 at refl

-- MPC stays an address of the store, and what becomes MBR a byte.

record Small (m : Micro) : Type 0 where
  pub mpc : m.mpc < 512
  pub mbr : m.mbr < 256
  pub byte : IfSome m.byte (λ b. b < 256)

arrived_small : (under_way : Option ℕ) (old : ℕ) → IfSome under_way (λ b. b < 256) → old < 256 → arrived under_way old < 256
arrived_small None old none small = small
arrived_small (Some b) old small before = small

fetched_small : (fetch : Bool) (p : Ports) (w : World) → IfSome (byte_under_way fetch p w) (λ b. b < 256)
unfolding byte_in
fetched_small true p w = mod-lt _ (omega arith)
fetched_small false p w = tt

below : (a b : ℕ) → IsTrue (nat_lt a b) → a < b
below a b h = grind (arith, nat_tests)

high_small : (taken : Bool) (low : ℕ) → low < 256 → (if taken then low + 256 else low) < 512
high_small true low small = omega (arith, small)
high_small false low small = omega (arith, small)

next_small : (next : PlacedNext) (x byte : ℕ) → IsTrue (is_next next) → byte < 256 → next_address next x byte < 512
next_small (nexts.Goto to) x byte h small = below to 512 h
next_small (nexts.Dispatch high) x byte h small = high_small high byte small
next_small (nexts.Branch test low) x byte h small = high_small (flag test x) low (below low 256 h)

clock_small : (stack_end : ℕ) (s : Placed) (m : Micro) (w : World) → IsTrue (is_next s.next) → Small m → Small (clock stack_end s m w)
clock_small stack_end s m w next small =
    let mbr : (settled s.part m).mbr < 256 = arrived_small m.byte m.mbr small.byte small.mbr in
    record { mpc = next_small s.next (result_of s.part m) (settled s.part m).mbr next mbr; mbr = mbr; byte = fetched_small s.part.fetch _ _ }

abbrev SmallAfter : Outcome Micro → Type 0
SmallAfter (Done s w) = Small s
SmallAfter (Refused why) = Unit {0}

unless_small : (why : Option Refusal) (s : Micro) (w : World) → Small s → SmallAfter (outcome why s w)
unless_small None s w small = small
unless_small (Some refused) s w small = tt

step_small : (word : ℕ) (m : Micro) (w : World) → IsTrue (is_next (statement_of machines.Mic1 word).next) → Small m → SmallAfter (step_of_word word m w)
unfolding step_of_word
step_small word m w next small =
    let s : Placed = statement_of machines.Mic1 word in
    unless_small (refusal (length w.words) s m) (clock (length w.words) s m w) (world_after (length w.words) s m w) (clock_small (length w.words) s m w next small)

-- Two words of one statement do the same.

same_step : (a b : ℕ) → statement_of machines.Mic1 a ≡ statement_of machines.Mic1 b → (m : Micro) (w : World) → step_of_word a m w ≡ step_of_word b m w
unfolding step_of_word
same_step a b same m w = ap (λ (s : Placed). microstep s m w) same

no_stall : (word : ℕ) (m : Micro) → (driven word m).stalled ≡ false
unfolding driven
no_stall word m = refl

bounded_state : (bound : Option ℕ) (r : MicroRun Micro) → (bounded mic1_meaning bound r).state ≡ r.state
bounded_state None r = refl
bounded_state (Some bound) r = by_end r.end
  where
    stops : (stands stop : Bool) (q : MicroRun Micro) → q.state ≡ r.state → (if stands then (if stop then q else r) else r).state ≡ r.state
    stops true true q same = same
    stops true false q same = refl
    stops false stop q same = refl

    by_end : (e : Option End) → (bounded_by mic1_meaning e bound r).state ≡ r.state
    by_end (Some e) = refl
    by_end None = stops (mic1_meaning.is_boundary r.state) (nat_le bound r.counts.cycles) _ refl

module _ (one other : List ℕ) (has : HasShipped machines.Mic1 one) (has' : HasShipped machines.Mic1 other) (bound : Option ℕ) where
  after_same : (r : MicroRun Micro) (o : Outcome Micro) → after_step mic1_meaning one r o ≡ after_step mic1_meaning other r o
  after_same r (Done s w) =
      ap (λ (stalled : Bool). record { state = s; world = w; counts = counts_after mic1_meaning r.counts stalled s; end = None })
      (no_stall (word_at mic1_meaning one r.state) r.state ∙ sym (no_stall (word_at mic1_meaning other r.state) r.state))
  after_same r (Refused why) = refl

  after_small : (r : MicroRun Micro) (o : Outcome Micro) → Small r.state → SmallAfter o → Small (after_step mic1_meaning one r o).state
  after_small r (Done s w) small after = after
  after_small r (Refused why) small after = small

  -- what a run comes to over the first store is the same over the other, and small
  record Goes (r q : MicroRun Micro) : Type 0 where
    pub same : r ≡ q
    pub small : Small r.state

  steps : (e : Option End) (r : MicroRun Micro) → Small r.state → Goes (after_end_or_step mic1_meaning one e r) (after_end_or_step mic1_meaning other e r)
  steps (Some e) r small = record { same = refl; small = small }
  steps None r small =
      let here : statement_of machines.Mic1 (slice_index one r.state.mpc) ≡ shipped machines.Mic1 r.state.mpc = has r.state.mpc small.mpc in
      let there : statement_of machines.Mic1 (slice_index other r.state.mpc) ≡ shipped machines.Mic1 r.state.mpc = has' r.state.mpc small.mpc in
      let a : ℕ = slice_index one r.state.mpc in
      let b : ℕ = slice_index other r.state.mpc in
      let next : IsTrue (is_next (statement_of machines.Mic1 a).next) = subst (λ (s : Placed). IsTrue (is_next s.next)) (sym here) (next_fits r.state.mpc) in
      record {
        same = after_same r (step_of_word a r.state r.world) ∙ ap (after_step mic1_meaning other r) (same_step a b (here ∙ sym there) r.state r.world);
        small = after_small r (step_of_word a r.state r.world) small (step_small a r.state r.world next small);
      }

  turns_once : (e : Option End) (r : MicroRun Micro) → Small r.state → Goes (turn_by mic1_meaning one e r) (turn_by mic1_meaning other e r)
  turns_once (Some e) r small = record { same = refl; small = small }
  turns_once None r small = steps (end_before mic1_meaning r.state r.counts) r small

  same_turns : (n : ℕ) (r : MicroRun Micro) → Small r.state → turns mic1_meaning one bound n r ≡ turns mic1_meaning other bound n r
  same_turns zero r small = refl
  same_turns (suc n) r small =
      let q : MicroRun Micro = bounded mic1_meaning bound r in
      let goes = turns_once q.end q (subst Small (sym (bounded_state bound r)) small) in
      same_turns n (turn mic1_meaning one q) goes.small ∙ ap (turns mic1_meaning other bound n) goes.same

  -- two ended runs from one reset are the same
  pub same_runs : HasOneEnd mic1_meaning → (n k locals : ℕ) (w : World) →
      IsSome (turns mic1_meaning one bound n (reset_run mic1_meaning 0x002 locals w)).end →
      IsSome (turns mic1_meaning other bound k (reset_run mic1_meaning 0x002 locals w)).end →
      turns mic1_meaning one bound n (reset_run mic1_meaning 0x002 locals w) ≡ turns mic1_meaning other bound k (reset_run mic1_meaning 0x002 locals w)
  same_runs one_end n k locals w ended ended' =
      let r : MicroRun Micro = reset_run mic1_meaning 0x002 locals w in
      let small : Small r.state = record { mpc = omega arith; mbr = omega arith; byte = tt } in
      let same = same_turns n r small in
      same ∙ one_end other bound r n k (subst (λ (x : MicroRun Micro). IsSome x.end) same ended) ended'
