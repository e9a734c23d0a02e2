-- Symbolic runs of Mic-1 over the shipped microprogram: a run along guessed next addresses, and what makes it the machine's.
use Rattle.mic1_interpreter.proofs.Common.{ap, ap₂, ◌∙◌, ◌≡◌, ℕ, zero, suc, ◌<◌, Option, Some, None, true, List, length, arith, refl, add-zero, length-set}
use Rattle.mic1_interpreter.proofs.Common.{nat_lt, nat_tests, World, Refusal, Mem, Write, Placed, Done, Refused, Micro, clock, world_after, ports_of, settled}
use Rattle.mic1_interpreter.proofs.Common.{refusal, mic1_meaning, microstep, step_of_word, driven, Ports, written, sampled, memory_refusal, byte_refusal}
use Rattle.mic1_interpreter.proofs.Common.{outcome, Moment, is_inside, outcome_at, stalls_at, last, pass, pass_on, address_after, left_of}
use Rattle.mic1_interpreter.proofs.Store.{shipped, HasStatements}

-- `top` is the end of the memory.
module _ (top : ℕ) where
  abbrev pub guided : Placed → List ℕ → Moment Micro → Moment Micro
  guided s gs p =
      record { state = record (clock top s p.state p.world) { mpc = address_after s.next gs }; world = world_after top s p.state p.world; stalls = p.stalls }

  -- no access of a step is refused, and the guess is right
  abbrev pub IsClear : Placed → List ℕ → Moment Micro → Type 0
  IsClear s gs p =
      (memory_refusal top s.part.mem (settled s.part p.state).mar ≡ None)
      × (byte_refusal top s.part.fetch (settled s.part p.state).pc ≡ None)
      × ((clock top s p.state p.world).mpc ≡ address_after s.next gs)
      × (nat_lt p.state.mpc 512 ≡ true)

  -- the moment after n + 1 steps along the guesses
  abbrev pub clocked : List ℕ → ℕ → Moment Micro → Moment Micro
  clocked gs zero p = guided (shipped p.state.mpc) gs p
  clocked gs (suc n) p = let s = shipped p.state.mpc in clocked (left_of s.next gs) n (guided s gs p)

  -- none of n + 1 steps is refused, none but the last comes to a boundary or an end, and the guesses are right
  abbrev pub IsSmooth : List ℕ → ℕ → Moment Micro → Type 0
  IsSmooth gs zero p = IsClear (shipped p.state.mpc) gs p
  IsSmooth gs (suc n) p =
      let s = shipped p.state.mpc in
      let q = guided s gs p in
      IsClear s gs p × (is_inside mic1_meaning q.state ≡ true) × IsSmooth (left_of s.next gs) n q

  step-clear : (s : Placed) (gs : List ℕ) (p : Moment Micro) → length p.world.words ≡ top → IsClear s gs p →
      microstep s p.state p.world ≡ Done (guided s gs p).state (guided s gs p).world
  step-clear s gs p long h =
      let a = h.0 in
      let b = h.1 in
      rw long (simp (a, b) (λ i. Done (record (clock top s p.state p.world) { mpc = h.2 i }) (world_after top s p.state p.world)))

  pub step-refused : (s : Placed) (m : Micro) (w : World) (why : Refusal) → length w.words ≡ top → refusal top s m ≡ Some why → microstep s m w ≡ Refused why
  step-refused s m w why long h =
      ap (λ (n : ℕ). outcome (refusal n s m) (clock n s m w) (world_after n s m w)) long
      ∙ ap (λ (r : Option Refusal). outcome r (clock top s m w) (world_after top s m w)) h

  written-long : (mem : Mem) (p : Ports) (w : World) → length (written top mem p w).words ≡ length w.words
  written-long Write p w = length-set w.words p.mar p.mdr
  written-long _ p w = refl

  sampled-long : (mem : Mem) (p : Ports) (w : World) → length (sampled top mem p w).words ≡ length w.words
  sampled-long Write p w = refl
  sampled-long _ p w = refl

  guided-long : (s : Placed) (gs : List ℕ) (p : Moment Micro) → length (guided s gs p).world.words ≡ length p.world.words
  guided-long s gs p =
      let given = ports_of (settled s.part p.state) in
      sampled-long s.part.mem given (written top s.part.mem given p.world) ∙ written-long s.part.mem given p.world

  pub clocked-long : (gs : List ℕ) (n : ℕ) (p : Moment Micro) → length (clocked gs n p).world.words ≡ length p.world.words
  clocked-long gs zero p = guided-long (shipped p.state.mpc) gs p
  clocked-long gs (suc n) p = let s = shipped p.state.mpc in clocked-long (left_of s.next gs) n (guided s gs p) ∙ guided-long s gs p

-- `program` has the words of a control store that holds the shipped microprogram.
module _ (program : List ℕ) (has : HasStatements program) (top : ℕ) where
  -- the outcome of the word at MPC is that of the shipped statement
  pub outcome_is : (p : Moment Micro) → p.state.mpc < 512 → outcome_at mic1_meaning program p ≡ microstep (shipped p.state.mpc) p.state p.world
  unfolding step_of_word
  outcome_is p l = ap (λ (s : Placed). microstep s p.state p.world) (has p.state.mpc l)

  stalls_are : (p : Moment Micro) → stalls_at mic1_meaning program p ≡ p.stalls
  unfolding driven
  stalls_are p = add-zero p.stalls

  outcome-clear : (gs : List ℕ) (p : Moment Micro) → length p.world.words ≡ top → IsClear top (shipped p.state.mpc) gs p →
      outcome_at mic1_meaning program p ≡ Done (guided top (shipped p.state.mpc) gs p).state (guided top (shipped p.state.mpc) gs p).world
  outcome-clear gs p long h =
      let clear : nat_lt p.state.mpc 512 ≡ true = h.3 in
      let l : p.state.mpc < 512 = grind (arith, nat_tests) in
      outcome_is p l ∙ step-clear top (shipped p.state.mpc) gs p long h

  pub pass-clocked : (gs : List ℕ) (n : ℕ) (p : Moment Micro) → length p.world.words ≡ top → IsSmooth top gs n p →
      pass mic1_meaning program n p ≡ Some (clocked top gs n p)
  pass-clocked gs zero p long h = ap₂ (last mic1_meaning program) (stalls_are p) (outcome-clear gs p long h)
  pass-clocked gs (suc n) p long h =
      let s : Placed = shipped p.state.mpc in
      let q : Moment Micro = guided top s gs p in
      pass_on mic1_meaning program n p {q = q} (stalls_are p) (outcome-clear gs p long h.0) h.1
      (pass-clocked (left_of s.next gs) n q (guided-long top s gs p ∙ long) h.2)
