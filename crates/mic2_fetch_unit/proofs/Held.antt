-- What is known of the number of bytes, over an edge and over a cycle that lacks some.
use Rattle.mic2_fetch_unit.proofs.Common.{◌≡◌, ℕ, zero, suc, ◌+◌, ◌-◌, ◌%◌, ◌<◌, ◌≤◌, inl, inr, Bool, true, false, ◌==◌, arith, nat_le, ◌||◌, if◌then◌else◌}
use Rattle.mic2_fetch_unit.proofs.Common.{cases_Bool, nat_tests, have_after, Held, AtLeast, Jumped, One, Bounds, IsHeld, is_enough, held_after, Lack}
use Rattle.mic2_fetch_unit.proofs.Common.{WaitsFirst, Waits, WaitsLate, WaitsOn, IsWait, held_waited}

pub held_few : (q : Held) (p have : ℕ) → IsHeld q p have → have ≤ 6
held_few (AtLeast n) p have h = h.few
held_few Jumped p have h = omega arith
held_few One p have h = omega (arith, h.0)

pub held_enough : (d : ℕ) (q : Held) (p have : ℕ) → is_enough d q ≡ true → IsHeld q p have → d ≤ have
held_enough zero q p have e h = omega arith
held_enough (suc d) (AtLeast n) p have e h = let l : suc d ≤ n = grind (arith, nat_tests) in omega (arith, h.least)
held_enough (suc d) Jumped p have e h = absurd (cc)
held_enough (suc d) One p have e h = let l : suc d ≤ 1 = grind (arith, nat_tests) in omega (arith, h.0)

least_after : (n t p have : ℕ) → t ≤ n → Bounds n p have → Bounds (if nat_le n 3 then 3 - t else n - t) (p + t) (have_after p have t)
unfolding have_after
least_after n t p have e h = elim (cases_Bool (nat_le have 2)) [
  | inl b ↦
      let l : have ≤ 2 = grind (arith, nat_tests) in
      let low : n ≤ 2 = omega (arith, h.least) in
      let c : nat_le n 3 ≡ true = grind (arith, nat_tests) in
      rw (b, c) (record { least = omega (arith, h.aligned, h.least); few = omega (arith, h.aligned); aligned = omega (arith, h.aligned, h.least) })
  | inr b ↦
      let l : 2 < have = grind (arith, nat_tests) in
      elim (cases_Bool (nat_le n 3)) [
        | inl c ↦ rw (b, c) (record { least = omega arith; few = omega (arith, h.few); aligned = omega (arith, h.aligned, h.least) })
        | inr c ↦ rw (b, c) (record { least = omega (arith, h.least); few = omega (arith, h.few); aligned = omega (arith, h.aligned, h.least) })
      ]
]

pub held_edge : (t : ℕ) (q : Held) (p have : ℕ) → is_enough t q ≡ true → IsHeld q p have → IsHeld (held_after t q) (p + t) (have_after p have t)
unfolding have_after
held_edge t (AtLeast n) p have e h = least_after n t p have (least_enough t n e) h
  where
    least_enough : (d n : ℕ) → is_enough d (AtLeast n) ≡ true → d ≤ n
    least_enough zero n e = omega arith
    least_enough (suc d) n e = grind (arith, nat_tests)
held_edge zero Jumped p have e h = rw h (record { least = omega arith; few = omega arith; aligned = omega arith })
held_edge (suc t) Jumped p have e h = absurd (cc)
held_edge zero One p have e h = rw (h.0) (record { least = omega (arith, h.0, h.1); few = omega (arith, h.0, h.1); aligned = omega (arith, h.0, h.1) })
held_edge (suc t) One p have e h =
    let l : suc t ≤ 1 = grind (arith, nat_tests) in
    rw (h.0) (record { least = omega (arith, h.0, h.1); few = omega (arith, h.0, h.1); aligned = omega (arith, h.0, h.1) })

pub wait_short : (b : Lack) (q : Held) (p d have : ℕ) → IsWait b q p d → IsHeld q p have → have < d
wait_short WaitsFirst Jumped p d have i h = let l : 0 < d = grind (arith, nat_tests) in omega arith
wait_short Waits Jumped p d have i h = let l : 0 < d = grind (arith, nat_tests, i.0) in omega arith
wait_short WaitsLate Jumped p d have i h = let l : 0 < d = grind (arith, nat_tests, i.0) in omega arith
wait_short WaitsOn One p d have i h = let l : 1 < d = grind (arith, nat_tests) in omega (arith, h.0)
wait_short b q p d have i h = absurd i

pub wait_held : (b : Lack) (q : Held) (p d have : ℕ) → IsWait b q p d → IsHeld q p have → IsHeld (held_waited b) p (have_after p have 0)
unfolding have_after
wait_held WaitsFirst Jumped p d have i h = rw h (record { least = omega arith; few = omega arith; aligned = omega arith })
wait_held Waits Jumped p d have i h =
    let late : (p % 4 == 3) ≡ false = i.1 in
    let l : p % 4 < 3 = grind (arith, nat_tests) in
    rw h (record { least = omega arith; few = omega arith; aligned = omega arith })
wait_held WaitsLate Jumped p d have i h =
    let late : (p % 4 == 3) ≡ true = i.1 in
    let l : p % 4 ≡ 3 = grind (arith, nat_tests) in
    rw h (omega arith, omega arith)
wait_held WaitsOn One p d have i h = rw (h.0) (record { least = omega (arith, h.0, h.1); few = omega (arith, h.0, h.1); aligned = omega (arith, h.0, h.1) })
wait_held b q p d have i h = absurd i

-- both sides of an operation are within what it demands
pub wants_within : (pa pb ba bb : Bool) →
    ((if pa then 2 else if ba then 1 else 0) ≤ (if pa || pb then 2 else if ba || bb then 1 else 0))
    × ((if pb then 2 else if bb then 1 else 0) ≤ (if pa || pb then 2 else if ba || bb then 1 else 0))
wants_within true true ba bb = (omega arith, omega arith)
wants_within true false ba true = (omega arith, omega arith)
wants_within true false ba false = (omega arith, omega arith)
wants_within false true true bb = (omega arith, omega arith)
wants_within false true false bb = (omega arith, omega arith)
wants_within false false true true = (omega arith, omega arith)
wants_within false false true false = (omega arith, omega arith)
wants_within false false false true = (omega arith, omega arith)
wants_within false false false false = (omega arith, omega arith)
