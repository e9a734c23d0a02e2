-- A read lets the bytes of the console wait, unless it is of the console.
use Rattle.mic_datapath.proofs.Common.{◌≡◌, ◌≢◌, ◌⊎◌, inl, inr, ◌<◌, ◌≤◌, ◌==◌, ℕ, List, [], ◌∷◌, None, refl, sym, subst, arith, IsTrue, cases_lt, cases_Bool}
use Rattle.mic_datapath.proofs.Common.{nat_tests, console_at, read_refusal, Mem, memory_refusal, LetsBytesWait}
use Rattle.micro_word.specs.declared.statement.Mem.TheVariants as mems

-- a read that is not refused, and not of the memory, is of the console
at_console : (n at : ℕ) → read_refusal n at ≡ None → n ≤ at → IsTrue (at == console_at)
unfolding read_refusal
at_console n at clear beyond = elim (cases_Bool (at == console_at)) [
  | inl here ↦ here
  | inr other ↦ absurd (grind (arith, nat_tests, clear, beyond, other))
]

some_or_none : (xs : List ℕ) → (xs ≡ []) ⊎ (xs ≢ [])
some_or_none [] = inl refl
some_or_none (x ∷ xs) = inr (λ e. cc)

read_lets : {K : Type 0} (n at : ℕ) (kept : List ℕ) (sink sink' : K) → read_refusal n at ≡ None → (at < n → sink' ≡ sink) → (kept ≡ [] → sink' ≡ sink) →
    LetsBytesWait n mems.Read at None kept sink sink'
read_lets n at kept sink sink' clear memory empty = λ room.
    elim (cases_lt at n) [
      | inl inside ↦ inl (memory inside)
      | inr beyond ↦ elim (some_or_none kept) [
        | inl none ↦ inl (empty none)
        | inr some ↦ inr (record { some = some; reads = at_console n at clear beyond; beyond = beyond; clear = refl })
      ]
    ]

pub read_waits : {K : Type 0} (n at : ℕ) (kept : List ℕ) (sink sink' : K) (mem : Mem) → mem ≡ mems.Read → memory_refusal n mem at ≡ None →
    (at < n → sink' ≡ sink) → (kept ≡ [] → sink' ≡ sink) → LetsBytesWait n mem at None kept sink sink'
read_waits n at kept sink sink' mem is clear memory empty =
    subst (λ (x : Mem). LetsBytesWait n x at None kept sink sink') (sym is)
    (read_lets n at kept sink sink' (subst (λ (x : Mem). memory_refusal n x at ≡ None) is clear) memory empty)
