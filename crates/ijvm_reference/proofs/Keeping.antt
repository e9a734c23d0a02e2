-- What the console keeps, from what its own calls promise.
use Rattle.ijvm_reference.proofs.Common.{◌≡◌, ◌≢◌, ◌<◌, ◌≤◌, ℕ, Bool, true, false, nat_lt, List, [], ◌∷◌, ◌++◌, length, length-append, Option, Some, IfSome}
use Rattle.ijvm_reference.proofs.Common.{inl, inr, refl, sym, ap, subst, ◌∙◌, arith, nat_tests, ConsoleView, Untaken, Asks, TellsLeft, Instr, In, Out}
use Rattle.ijvm_reference.proofs.Common.{StepError}
use Rattle.ijvm_reference.specs.declared.frames.StepError.TheVariants as errors
use Rattle.ijvm_reference.specs.Prelude.{IsMetBy, is_empty, ReadsIn, WritesOut, Keeps, HasRead, HasKept}

-- the source, asked for a byte
abbrev pub AsksOf : Option (List ℕ) → Option (List ℕ) → ConsoleView → ConsoleView → Type 0
AsksOf left left' c c' = (bytes : List ℕ) → c.ended ≡ false → left ≡ Some bytes → Asks bytes left' c'.ended

ended_by : (bytes untaken : List ℕ) (left' : Option (List ℕ)) (ended : Bool) → Asks bytes left' ended → untaken ≡ bytes → ended ≡ is_empty untaken
ended_by [] untaken left' ended asks same = asks.1 ∙ sym (ap is_empty same)
ended_by (b ∷ rest) untaken left' ended asks same = asks.1 ∙ sym (ap is_empty same)

told_bytes : (left : Option (List ℕ)) (bytes untaken : List ℕ) (ended : Bool) → left ≡ Some bytes → ended ≡ false → Untaken left ended untaken → untaken ≡ bytes
told_bytes left bytes untaken ended is not_ended h =
    let here : Untaken left false untaken = subst (λ (b : Bool). Untaken left b untaken) not_ended h in
    subst (λ (l : Option (List ℕ)). IfSome l (λ x. untaken ≡ x)) is here

pub take_reads : (left left' : Option (List ℕ)) (c c' : ConsoleView) → (c.ended ≡ true → c' ≡ c) → (c.ended ≡ false → c'.kept ≡ []) → AsksOf left left' c c' → HasRead left c c'
take_reads left left' c c' later emptied asks = λ told untaken tell here. record {
  later = later;
  emptied = emptied;
  end = λ not_ended is.
      let t : TellsLeft left c.ended = tell is in
      ended_by t.bytes untaken left' c'.ended (asks t.bytes not_ended t.tells) (told_bytes left t.bytes untaken c.ended t.tells not_ended here);
}

pub give_writes : (byte : ℕ) (c c' : ConsoleView) → c'.ended ≡ c.ended → (length c.kept < 4096 → c'.kept ≡ c.kept ++ byte ∷ []) → (length c.kept ≡ 4096 → c'.kept ≡ byte ∷ []) → WritesOut c c'
give_writes byte c c' ended roomy full =
    record {
      ended = ended;
      more = λ h. ap length (roomy h) ∙ length-append c.kept (byte ∷ []);
      full = λ h. ap length (full h);
    }

pub not_roomy : (n : ℕ) → (n < 4096 → ⊥) → 4096 ≤ n
not_roomy n full = by_test (nat_lt n 4096) refl
  where
    by_test : (t : Bool) → nat_lt n 4096 ≡ t → 4096 ≤ n
    by_test true e = absurd (full (grind (arith, nat_tests)))
    by_test false e = grind (arith, nat_tests)

-- An instruction that meets an Err, from what its call of the console promises.

pub met_read : (e : StepError) (c : ConsoleView) → c.ended ≡ false → (e ≡ errors.WriteFault → c.kept ≢ []) → IsMetBy e (Some In) c
met_read e c ended put = record { read = λ is. (refl, ended); write = λ is. inl (refl, ended, put is) }

pub met_full : (e : StepError) (c : ConsoleView) → e ≢ errors.ReadFault → 4096 ≤ length c.kept → IsMetBy e (Some Out) c
met_full e c write full = record { read = λ is. absurd (write is); write = λ is. inr (refl, full) }

pub short_met : (i : Option Instr) (c : ConsoleView) → IsMetBy errors.OutOfMemory i c
short_met i c = record { read = λ is. cc; write = λ is. cc }

pub kept_read : (left : Option (List ℕ)) (i : Option Instr) (c c' : ConsoleView) → i ≡ Some In → HasRead left c c' → HasKept left i c c'
kept_read left i c c' is reads = λ told untaken tell here. record {
  read = λ e. reads told untaken tell here;
  write = λ e. absurd (let differ : Some In ≡ Some Out = sym is ∙ e in cc);
  other = λ n m. absurd (n is);
}

pub kept_written : (left : Option (List ℕ)) (i : Option Instr) (c c' : ConsoleView) → i ≡ Some Out → WritesOut c c' → HasKept left i c c'
kept_written left i c c' is writes = λ told untaken tell here. record {
  read = λ e. absurd (let differ : Some Out ≡ Some In = sym is ∙ e in cc);
  write = λ e. writes;
  other = λ n m. absurd (m is);
}

pub kept_same : (left : Option (List ℕ)) (i : Option Instr) (c : ConsoleView) → i ≢ Some In → i ≢ Some Out → HasKept left i c c
kept_same left i c not_in not_out = λ told untaken tell here. record {
  read = λ e. absurd (not_in e);
  write = λ e. absurd (not_out e);
  other = λ n m. refl;
}

-- The console after an instruction: each instruction leaves one, whatever console meets it.

read_next : (told : Bool) (untaken : List ℕ) (c : ConsoleView) → (c' : ConsoleView) × ReadsIn told untaken c c'
read_next told untaken c = by_end c.ended refl
  where
    by_end : (b : Bool) → c.ended ≡ b → (c' : ConsoleView) × ReadsIn told untaken c c'
    by_end true e = (c, record { later = λ h. refl; emptied = λ h. absurd (let differ : true ≡ false = sym e ∙ h in cc); end = λ h is. absurd (let differ : true ≡ false = sym e ∙ h in cc) })
    by_end false e = (record { kept = []; ended = is_empty untaken }, record { later = λ h. absurd (let differ : true ≡ false = sym h ∙ e in cc); emptied = λ h. refl; end = λ h is. refl })

write_next : (c : ConsoleView) → (c' : ConsoleView) × WritesOut c c'
write_next c = by_room (nat_lt (length c.kept) 4096) refl
  where
    by_room : (b : Bool) → nat_lt (length c.kept) 4096 ≡ b → (c' : ConsoleView) × WritesOut c c'
    by_room true e = (record { kept = 0 ∷ c.kept; ended = c.ended }, record { ended = refl; more = λ h. grind (arith); full = λ h. absurd (grind (arith, nat_tests)) })
    by_room false e = (record { kept = 0 ∷ []; ended = c.ended }, record { ended = refl; more = λ h. absurd (grind (arith, nat_tests)); full = λ h. refl })

pub next_kept : (told : Bool) (i : Option Instr) (untaken : List ℕ) (c : ConsoleView) → (c' : ConsoleView) × Keeps told i untaken c c'
next_kept told (Some In) untaken c =
    let next = read_next told untaken c in
    (next.0, record { read = λ e. next.1; write = λ e. absurd (cc); other = λ n m. absurd (n refl) })
next_kept told (Some Out) untaken c =
    let next = write_next c in
    (next.0, record { read = λ e. absurd (cc); write = λ e. next.1; other = λ n m. absurd (m refl) })
next_kept told i untaken c = (c, record { read = λ e. absurd (cc); write = λ e. absurd (cc); other = λ n m. refl })
