-- The machines only add to what was given.
use Rattle.cli_call.proofs.Common.{◌≡◌, ◌∙◌, ℕ, ◌%◌, Bool, true, false, if◌then◌else◌, List, [], ◌∷◌, ◌++◌, length, Option, Some, None, refl, sym, ap, nat_lt}
use Rattle.cli_call.proofs.Common.{append-nil, World, Refusal, given_after, statement_of, Mem, Placed, Done, Ports, outcome, sampled, written, ports_given}
use Rattle.cli_call.proofs.Common.{step_of_word as step_of_word1, mic1_meaning, edge_refusal, mic2_meaning, OnlyGives}
use Rattle.mic2_datapath.specs.Prelude.{step_of_word as step_of_word2, Micro}
use Rattle.mic_words.specs.declared.machine.Machine.TheVariants as machines
use Rattle.micro_word.specs.declared.statement.Mem.TheVariants as mems
use Rattle.mic1_datapath.specs.Microstep as mic1
use Rattle.mic2_datapath.specs.Microstep as mic2

abbrev Gives : World → World → Type 0
Gives w v = (more : List ℕ) × (v.given ≡ w.given ++ more)

gives_none : (w : World) → Gives w w
gives_none w = ([], sym (append-nil w.given))

gives_by : (b : Bool) (given : List ℕ) (byte : ℕ) → (more : List ℕ) × ((if b then given else given ++ byte ∷ []) ≡ given ++ more)
gives_by true given byte = ([], sym (append-nil given))
gives_by false given byte = (byte ∷ [], refl)

write_gives : (stack_end : ℕ) (given : List ℕ) (at value : ℕ) → (more : List ℕ) × (given_after stack_end given at value ≡ given ++ more)
unfolding given_after
write_gives stack_end given at value = gives_by (nat_lt at stack_end) given (value % 256)

written_gives : (stack_end : ℕ) (mem : Mem) (p : Ports) (w : World) → Gives w (written stack_end mem p w)
written_gives stack_end mems.Write p w = write_gives stack_end w.given p.mar p.mdr
written_gives stack_end mems.Read p w = gives_none w
written_gives stack_end mems.None p w = gives_none w

sampled_gives : (stack_end : ℕ) (mem : Mem) (p : Ports) (w : World) → (sampled stack_end mem p w).given ≡ w.given
sampled_gives stack_end mems.Write p w = refl
sampled_gives stack_end _ p w = refl

memory_gives : (stack_end : ℕ) (mem : Mem) (p : Ports) (w : World) → Gives w (sampled stack_end mem p (written stack_end mem p w))
memory_gives stack_end mem p w =
    let given = written_gives stack_end mem p w in
    (given.0, sampled_gives stack_end mem p (written stack_end mem p w) ∙ given.1)

-- what a step that is done leads to
done_world : {State : Type 0} (refusal : Option Refusal) (s s' : State) (w w' : World) → outcome refusal s w ≡ Done s' w' → w' ≡ w
done_world (Some why) s s' w w' is = absurd (cc)
done_world None s s' w w' is = cc

done_gives : {State : Type 0} (refusal : Option Refusal) (s s' : State) (old w w' : World) → Gives old w → outcome refusal s w ≡ Done s' w' → Gives old w'
done_gives refusal s s' old w w' given is = (given.0, ap (λ (v : World). v.given) (done_world refusal s s' w w' is) ∙ given.1)

pub mic1_gives : OnlyGives mic1_meaning
unfolding step_of_word1
mic1_gives word s s' w w' is =
    let statement : Placed = statement_of machines.Mic1 word in
    done_gives (mic1.refusal (length w.words) statement s) (mic1.clock (length w.words) statement s w) s' w (mic1.world_after (length w.words) statement s w) w'
    (memory_gives (length w.words) statement.part.mem (mic1.ports_of (mic1.settled statement.part s)) w) is

step_gives : (b : Bool) (statement : Placed) (s s' : Micro) (w w' : World) → mic2.step_if b (length w.words) statement s w ≡ Done s' w' → Gives w w'
step_gives true statement s s' w w' is =
    done_gives (edge_refusal (length w.words) 0 s.unit) (mic2.stalled w.words s) s' w w w' (gives_none w) is
step_gives false statement s s' w w' is =
    done_gives (mic2.refusal (length w.words) statement s) (mic2.clock (length w.words) statement s w) s' w (mic2.world_after (length w.words) statement s w) w'
    (memory_gives (length w.words) statement.part.mem (ports_given (mic2.settled statement s)) w) is

pub mic2_gives : OnlyGives mic2_meaning
unfolding step_of_word2
mic2_gives word s s' w w' is =
    let statement : Placed = statement_of machines.Mic2 word in
    step_gives (mic2.is_stalled statement s) statement s s' w w' is
