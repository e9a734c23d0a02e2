-- What the latches and the slots of Mic-3 mean: the state of its cycle.
use Rattle.std.specs.Prelude.{◌≡◌, ℕ, List, Option, Some, None}
use Rattle.mic3_datapath.specs.Common.{Mic2, statement_of, Placed, Refusal, registers_at, NineRegisters, ports_given, Prefetch, sample_refusal}
use Rattle.mic2_datapath.specs.Prelude.{micro_in, next_micro, past, unit_after, unit_refusal, unit_samples}
use Rattle.mic3_datapath.specs.declared.slots.OperandSlot.{OperandSlot}
use Rattle.mic3_datapath.specs.declared.slots.ResultSlot.{ResultSlot}
use Rattle.mic3_datapath.specs.declared.pipeline.Asked.{Asked}
use Rattle.mic3_datapath.specs.declared.pipeline.Pipeline.{Pipeline as Latched}
use Rattle.mic3_datapath.specs.Pipeline.{Pipeline, Issued, Computed}
use Rattle.mic3_datapath.specs.Cycle.{begins, computed, computed_in, is_jump_coming, issued_in, mem_in, mpc_after, retired, settled, bytes_leaving}

abbrev pub in_operand : Option OperandSlot → Option Issued
in_operand None = None
in_operand (Some o) = Some (record { statement = statement_of Mic2 o.control.word; a = o.a; b = o.b; byte = o.byte })

abbrev pub in_result : Option ResultSlot → Option Computed
in_result None = None
in_result (Some r) = Some (record { statement = statement_of Mic2 r.control.word; value = r.value; byte = r.byte })

-- the statement in the operand slot, which computes, and the one in the result slot, which retires

abbrev pub computing : Option OperandSlot → Option Placed
computing o = issued_in (in_operand o)

abbrev pub retiring : Option ResultSlot → Option Placed
retiring r = computed_in (in_result r)

-- the registers after the edge in which this many bytes are taken
abbrev pub retired_in : Latched → ℕ → NineRegisters
retired_in l taken = retired (in_result l.result) l.latches.word (past taken (registers_at l.latches.places))

-- why the word that the unit samples at the edge is refused, if it is
abbrev pub unit_refused : ℕ → Option ResultSlot → ℕ → ℕ → Prefetch → Option Refusal
unit_refused stack_end r pc taken unit = sample_refusal stack_end (unit_samples (is_jump_coming (retiring r)) pc taken unit)

abbrev pub pipeline_in : Latched → Pipeline
pipeline_in l = record { micro = micro_in l.latches; operand = in_operand l.operand; result = in_result l.result }

-- what a cycle asks of the bus is what the cycle does in which this issues
pub record IsAsked (i : Option Issued) (p : Pipeline) (q : Asked) : Type 0 where
  pub given : q.ports ≡ ports_given (settled i p)
  pub memory : q.mem ≡ mem_in p.result
  pub samples : (n : ℕ) → sample_refusal n q.at ≡ unit_refusal (is_jump_coming (computed_in p.result)) n q.ports.pc (bytes_leaving i) p.micro.unit
  pub its : q.at ≡ unit_samples (is_jump_coming (computed_in p.result)) q.ports.pc (bytes_leaving i) p.micro.unit

-- the word under way after an edge whose access sampled this: where nothing retires, one that has arrived stays
abbrev pub word_held : Option Computed → Option ℕ → Option ℕ → Option ℕ
word_held None word sampled = word
word_held (Some c) word sampled = sampled

-- after the edge in which this issues, with what its access sampled, where the unit samples these words
abbrev pub edged : Option Issued → Pipeline → List ℕ → Option ℕ → Pipeline
edged to_issue p words sampled =
    let r = settled to_issue p in
    record {
      micro = next_micro r (mpc_after to_issue p) (word_held p.result p.micro.word sampled)
          (unit_after (is_jump_coming (computed_in p.result)) words r.pc (bytes_leaving to_issue) p.micro.unit) (begins p.result);
      operand = to_issue;
      result = computed p.operand;
    }

-- after an edge that is done: what issued is in the operand slot, and what was there has computed
pub record HasMoved (to_issue : Option Issued) (p p' : Pipeline) : Type 0 where
  pub operand : p'.operand ≡ to_issue
  pub result : p'.result ≡ computed p.operand
