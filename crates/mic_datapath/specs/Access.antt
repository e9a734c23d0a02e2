-- What the accesses of a cycle come to, by what the ports are given.
use Rattle.std.specs.Prelude.{◌≡◌, ◌≢◌, ◌⊎◌, ◌<◌, ◌≤◌, ◌/◌, ◌%◌, ◌==◌, ◌&&◌, ℕ, Bool, true, false, List, [], ◌∷◌, ◌++◌, length, drop, Option, Some, None, Result, Err, OnOk, IfOk, IfErr, IsErrOf, IsTrue}
use Rattle.console_port.specs.Prelude.{ChangesOnly, IsLed, Stands, refused_by, IsFault, most_kept, BusView, World, Refusal, console_at}
use Rattle.console_port.specs.declared.fault.BusFault.{BusFault}
use Rattle.console_port.specs.declared.fault.BusFault.TheVariants.{ReadFault, WriteFault}
use Rattle.micro_word.specs.declared.statement.Mem.{Mem}
use Rattle.micro_word.specs.declared.statement.Mem.TheVariants as mems
use Rattle.mic_datapath.specs.Memory.{written, sampled, word_under_way, byte_under_way}
use Rattle.mic_datapath.specs.declared.ports.Ports.{Ports}

-- the write or the read leads the world w to v, and this word is under way
pub record IsTransfer (stack_end : ℕ) (mem : Mem) (p : Ports) (w : World) (word : Option ℕ) (v : World) : Type 0 where
  pub its_word : word ≡ word_under_way stack_end mem p (written stack_end mem p w)
  pub after : v ≡ sampled stack_end mem p (written stack_end mem p w)
  pub words : v.words ≡ (written stack_end mem p w).words

-- all accesses lead the world w to v, and this word and this byte are under way
pub record IsAccess (stack_end : ℕ) (mem : Mem) (fetch : Bool) (p : Ports) (w : World) (word byte : Option ℕ) (v : World) : Type 0 where
  pub its_word : word ≡ word_under_way stack_end mem p (written stack_end mem p w)
  pub its_byte : byte ≡ byte_under_way fetch p (written stack_end mem p w)
  pub after : v ≡ sampled stack_end mem p (written stack_end mem p w)

-- what leads each world that is shown, between any source and any sink, which stay as they are
abbrev pub LeadsInside : BusView → BusView → (World → World → Type 0) → Type 0
LeadsInside bus bus' leads = (left held : Option (List ℕ)) → IsLed left held bus left held bus' leads

-- Over a memory of these words, accesses that reach only memory. Every world of it goes to the same with the new words.

-- nothing is written, and this word and this byte are under way
abbrev pub SamplesMemory : BusView → Mem → Bool → Ports → Option ℕ → Option ℕ → Type 0
SamplesMemory bus mem fetch p word byte = (w : World) → w.words ≡ bus.words → IsAccess (length bus.words) mem fetch p w word byte w

abbrev pub AccessesMemory : BusView → BusView → Mem → Bool → Ports → Option ℕ → Option ℕ → Type 0
AccessesMemory bus bus' mem fetch p word byte =
    (w : World) → w.words ≡ bus.words → IsAccess (length bus.words) mem fetch p w word byte (record w { words = bus'.words })

abbrev pub TransfersMemory : BusView → BusView → Mem → Ports → Option ℕ → Type 0
TransfersMemory bus bus' mem p word =
    (w : World) → w.words ≡ bus.words → IsTransfer (length bus.words) mem p w word (record w { words = bus'.words })

abbrev pub is_read : Mem → Bool
is_read mems.Read = true
is_read mems.Write = false
is_read mems.None = false

-- a read or a write
abbrev pub is_access : Mem → Bool
is_access mems.Read = true
is_access mems.Write = true
is_access mems.None = false

-- Past the memory's words, a read takes the first untaken byte, and a write gives one byte more.
pub record AtConsole : Type 0 where
  pub takes : (stack_end : ℕ) (p : Ports) (mem : Mem) (w : World) → stack_end ≤ p.mar → is_read mem ≡ true →
      (sampled stack_end mem p (written stack_end mem p w)).untaken ≡ drop 1 w.untaken
  pub gives : (stack_end : ℕ) (p : Ports) (w : World) → stack_end ≤ p.mar →
      (written stack_end mems.Write p w).given ≡ w.given ++ (p.mdr % 256) ∷ []

-- What accesses come to between a source and a sink, where `Does x w v` says that they lead the world w to v with x sampled.
-- A refusal is the result. A fault comes only where nothing is refused, past the memory's words, where the console is accessed.
pub record HasAccessed {T : Type 0} (why : Option Refusal) (mem : Mem) (mar : ℕ) (Does : T → World → World → Type 0)
    (left held : Option (List ℕ)) (bus : BusView) (left' held' : Option (List ℕ)) (bus' : BusView) (result : Result T BusFault) : Type 0 where
  pub allowed : OnOk result (why ≡ None)
  pub ok : IfOk result (λ x. IsLed left held bus left' held' bus' (Does x))
  pub others : OnOk result (ChangesOnly mar bus.words bus'.words)
  pub refusal : (e : BusFault) → refused_by why ≡ Some e → result ≡ Err e
  pub refused : IfErr result (λ e. (IsFault e → ⊥) → refused_by why ≡ Some e)
  pub clear : IfErr result (λ e. IsFault e → why ≡ None)
  pub beyond : IfErr result (λ e. IsFault e → length bus.words ≤ mar)
  pub stands : IfErr result (Stands left held bus left' held' bus')
  pub reads : IsErrOf result ReadFault → IsTrue (is_read mem && mar == console_at)
  pub uses : IsErrOf result WriteFault → IsTrue (is_access mem && mar == console_at)

-- a read of the console that is not refused, where bytes wait
pub record ReadsWaiting (stack_end : ℕ) (mem : Mem) (mar : ℕ) (refusal : Option Refusal) (kept : List ℕ) : Type 0 where
  pub some : kept ≢ []
  pub reads : IsTrue (is_read mem && mar == console_at)
  pub beyond : stack_end ≤ mar
  pub clear : refusal ≡ None

-- while the console has room for one byte more, the sink is left as it is by all but such a read
abbrev pub LetsBytesWait : {K : Type 0} → ℕ → Mem → ℕ → Option Refusal → List ℕ → K → K → Type 0
LetsBytesWait stack_end mem mar refusal kept sink sink' = length kept < most_kept → (sink' ≡ sink) ⊎ ReadsWaiting stack_end mem mar refusal kept

-- no access of the cycle reaches past the memory's words
pub record AreInMemory (stack_end : ℕ) (mem : Mem) (fetch : Bool) (mar pc : ℕ) : Type 0 where
  pub word : is_access mem ≡ true → mar < stack_end
  pub byte : fetch ≡ true → pc / 4 < stack_end
