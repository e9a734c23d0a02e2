-- An edge whose accesses need no source and no sink is done.
use Rattle.mic1_datapath.proofs.Common.{◌≡◌, ℕ, ◌==◌, Bool, true, Option, None, ap, length, ◌∙◌, ChangesOnly, BusView, statement_of, mem_of, fields_of, Lines}
use Rattle.mic1_datapath.proofs.Common.{Mem, IsAccess, LeadsInside, access_refusal, Ports, IsAtEdge, IsLast, IsTried, moved_on, ports_at, AreLatches, micro_in}
use Rattle.mic1_datapath.proofs.Common.{settled, next_micro, Latches}
use Rattle.mic_words.specs.declared.machine.Machine.TheVariants as machines
use Rattle.mic1_datapath.proofs.Steps.{Asked, IsAsked, edge_done, is_asked}

pub tried : (word value c : ℕ) (lines : Lines) (l l' : Latches) (bus bus' : BusView) (ports : Ports) (mem : Mem) (fetch : Bool) (read byte : Option ℕ) →
    IsAtEdge l word lines value c → ports ≡ ports_at word c (micro_in l) →
    mem ≡ mem_of (fields_of machines.Mic1 word).mem → fetch ≡ ((fields_of machines.Mic1 word).fetch == 1) →
    access_refusal (length bus.words) mem fetch ports ≡ None →
    LeadsInside bus bus' (λ w v. IsAccess (length bus.words) mem fetch ports w read byte v) →
    ChangesOnly ports.mar bus.words bus'.words → bus'.console.ended ≡ bus.console.ended →
    AreLatches l' → micro_in l' ≡ moved_on word value (micro_in l) read byte → IsLast word l' → IsTried word l bus l' bus' true
tried word value c lines l l' bus bus' ports mem fetch read byte at ports_are mem_is fetch_is clear led others ended latches moves last =
    let s = statement_of machines.Mic1 word in
    let m = micro_in l in
    let asked : Asked = record { ports = ports; mem = mem; fetch = fetch } in
    let is : IsAsked s m asked = is_asked word m value c ports mem fetch at.computed.value_is at.computed.c_is ports_are mem_is fetch_is in
    record {
      latches = latches;
      edge = λ done left held.
          edge_done word m asked is left held bus left held bus' read byte clear (led left held) others _
          (moves ∙ ap (λ (x : ℕ). next_micro s.next x (settled s.part m) read byte) at.computed.value_is);
      last = λ done. last;
      ended = ended;
      none = λ no. absurd (cc);
    }
