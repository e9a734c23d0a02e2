-- Lemmas on a clock edge, for any machine: what the accesses of a cycle come to is what its edge does.
use Rattle.std.proofs.Common.{◌≡◌, ℕ, ◌%◌, ◌≤◌, ◌==◌, ◌&&◌, Bool, true, false, IsTrue, List, Option, Some, None, Result, Ok, Err, length, inl, inr, refl, sym, ap, subst, ◌∙◌}
use Rattle.std.specs.Prelude.{⊤, IfErr, IsErrAnd, OnOk}
use Rattle.console_port.specs.Prelude.{World, Refusal, StackLimit, OutOfMap, console_at, fault_of, ChangesOnly, IsLed, Shows, Stands, refused_by, IsFault, BusView}
use Rattle.console_port.specs.declared.fault.BusFault.{BusFault}
use Rattle.micro_word.specs.declared.statement.Mem.{Mem}
use Rattle.micro_word.specs.declared.statement.Mem.TheVariants as mems
use Rattle.mic_clock.specs.Prelude.{IsEdge, IsEdgeOver, LetsBytesWait, Meaning, edge_passed, Done, refusal_in, untaken_by, given_by, ReadsConsole, WritesConsole, UsesConsole}
use Rattle.mic_datapath.specs.Access.{AtConsole, HasAccessed, is_read, is_access, LetsBytesWait as LetsWait}
use Rattle.mic_datapath.specs.Memory.{first_refusal, outcome, sampled, written}
use Rattle.mic_datapath.specs.declared.ports.Ports.{Ports}

-- A step asks the bus for a write or a read: over a memory of so many words it is refused as `why` says, and else leaves a
-- world in which that access is made.
pub record Asks {State : Type 0} (m : Meaning State) (word : ℕ) (s : State) (p : Ports) (mem : Mem) (why : ℕ → Option Refusal) : Type 0 where
  pub after : World → State
  pub refused : (w : World) → refusal_in (m.step word s w) ≡ refused_by (why (length w.words))
  pub done : (w : World) → why (length w.words) ≡ None →
      m.step word s w ≡ Done (after w) (sampled (length w.words) mem p (written (length w.words) mem p w))

-- what is done where no access is refused returns the accesses' refusal
pub answered : {State : Type 0} (r : Option Refusal) (s : State) (w : World) → refusal_in (outcome r s w) ≡ refused_by r
answered (Some why) s w = refl
answered None s w = refl

-- what is not refused is done
pub unrefused : {P : Type 0} (r : Result ⊤ BusFault) (why : Option Refusal) → IfErr r (λ e. refused_by why ≡ Some e) → why ≡ None → OnOk r P → P
unrefused (Ok done) why fails clear holds = holds
unrefused (Err e) why fails clear holds = let none : None ≡ Some e = sym (ap refused_by clear) ∙ fails in absurd (cc)

-- a refusal is no fault of the source or the sink
pub refused_no_fault : (r : Option Refusal) (e : BusFault) → refused_by r ≡ Some e → IsFault e → ⊥
refused_no_fault None e is fault = absurd (cc)
refused_no_fault (Some (StackLimit at)) e is fault = let same : e ≡ fault_of (StackLimit at) = cc in subst IsFault same fault
refused_no_fault (Some (OutOfMap at)) e is fault = let same : e ≡ fault_of (OutOfMap at) = cc in subst IsFault same fault

-- where neither of two accesses is refused, neither is

pub first_clear : (a b : Option Refusal) → first_refusal a b ≡ None → a ≡ None
first_clear (Some why) b h = absurd (cc)
first_clear None b h = refl

pub second_clear : (a b : Option Refusal) → first_refusal a b ≡ None → b ≡ None
second_clear (Some why) b h = absurd (cc)
second_clear None b h = h

-- what leads each shown world to itself
pub led_same : (left held : Option (List ℕ)) (bus : BusView) (leads : World → World → Type 0) →
    ((w : World) → Shows left held bus w → leads w w) → IsLed left held bus left held bus leads
led_same left held bus leads f rest fits = (rest, fits, λ w shows same. (w, f w shows, shows, same))

both : (a b : Bool) → (a && b) ≡ true → a ≡ true
both true b h = refl
both false b h = absurd (cc)

module _ {State : Type 0} (m : Meaning State) (word : ℕ) (s : State) (left held : Option (List ℕ)) (bus : BusView) where
  pub size_of : (w : World) → Shows left held bus w → length w.words ≡ length bus.words
  size_of w shows = ap (λ (words : List ℕ). length words) shows.words

  -- a refused edge leaves all
  pub refused_edge : (why : Option Refusal) → ((w : World) → Shows left held bus w → refusal_in (m.step word s w) ≡ refused_by why) →
      (bus' : BusView) → bus' ≡ bus → (s' : State) → s' ≡ s → (e : BusFault) → refused_by why ≡ Some e →
      IsEdge m word s left held bus {T = ⊤} s' left held bus' (Err e)
  refused_edge why step bus' same s' stays e fails =
      let never = refused_no_fault why e fails in
      record {
        ok = tt;
        others = tt;
        refusal = λ w f shows refused. let its = sym fails ∙ (sym (step w shows) ∙ refused) in cc;
        err = record {
          refused = λ no_fault w shows. step w shows ∙ fails;
          reads = λ is w shows. absurd (never (subst IsFault (sym is) tt));
          uses = λ is w shows. absurd (never (subst IsFault (sym is) tt));
        };
        state = stays;
        stands =
            subst (λ (b : BusView). Stands left held bus left held b e) (sym same)
            (record {
              words = refl;
              same = λ no_fault w shows. shows;
              untaken = refl;
              ended = refl;
              emptied = λ fault. absurd (never fault);
              lost = λ is. absurd (never (subst IsFault (sym is) tt));
            });
      }

  -- an edge of a step that asks the bus for an access
  module _ (p : Ports) (mem : Mem) (why : ℕ → Option Refusal) (asks : Asks m word s p mem why) where
    module _ (law : AtConsole) (w : World) (shows : Shows left held bus w) (clear : why (length bus.words) ≡ None) (past : length bus.words ≤ p.mar) where
      done_in : (v : World) → length v.words ≡ length bus.words → m.step word s v ≡ Done (asks.after v) (sampled (length bus.words) mem p (written (length bus.words) mem p v))
      done_in v size =
          asks.done v (ap why size ∙ clear) ∙ ap (λ (n : ℕ). Done (asks.after v) (sampled n mem p (written n mem p v))) size

      reads_by : is_read mem ≡ true → ReadsConsole m word s w
      reads_by is =
          record {
            takes = λ input.
                ap untaken_by (done_in (record w { untaken = input }) (size_of w shows))
                ∙ ap Some (law.takes (length bus.words) p mem (record w { untaken = input }) past is);
          }

      writes_by : mem ≡ mems.Write → WritesConsole m word s w
      writes_by is =
          record {
            byte = p.mdr % 256;
            gives =
                ap given_by (done_in w (size_of w shows))
                ∙ (ap (λ (x : Mem). Some (sampled (length bus.words) x p (written (length bus.words) x p w)).given) is
                ∙ ap Some (law.gives (length bus.words) p w past));
          }

      -- a failed read of the console is of a step that reads it
      reads_console : IsTrue (is_read mem && p.mar == console_at) → ReadsConsole m word s w
      reads_console t = reads_by (both _ _ t)

      -- a failed access of the console is of a step that reads or writes it
      uses_console : IsTrue (is_access mem && p.mar == console_at) → UsesConsole m word s w
      uses_console t = by_mem mem refl (both _ _ t)
        where
          by_mem : (x : Mem) → mem ≡ x → is_access x ≡ true → UsesConsole m word s w
          by_mem mems.Read is a = inl (reads_by (ap is_read is))
          by_mem mems.Write is a = inr (writes_by is)
          by_mem mems.None is a = absurd (cc)

    refusal_here : (w : World) → Shows left held bus w → refusal_in (m.step word s w) ≡ refused_by (why (length bus.words))
    refusal_here w shows = asks.refused w ∙ ap (λ (n : ℕ). refused_by (why n)) (size_of w shows)

    -- an edge that is done, where each accessed world is that of the step
    pub edge_done : {Accessed : World → World → Type 0} (left' held' : Option (List ℕ)) (bus' : BusView) → why (length bus.words) ≡ None →
        IsLed left held bus left' held' bus' Accessed → ChangesOnly p.mar bus.words bus'.words → (s' : State) → p.mar ≡ (m.registers s').mar →
        ((w v : World) → Shows left held bus w → Shows left' held' bus' v → Accessed w v → m.step word s w ≡ Done s' v) →
        IsEdge m word s left held bus {T = ⊤} s' left' held' bus' (Ok tt)
    edge_done left' held' bus' clear led others s' at steps =
        record {
          ok = λ rest fits.
              let l = led rest fits in (
                l.0,
                l.1,
                λ w shows same. let to = l.2 w shows same in (to.0, steps w to.0 shows to.2 to.1, to.2, to.3),
              );
          others = subst (λ (a : ℕ). ChangesOnly a bus.words bus'.words) at others;
          refusal = λ w e shows refused. let none = sym refused ∙ refusal_here w shows ∙ ap refused_by clear in absurd (cc);
          err = tt;
          state = tt;
          stands = tt;
        }

    pub edge_refused : (bus' : BusView) → bus' ≡ bus → (s' : State) → s' ≡ s → (e : BusFault) → refused_by (why (length bus.words)) ≡ Some e →
        IsEdge m word s left held bus {T = ⊤} s' left held bus' (Err e)
    edge_refused = refused_edge (why (length bus.words)) refusal_here

    -- an edge that fails as its access did, with the result that a call returns for it
    pub edge_fails : {T U : Type 0} (law : AtConsole) (Does : T → World → World → Type 0) (left' held' : Option (List ℕ)) (bus' : BusView) (e : BusFault)
        (r : Result U BusFault) → IsErrAnd r (λ f. f ≡ e) → HasAccessed (why (length bus.words)) mem p.mar Does left held bus left' held' bus' (Err e) →
        IsEdge m word s left held bus {T = U} s left' held' bus' r
    edge_fails {T} law Does left' held' bus' e r hands a =
        edge_passed m word s left held bus {T = T} s left' held' bus' e r hands
        (record {
          ok = tt;
          others = tt;
          refusal = λ w f shows refused. let answer = a.refusal f (sym (refusal_here w shows) ∙ refused) in cc;
          err = record {
            refused = λ no_fault w shows. refusal_here w shows ∙ a.refused no_fault;
            reads = λ is w shows.
                let fault : IsFault e = subst IsFault (sym is) tt in reads_console law w shows (a.clear fault) (a.beyond fault) (a.reads (cc));
            uses = λ is w shows.
                let fault : IsFault e = subst IsFault (sym is) tt in uses_console law w shows (a.clear fault) (a.beyond fault) (a.uses (cc));
          };
          state = refl;
          stands = a.stands;
        })

    pub edge_waits : {K : Type 0} (law : AtConsole) (sink sink' : K) → LetsWait (length bus.words) mem p.mar (why (length bus.words)) bus.console.kept sink sink' →
        LetsBytesWait m word s left held bus sink sink'
    edge_waits law sink sink' lets room =
        elim (lets room) [
          | inl same ↦ inl same
          | inr read ↦ inr (read.some, λ w shows. reads_console law w shows read.clear read.beyond read.reads)
        ]

-- an edge between a source and a sink that fails as its access did, with the result that a call returns for it
pub over_fails : {State S K T U : Type 0} (m : Meaning State) (word : ℕ) (s : State) (p : Ports) (mem : Mem) (why : ℕ → Option Refusal) →
    Asks m word s p mem why → AtConsole → (left : S → Option (List ℕ)) (held : K → Option (List ℕ)) (Does : T → World → World → Type 0)
    (bus bus' : BusView) (source source' : S) (sink sink' : K) (e : BusFault) (r : Result U BusFault) → IsErrAnd r (λ f. f ≡ e) →
    HasAccessed (why (length bus.words)) mem p.mar Does (left source) (held sink) bus (left source') (held sink') bus' (Err e) →
    LetsWait (length bus.words) mem p.mar (why (length bus.words)) bus.console.kept sink sink' →
    IsEdgeOver m left held word s bus source sink s bus' source' sink' r
over_fails m word s p mem why asks law left held Does bus bus' source source' sink sink' e r hands a waits =
    record {
      edge = edge_fails m word s (left source) (held sink) bus p mem why asks law Does (left source') (held sink') bus' e r hands a;
      waits = edge_waits m word s (left source) (held sink) bus p mem why asks law sink sink' waits;
    }
