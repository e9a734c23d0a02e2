use Rattle.mic2_datapath.proofs.Common.{◌≡◌, length, ℕ, None, Some, Option, refl, sym, ◌∙◌, ap, subst, is_some, IfErr, OnErr, OnOk, refused_by, ChangesOnly}
use Rattle.mic2_datapath.proofs.Common.{Refusal, statement_of, shifted, led_same, memory_refusal, sample_refusal, jumps, moved_on, access_by, micro_in}
use Rattle.console_port.specs.declared.fault.BusFault.{BusFault}
use Rattle.micro_word.specs.declared.statement.Mem.TheVariants as mems
use Rattle.mic_words.specs.declared.machine.Machine.TheVariants as machines
use Rattle.mic2_datapath.proofs.Steps.{IsAsked, asked_for, edge_either, is_for, it_reads, mar_there, mdr_there, on_each_err, refusal_left, sampled_there}
use Rattle.mic2_datapath.proofs.Tried.{tried}
use Rattle.mic2_datapath.proofs.latches.Latches.edge_inside.Goals as goal

-- a cycle that accesses nothing

pub returns-then-is_quiet : goal.returns-then-is_quiet
unfolding statement_of
returns-then-is_quiet c =
    let s = statement_of machines.Mic2 c.args.word in
    let m = micro_in c.args.self.now in
    let m' = micro_in c.advance.new.self in
    let bus = c.args.bus.now in
    let r = c.advance.result in
    let asked = asked_for s m mems.None in
    let is : IsAsked s m asked = is_for s m mems.None (sym c.requires.computed.waits) (sym (c.is_quiet.ensures.quiet c.if-is_quiet.true)) in
    record {
      latches = c.advance.ensures.latches;
      tried =
          tried c.args.word m m' bus bus r _ c.is_ok.ensures.value
          (λ left held. edge_either c.args.word m left held bus asked is bus None m' r
          (led_same left held bus _ (λ w shows. record { its_word = refl; after = refl; words = refl })) (refl, λ a other. refl) c.advance.ensures.allowed
          (subst (λ (x : ℕ). OnOk r (m' ≡ moved_on s m x bus.words None)) (c.requires.computed.alu refl) c.advance.ensures.ok)
          (on_each_err r _ c.advance.ensures.err (λ e fails. refl)) c.advance.ensures.state c.advance.ensures.err)
          refl (on_each_err r _ c.advance.ensures.err (λ e fails. refl));
    }

-- a cycle whose read or write needs no source and no sink; what the unit samples is tested before a write, so that a word was read where it is refused

pub returns-in-Some : goal.returns-in-Some
unfolding statement_of
returns-in-Some c =
    let s = statement_of machines.Mic2 c.args.word in
    let m = micro_in c.args.self.now in
    let m' = micro_in c.advance-in-Some.new.self in
    let bus = c.args.bus.now in
    let bus' = c.access_inside.new.bus in
    let n = length bus.words in
    let computed = c.requires.computed in
    let sampled = c.in-Some.sampled in
    let inside = c.in-Some.ensures.inside in
    let asked = asked_for s m (access_by (is_some sampled)) in
    let is : IsAsked s m asked = is_for s m asked.mem (sym computed.waits) (sym inside.accesses) in
    let mar = mar_there c.args.word m _ c.args.value c.args.c _ computed refl refl in
    let mdr = sym (mdr_there c.args.word m _ c.args.value c.args.c _ computed refl refl) in
    let clear = subst (λ (at : ℕ). memory_refusal n asked.mem at ≡ None) mar inside.clear in
    let left_over = ap (λ (k : ℕ). sample_refusal k asked.at) c.access_inside.ensures.others.0 ∙ sym (refusal_left n asked clear) in
    let there = sampled_there s m c.args.c c.args.lines.now.takes (jumps s.part) refl c.requires.decoded.demands
    (computed.shifter refl ∙ ap (λ (x : ℕ). shifted s.part.shift x) (computed.alu refl)) in
    let r = c.advance-in-Some.result in
    let fails = subst (λ (why : Option Refusal). IfErr r (λ e. refused_by why ≡ Some e)) left_over c.advance-in-Some.ensures.err in
    let reads = λ (e : BusFault) (fail : refused_by (sample_refusal n asked.at) ≡ Some e). it_reads (is_some sampled) (sample_refusal n asked.at) e
    (λ no. ap (λ (at : Option ℕ). sample_refusal n at) (sym there) ∙ inside.samples no) fail in
    let same : OnErr r (bus' ≡ bus) = on_each_err r _ fails (λ e fail. inside.same (reads e (ap refused_by (sym (refusal_left n asked clear)) ∙ fail))) in
    record {
      latches = c.advance-in-Some.ensures.latches;
      tried =
          tried c.args.word m m' bus bus' r _ c.is_ok-in-Some.ensures.value
          (λ left held. edge_either c.args.word m left held bus asked is bus' sampled m' r
          (inside.transfer asked.ports (sym mar) mdr left held)
          (subst (λ (at : ℕ). ChangesOnly at bus.words bus'.words) mar c.access_inside.ensures.others)
          (subst (λ (why : Option Refusal). OnOk r (why ≡ None)) left_over c.advance-in-Some.ensures.allowed)
          (subst (λ (x : ℕ). OnOk r (m' ≡ moved_on s m x bus'.words sampled)) (computed.alu refl) c.advance-in-Some.ensures.ok)
          same c.advance-in-Some.ensures.state fails)
          c.access_inside.ensures.ended same;
    }
