use Rattle.mic2_datapath.proofs.Common.{◌≡◌, Bool, true, length, refl, sym, ap, subst, ◌∙◌, arith, is_some, common_steps, World, IsTransfer, first_clear}
use Rattle.mic2_datapath.proofs.Common.{led_same, memory_refusal, ports_with, access_by}
use Rattle.micro_word.specs.declared.statement.Mem.TheVariants as mems
use Rattle.mic2_datapath.proofs.latches.Latches.access_inside.Goals as goal

pub returns-then-reads-clause-inside : goal.returns-then-reads-clause-inside
returns-then-reads-clause-inside c =
    let bus = c.args.bus.now in
    let read = c.read_alone-sampled.result.word in
    let some : is_some read ≡ true = c.read_alone-sampled.ensures.word in
    let at = c.mar_for-mar.ensures in
    record {
      accesses = c.reads.ensures ∙ ap access_by (c.if-reads.true ∙ sym some);
      clear =
          (λ i. memory_refusal (length bus.words) (access_by (some i)) (sym at i))
          ∙ first_clear _ _ (c.read_alone-sampled.ensures.clear (ports_with c.mar_for-mar.result 0 0) refl);
      transfer = λ p mar mdr left held.
          led_same left held bus _ (λ w shows.
          let a = c.read_alone-sampled.ensures.access p (mar ∙ sym at) w shows.words in
          subst (λ (reads : Bool). IsTransfer (length bus.words) (access_by reads) p w read w) (sym some)
          (record { its_word = a.its_word; after = a.after; words = refl }));
      samples = λ no. absurd (let wrong = sym some ∙ no in cc);
      same = λ is. refl;
    }

pub returns-clause-inside : goal.returns-clause-inside
returns-clause-inside c =
    let n = length c.args.bus.now.words in
    let mar_is = c.mar_for-mar.ensures in
    let mdr_is = c.mdr_for-mdr.ensures in
    let done = c.if-not-write_alone.false in
    record {
      accesses = c.reads.ensures ∙ ap access_by c.if-reads.false;
      clear = (λ i. memory_refusal n mems.Write (sym mar_is i)) ∙ first_clear _ _ (c.write_alone.ensures.clear done (ports_with c.mar_for-mar.result 0 0) refl);
      transfer = λ p mar mdr left held rest fits.
          let led = c.write_alone.ensures.access done p (mar ∙ sym mar_is) (mdr ∙ sym mdr_is) left held rest fits in (
            led.0,
            led.1,
            λ w shows same.
                let to = led.2 w shows same in (
                  to.0,
                  record { its_word = refl; after = to.1.after; words = ap (λ (v : World). v.words) to.1.after },
                  to.2,
                  to.3,
                ),
          );
      samples = λ no. grind (arith, common_steps);
      same = λ is. absurd (cc);
    }
