use Rattle.mic1_datapath.proofs.Common.{◌≡◌, ◌≢◌, ℕ, ◌<◌, true, None, subst, sym, ap, ◌∙◌, arith, signed_byte, Mic1, statement_of, shifted, Fields}
use Rattle.mic1_datapath.proofs.Common.{registers_at, NineRegisters, arrived, loaded, next_address, result_of, registers_in, micro_in, reads, fetches}
use Rattle.mic1_datapath.proofs.Common.{under_way}
use Rattle.mic1_datapath.proofs.UnderWay.{kept_under_way}
use Rattle.mic1_datapath.proofs.latches.Latches.advance.Goals as goal

pub returns-clause-micro : goal.returns-clause-micro
unfolding statement_of
returns-clause-micro c =
    let s = statement_of Mic1 c.args.word in
    let m = micro_in c.args.self.now in
    let spelled = c.word_law.ensures.spells c.args.word c.requires.word in
    let valid = c.statement_law.ensures.conditions s spelled.valid in
    let v : c.args.c ≡ shifted s.part.shift (result_of s.part m) = c.requires.c ∙ ap (λ (x : ℕ). shifted s.part.shift x) c.requires.value in
    let became : registers_at c.settle.new.places ≡ loaded s.part.dests (shifted s.part.shift (result_of s.part m)) None (registers_in m) =
    c.settle.ensures.registers ∙ (λ i. loaded (c.destinations.ensures.value i) (v i) None (registers_in m)) in
    let arrives = c.arrive_after.ensures in
    let kept = λ (k : ℕ) (word : k ≢ 1) (low : k < 9). arrives.others k word (omega arith) (omega arith) in
    let mbr = arrives.mbru ∙ ap (λ (x : ℕ). arrived m.byte x) (c.settle.ensures.others 10 (omega arith) (omega arith)) in
    let addr = c.requires.lines.addr ∙ ap (λ (f : Fields). f.addr) spelled.fields in
    let jam = ap (λ (f : Fields). f.jam) spelled.fields in
    λ i. record {
      mar = (kept 0 (omega arith) (omega arith) ∙ ap (λ (r : NineRegisters). r.mar) became) i;
      mdr = (arrives.mdr ∙ ap (λ (r : NineRegisters). arrived m.word r.mdr) became) i;
      pc = (kept 2 (omega arith) (omega arith) ∙ ap (λ (r : NineRegisters). r.pc) became) i;
      sp = (kept 3 (omega arith) (omega arith) ∙ ap (λ (r : NineRegisters). r.sp) became) i;
      lv = (kept 4 (omega arith) (omega arith) ∙ ap (λ (r : NineRegisters). r.lv) became) i;
      cpp = (kept 5 (omega arith) (omega arith) ∙ ap (λ (r : NineRegisters). r.cpp) became) i;
      tos = (kept 6 (omega arith) (omega arith) ∙ ap (λ (r : NineRegisters). r.tos) became) i;
      opc = (kept 7 (omega arith) (omega arith) ∙ ap (λ (r : NineRegisters). r.opc) became) i;
      h = (kept 8 (omega arith) (omega arith) ∙ ap (λ (r : NineRegisters). r.h) became) i;
      mbr = mbr i;
      mpc = (c.goes_on-self.ensures.next s.next valid.next addr jam ∙ ap (λ (x : ℕ). next_address s.next c.args.value x) mbr) i;
      word = (ap (λ (x : ℕ). under_way (reads c.args.word) x) c.take.ensures ∙ kept_under_way c.args.sampled.word _ c.args.self.now.word c.requires.sampled.0) i;
      byte = (ap (λ (x : ℕ). under_way (fetches c.args.word) x) c.take_byte.ensures ∙ kept_under_way c.args.sampled.byte _ c.args.self.now.byte c.requires.sampled.1) i;
      entry = c.args.self.now.entry;
      clocked = true;
    }

pub returns-clause-latches : goal.returns-clause-latches
returns-clause-latches c =
    let was = c.settle.ensures.others in
    let old = c.requires.latches in
    let mbr = was 10 (omega arith) (omega arith) in
    record {
      mpc = c.goes_on-self.ensures.small;
      mbr = c.arrive_after.ensures.byte (subst (λ (x : ℕ). x < 256) (sym mbr) old.mbr);
      signed = c.arrive_after.ensures.mbr (was 9 (omega arith) (omega arith) ∙ old.signed ∙ ap signed_byte (sym mbr));
      nothing = c.arrive_after.ensures.others 13 (omega arith) (omega arith) (omega arith) ∙ was 13 (omega arith) (omega arith) ∙ old.nothing;
      before = c.requires.word;
    }
