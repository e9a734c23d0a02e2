use Rattle.mic1_datapath.proofs.Common.{◌≡◌, ◌≢◌, ◌%◌, ◌==◌, ℕ, ap, sym, ◌∙◌, mem_bits, statement_of, Fields, Mem, access_by}
use Rattle.micro_word.specs.declared.statement.Mem.TheVariants as mems
use Rattle.mic1_datapath.proofs.latches.is_read.Goals as goal

-- the bits of an access are 0, 1 for a read and 2 for a write

lower_bit : (m : Mem) (bits : ℕ) → bits ≡ mem_bits m → (bits % 2 == 1) ≡ (bits == 1)
lower_bit mems.None bits is = ap (λ (x : ℕ). x % 2 == 1) is ∙ sym (ap (λ (x : ℕ). x == 1) is)
lower_bit mems.Read bits is = ap (λ (x : ℕ). x % 2 == 1) is ∙ sym (ap (λ (x : ℕ). x == 1) is)
lower_bit mems.Write bits is = ap (λ (x : ℕ). x % 2 == 1) is ∙ sym (ap (λ (x : ℕ). x == 1) is)

by_lower_bit : (m : Mem) (bits : ℕ) → bits ≡ mem_bits m → bits ≢ 0 → m ≡ access_by (bits % 2 == 1)
by_lower_bit mems.None bits is some = absurd (some is)
by_lower_bit mems.Read bits is some = sym (ap (λ (x : ℕ). access_by (x % 2 == 1)) is)
by_lower_bit mems.Write bits is some = sym (ap (λ (x : ℕ). access_by (x % 2 == 1)) is)

pub returns-clause-reads : goal.returns-clause-reads
unfolding statement_of
returns-clause-reads c =
    let spelled = c.word_law.ensures.spells c.args.word c.requires in
    let bits = ap (λ (f : Fields). f.mem) spelled.fields in
    ap (λ (x : ℕ). x % 2 == 1) c.mem.ensures ∙ lower_bit _ _ bits

pub returns-clause-mem : goal.returns-clause-mem
unfolding statement_of
returns-clause-mem c = λ some.
    let spelled = c.word_law.ensures.spells c.args.word c.requires in
    let bits = ap (λ (f : Fields). f.mem) spelled.fields in
    by_lower_bit _ _ bits some ∙ sym (ap (λ (x : ℕ). access_by (x % 2 == 1)) c.mem.ensures)
