-- Where a read leads.
use Rattle.mic1_cycles.proofs.Common.{◌≡◌, ◌≤◌, ℕ, Some, inl, inr, length, sym, subst, arith, Environment, Symbols, Trail, ports_of, AccessLaws, IsTransferred}
use Rattle.mic1_cycles.proofs.Common.{Reads}
use Rattle.micro_word.specs.declared.statement.Mem.TheVariants as mems

pub read_leads : (e : Environment) (laws : AccessLaws e.word e.start) (s : Symbols) (t : Trail) (word taken' : ℕ) → length e.start.words ≤ 4294967293 →
    Reads e s.mar t.writes t.taken word taken' →
    IsTransferred e.word e.start mems.Read (ports_of e.word e.start s) t (Some word) (record t { taken = taken' })
read_leads e laws s t word taken' size (inl m) =
    subst (λ (k : ℕ). IsTransferred e.word e.start mems.Read (ports_of e.word e.start s) t (Some word) (record t { taken = k })) (sym m.count)
    (laws.reads (ports_of e.word e.start s) t word m.inside m.value)
read_leads e laws s t word taken' size (inr k) =
    subst (λ (n : ℕ). IsTransferred e.word e.start mems.Read (ports_of e.word e.start s) t (Some word) (record t { taken = n })) (sym k.count)
    (laws.takes (ports_of e.word e.start s) t word k.there (let at : e.word s.mar ≡ 4294967293 = k.there in omega (arith, at, size)) k.value)
