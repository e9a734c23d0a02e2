-- Places of the text, as a machine comes to them that takes its bytes from a fetch unit: PC after an opcode, and what it becomes as one byte or two are taken.
use Rattle.std.proofs.Common.{◌≡◌, ℕ, ◌+◌, ◌*◌, ◌^◌, ◌<◌, List, refl, sym, arith, ◌∙◌, ap, ap₂}
use Rattle.ijvm_simulation.specs.Common.{wrap, plus, before, signed_pair, byte_in, Method}
use Rattle.ijvm_simulation.specs.Words.{before_is, plus_comm}
use Rattle.ijvm_simulation.specs.Images.{jump}

-- a place of the text: a number of the machine is this address, and the bytes there
pub record Place (words : List ℕ) (x a : ℕ) : Type 0 where
  pub is : x ≡ a
  pub near : x < 0x1FF00
  pub byte : byte_in words x ≡ byte_in words a
  pub second : byte_in words (x + 1) ≡ byte_in words (a + 1)

pub place_at : (words : List ℕ) (x a : ℕ) → x ≡ a → a < 0x1FF00 → Place words x a
place_at words x a e l =
    let on : x + 1 ≡ a + 1 = omega arith in
    record { is = e; near = omega arith; byte = ap (byte_in words) e; second = ap (byte_in words) on }

-- the place this many bytes further on
pub place_on : {words : List ℕ} {x a : ℕ} (d b : ℕ) → Place words x a → a + d ≡ b → b < 0x1FF00 → Place words (plus x d) b
unfolding wrap
place_on {words} {x} d b p e l = place_at words (plus x d) b (omega (arith, p.is)) l

-- the number that the two bytes at a place make
pub pair_at : (words : List ℕ) (x a b : ℕ) → Place words x a → a + 1 ≡ b →
    256 * byte_in words x + byte_in words (x + 1) ≡ 256 * byte_in words a + byte_in words b
pair_at words x a b p e = ap₂ (λ (i : ℕ) (j : ℕ). 256 * i + j) p.byte (p.second ∙ ap (byte_in words) e)

-- the signed number that the two bytes at a place make
pub signed_pair_at : (words : List ℕ) (x a b : ℕ) → Place words x a → a + 1 ≡ b →
    signed_pair (byte_in words x) (byte_in words (x + 1)) ≡ signed_pair (byte_in words a) (byte_in words b)
signed_pair_at words x a b p e = ap₂ signed_pair p.byte (p.second ∙ ap (byte_in words) e)

-- PC after the opcode at this address, and what it becomes; where it is after the next opcode, it is written so
pub record Counts (words : List ℕ) (at pc : ℕ) : Type 0 where
  pub p0 : Place words pc (at + 1)
  pub p1 : Place words (plus pc 1) (at + 2)
  pub p2 : Place words (plus pc 2) (at + 3)
  pub p11 : Place words (plus (plus pc 1) 1) (at + 3)
  pub p12 : Place words (plus (plus pc 1) 2) (at + 4)
  pub p122 : Place words (plus (plus (plus pc 1) 2) 2) (at + 6)
  pub after_one : plus pc 1 ≡ at + 1 + 1
  pub after_two : plus (plus pc 1) 1 ≡ at + 2 + 1
  pub after_three : Place words (plus (plus pc 2) 1) (at + 3 + 1)
  pub after_bytes : Place words (plus (plus (plus pc 1) 1) 1) (at + 3 + 1)
  pub after_wide : Place words (plus (plus (plus pc 1) 2) 1) (at + 4 + 1)
  pub after_pairs : Place words (plus (plus (plus (plus pc 1) 2) 2) 1) (at + 6 + 1)

pub counts : (words : List ℕ) (at pc : ℕ) → pc ≡ at + 1 → at < 0x10000 → Counts words at pc
counts words at pc is inside =
    let p0 = place_at words pc (at + 1) is (omega arith) in
    let p1 = place_on 1 (at + 2) p0 (omega arith) (omega arith) in
    let p2 = place_on 2 (at + 3) p0 (omega arith) (omega arith) in
    let p11 = place_on 1 (at + 3) p1 (omega arith) (omega arith) in
    let p12 = place_on 2 (at + 4) p1 (omega arith) (omega arith) in
    let p122 = place_on 2 (at + 6) p12 (omega arith) (omega arith) in
    record {
      p0 = p0;
      p1 = p1;
      p2 = p2;
      p11 = p11;
      p12 = p12;
      p122 = p122;
      after_one = omega (arith, p1.is);
      after_two = omega (arith, p11.is);
      after_three = place_on 1 (at + 3 + 1) p2 refl (omega arith);
      after_bytes = place_on 1 (at + 3 + 1) p11 refl (omega arith);
      after_wide = place_on 1 (at + 4 + 1) p12 refl (omega arith);
      after_pairs = place_on 1 (at + 6 + 1) p122 refl (omega arith);
    }

-- where the words of goto come to
abbrev pub goes_to : List ℕ → ℕ → ℕ
goes_to words pc = plus (before pc) (signed_pair (byte_in words pc) (byte_in words (pc + 1)))

-- the place there, and the one after it
pub record Jump (words : List ℕ) (at pc : ℕ) : Type 0 where
  pub there : Place words (goes_to words pc) (jump words at)
  pub following : Place words (plus (goes_to words pc) 1) (jump words at + 1)

pub jumps : {words : List ℕ} {at pc : ℕ} → pc < 2 ^ 32 → Counts words at pc → jump words at < 0x10000 → Jump words at pc
jumps {words} {at} {pc} low c to =
    let is : goes_to words pc ≡ jump words at =
    ap₂ plus (before_is pc at c.p0.is low) (signed_pair_at words pc (at + 1) (at + 2) c.p0 (omega arith))
    ∙ plus_comm at (signed_pair (byte_in words (at + 1)) (byte_in words (at + 2))) in
    let there : Place words (goes_to words pc) (jump words at) = place_at words (goes_to words pc) (jump words at) is (omega arith) in
    record { there = there; following = place_on 1 (jump words at + 1) there refl (omega arith) }

-- The address of a local or a constant, as the bytes after the opcode name it: one byte, two, or two after a second opcode.

pub byte_after : {words : List ℕ} {at pc k : ℕ} (from : ℕ) → Counts words at pc → k ≡ byte_in words (at + 1) →
    plus from (byte_in words pc) ≡ plus from k
byte_after from c index = ap (plus from) (c.p0.byte ∙ sym index)

pub pair_after : {words : List ℕ} {at pc k : ℕ} (from : ℕ) → Counts words at pc → k ≡ 256 * byte_in words (at + 1) + byte_in words (at + 2) →
    plus from (256 * byte_in words pc + byte_in words (pc + 1)) ≡ plus from k
pair_after {words} {at} {pc} from c index = ap (plus from) (pair_at words pc (at + 1) (at + 2) c.p0 (omega arith) ∙ sym index)

pub wide_after : {words : List ℕ} {at pc k : ℕ} (from : ℕ) → Counts words at pc → k ≡ 256 * byte_in words (at + 2) + byte_in words (at + 3) →
    plus from (256 * byte_in words (plus pc 1) + byte_in words (plus pc 1 + 1)) ≡ plus from k
wide_after {words} {at} {pc} from c index = ap (plus from) (pair_at words (plus pc 1) (at + 2) (at + 3) c.p1 (omega arith) ∙ sym index)

-- a method, where its entry is at x
pub record Entry (words : List ℕ) (x : ℕ) (m : Method) : Type 0 where
  pub e0 : Place words x m.entry
  pub e2 : Place words (plus x 2) (m.entry + 2)
  pub e4 : Place words (plus (plus x 2) 2) (m.entry + 4)
  pub e5 : Place words (plus (plus (plus x 2) 2) 1) (m.entry + 4 + 1)
  pub params : 256 * byte_in words x + byte_in words (x + 1) ≡ m.params
  pub others : 256 * byte_in words (plus x 2) + byte_in words (plus x 2 + 1) ≡ m.others

pub entry_at : {words : List ℕ} {x : ℕ} (m : Method) → x ≡ m.entry → m.entry + 4 < 0x10000 →
    m.params ≡ 256 * byte_in words m.entry + byte_in words (m.entry + 1) →
    m.others ≡ 256 * byte_in words (m.entry + 2) + byte_in words (m.entry + 3) → Entry words x m
entry_at {words} {x} m is whole params others =
    let e : ℕ = m.entry in
    let e0 : Place words x e = place_at words x e is (omega arith) in
    let e2 = place_on 2 (e + 2) e0 refl (omega arith) in
    let e4 = place_on 2 (e + 4) e2 (omega arith) (omega arith) in
    record {
      e0 = e0;
      e2 = e2;
      e4 = e4;
      e5 = place_on 1 (e + 4 + 1) e4 refl (omega arith);
      params = pair_at words x e (e + 1) e0 refl ∙ sym params;
      others = pair_at words (plus x 2) (e + 2) (e + 3) e2 (omega arith) ∙ sym others;
    }
