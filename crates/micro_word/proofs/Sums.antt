-- The fields of a sum of fields.
use Rattle.micro_word.specs.Prelude.{word_end, word_with, fields_of}
use Rattle.micro_word.proofs.Common.{◌≡◌, ℕ, ◌/◌, ◌%◌, ◌^◌, ◌<◌, arith, Machine, Mic1, Mic2, Fields}

-- where a machine's word has no such field, only 0 fits
abbrev pub fetch_end : Machine → ℕ
fetch_end Mic1 = 2
fetch_end Mic2 = 1

abbrev pub a_end : Machine → ℕ
a_end Mic1 = 1
a_end Mic2 = 16

-- each number fits its field
pub record Fitting (machine : Machine) (f : Fields) : Type 0 where
  pub in_addr : f.addr < 512
  pub in_jam : f.jam < 8
  pub in_shift : f.shift < 4
  pub in_gates : f.gates < 64
  pub in_c : f.c < 512
  pub in_mem : f.mem < 4
  pub in_fetch : f.fetch < fetch_end machine
  pub in_a : f.a < a_end machine
  pub in_b : f.b < 16

pub fields-word : (machine : Machine) (f : Fields) → Fitting machine f → fields_of machine (word_with machine f) ≡ f
fields-word Mic1 f h =
    let addr : (word_with Mic1 f) / 2 ^ 27 % 512 ≡ f.addr = omega arith in
    let jam : (word_with Mic1 f) / 2 ^ 24 % 8 ≡ f.jam = omega arith in
    let shift : (word_with Mic1 f) / 2 ^ 22 % 4 ≡ f.shift = omega arith in
    let gates : (word_with Mic1 f) / 2 ^ 16 % 64 ≡ f.gates = omega arith in
    let c : (word_with Mic1 f) / 2 ^ 7 % 512 ≡ f.c = omega arith in
    let mem : (word_with Mic1 f) / 2 ^ 5 % 4 ≡ f.mem = omega arith in
    let fetch : (word_with Mic1 f) / 2 ^ 4 % 2 ≡ f.fetch = omega arith in
    let a : 0 ≡ f.a = omega arith in
    let b : (word_with Mic1 f) % 16 ≡ f.b = omega arith in
    λ i. record { addr = addr i; jam = jam i; shift = shift i; gates = gates i; c = c i; mem = mem i; fetch = fetch i; a = a i; b = b i }
fields-word Mic2 f h =
    let addr : (word_with Mic2 f) / 2 ^ 30 % 512 ≡ f.addr = omega arith in
    let jam : (word_with Mic2 f) / 2 ^ 27 % 8 ≡ f.jam = omega arith in
    let shift : (word_with Mic2 f) / 2 ^ 25 % 4 ≡ f.shift = omega arith in
    let gates : (word_with Mic2 f) / 2 ^ 19 % 64 ≡ f.gates = omega arith in
    let c : (word_with Mic2 f) / 2 ^ 10 % 512 ≡ f.c = omega arith in
    let mem : (word_with Mic2 f) / 2 ^ 8 % 4 ≡ f.mem = omega arith in
    let fetch : 0 ≡ f.fetch = omega arith in
    let a : (word_with Mic2 f) / 2 ^ 4 % 16 ≡ f.a = omega arith in
    let b : (word_with Mic2 f) % 16 ≡ f.b = omega arith in
    λ i. record { addr = addr i; jam = jam i; shift = shift i; gates = gates i; c = c i; mem = mem i; fetch = fetch i; a = a i; b = b i }

pub fields_fit : (machine : Machine) (word : ℕ) → Fitting machine (fields_of machine word)
fields_fit Mic1 word =
    record {
      in_addr = omega arith;
      in_jam = omega arith;
      in_shift = omega arith;
      in_gates = omega arith;
      in_c = omega arith;
      in_mem = omega arith;
      in_fetch = omega arith;
      in_a = omega arith;
      in_b = omega arith;
    }
fields_fit Mic2 word =
    record {
      in_addr = omega arith;
      in_jam = omega arith;
      in_shift = omega arith;
      in_gates = omega arith;
      in_c = omega arith;
      in_mem = omega arith;
      in_fetch = omega arith;
      in_a = omega arith;
      in_b = omega arith;
    }

pub word_with-lt : (machine : Machine) (f : Fields) → Fitting machine f → word_with machine f < word_end machine
word_with-lt Mic1 f h = omega arith
word_with-lt Mic2 f h = omega arith

pub word-fields : (machine : Machine) (word : ℕ) → word < word_end machine → word_with machine (fields_of machine word) ≡ word
word-fields Mic1 word h = omega arith
word-fields Mic2 word h = omega arith
