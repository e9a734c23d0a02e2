-- What is on the buses in a cycle of a word.
use Rattle.mic2_datapath.proofs.Common.{◌≡◌, ℕ, Bool, true, false, if◌then◌else◌, Option, None, refl, sym, ap, ◌∙◌, statement_of, alu, shifted, BusSource}
use Rattle.mic2_datapath.proofs.Common.{Placed, buses_in, Drive, Computed, Micro, is_stalled, result_of, source, computed, computed_on, driven, flagged}
use Rattle.mic2_datapath.proofs.Common.{stalled_drive, stalled_value, value_of, HasComputed, buses_by, buses_on, mic2_meaning}
use Rattle.mic_words.specs.declared.machine.Machine.TheVariants as machines
use Rattle.mic2_datapath.specs.declared.mic2.Past.TheVariants as pasts

module _ (s : Placed) (m : Micro) where
  -- both buses, in a stall or not
  abbrev pub drive_if : Bool → Drive
  drive_if b = if b then stalled_drive else record { a = source s.part.a m; b = source s.part.b m; stalled = false }

  abbrev value_if : Bool → Computed
  value_if b = if b then stalled_value else value_of s (result_of s.part m)

  stalls_if : (b : Bool) → (drive_if b).stalled ≡ b
  stalls_if true = refl
  stalls_if false = refl

  none_on_b : (b : Bool) → s.part.b ≡ None → (drive_if b).b ≡ 0
  none_on_b true none = refl
  none_on_b false none = ap (λ (o : Option BusSource). source o m) none

  computes_if : (b : Bool) → computed_on s (drive_if b) ≡ value_if b
  computes_if true = refl
  computes_if false = refl

-- what leaves the ALU and the shifter where the cycle does not stall
pub flagged_on : (s : Placed) (d : Drive) → d.stalled ≡ false → (value c : ℕ) → value ≡ alu s.part.op d.a d.b → c ≡ shifted s.part.shift value → flagged value c ≡ computed_on s d
flagged_on s d not value c value_is c_is =
    (λ i. flagged (value_is i) ((c_is ∙ ap (λ (x : ℕ). shifted s.part.shift x) value_is) i))
    ∙ sym (ap (λ (b : Bool). if b then stalled_value else value_of s (alu s.part.op d.a d.b)) not)

-- what leaves them where the cycle stalls: nothing
pub nothing_on : (s : Placed) (d : Drive) → d.stalled ≡ true → stalled_value ≡ computed_on s d
nothing_on s d is = sym (ap (λ (b : Bool). if b then stalled_value else value_of s (alu s.part.op d.a d.b)) is)

module _ (word : ℕ) (m : Micro) (d : Drive) (is : d ≡ driven word m) where
  abbrev its_statement : Placed
  its_statement = statement_of machines.Mic2 word

  pub waits_there : d.stalled ≡ is_stalled its_statement m
  unfolding driven
  waits_there = ap (λ (x : Drive). x.stalled) is ∙ stalls_if its_statement m (is_stalled its_statement m)

  pub nothing_on_b : its_statement.part.b ≡ None → d.b ≡ 0
  unfolding driven
  nothing_on_b none = ap (λ (x : Drive). x.b) is ∙ none_on_b its_statement m (is_stalled its_statement m) none

  pub computed_there : computed_on its_statement d ≡ computed word m
  unfolding driven computed
  computed_there = ap (λ (x : Drive). computed_on its_statement x) is ∙ computes_if its_statement m (is_stalled its_statement m)

  pub has_computed : (v : Computed) → v ≡ computed word m → HasComputed its_statement m d.stalled v.alu.value v.c
  unfolding computed
  has_computed v its =
      let s = its_statement in
      let goes : d.stalled ≡ false → v ≡ value_of s (result_of s.part m) = λ not. its ∙ ap (λ (b : Bool). value_if s m b) (sym waits_there ∙ not) in
      record {
        waits = waits_there;
        alu = λ not. ap (λ (x : Computed). x.alu.value) (goes not);
        shifter = λ not. ap (λ (x : Computed). x.c) (goes not) ∙ sym (ap (λ (x : Computed). shifted s.part.shift x.alu.value) (goes not));
      }

  -- what was on them, by what the machine keeps of the cycle

  pub buses_stalled : (last a b : ℕ) → d.stalled ≡ true → buses_by pasts.Stalled last a b ≡ buses_in mic2_meaning word m
  unfolding driven computed
  buses_stalled last a b stalls =
      sym (ap (λ (b : Bool). record { drive = drive_if its_statement m b; computed = value_if its_statement m b }) (sym waits_there ∙ stalls))

  pub buses_clocked : d.stalled ≡ false → buses_by pasts.Clocked word d.a d.b ≡ buses_in mic2_meaning word m
  buses_clocked goes =
      (λ i. buses_on word (record { a = d.a; b = d.b; stalled = sym goes i })) ∙ (λ i. record { drive = is i; computed = computed_there i })
