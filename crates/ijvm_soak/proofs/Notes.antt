-- A generated program as a list of instructions with their notes: main's locals count as set, and the method has its parameters set.
use Rattle.std.proofs.Common.{◌≡◌, ◌<◌, ◌≤◌, ℕ, ℤ, pos, zero, suc, ◌+◌, ◌*◌, ◌%◌, true, List, [], ◌∷◌, ◌++◌, length, Some, refl, sym, ap, ◌∙◌, subst, arith}
use Rattle.std.proofs.Common.{append_assoc, length-append}
use Rattle.std.specs.Prelude.{nat_lt, slice_index, ◌^◌, FitsSigned}
use Rattle.std.specs.List.{flat_map}
use Rattle.std.specs.Int.{w8, w16}
use Rattle.std.proofs.lemmas.Bool.{le-ltb}
use Rattle.std.proofs.lemmas.List.{get_or-append-add}
use Rattle.mic_words.specs.Prelude.{wrap}
use Rattle.ijvm_instr.specs.declared.instr.Instr.{Instr}
use Rattle.ijvm_instr.specs.declared.instr.Instr.TheVariants.{Bipush, LdcW, Iload, Istore, Iadd, Isub, Iinc, Iflt, Ireturn, Invokevirtual, Halt}
use Rattle.ijvm_instr.specs.Prelude.{instr_at, target, spelling, IsInstr}
use Rattle.ijvm_image.specs.Prelude.{ImageView, params}
use Rattle.verifier_notes.specs.Prelude.{AllMet, AreInstrs, AreRead, FindsMethod, Fine, Frame, HasHeader, Header, IsBranch, IsListed, IsSimple, Item, Locals}
use Rattle.verifier_notes.specs.Prelude.{Part, Runs, Scene, Spells, begun, branch_met, head_there, header_after, items_append, items_size, its_own, joins}
use Rattle.verifier_notes.specs.Prelude.{main_frame, main_scene, met, met_append, method_frame, method_scene, note_at, note_with, part_append, part_none, plain}
use Rattle.verifier_notes.specs.Prelude.{run_part, simple_met, spelled_size, straight, straight_spells, unit_fine, unit_items, unit_spells, written_read}
use Rattle.ijvm_soak.specs.Prelude.{block, block_at, blocks, main_code, method_code, main_text, method_text, generated}
use Rattle.ijvm_soak.proofs.Lengths.{text_long, text_short}

forward : (at d : ℕ) → at + d ≤ 65536 → target at (pos d) ≡ at + d
unfolding wrap
forward at d h = let e : (at + d) % 4294967296 ≡ at + d = omega arith in e

byte : (x : ℕ) → x < 100 → FitsSigned w8 (pos x)
byte x lt = let small : x < 2 ^ 7 = omega (arith, lt) in record { sfits = small }

six : FitsSigned w16 (pos 6)
six = let small : 6 < 2 ^ 15 = omega arith in record { sfits = small }

module _ (seed n : ℕ) where
  abbrev text : List ℕ
  text = main_text seed n ++ method_text

  abbrev entry : ℕ
  entry = length (main_text seed n)

  abbrev image : ImageView
  image = record { text = text; pool = 0 ∷ entry ∷ [] }

  -- ---- the list

  abbrev for_main : Frame
  for_main = main_frame image

  abbrev for_method : Frame
  for_method = method_frame image entry

  abbrev all : Locals
  all k = true

  abbrev two : Locals
  two k = nat_lt k 2

  abbrev blocks_items : ℕ → List Item
  blocks_items zero = []
  blocks_items (suc i) = blocks_items i ++ straight for_main all 0 (block_at seed i)

  abbrev main_items : List Item
  main_items = unit_items for_main all (blocks_items n) (Iload 0 ∷ []) Halt 1

  abbrev method_items : List Item
  method_items = unit_items for_method two [] (Iload 1 ∷ Bipush (pos 1) ∷ Iadd ∷ []) Ireturn 1

  abbrev pub items_of : List Item
  items_of = main_items ++ Header ∷ method_items

  blocks_spell : (i : ℕ) → Spells (blocks_items i) (blocks seed i)
  blocks_spell zero = tt
  blocks_spell (suc i) =
      joins (blocks_items i) _ (blocks seed i) (block_at seed i) (blocks_spell i) (straight_spells for_main all 0 (block_at seed i))

  main_spells : Spells main_items (main_code seed n)
  main_spells = unit_spells for_main all (blocks_items n) (Iload 0 ∷ []) Halt 1 (blocks seed n) (blocks_spell n)

  main_size : items_size main_items ≡ entry
  main_size = spelled_size main_items (main_code seed n) main_spells

  before_size : items_size (main_items ++ Header ∷ []) ≡ entry + 4
  before_size = omega (arith, main_size, items_append main_items (Header ∷ []))

  split : items_of ≡ (main_items ++ Header ∷ []) ++ method_items
  split = sym (append_assoc main_items (Header ∷ []) method_items)

  -- ---- the method, as calls find it

  params_are : params text entry ≡ 2
  unfolding params
  params_are =
      let zeroth : slice_index text entry ≡ 0 = ap (slice_index text) (omega arith) ∙ get_or-append-add (main_text seed n) method_text 0 0 in
      let first : slice_index text (entry + 1) ≡ 2 = get_or-append-add (main_text seed n) method_text 1 0 in
      omega arith

  method : FindsMethod image (note_at items_of) 1
  method = record {
    entry = entry;
    constant = refl;
    inside = omega (arith, text_long seed n);
    begins = note_with for_method two 0;
    there = head_there items_of (main_items ++ Header ∷ []) method_items _ (entry + 4) refl split (sym before_size);
    unit = refl;
    depth = refl;
    unset = λ j own. le-ltb j 2 (omega (arith, own.0, params_are));
  }

  -- ---- main

  abbrev in_main : Scene
  in_main = main_scene image items_of 1 (omega arith)

  abbrev Main : Instr → ℕ → Type 0
  Main = IsSimple in_main all

  sum : (0 ≤ 0) × (0 < 0 + 1)
  sum = (omega arith, omega arith)

  push : (z : ℤ) (d : ℕ) → Main (Bipush z) d
  push z d = record { finds = plain; enough = omega arith; no_jump = refl }

  load : (d : ℕ) → Main (Iload 0) d
  load d = record { finds = (tt, tt, tt, refl, sum, tt); enough = omega arith; no_jump = refl }

  store : Main (Istore 0) 1
  store = record { finds = (tt, tt, tt, tt, tt, sum); enough = omega arith; no_jump = refl }

  increment : (z : ℤ) → Main (Iinc 0 z) 0
  increment z = record { finds = (tt, tt, tt, refl, sum, tt); enough = omega arith; no_jump = refl }

  object : Main (LdcW 0) 0
  object = record { finds = (omega arith, tt, tt, tt, tt, tt); enough = omega arith; no_jump = refl }

  call : Main (Invokevirtual 1) 2
  call = record { finds = (omega arith, method, tt, tt, tt, tt); enough = omega (arith, params_are); no_jump = refl }

  branch : IsBranch in_main all (Iflt (pos 6)) (pos 6) 1
  branch = record { finds = plain; ways = (refl, refl); takes_is = refl; gives = refl; size = refl }

  -- the branch leads past the increment, to the next block
  skip_part : Part in_main all all (straight for_main all 0 (Iload 0 ∷ Iflt (pos 6) ∷ Iinc 0 (pos 1) ∷ []))
  skip_part at last h s small =
      let past : target (at + 2) (pos 6) ≡ at + 2 + 3 + 3 = forward (at + 2) 6 (omega (arith, small)) ∙ omega arith in
      record {
        met = (
          simple_met in_main all (Iload 0) at 0 _ (load 0) h.0 h.2.1 (its_own for_main all 1),
          (
            branch_met in_main all (Iflt (pos 6)) (pos 6) (at + 2) 1 _ _ last branch h.2.0 h.2.2.1 (its_own for_main all 0) past h.2.2.2 s,
            (simple_met in_main all (Iinc 0 (pos 1)) (at + 2 + 3) 0 last (increment (pos 1)) h.2.2.0 h.2.2.2 s, tt),
          ),
        );
        first = note_with for_main all 0;
        there = h.1;
        suits = its_own for_main all 0;
      }

  block_part : (k : ℕ) (z : ℤ) → k < 5 → Part in_main all all (straight for_main all 0 (block k z))
  block_part zero z h = run_part in_main all (block 0 z) (record { simple = (push z 0, (load 1, (plus, (store, tt)))); depth = refl })
    where
      plus : Main Iadd 2
      plus = record { finds = plain; enough = omega arith; no_jump = refl }
  block_part (suc zero) z h = run_part in_main all (block 1 z) (record { simple = (increment z, tt); depth = refl })
  block_part (suc (suc zero)) z h = run_part in_main all (block 2 z) (record { simple = (load 0, (push z 1, (minus, (store, tt)))); depth = refl })
    where
      minus : Main Isub 2
      minus = record { finds = plain; enough = omega arith; no_jump = refl }
  block_part (suc (suc (suc zero))) z h =
      let last : Runs in_main all (Istore 0 ∷ []) 1 0 = record { simple = (store, tt); depth = refl } in
      let back : Runs in_main all (Invokevirtual 1 ∷ Istore 0 ∷ []) 2 0 = begun in_main all call (omega (arith, params_are)) last in
      run_part in_main all (block 3 z) (begun in_main all object refl (begun in_main all (load 1) refl back))
  block_part (suc (suc (suc (suc zero)))) z h = skip_part
  block_part (suc (suc (suc (suc (suc k))))) z h = absurd (omega (arith, h))

  blocks_part : (i : ℕ) → Part in_main all all (blocks_items i)
  blocks_part zero = part_none in_main all
  blocks_part (suc i) = part_append in_main all all all (blocks_items i) _ (blocks_part i) (block_part ((seed + i) % 5) _ (omega arith))

  -- ---- the method

  headed : HasHeader 0 items_of entry
  headed =
      let place : 0 + items_size main_items ≡ entry = omega (arith, main_size) in
      subst (HasHeader 0 items_of) place (header_after main_items method_items 0)

  abbrev in_method : Scene
  in_method = method_scene image items_of 1 entry (omega (arith, params_are), omega (arith, params_are)) headed

  method_run : Runs in_method two (Iload 1 ∷ Bipush (pos 1) ∷ Iadd ∷ []) 0 1
  method_run = record { simple = (first, (second, (third, tt))); depth = refl }
    where
      first : IsSimple in_method two (Iload 1) 0
      first = record { finds = (tt, tt, tt, refl, (omega arith, omega arith), tt); enough = omega arith; no_jump = refl }

      second : IsSimple in_method two (Bipush (pos 1)) 1
      second = record { finds = plain; enough = omega arith; no_jump = refl }

      third : IsSimple in_method two Iadd 2
      third = record { finds = plain; enough = omega arith; no_jump = refl }

  -- ---- all are instructions, with operands in range

  block_real : (k x : ℕ) → k < 5 → x < 100 → AreInstrs (block k (pos x))
  block_real zero x h lt = (byte x lt, (omega arith, (tt, (omega arith, tt))))
  block_real (suc zero) x h lt = ((omega arith, byte x lt), tt)
  block_real (suc (suc zero)) x h lt = (omega arith, (byte x lt, (tt, (omega arith, tt))))
  block_real (suc (suc (suc zero))) x h lt = (omega arith, (omega arith, (omega arith, (omega arith, tt))))
  block_real (suc (suc (suc (suc zero)))) x h lt = (omega arith, (six, ((omega arith, byte 1 (omega arith)), tt)))
  block_real (suc (suc (suc (suc (suc k))))) x h lt = absurd (omega (arith, h))

  real_append : (a b : List Instr) → AreInstrs a → AreInstrs b → AreInstrs (a ++ b)
  real_append [] b h k = k
  real_append (i ∷ a) b h k = (h.0, real_append a b h.1 k)

  blocks_real : (i : ℕ) → AreInstrs (blocks seed i)
  blocks_real zero = tt
  blocks_real (suc i) = real_append (blocks seed i) (block_at seed i) (blocks_real i)
      (block_real ((seed + i) % 5) ((seed + 3 * i) % 100) (omega arith) (omega arith))

  -- ---- the whole image

  module _ (short : n ≤ 9000)
      (written : (before after : List ℕ) (i : Instr) → IsInstr i → instr_at (before ++ (spelling i ++ after)) (length before) ≡ Some i) where
    main_fine : Fine in_main all 0 main_items
    main_fine =
        let real : AreInstrs (main_code seed n) = real_append (blocks seed n) (Iload 0 ∷ Halt ∷ []) (blocks_real n) (omega arith, (tt, tt)) in
        let read : AreRead text 0 main_items = written_read written text main_items (main_code seed n) [] method_text main_spells real refl in
        unit_fine in_main all (blocks_items n) (Iload 0 ∷ []) Halt 1 [] (Header ∷ method_items) 0 (blocks_part n)
        (record { simple = (load 0, tt); depth = refl }) (λ mid is. met in_main all Halt mid 1 is plain (omega arith) tt tt)
        refl refl read (omega (arith, main_size, text_long seed n, text_short seed n short))

    method_fine : Fine in_method two (entry + 4) method_items
    method_fine =
        let counts : List ℕ = 0 ∷ 2 ∷ 0 ∷ 0 ∷ [] in
        let front : List ℕ = main_text seed n ++ counts in
        let bytes : text ≡ front ++ (flat_map spelling method_code ++ []) = sym (append_assoc (main_text seed n) counts (flat_map spelling method_code)) in
        let real : AreInstrs method_code = (omega arith, (byte 1 (omega arith), (tt, (tt, tt)))) in
        let read : AreRead text (length front) method_items =
        written_read written text method_items method_code front []
        (unit_spells for_method two [] (Iload 1 ∷ Bipush (pos 1) ∷ Iadd ∷ []) Ireturn 1 [] tt) real bytes in
        unit_fine in_method two [] (Iload 1 ∷ Bipush (pos 1) ∷ Iadd ∷ []) Ireturn 1 (main_items ++ Header ∷ []) [] (entry + 4)
        (part_none in_method two) method_run (λ mid is. met in_method two Ireturn mid 1 is (tt, tt, (λ e. cc), tt, tt, tt) (omega arith) tt tt)
        split (sym before_size) (subst (λ (x : ℕ). AreRead text x method_items) (length-append (main_text seed n) counts) read)
        (omega (arith, text_long seed n, text_short seed n short))

    pub listed : IsListed (generated seed n) items_of
    unfolding generated
    listed = record {
      start = (main_fine.first, main_fine.there, main_fine.suits.unit, main_fine.suits.depth);
      met = met_append image items_of main_items (Header ∷ method_items) 0 main_fine.met
          (subst (λ (x : ℕ). AllMet image items_of (x + 4) method_items) place method_fine.met);
    }
      where
        place : entry ≡ 0 + items_size main_items
        place = omega (arith, main_size)
