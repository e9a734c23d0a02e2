-- In the image of its code a program is laid out.
use Rattle.tiny_compiler.proofs.Common.{◌≡◌, ◌≢◌, ◌<◌, ◌≤◌, ℕ, zero, suc, ◌+◌, ◌/◌, ◌%◌, Bool, true, false, List, [], ◌∷◌, ◌++◌, length, map, Some, refl, sym}
use Rattle.tiny_compiler.proofs.Common.{ap, ◌∙◌, subst, arith, append_assoc, length-append, pos, ◌==◌, ◌^◌, nat_lt, if◌then◌else◌, slice_get, slice_index}
use Rattle.tiny_compiler.proofs.Common.{FitsSigned, w8, All, Contains, position_or_len, All-nil, All-cons, All-head, All-tail, Contains-append_right, Instr}
use Rattle.tiny_compiler.proofs.Common.{IsInstr, Jump, header, ImageView, params, others, code_bytes, Part, begins, bytes_of, jumps_in, length-begins}
use Rattle.ijvm_text.specs.Prelude.{jumps_of}
use Rattle.std.proofs.lemmas.List.{get_or-append-add, length-map}
use Rattle.ijvm_instr.specs.declared.instr.Instr.TheVariants.{Bipush, Ireturn}
use Rattle.tiny_tree.specs.Prelude.{Function, Program, IsNamed, IsNamedFunction, vars_of}
use Rattle.tiny_code.specs.Prelude.{Places, code_size, main_code, method_code, method_size, methods, numbers, places_of, statements_code, AreMethodsAt, CodeAt, IsLaidOut, IsMethodAt, AreEntries, entry, from_main, all_back, all_front, bytes_size, size_append, IsCodeOf, layout_of, main_part, method_part, main_lined, method_lined}
use Rattle.tiny_compiler.proofs.Lists.{Finds, all_found, get_after, prefix_short}
use Rattle.tiny_compiler.proofs.Fitting.{Fit, FitAside, FitsAside, IsNearJump, all_near, both, near_fits, one, statements_fit}

-- ---- positions

get_inside : (gs : List Function) (f : ℕ) (g : Function) → slice_get gs f ≡ Some g → f < length gs
get_inside [] f g at = cc
get_inside (x ∷ gs) zero g at = omega arith
get_inside (x ∷ gs) (suc f) g at = omega (arith, get_inside gs f g at)

entry_short : (main f : ℕ) → entry main f ≤ f + 1
entry_short main f = by (nat_lt f main)
  where
    by : (b : Bool) → (if b then f + 1 else f) ≤ f + 1
    by true = omega arith
    by false = omega arith

zero_fits : FitsSigned w8 (pos 0)
zero_fits = let small : 0 < 2 ^ 7 = omega arith in record { sfits = small }

-- ---- the methods, one after the other

abbrev header_of : Function → List ℕ
header_of g = header (g.parameters + 1) (vars_of g.body)

module _ (stands : (code : List Instr) (before after : List ℕ) → All IsInstr code → length before + code_size code ≤ 65536 →
    CodeAt (before ++ (code_bytes code ++ after)) (length before) code)
    (image : ImageView) (program : Program) (short : length image.text ≤ 65536) where
  abbrev p : Places
  p = places_of program

  abbrev parts : List (ℕ × Function) → List Part
  parts ms = map (method_part p) ms

  abbrev IsFit : ℕ × Function → Type 0
  IsFit m = Fit (method_code p m.1)

  module _ (front rest : List ℕ) (m : ℕ × Function) (text : image.text ≡ front ++ ((method_part p m).bytes ++ rest)) where
    abbrev code : List Instr
    code = method_code p m.1

    abbrev bytes : List ℕ
    bytes = code_bytes code ++ rest

    long : length image.text ≡ length front + 4 + code_size code + length rest
    long =
        omega (
          arith,
          ap (λ (xs : List ℕ). length xs) text,
          length-append front ((method_part p m).bytes ++ rest),
          length-append ((method_part p m).bytes) rest,
          bytes_size code,
        )

    least : 3 ≤ code_size code
    least = omega (arith, size_append (statements_code p 1 m.1.body) (Bipush (pos 0) ∷ Ireturn ∷ []))

    byte_at : (k : ℕ) → slice_index image.text (length front + k) ≡ slice_index ((method_part p m).bytes ++ rest) k
    byte_at k = ap (λ (xs : List ℕ). slice_index xs (length front + k)) text ∙ get_or-append-add front ((method_part p m).bytes ++ rest) k 0

    params_are : params image.text (length front) ≡ m.1.parameters + 1
    unfolding params
    params_are =
        let here : slice_index image.text (length front) ≡ (m.1.parameters + 1) / 256 = ap (slice_index image.text) (omega arith) ∙ byte_at 0 in
        let next : slice_index image.text (length front + 1) ≡ (m.1.parameters + 1) % 256 = byte_at 1 in
        omega (arith, here, next)

    others_are : others image.text (length front) ≡ vars_of m.1.body
    unfolding others
    others_are =
        let here : slice_index image.text (length front + 2) ≡ vars_of m.1.body / 256 = byte_at 2 in
        let next : slice_index image.text (length front + 3) ≡ vars_of m.1.body % 256 = byte_at 3 in
        omega (arith, here, next)

    code_is : IsFit m → CodeAt image.text (length front + 4) code
    code_is fit =
        let at : length (front ++ header_of m.1) ≡ length front + 4 = length-append front (header_of m.1) in
        let split : image.text ≡ (front ++ header_of m.1) ++ bytes = text ∙ sym (append_assoc front (header_of m.1) bytes) in
        subst (λ (xs : List ℕ). CodeAt xs (length front + 4) code) (sym split)
        (subst (λ (k : ℕ). CodeAt ((front ++ header_of m.1) ++ bytes) k code) at
        (stands code (front ++ header_of m.1) rest fit (omega (arith, at, long, short))))

    method_at : IsFit m → slice_get image.pool (p.entry m.0) ≡ Some (length front) → IsMethodAt image p (length front) m.0 m.1
    method_at fit entry = record {
      entry = entry;
      inside = omega (arith, long, least);
      params = params_are;
      others = others_are;
      code = code_is fit;
    }

  methods_laid : (front earlier : List ℕ) (k : ℕ) (ms : List (ℕ × Function)) → AreEntries program.main k ms → All IsFit ms →
      image.text ≡ front ++ bytes_of (parts ms) → image.pool ≡ 0 ∷ (earlier ++ (begins (length front) (parts ms) ++ numbers program)) →
      length earlier ≡ k → AreMethodsAt image p (length front) ms
  methods_laid front earlier k [] entries fit text pool at = tt
  methods_laid front earlier k (m ∷ ms) entries fit text pool at =
      let begin : ℕ = length front in
      let bytes : List ℕ = (method_part p m).bytes in
      let later : List ℕ = begins (begin + length bytes) (parts ms) ++ numbers program in
      let place : p.entry m.0 ≡ k + 1 = entries.0 in
      let index : p.entry m.0 ≡ length (0 ∷ earlier) + 0 = omega (arith, place, at) in
      let entry : slice_get image.pool (p.entry m.0) ≡ Some begin =
      ap (slice_get image.pool) index ∙ ap (λ (xs : List ℕ). slice_get xs (length (0 ∷ earlier) + 0)) pool
      ∙ get_after (0 ∷ earlier) (begin ∷ later) 0 in
      let joined : length (front ++ bytes) ≡ begin + length bytes = length-append front bytes in
      let long : length (front ++ bytes) ≡ begin + method_size p m.1 = omega (arith, joined, bytes_size (method_code p m.1)) in
      let whole : image.text ≡ front ++ (bytes ++ bytes_of (parts ms)) = text in
      let next_text : image.text ≡ (front ++ bytes) ++ bytes_of (parts ms) = whole ∙ sym (append_assoc front bytes (bytes_of (parts ms))) in
      let next_pool : image.pool ≡ 0 ∷ ((earlier ++ begin ∷ []) ++ (begins (length (front ++ bytes)) (parts ms) ++ numbers program)) =
      pool ∙ ap (λ (xs : List ℕ). 0 ∷ xs) (sym (append_assoc earlier (begin ∷ []) later))
      ∙ ap (λ (b : ℕ). 0 ∷ ((earlier ++ begin ∷ []) ++ (begins b (parts ms) ++ numbers program))) (sym joined) in
      let next_at : length (earlier ++ begin ∷ []) ≡ k + 1 = omega (arith, at, length-append earlier (begin ∷ [])) in (
        method_at front (bytes_of (parts ms)) m whole (All-head IsFit m ms fit) entry,
        subst (λ (b : ℕ). AreMethodsAt image p b ms) long
            (methods_laid (front ++ bytes) (earlier ++ begin ∷ []) (k + 1) ms entries.1 (All-tail IsFit m ms fit) next_text next_pool next_at),
      )

  module _ (named : IsNamed program) (is : IsCodeOf program image)
      (sound : (f : ℕ) (g : Function) → Contains (methods program) (f, g) → (slice_get program.functions f ≡ Some g) × (f ≢ program.main)) where
    abbrev main : Function
    main = is.main

    abbrev main_bytes : List ℕ
    main_bytes = code_bytes (main_code p main)

    abbrev entries_part : List ℕ
    entries_part = begins (length main_bytes) (parts (methods program))

    entries_long : length entries_part ≡ length (methods program)
    entries_long = length-begins (length main_bytes) (parts (methods program)) ∙ length-map (methods program) (method_part p)

    main_inside : program.main < length program.functions
    main_inside = get_inside program.functions program.main main is.main_is

    counted : AreEntries program.main 0 (methods program) × (length (methods program) + 1 ≡ length program.functions)
    counted = from_main program.main 0 program.functions (omega arith) (omega (arith, main_inside))

    pool_long : length program.functions + length (numbers program) ≤ 16384
    pool_long =
        omega (arith, is.laid.pool_fits, length-append entries_part (numbers program), entries_long, counted.1)

    constants : (n : ℕ) → p.constant n < 65536
    constants n = omega (arith, pool_long, prefix_short (λ m. m == n) (numbers program))

    entries : (f : ℕ) (g : Function) → slice_get program.functions f ≡ Some g → p.entry f < 65536
    entries f g at =
        let least : p.entry f ≤ f + 1 = entry_short _ f in
        omega (arith, least, get_inside program.functions f g at, pool_long)

    near : All IsNearJump (jumps_of (layout_of program main))
    near = all_near (jumps_of (layout_of program main)) is.laid.jumps_fit

    abbrev later_jumps : List Jump
    later_jumps = jumps_in (parts (methods program))

    -- ---- each function's code has its operands in range

    body_fits : (local f : ℕ) (g : Function) → local ≤ 1 → slice_get program.functions f ≡ Some g → FitAside (statements_code p local g.body)
    body_fits local f g le at =
        let n : IsNamedFunction program f g = named.functions f g at in
        statements_fit program p local _ (omega (arith, n.few, le)) constants entries _ _ g.body n.body

    main_fits : Fit (main_code p main)
    main_fits =
        near_fits _ _ (main_lined p main) (both _ _ (body_fits 0 _ main (omega arith) is.main_is) (one _ tt))
        (all_front IsNearJump (main_part p main).jumps later_jumps near)

    method_fits : (m : ℕ × Function) → slice_get program.functions m.0 ≡ Some m.1 → All IsNearJump (method_part p m).jumps → IsFit m
    method_fits m at near_body =
        near_fits _ _ (method_lined p m.1) (both _ _ (body_fits 1 m.0 m.1 (omega arith) at)
        (All-cons FitsAside (Bipush (pos 0)) (Ireturn ∷ []) zero_fits (one Ireturn tt))) near_body

    methods_fit : (ms : List (ℕ × Function)) → ((m : ℕ × Function) → Contains ms m → slice_get program.functions m.0 ≡ Some m.1) →
        All IsNearJump (jumps_in (parts ms)) → All IsFit ms
    methods_fit [] each near_all = All-nil IsFit
    methods_fit (m ∷ ms) each near_all =
        All-cons IsFit m ms
        (method_fits m (each m (0, omega arith, refl)) (all_front IsNearJump (method_part p m).jumps (jumps_in (parts ms)) near_all))
        (methods_fit ms (λ x h. each x (Contains-append_right (m ∷ []) ms x h))
        (all_back IsNearJump (method_part p m).jumps (jumps_in (parts ms)) near_all))

    -- ---- all of it

    main_at : CodeAt image.text 0 (main_code p main)
    main_at =
        let long = length-append main_bytes (bytes_of (parts (methods program))) in
        subst (λ (xs : List ℕ). CodeAt xs 0 (main_code p main)) (sym is.laid.text)
        (stands (main_code p main) [] (bytes_of (parts (methods program))) main_fits
        (omega (arith, is.laid.text_fits, long, bytes_size (main_code p main))))

    methods_at : AreMethodsAt image p (code_size (main_code p main)) (methods program)
    methods_at =
        subst (λ (b : ℕ). AreMethodsAt image p b (methods program)) (bytes_size (main_code p main)) (methods_laid _ [] 0 _ counted.0
        (methods_fit _ (λ m h. (sound m.0 m.1 h).0) (all_back IsNearJump (main_part p main).jumps later_jumps near)) is.laid.text is.laid.pool refl)

    number_at : (n : ℕ) → Finds (numbers program) n → slice_get image.pool (p.constant n) ≡ Some n
    number_at n found =
        let front : List ℕ = 0 ∷ entries_part in
        let place : ℕ = position_or_len (λ m. m == n) (numbers program) in
        let index : p.constant n ≡ length front + place = omega (arith, entries_long, counted.1) in
        ap (slice_get image.pool) index ∙ ap (λ (xs : List ℕ). slice_get xs (length front + place)) is.laid.pool ∙ get_after front _ place ∙ found

    pub laid_out : IsLaidOut image p program
    laid_out = record {
      object = ap (λ (xs : List ℕ). slice_get xs 0) is.laid.pool;
      numbers = all_found _ _ number_at;
      main = main;
      main_is = is.main_is;
      main_at = main_at;
      methods = methods_at;
    }
