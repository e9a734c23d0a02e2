-- Where accesses lead.
use Rattle.mic1_cycles.proofs.Common.{◌≡◌, ℕ, ◌+◌, ◌<◌, ◌≤◌, ◌/◌, ◌%◌, ◌==◌, nat_lt, Bool, true, false, if◌then◌else◌, List, [], ◌∷◌, ◌++◌, Option, Some, None}
use Rattle.mic1_cycles.proofs.Common.{length, refl, sym, ap, ◌∙◌, arith, append_assoc, slice_index, slice_set, drop, World, byte_in, next_byte, console_at}
use Rattle.mic1_cycles.proofs.Common.{write_refusal, read_refusal, fetch_refusal, read_value, untaken_after, given_after, Mem, signed_byte, byte_under_way}
use Rattle.mic1_cycles.proofs.Common.{first_refusal, Ports, Byte, Write, Trail, world_of, written_by, given_by, IsAccessed, IsTransferred, IsFetched, AccessLaw}
use Rattle.std.proofs.lemmas.List.{drop-drop, set_past}
use Rattle.micro_word.specs.declared.statement.Mem.TheVariants as mems
use Rattle.mic1_cycles.proofs.Trails.{written_push, size_kept, given_push}

if_true : {A : Type 0} (b : Bool) (x y : A) → b ≡ true → (if b then x else y) ≡ x
if_true true x y h = refl
if_true false x y h = absurd (cc)

if_false : {A : Type 0} (b : Bool) (x y : A) → b ≡ false → (if b then x else y) ≡ y
if_false true x y h = absurd (cc)
if_false false x y h = refl

is_lt : (a b : ℕ) → a < b → nat_lt a b ≡ true
is_lt a b h = grind arith

not_lt : (a b : ℕ) → b ≤ a → nat_lt a b ≡ false
not_lt a b h = grind arith

by_words : (fetch : Bool) (p : Ports) (w v : World) → w.words ≡ v.words → byte_under_way fetch p w ≡ byte_under_way fetch p v
by_words true p w v e = ap (λ (ws : List ℕ). Some (byte_in ws p.pc)) e
by_words false p w v e = refl

module _ (word : ℕ → ℕ) (start : World) where
  abbrev n : ℕ
  n = length start.words

  joined : (mem : Mem) (fetch : Bool) (p : Ports) (t t' : Trail) (read : Option ℕ) (byte : Option Byte) →
      IsTransferred word start mem p t read t' → IsFetched word start fetch p t' byte → IsAccessed word start mem fetch p t read byte t'
  joined mem fetch p t t' read byte a f =
      record {
        size = size_kept word t.writes start.words;
        clear = λ i. first_refusal (a.clear i) (f.clear i);
        its_word = a.its_word;
        its_byte = by_words fetch p _ _ a.words ∙ f.its_byte;
        signed = f.signed;
        after = a.after;
      }

  reads : (p : Ports) (t : Trail) (read : ℕ) → p.mar < n →
      word read ≡ slice_index (written_by word t.writes start.words) p.mar → IsTransferred word start mems.Read p t (Some read) t
  unfolding read_refusal read_value untaken_after
  reads p t read inside is =
      let lt = is_lt p.mar n inside in
      record {
        clear = if_true _ _ _ lt;
        its_word = ap Some (if_true _ _ _ lt ∙ sym is);
        after = ap (λ (rest : List ℕ). record (world_of word start t) { untaken = rest }) (if_true _ _ _ lt);
        words = refl;
      }

  writes : (p : Ports) (t : Trail) (at value : ℕ) → p.mar ≡ word at → p.mdr ≡ word value → p.mar < n →
      IsTransferred word start mems.Write p t None (record t { writes = t.writes ++ record { at = at; value = value } ∷ [] })
  unfolding write_refusal given_after
  writes p t at value mar mdr inside =
      let lt = is_lt p.mar n inside in
      let x : Write = record { at = at; value = value } in
      let stored : slice_set (written_by word t.writes start.words) p.mar p.mdr ≡ written_by word (t.writes ++ x ∷ []) start.words =
      (λ i. slice_set (written_by word t.writes start.words) (mar i) (mdr i)) ∙ sym (written_push word t.writes x start.words) in
      let kept : (if nat_lt p.mar n then start.given ++ given_by word t.given else (start.given ++ given_by word t.given) ++ (p.mdr % 256) ∷ []) ≡ start.given ++ given_by word t.given = if_true _ _ _ lt in
      record {
        clear = if_true _ _ _ lt;
        its_word = refl;
        after = λ i. record { words = stored i; untaken = drop t.taken start.untaken; given = kept i };
        words = stored;
      }

  takes : (p : Ports) (t : Trail) (read : ℕ) → p.mar ≡ console_at → n ≤ p.mar →
      word read ≡ next_byte (drop t.taken start.untaken) → IsTransferred word start mems.Read p t (Some read) (record t { taken = t.taken + 1 })
  unfolding read_refusal read_value untaken_after
  takes p t read is_console past is =
      let lt = not_lt p.mar n past in
      let there : (p.mar == console_at) ≡ true = grind (arith, is_console) in
      record {
        clear = if_false _ _ _ lt ∙ if_true _ _ _ there;
        its_word = ap Some (if_false _ _ _ lt ∙ sym is);
        after = ap (λ (rest : List ℕ). record (world_of word start t) { untaken = rest }) (if_false _ _ _ lt ∙ dropped t.taken start.untaken);
        words = refl;
      }
    where
      dropped : (k : ℕ) (xs : List ℕ) → drop 1 (drop k xs) ≡ drop (k + 1) xs
      dropped k xs = drop-drop 1 k xs

  gives : (p : Ports) (t : Trail) (value : ℕ) → p.mar ≡ console_at → p.mdr ≡ word value → n ≤ p.mar →
      IsTransferred word start mems.Write p t None (record t { given = t.given ++ value ∷ [] })
  unfolding write_refusal given_after
  gives p t value is_console mdr past =
      let lt = not_lt p.mar n past in
      let there : (p.mar == console_at) ≡ true = grind (arith, is_console) in
      let size = size_kept word t.writes start.words in
      let same : slice_set (written_by word t.writes start.words) p.mar p.mdr ≡ written_by word t.writes start.words = set_past (written_by word t.writes start.words) p.mar p.mdr (omega (arith, size, past)) in
      let more : (if nat_lt p.mar n then start.given ++ given_by word t.given else (start.given ++ given_by word t.given) ++ (p.mdr % 256) ∷ []) ≡ start.given ++ given_by word (t.given ++ value ∷ []) =
      if_false _ _ _ lt
      ∙ (append_assoc start.given (given_by word t.given) ((p.mdr % 256) ∷ [])
      ∙ (ap (λ (m : ℕ). start.given ++ (given_by word t.given ++ (m % 256) ∷ [])) mdr
      ∙ ap (λ (vs : List ℕ). start.given ++ vs) (sym (given_push word t.given value)))) in
      record {
        clear = if_false _ _ _ lt ∙ if_true _ _ _ there;
        its_word = refl;
        after = λ i. record { words = same i; untaken = drop t.taken start.untaken; given = more i };
        words = same;
      }

  fetches : (p : Ports) (t : Trail) (byte : Byte) → p.pc / 4 < n →
      word byte.plain ≡ byte_in (written_by word t.writes start.words) p.pc → word byte.signed ≡ signed_byte (word byte.plain) → IsFetched word start true p t (Some byte)
  unfolding fetch_refusal
  fetches p t byte inside is signed =
      record {
        clear = if_true _ _ _ (is_lt (p.pc / 4) n inside);
        its_byte = ap Some (sym is);
        signed = sym signed;
      }

pub access : AccessLaw
access = λ word start.
    record {
      joined = joined word start;
      nothing = λ p t. record { clear = refl; its_word = refl; after = refl; words = refl };
      reads = reads word start;
      writes = writes word start;
      takes = takes word start;
      gives = gives word start;
      no_fetch = λ p t. record { clear = refl; its_byte = refl; signed = tt };
      fetches = fetches word start;
    }
