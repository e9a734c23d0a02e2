-- The canonical parts of a statement, divided by semicolons, are its parts.
use Rattle.mal_print.proofs.Common.{◌≡◌, ℕ, suc, Bool, true, false, List, [], ◌∷◌, ◌++◌, Option, Some, None, refl, sym, ap, subst, ◌∙◌, append_assoc, cond}
use Rattle.mal_print.proofs.Common.{AllByRecursion as Each, append-nil, All-from_recursion, Machine, Mic1, Mic2, Mem, Part, Word, Token, Assignment, Tree, Next}
use Rattle.std.proofs.lemmas.List.Splits.{slice_split_at, slice_split_none}
use Rattle.micro_word.specs.declared.statement.Mem.TheVariants as mems
use Rattle.mal_tokens.specs.declared.word.Word.TheVariants as words
use Rattle.mal_tokens.specs.declared.sign.Sign.TheVariants as signs
use Rattle.mal_tokens.specs.declared.token.Token.TheVariants as tokens
use Rattle.mal_line.specs.declared.next.Next.TheVariants as nexts
use Rattle.mal_line.specs.Prelude.{dest_tokens, AreParts, AreTree, assign, assignments, counted, fetch_count, fetches, IsJumpLast, is_semicolon, jump, jumps_of, Kind, listed, listed_mem, memories, memory, nothing, pieces}
use Rattle.mal_print.specs.StatementText as text
use Rattle.mal_print.specs.Prelude.{assignment, beside, chain, dests_of, heads, is_absent, labelled, leads, or_semicolon, parts, value}
use Rattle.mal_print.proofs.Chained.{assignment_of, chain_is}
use Rattle.mal_print.proofs.Each.{each_assignment, each_chain, each_fetches, each_memory, Stands}
use Rattle.mal_print.proofs.Fitting.{Fits}

-- ---- the parts between the semicolons

-- what stands between two semicolons, where there is something
abbrev pub split : List Token → List (List Token)
split [] = []
split (t ∷ ts) = pieces (t ∷ ts)

-- no semicolon
abbrev pub IsInside : Token → Type 0
IsInside t = is_semicolon t ≡ false

whole : (ts : List Token) → Each IsInside ts → pieces ts ≡ ts ∷ []
whole ts h = slice_split_none is_semicolon ts (All-from_recursion IsInside ts h)

split_beside : (ts us : List Token) → Each IsInside ts → split (beside ts us) ≡ split ts ++ split us
split_beside [] us h = refl
split_beside (t ∷ ts) [] h = sym (append-nil (pieces (t ∷ ts)))
split_beside (t ∷ ts) (u ∷ us) h =
    slice_split_at is_semicolon (t ∷ ts) (tokens.Sign signs.Semicolon) (u ∷ us) (All-from_recursion IsInside (t ∷ ts) h) refl
    ∙ ap (λ xs. xs ++ pieces (u ∷ us)) (sym (whole (t ∷ ts) h))

beside_assoc : (a b c : List Token) → beside (beside a b) c ≡ beside a (beside b c)
beside_assoc [] b c = refl
beside_assoc (x ∷ a) [] c = refl
beside_assoc (x ∷ a) (y ∷ b) [] = refl
beside_assoc (x ∷ a) (y ∷ b) (z ∷ c) = append_assoc (x ∷ a) (tokens.Sign signs.Semicolon ∷ y ∷ b) (tokens.Sign signs.Semicolon ∷ z ∷ c)

split_parts : (a b c d : List Token) → Each IsInside a → Each IsInside b → Each IsInside c
    → split (beside (beside (beside a b) c) d) ≡ split a ++ (split b ++ (split c ++ split d))
split_parts a b c d f g h =
    ap split (beside_assoc (beside a b) c d ∙ beside_assoc a b (beside c d))
    ∙ (split_beside a (beside b (beside c d)) f ∙ ap (λ xs. split a ++ xs) (split_beside b (beside c d) g ∙ ap (λ xs. split b ++ xs) (split_beside c d h)))

inside : (m : Machine) → Stands IsInside m
inside m = record { word = λ w h. refl; sign = λ s h. h; zero = refl; one = refl; eight = refl; offset = refl }

split_chain : (m : Machine) (part : Part) (next : Next Token) → Fits m part → split (chain part next) ≡ chain part next ∷ []
split_chain m part next f = go (dests_of part.dests) (each_chain IsInside m (inside m) part next f)
  where
    go : (ws : List Word) → Each IsInside (dest_tokens (heads ws next) ++ value part) → split (dest_tokens (heads ws next) ++ value part) ≡ (dest_tokens (heads ws next) ++ value part) ∷ []
    go [] h = whole (dest_tokens (heads [] next) ++ value part) h
    go (w ∷ ws) h = whole (dest_tokens (heads (w ∷ ws) next) ++ value part) h

-- ---- the parts by their kinds

abbrev Jump : Type 0
Jump = Option (Next (List ℕ))

abbrev pub jump_of : Next (List ℕ) → Option Jump
jump_of nexts.Following = None
jump_of next = Some (Some next)

-- the tokens between semicolons are these parts
record Tallied (m : Machine) (xs : List (List Token)) (tree : Tree) : Type 0 where
  kinds : List Kind
  are : AreParts m xs kinds
  assignment : assignments kinds ≡ listed tree.assignment
  memory : memories kinds ≡ listed_mem tree.mem
  fetch : fetch_count kinds ≡ counted tree.fetch
  next : jumps_of kinds ≡ listed tree.next
  last : IsJumpLast kinds

only_jump : (m : Machine) {xs : List (List Token)} (j : Jump) → AreParts m xs (jump j ∷ [])
    → Tallied m xs (record { assignment = None; mem = mems.None; fetch = false; next = Some j })
only_jump m j are = record { kinds = jump j ∷ []; are = are; assignment = refl; memory = refl; fetch = refl; next = refl; last = tt }

tallied_next : (m : Machine) (next : Next (List ℕ)) → Tallied m (split (leads m (labelled next))) (record { assignment = None; mem = mems.None; fetch = false; next = jump_of next })
tallied_next m nexts.Following = record { kinds = []; are = refl; assignment = refl; memory = refl; fetch = refl; next = refl; last = tt }
tallied_next m (nexts.Goto label) = only_jump m (Some (nexts.Goto label)) (refl, refl)
tallied_next Mic1 (nexts.Dispatch false) = only_jump Mic1 (Some (nexts.Dispatch false)) ((words.Mbr, refl, refl), refl)
tallied_next Mic1 (nexts.Dispatch true) = only_jump Mic1 (Some (nexts.Dispatch true)) ((words.Mbr, refl, refl), refl)
tallied_next Mic2 (nexts.Dispatch false) = only_jump Mic2 (Some (nexts.Dispatch false)) ((words.Mbr1, refl, refl), refl)
tallied_next Mic2 (nexts.Dispatch true) = only_jump Mic2 (Some (nexts.Dispatch true)) ((words.Mbr1, refl, refl), refl)
tallied_next m (nexts.Branch test high low) = only_jump m (Some (nexts.Branch test high low)) (refl, refl, refl)

tallied_fetch : (m : Machine) (f : Bool) (xs : List (List Token)) (next : Option Jump) → Tallied m xs (record { assignment = None; mem = mems.None; fetch = false; next = next })
    → Tallied m (split (text.fetches f) ++ xs) (record { assignment = None; mem = mems.None; fetch = f; next = next })
tallied_fetch m false xs next t = t
tallied_fetch m true xs next t = record { kinds = fetches ∷ t.kinds; are = (refl, t.are); assignment = t.assignment; memory = t.memory; fetch = ap suc t.fetch; next = t.next; last = t.last }

tallied_memory : (m : Machine) (mem : Mem) (f : Bool) (xs : List (List Token)) (next : Option Jump) → Tallied m xs (record { assignment = None; mem = mems.None; fetch = f; next = next })
    → Tallied m (split (text.memory mem) ++ xs) (record { assignment = None; mem = mem; fetch = f; next = next })
tallied_memory m mems.None f xs next t = t
tallied_memory m mems.Read f xs next t = record { kinds = memory mems.Read ∷ t.kinds; are = (refl, t.are); assignment = t.assignment; memory = ap (λ xs. mems.Read ∷ xs) t.memory; fetch = t.fetch; next = t.next; last = t.last }
tallied_memory m mems.Write f xs next t = record { kinds = memory mems.Write ∷ t.kinds; are = (refl, t.are); assignment = t.assignment; memory = ap (λ xs. mems.Write ∷ xs) t.memory; fetch = t.fetch; next = t.next; last = t.last }

-- the assignment that a part has, where it has one
abbrev pub assigned_by : Bool → Part → Option Assignment
assigned_by true part = None
assigned_by false part = Some (assignment_of part)

tallied_chain : (m : Machine) (part : Part) (to : Next Token) (absent : Bool) (xs : List (List Token)) (next : Option Jump) → Fits m part
    → Tallied m xs (record { assignment = None; mem = part.mem; fetch = part.fetch; next = next })
    → Tallied m (split (cond absent [] (chain part to)) ++ xs) (record { assignment = assigned_by absent part; mem = part.mem; fetch = part.fetch; next = next })
tallied_chain m part to true xs next h t = t
tallied_chain m part to false xs next h t = record {
  kinds = assign (assignment_of part) ∷ t.kinds;
  are = subst (λ ys. AreParts m (ys ++ xs) (assign (assignment_of part) ∷ t.kinds)) (sym (split_chain m part to h)) (chain_is m part to h, t.are);
  assignment = ap (λ xs. assignment_of part ∷ xs) t.assignment;
  memory = t.memory;
  fetch = t.fetch;
  next = t.next;
  last = t.last;
}

abbrev pub tree_for : Part → Next (List ℕ) → Tree
tree_for part next = record { assignment = assigned_by (is_absent part) part; mem = part.mem; fetch = part.fetch; next = jump_of next }

tallied_parts : (m : Machine) (part : Part) (next : Next (List ℕ)) → Fits m part → Tallied m (split (parts m part (labelled next))) (tree_for part next)
tallied_parts m part next h =
    let to = labelled next in
    subst (λ xs. Tallied m xs (tree_for part next)) (sym (split_parts (assignment part to) (text.memory part.mem) (text.fetches part.fetch) (leads m to)
    (each_assignment IsInside m (inside m) part to h) (each_memory IsInside m (inside m) part.mem) (each_fetches IsInside m (inside m) part.fetch h.fetch)))
    (tallied_chain m part to (is_absent part) (split (text.memory part.mem) ++ (split (text.fetches part.fetch) ++ split (leads m to))) (jump_of next) h
    (tallied_memory m part.mem part.fetch (split (text.fetches part.fetch) ++ split (leads m to)) (jump_of next)
    (tallied_fetch m part.fetch (split (leads m to)) (jump_of next) (tallied_next m next))))

tree_some : (m : Machine) (tree : Tree) (ts : List Token) → Tallied m (pieces ts) tree → AreTree m ts tree
tree_some m tree ts h = record { parts = h.kinds; are = h.are; assignment = h.assignment; memory = h.memory; fetch = h.fetch; next = h.next; last = h.last }

-- an empty part before the others is ignored
tallied_nothing : (m : Machine) (xs : List (List Token)) (tree : Tree) → Tallied m xs tree → Tallied m ([] ∷ xs) tree
tallied_nothing m xs tree t =
    record { kinds = nothing ∷ t.kinds; are = (refl, t.are); assignment = t.assignment; memory = t.memory; fetch = t.fetch; next = t.next; last = t.last }

-- `;` stands where there is nothing
trees : (m : Machine) (tree : Tree) (ts : List Token) → Tallied m (split ts) tree → AreTree m ts tree × AreTree m (or_semicolon ts) tree
trees m tree [] t =
    let one = tallied_nothing m [] tree t in
    (tree_some m tree [] one, tree_some m tree (tokens.Sign signs.Semicolon ∷ []) (tallied_nothing m ([] ∷ []) tree one))
trees m tree (x ∷ xs) t = let is = tree_some m tree (x ∷ xs) t in (is, is)

pub tree_is : (m : Machine) (part : Part) (next : Next (List ℕ)) → Fits m part → AreTree m (parts m part (labelled next)) (tree_for part next)
tree_is m part next h = (trees m (tree_for part next) (parts m part (labelled next)) (tallied_parts m part next h)).0

pub or_semicolon_is : (m : Machine) (part : Part) (next : Next (List ℕ)) → Fits m part → AreTree m (or_semicolon (parts m part (labelled next))) (tree_for part next)
or_semicolon_is m part next h = (trees m (tree_for part next) (parts m part (labelled next)) (tallied_parts m part next h)).1

pub or_semicolon_some : (ts : List Token) → or_semicolon ts ≡ [] → ⊥
or_semicolon_some [] e = absurd (cc)
or_semicolon_some (t ∷ ts) e = absurd (cc)
