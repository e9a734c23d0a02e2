-- The parts of a statement, divided by semicolons: which tokens they are.
use Rattle.std.specs.Prelude.{◌≡◌, ◌≢◌, ℕ, ℤ, pos, suc, Bool, true, false, List, [], ◌∷◌, Option, Some, None}
use Rattle.mal_line.specs.Common.{slice_split, Machine, Mem, Test, Word, Token}
use Rattle.micro_word.specs.declared.statement.Mem.TheVariants as mems
use Rattle.micro_word.specs.declared.statement.Test.TheVariants as tests
use Rattle.mal_tokens.specs.declared.word.Word.TheVariants as words
use Rattle.mal_tokens.specs.declared.sign.Sign.TheVariants as signs
use Rattle.mal_tokens.specs.declared.token.Token.TheVariants as tokens
use Rattle.mal_line.specs.declared.chain.Assignment.{Assignment}
use Rattle.mal_line.specs.declared.next.Next.{Next}
use Rattle.mal_line.specs.declared.next.Next.TheVariants as nexts
use Rattle.mal_line.specs.declared.tree.Tree.{Tree}
use Rattle.mal_line.specs.Chains.{IsAssignment}

abbrev pub is_semicolon : Token → Bool
is_semicolon (tokens.Sign signs.Semicolon) = true
is_semicolon _ = false

-- what stands between two semicolons
abbrev pub pieces : List Token → List (List Token)
pieces = slice_split is_semicolon

-- rd or wr
abbrev pub IsMem : List Token → Mem → Type 0
IsMem ts mems.None = ⊥
IsMem ts mems.Read = ts ≡ tokens.Word words.Rd ∷ []
IsMem ts mems.Write = ts ≡ tokens.Word words.Wr ∷ []

abbrev pub IsFetch : List Token → Type 0
IsFetch ts = ts ≡ tokens.Word words.Fetch ∷ []

-- MBR or MBR1
abbrev pub is_byte_word : Word → Bool
is_byte_word words.Mbr = true
is_byte_word words.Mbr1 = true
is_byte_word _ = false

-- `goto T`, `goto (MBR)` or `goto (MBR OR 0x100)`; none where the OR has another number
abbrev pub IsGoto : List Token → Option (Next (List ℕ)) → Type 0
IsGoto ts (Some (nexts.Goto label)) = ts ≡ tokens.Word words.Goto ∷ tokens.Name label ∷ []
IsGoto ts (Some (nexts.Dispatch false)) =
    (w : Word) × (is_byte_word w ≡ true) × (ts ≡ tokens.Word words.Goto ∷ tokens.Sign signs.Open ∷ tokens.Word w ∷ tokens.Sign signs.Close ∷ [])
IsGoto ts (Some (nexts.Dispatch true)) =
    (w : Word) × (is_byte_word w ≡ true)
    × (ts ≡ tokens.Word words.Goto ∷ tokens.Sign signs.Open ∷ tokens.Word w ∷ tokens.Word words.Or ∷ tokens.Number (pos 256) ∷ tokens.Sign signs.Close ∷ [])
IsGoto ts (Some _) = ⊥
IsGoto ts None =
    (w : Word) × (v : ℤ) × (is_byte_word w ≡ true) × (v ≢ pos 256)
    × (ts ≡ tokens.Word words.Goto ∷ tokens.Sign signs.Open ∷ tokens.Word w ∷ tokens.Word words.Or ∷ tokens.Number v ∷ tokens.Sign signs.Close ∷ [])

abbrev pub test_word : Test → Word
test_word tests.N = words.N
test_word tests.Z = words.Z

-- `if (N) goto T`, which a semicolon divides from `else goto F`
abbrev pub IsIf : List Token → Test → List ℕ → Type 0
IsIf ts test label =
    ts ≡ tokens.Word words.If ∷ tokens.Sign signs.Open ∷ tokens.Word (test_word test) ∷ tokens.Sign signs.Close
    ∷ tokens.Word words.Goto ∷ tokens.Name label ∷ []

abbrev pub IsElse : List Token → List ℕ → Type 0
IsElse ts label = ts ≡ tokens.Word words.Else ∷ tokens.Word words.Goto ∷ tokens.Name label ∷ []

-- a part of a statement
pub data Kind : Type 0 where
  nothing : Kind
  assign : Assignment → Kind
  memory : Mem → Kind
  fetches : Kind
  jump : Option (Next (List ℕ)) → Kind

-- the pieces are these parts in order; a branch takes two of them
abbrev pub AreParts : Machine → List (List Token) → List Kind → Type 0
AreParts machine xs [] = xs ≡ []
AreParts machine [] (p ∷ ps) = ⊥
AreParts machine (x ∷ xs) (nothing ∷ ps) = (x ≡ []) × AreParts machine xs ps
AreParts machine (x ∷ xs) (assign a ∷ ps) = IsAssignment machine x a × AreParts machine xs ps
AreParts machine (x ∷ xs) (memory m ∷ ps) = IsMem x m × AreParts machine xs ps
AreParts machine (x ∷ xs) (fetches ∷ ps) = IsFetch x × AreParts machine xs ps
AreParts machine (x ∷ xs) (jump (Some (nexts.Goto label)) ∷ ps) = IsGoto x (Some (nexts.Goto label)) × AreParts machine xs ps
AreParts machine (x ∷ []) (jump (Some (nexts.Branch test high low)) ∷ ps) = ⊥
AreParts machine (x ∷ y ∷ xs) (jump (Some (nexts.Branch test high low)) ∷ ps) = IsIf x test high × IsElse y low × AreParts machine xs ps
AreParts machine (x ∷ xs) (jump j ∷ ps) = IsGoto x j × AreParts machine xs ps

-- the parts of each kind
abbrev pub assignments : List Kind → List Assignment
assignments [] = []
assignments (assign a ∷ ps) = a ∷ assignments ps
assignments (_ ∷ ps) = assignments ps

abbrev pub memories : List Kind → List Mem
memories [] = []
memories (memory m ∷ ps) = m ∷ memories ps
memories (_ ∷ ps) = memories ps

abbrev pub fetch_count : List Kind → ℕ
fetch_count [] = 0
fetch_count (fetches ∷ ps) = suc (fetch_count ps)
fetch_count (_ ∷ ps) = fetch_count ps

abbrev pub jumps_of : List Kind → List (Option (Next (List ℕ)))
jumps_of [] = []
jumps_of (jump j ∷ ps) = j ∷ jumps_of ps
jumps_of (_ ∷ ps) = jumps_of ps

-- after a jump all parts are empty
abbrev pub AreNothing : List Kind → Type 0
AreNothing [] = Unit {0}
AreNothing (nothing ∷ ps) = AreNothing ps
AreNothing (_ ∷ ps) = ⊥

abbrev pub IsJumpLast : List Kind → Type 0
IsJumpLast [] = Unit {0}
IsJumpLast (jump j ∷ ps) = AreNothing ps
IsJumpLast (_ ∷ ps) = IsJumpLast ps

-- at most one
abbrev pub listed : {A : Type 0} → Option A → List A
listed None = []
listed (Some a) = a ∷ []

abbrev pub listed_mem : Mem → List Mem
listed_mem mems.None = []
listed_mem m = m ∷ []

abbrev pub counted : Bool → ℕ
counted true = 1
counted false = 0

-- the tokens are these parts: each kind at most once, in any order, the jump last, empty ones ignored
pub record AreTree (machine : Machine) (ts : List Token) (tree : Tree) : Type 0 where
  pub parts : List Kind
  pub are : AreParts machine (pieces ts) parts
  pub assignment : assignments parts ≡ listed tree.assignment
  pub memory : memories parts ≡ listed_mem tree.mem
  pub fetch : fetch_count parts ≡ counted tree.fetch
  pub next : jumps_of parts ≡ listed tree.next
  pub last : IsJumpLast parts
