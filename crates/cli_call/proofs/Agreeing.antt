-- `run` and `reference` of one program agree.
use Rattle.cli_call.proofs.Common.{◌≡◌, ◌≢◌, ◌∙◌, ℕ, false, List, ◌++◌, Some, Option, refl, sym, ap, subst, codes, IfSome, Rose, Untaken, World, End, Boundary}
use Rattle.cli_call.proofs.Common.{Counts, Meaning, BoardView, state_line, RunEnd, timing_of, TimedImage, Point, Finish, EndsBy, first_point, PlainReport}
use Rattle.cli_call.proofs.Common.{Reports, VerifiedView, boundary_of, board_end, HasRun, program as program_on, Got, OutsideView, Said, Says, SinkState}
use Rattle.cli_call.proofs.Common.{Unsaid, status_of, clocked_head, cycles_of, head, last_boundary, plain_head, IsReferenceRun, Reported, report_on, NoRoom}
use Rattle.ijvm_reference.specs.Prelude.{HasRun as HasPlainRun}
use Rattle.ijvm_meaning.specs.declared.run.RunEnd.TheVariants as defined
use Rattle.ijvm_reference.specs.Plain as plain
use Rattle.cli_run_texts.specs.Ends as texts
use Rattle.cli_programs.specs.Reference as reference
use Rattle.cli_call.specs.Prelude.{ClockedEnd, CutByRead, CutByWrite, Ran, Agrees, IsQuiet}
use Rattle.cli_call.proofs.AtLimit.{OfLimit, cycles_at_last}

-- Both reports have the same head.

cycles_by : (end : RunEnd) (cycles counted : ℕ) (last : Boundary) → (end ≡ defined.StackLimit → cycles ≡ last.cycles) → (end ≢ defined.StackLimit → counted ≡ cycles) →
    cycles_of (board_end end) counted (Some last) ≡ cycles
cycles_by defined.StackLimit cycles counted last limit other = sym (limit refl)
cycles_by _ cycles counted last limit other = other (λ q. cc)

ends_same : (end : RunEnd) → texts.clocked_end (plain.reported_end end) ≡ board_end end
ends_same defined.Halt = refl
ends_same _ = refl

boundaries_same : (r : PlainReport) (cycles instructions : ℕ) (last : Point) → Reports r cycles instructions last → last_boundary r ≡ boundary_of last
boundaries_same r cycles instructions last reports = rw (reports.boundary, reports.address, reports.sp, reports.lv) refl

plain_is : (r : PlainReport) (f : Finish) → r.end ≡ plain.reported_end f.end → Reports r f.cycles f.instructions f.last →
    plain_head r ≡ head (board_end f.end) f.cycles f.instructions (Some (boundary_of f.last))
plain_is r f end reports =
    ap (λ (e : End). head e r.cycles r.instructions (Some (last_boundary r))) (ap texts.clocked_end end ∙ ends_same f.end)
    ∙ (ap (λ (c : ℕ). head (board_end f.end) c r.instructions (Some (last_boundary r))) reports.cycles_are
    ∙ (ap (λ (i : ℕ). head (board_end f.end) f.cycles i (Some (last_boundary r))) reports.instructions_are
    ∙ ap (λ (b : Boundary). head (board_end f.end) f.cycles f.instructions (Some b)) (boundaries_same r f.cycles f.instructions f.last reports)))

clocked_is : (c : Counts) (f : Finish) → OfLimit f → (f.end ≢ defined.StackLimit → c.cycles ≡ f.cycles) → c.instructions ≡ f.instructions →
    c.boundary ≡ Some (boundary_of f.last) → clocked_head (board_end f.end) c ≡ head (board_end f.end) f.cycles f.instructions (Some (boundary_of f.last))
clocked_is c f limit cycles instructions boundary =
    ap (λ (b : Option Boundary). head (board_end f.end) (cycles_of (board_end f.end) c.cycles b) c.instructions b) boundary
    ∙ (ap (λ (n : ℕ). head (board_end f.end) n c.instructions (Some (boundary_of f.last))) (cycles_by f.end f.cycles c.cycles (boundary_of f.last) limit cycles)
    ∙ ap (λ (i : ℕ). head (board_end f.end) f.cycles i (Some (boundary_of f.last))) instructions)

-- What is printed where the sink does not fail.

pub said : (old new : SinkState) (text : List ℕ) (code status : ℕ) → (Rose old.faults new.faults → ⊥) → Says old new text code status → (status ≡ code) × Got old.held text new.held
said old new text code status none (Said is got flushed same) = (is, got)
said old new text code status none (Unsaid is got rose) = absurd (none rose)

-- what a source is known to have left is what a run of it takes
pub told_input : (left : Option (List ℕ)) (input taken : List ℕ) → left ≡ Some input → Untaken left false taken → taken ≡ input
told_input left input taken e told = subst (λ (l : Option (List ℕ)). Untaken l false taken) e told

held_is : (held : Option (List ℕ)) (one given : List ℕ) → held ≡ Some one → IfSome held (λ h. h ≡ given) → one ≡ given
held_is held one given e is = subst (λ (h : Option (List ℕ)). IfSome h (λ x. x ≡ given)) e is

-- a run has one end
abbrev pub OneEnd : Type 0
OneEnd = (p : TimedImage) (n : ℕ) (from : Point) (f g : Finish) → EndsBy p n from f → EndsBy p n from g → f ≡ g

module _ {M S : Type 0} (state : M → S) (m : Meaning S) (IsReady : ℕ → List ℕ → ℕ → S → World → Type 0) (IsShipped : List ℕ → Type 0) (entry : ℕ) where
  module _ (program : VerifiedView) (bound : ℕ) (input : List ℕ) (old ran told : OutsideView) (status status' : ℕ) where
    -- both ran to their ends
    both : OneEnd → old.console.left ≡ Some input →
        (board : BoardView M) (run : HasRun state m IsReady IsShipped entry (timing_of m.machine) program bound old.console.left old.out.held ran.console.left ran.out.held board) →
        Says old.err ran.err (report_on state m (board_end run.begins.finish.end) board) (status_of (board_end run.begins.finish.end)) status →
        (r : PlainReport) → HasPlainRun (reference.verified_program program m.machine) program.main_locals bound old.console.left old.out.held told.console.left told.out.held r →
        Says old.err told.err (plain_head r) (status_of (texts.clocked_end r.end)) status' →
        IsQuiet old ran status → IsQuiet old told status' → Agrees old ran told status status'
    both one tells board run says r plainly says' quiet quiet' =
        let f : Finish = run.begins.finish in
        let same : f ≡ plainly.run.finish =
        one (program_on (timing_of m.machine) program) bound (first_point (program_on (timing_of m.machine) program) program.main_locals input) f plainly.run.finish
        (subst (λ (i : List ℕ). EndsBy (program_on (timing_of m.machine) program) bound (first_point (program_on (timing_of m.machine) program) program.main_locals i) f)
        (told_input old.console.left input run.begins.input tells run.begins.told) run.begins.finishes)
        (subst (λ (i : List ℕ). EndsBy (program_on (timing_of m.machine) program) bound (first_point (program_on (timing_of m.machine) program) program.main_locals i) plainly.run.finish)
        (told_input old.console.left input plainly.run.input tells plainly.run.told) plainly.run.ends) in
        let r_end : r.end ≡ plain.reported_end f.end = plainly.end ∙ ap (λ (g : Finish). plain.reported_end g.end) (sym same) in
        let reports : Reports r f.cycles f.instructions f.last = subst (λ (g : Finish). Reports r g.cycles g.instructions g.last) (sym same) plainly.report in
        let given : IfSome told.out.held (λ h. h ≡ plain.told_of old.out.held ++ f.left.given) =
        subst (λ (g : Finish). IfSome told.out.held (λ h. h ≡ plain.told_of old.out.held ++ g.left.given)) (sym same) plainly.given in
        let limit : OfLimit f =
        cycles_at_last (program_on (timing_of m.machine) program) bound (first_point (program_on (timing_of m.machine) program) program.main_locals run.begins.input) f run.begins.finishes in
        let counts = run.at.counts in
        let heads : clocked_head (board_end f.end) board.counts ≡ plain_head r =
        clocked_is board.counts f limit (λ q. sym (ap (λ (c : Counts). c.cycles) counts) ∙ run.agrees.cycles q)
        (sym (ap (λ (c : Counts). c.instructions) counts) ∙ run.agrees.instructions) (sym (ap (λ (c : Counts). c.boundary) counts) ∙ run.agrees.boundary)
        ∙ sym (plain_is r f r_end reports) in
        let run_said = said old.err ran.err _ _ status quiet.err says in
        let reference_said = said old.err told.err _ _ status' quiet'.err says' in
        record {
          same_status = run_said.0 ∙ (ap status_of (sym (ap texts.clocked_end r_end ∙ ends_same f.end)) ∙ sym reference_said.0);
          same_out = λ one other a b. held_is ran.out.held one _ a run.given ∙ sym (held_is told.out.held other _ b given);
          report = r;
          registers = m.registers (state board.machine);
          run_says = subst (λ (h : List ℕ). Got old.err.held (h ++ state_line (m.registers (state board.machine)) ++ codes "\n") ran.err.held) heads run_said.1;
          reference_says = reference_said.1;
        }

    by_reference : OneEnd → old.console.left ≡ Some input →
        (board : BoardView M) (run : HasRun state m IsReady IsShipped entry (timing_of m.machine) program bound old.console.left old.out.held ran.console.left ran.out.held board) →
        Says old.err ran.err (report_on state m (board_end run.begins.finish.end) board) (status_of (board_end run.begins.finish.end)) status →
        IsReferenceRun m.machine bound program old told status' →
        IsQuiet old ran status → IsQuiet old told status' → Agrees old ran told status status'
    by_reference one tells board run says (Reported r (reference.Ran plainly console out flushed) files says') quiet quiet' =
        both one tells board run says r plainly says' quiet quiet'
    by_reference one tells board run says (Reported r (reference.CutByRead e cut rose out flushed) files says') quiet quiet' = absurd (quiet'.console rose)
    by_reference one tells board run says (Reported r (reference.CutByWrite e cut console rose) files says') quiet quiet' = absurd (quiet'.out rose)
    by_reference one tells board run says (reference.Short short console out flushed files says') quiet quiet' =
        absurd (quiet'.memory (said old.err told.err _ _ status' quiet'.err says').0)

    pub agree : OneEnd → old.console.left ≡ Some input →
        ClockedEnd state m IsReady IsShipped entry (timing_of m.machine) bound program old ran status →
        IsReferenceRun m.machine bound program old told status' →
        IsQuiet old ran status → IsQuiet old told status' → Agrees old ran told status status'
    agree one tells (NoRoom tells') reference quiet quiet' = absurd (quiet.memory (said old.err ran.err _ _ status quiet.err tells'.says).0)
    agree one tells (Ran board run files console out flushed says) reference quiet quiet' = by_reference one tells board run says reference quiet quiet'
    agree one tells (CutByRead board cut files rose out flushed says) reference quiet quiet' = absurd (quiet.console rose)
    agree one tells (CutByWrite board cut files console rose says) reference quiet quiet' = absurd (quiet.out rose)
