-- The words of other crates that these proofs use.
pub use Rattle.std.proofs.Common.{Bool, Global, IfSome, List, None, Ok, Option, Result, Some, Vec, [], ap, arith, drop, eqb, false, get_or, if◌then◌else◌, inl}
pub use Rattle.std.proofs.Common.{inr, is_some, length, length-set, refl, set-set, slice_index, slice_index_or, slice_set, subst, suc, sym, take, true}
pub use Rattle.std.proofs.Common.{unwrap_or, zero, ℕ, ◌%◌, ◌&&◌, ◌*◌, ◌++◌, ◌+◌, ◌-◌, ◌<◌, ◌==◌, ◌^◌, ◌∙◌, ◌∷◌, ◌≡◌, ◌≢◌, ◌≤◌, ◌⊎◌}
pub use Rattle.std.proofs.lemmas.Bool.{cases_Bool, cases_lt}
pub use Rattle.std.proofs.lemmas.Bool.Decides.{Decides-and, Decides-eqb, Decides-like, nat_tests}
pub use Rattle.std.proofs.lemmas.List.{drop_more, take_more, take_rest}
pub use Rattle.std.proofs.lemmas.List.Elements.{All-cons, All-contains, All-head, All-nil, All-push, All-same, All-tail, All-weaker, Contains-append_right}
pub use Rattle.std.proofs.lemmas.List.Elements.{Contains-push}
pub use Rattle.std.proofs.lemmas.Option.{same_Some}
pub use Rattle.std.proofs.lemmas.Result.{on_ok_weaker}
pub use Rattle.std.specs.Bool.{Decides}
pub use Rattle.std.specs.List.{All, Any, Contains, remove}
pub use Rattle.std.specs.declared.alloc.AllocError.{AllocError}
pub use Rattle.mic_words.specs.Prelude.{plus}
unfoldable pub use Rattle.mic_words.specs.Prelude.{signed_byte, wrap}
pub use Rattle.console_port.specs.Prelude.{Refusal, StackLimit, World, byte_in, console_at}
pub use Rattle.mic_clock.specs.Prelude.{Done, Meaning, Outcome, Refused}
pub use Rattle.mic_datapath.specs.Prelude.{arrived}
pub use Rattle.mic1_datapath.specs.Prelude.{IsReady, Micro, initial, mic1_meaning}
unfoldable pub use Rattle.mic1_datapath.specs.Prelude.{driven, step_of_word}
pub use Rattle.ijvm_instr.specs.Prelude.{row_of}
pub use Rattle.ijvm_instr.specs.declared.instr.Instr.{Instr}
pub use Rattle.ijvm_instr.specs.declared.instr.Instr.TheVariants.{Bipush, Dup, Err, Goto, Halt, Iadd, Iand, IfIcmpeq, Ifeq, Iflt, Iinc, Iload, In}
pub use Rattle.ijvm_instr.specs.declared.instr.Instr.TheVariants.{Invokevirtual, Ior, Ireturn, Istore, Isub, LdcW, Nop, Out, Pop, Swap, WideIinc, WideIload}
pub use Rattle.ijvm_instr.specs.declared.instr.Instr.TheVariants.{WideIstore}
pub use Rattle.ijvm_instr.specs.declared.row.Cost.TheVariants.{Always, ByEntry, IfTaken}
pub use Rattle.ijvm_meaning.specs.Prelude.{State, Timing, base, cost, cycles_of, entry_of, frames_of, is_taken, operands_at}
pub use Rattle.verifier_facts.specs.Prelude.{VerifiedView, need_of}
pub use Rattle.ijvm_simulation.specs.Images.{first, map}
pub use Rattle.ijvm_simulation.specs.Prelude.{FramesStand, IsAt, IsMapEnd, IsMemory, IsTop, Loads, Moment, Moves, OperandsAt, Origin, Overruns, Reads}
pub use Rattle.ijvm_simulation.specs.Prelude.{RegistersStand, ShowsState, Stores, Went, is_inside, last, onward, outcome_at, pass, reset_moment, stalls_at}
pub use Rattle.ijvm_simulation.specs.Stack.{above}
pub use Rattle.ijvm_simulation.specs.Words.{byte_bound, byte_kept}
pub use Rattle.micro_terms.specs.Prelude.{AreOrdered, Environment, Fits, HasEnvironments, Holds, IsIn}
unfoldable pub use Rattle.micro_terms.specs.Prelude.{end_of}
pub use Rattle.micro_terms.specs.declared.node.Node.{Node}
pub use Rattle.micro_terms.specs.declared.range.Range.{Range}
pub use Rattle.mic1_cycles.specs.Known.{StandsAt}
pub use Rattle.mic1_cycles.specs.Prelude.{AreAnswered, HasSigns, IsPath, IsSigned, IsSignedIn, Knows, given_by, micro_of, refusal_of, trail_of, truth, word_in}
pub use Rattle.mic1_cycles.specs.Prelude.{world_of, written_by}
pub use Rattle.mic1_cycles.specs.declared.known.KnownByte.{KnownByte}
pub use Rattle.mic1_cycles.specs.declared.known.KnownWord.{KnownWord}
pub use Rattle.mic1_cycles.specs.declared.path.Path.{Path}
pub use Rattle.mic1_cycles.specs.declared.question.Answer.{Answer}
pub use Rattle.mic1_cycles.specs.declared.refusal.Stop.TheVariants.{Limit, OutOfMap}
pub use Rattle.mic1_cycles.specs.declared.symbols.Byte.{Byte}
pub use Rattle.mic1_cycles.specs.declared.symbols.Symbols.{Symbols}
pub use Rattle.mic1_cycles.specs.declared.symbols.Write.{Write}
pub use Rattle.mic1_passes.specs.Prelude.{StopsAt, moment}
pub use Rattle.mic1_checks.specs.Left.{wide_index_in}
pub use Rattle.mic1_checks.specs.Prelude.{Agree, AreAlike, AreAtBoundary, AreAtLimit, AreLeft, BOOT, CarriedBy, Carries, CarriesBoot, CarriesEach}
pub use Rattle.mic1_checks.specs.Prelude.{CarriesInstruction, CarriesOver, CarriesTakes, DecideSeconds, EndsAfter, GoesOn, HasBytes, HasEnded, HasEndedAfter}
pub use Rattle.mic1_checks.specs.Prelude.{HasOperand, HasRegisters, HasWords, IsKnown, IsNoEnd, IsReadyOrArriving, IsReset, IsStart, LeadAlike, LimitAlike}
pub use Rattle.mic1_checks.specs.Prelude.{MovesOn, OneEnd, Onward, StandsBefore, StartsBefore, Suits, TakesEnds, Transfers, TransfersLimits, cost_by}
pub use Rattle.mic1_checks.specs.Prelude.{free_words, instructions, plain, register_ranges, row_number, second_in, shape_of, shaped_symbols, spent_by}
pub use Rattle.mic1_checks.specs.Prelude.{start_moment, timing_by, wide}
pub use Rattle.mic1_checks.specs.Situation.{is_wide_istore, takes_operand}
pub use Rattle.mic1_checks.specs.Transfer.{LeaveAlike}
pub use Rattle.mic1_checks.specs.declared.ends.Ended.TheVariants.{After}
pub use Rattle.mic1_checks.specs.declared.instruction.Instruction.{Instruction}
pub use Rattle.mic1_checks.specs.declared.leaf.Counts.{Counts}
pub use Rattle.mic1_checks.specs.declared.leaf.Tried.{Tried}
pub use Rattle.mic1_checks.specs.declared.leaf.Tried.TheVariants.{Stopped}
pub use Rattle.mic1_checks.specs.declared.left.Operands.{Operands}
pub use Rattle.mic1_checks.specs.declared.left.Operands.TheVariants.{Above, Empty, Unknown}
pub use Rattle.mic1_checks.specs.declared.shape.Shape.{Shape}
