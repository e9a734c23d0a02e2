-- What Mic-3 spends with the microprogram that ships for Mic-2, in cycles.
use Rattle.ijvm_instr.specs.declared.instr.Instr.{Instr}
use Rattle.ijvm_instr.specs.declared.instr.Instr.TheVariants.{Nop, Bipush, LdcW, Iload, Istore, Pop, Dup, Swap, Iadd, Isub, Iand, Iinc, Ifeq, Iflt, IfIcmpeq, Goto, Ireturn, Ior, Invokevirtual, WideIload, WideIstore, WideIinc, In, Out, Err, Halt}
use Rattle.ijvm_instr.specs.declared.row.Cost.{Cost}
use Rattle.ijvm_instr.specs.declared.row.Cost.TheVariants.{Always, IfTaken, ByEntry}
use Rattle.ijvm_meaning.specs.Prelude.{Timing}

abbrev pub mic3_cost : Instr → Cost
mic3_cost Nop = Always 3
mic3_cost (Bipush b) = Always 4
mic3_cost (LdcW k) = Always 7
mic3_cost (Iload k) = Always 7
mic3_cost (Istore k) = Always 9
mic3_cost Pop = Always 7
mic3_cost Dup = Always 4
mic3_cost Swap = Always 10
mic3_cost Iadd = Always 7
mic3_cost Isub = Always 7
mic3_cost Iand = Always 7
mic3_cost (Iinc k b) = Always 7
mic3_cost (Ifeq o) = IfTaken 17 11
mic3_cost (Iflt o) = IfTaken 17 11
mic3_cost (IfIcmpeq o) = IfTaken 23 17
mic3_cost (Goto o) = Always 10
mic3_cost Ireturn = Always 18
mic3_cost Ior = Always 7
mic3_cost (Invokevirtual k) = ByEntry 23 24
mic3_cost (WideIload k) = Always 8
mic3_cost (WideIstore k) = Always 10
mic3_cost (WideIinc k n) = Always 9
mic3_cost In = Always 13
mic3_cost Out = Always 15
mic3_cost Err = Always 0
mic3_cost Halt = Always 0

abbrev pub mic3_timing : Timing
mic3_timing = record { boot = 4; of = mic3_cost }
