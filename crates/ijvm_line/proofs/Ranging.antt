-- A number is never refused as a bad line.
use Rattle.ijvm_line.proofs.Common.{◌≡◌, ℕ, ℤ, Bool, Option, Some, None, ap, Result, Ok, Err, Statement, Form, LineFault}
use Rattle.ijvm_line.specs.declared.statement.Operand.TheVariants as operands
use Rattle.ijvm_line.specs.declared.statement.Statement.TheVariants as statements
use Rattle.ijvm_line.specs.declared.form.Form.TheVariants as forms
use Rattle.ijvm_line.specs.declared.line.LineFault.TheVariants as faults
use Rattle.ijvm_line.specs.Prelude.{addend, byte, in_range, increment_by, index, instruction_of, made, number, word, content_of}

in_fault : {A : Type 0} (o : Option A) → in_range o ≡ Err faults.BadLine → ⊥
in_fault (Some a) h = cc
in_fault None h = cc

number_fault : {A : Type 0} (range : ℤ → Option A) (v : Option ℤ) → number range v ≡ Err faults.BadLine → ⊥
number_fault range None h = cc
number_fault range (Some v) h = in_fault (range v) h

made_fault : {A B : Type 0} (f : A → B) (r : Result A LineFault) → made f r ≡ Err faults.BadLine → r ≡ Err faults.BadLine
made_fault f (Ok a) h = absurd (cc)
made_fault f (Err e) h = let k : e ≡ faults.BadLine = cc in ap Err k

increment_fault : (wide : Bool) (r : Result ℕ LineFault) (by : Option ℤ) → (r ≡ Err faults.BadLine → ⊥) → increment_by wide r by ≡ Err faults.BadLine → ⊥
increment_fault wide (Ok k) by n h = number_fault _ by (made_fault _ (addend by) h)
increment_fault wide (Err e) by n h = let k : e ≡ faults.BadLine = cc in n (ap Err k)

statement_fault : (st : Statement) → instruction_of st ≡ Err faults.BadLine → ⊥
statement_fault (statements.Plain i) h = cc
statement_fault (statements.Push v) h = number_fault _ v (made_fault _ (byte v) h)
statement_fault (statements.Constant (operands.Name n)) h = cc
statement_fault (statements.Constant (operands.Number v)) h = number_fault _ v (made_fault _ (index v) h)
statement_fault (statements.Local access wide (operands.Name n)) h = cc
statement_fault (statements.Local access wide (operands.Number v)) h = number_fault _ v (made_fault _ (index v) h)
statement_fault (statements.Increment wide (operands.Name n) by) h = number_fault _ by (made_fault _ (addend by) h)
statement_fault (statements.Increment wide (operands.Number v) by) h = increment_fault wide (index v) by (number_fault _ v) h
statement_fault (statements.Jump j n) h = cc
statement_fault (statements.Call n) h = cc

pub no_bad_line : (f : Form) → content_of f ≡ Err faults.BadLine → ⊥
no_bad_line forms.Nothing h = cc
no_bad_line (forms.Mark m) h = cc
no_bad_line (forms.Method n) h = cc
no_bad_line (forms.Constant n v) h = number_fault _ v (made_fault _ (word v) h)
no_bad_line (forms.Local n) h = cc
no_bad_line (forms.Code label None) h = cc
no_bad_line (forms.Code label (Some st)) h = statement_fault st (made_fault _ (instruction_of st) h)
