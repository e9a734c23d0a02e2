use Rattle.cli_call.proofs.top_call.answer_on.Goals as goal

pub returns-in-Assemble : goal.returns-in-Assemble
returns-in-Assemble g c = rw c.in-Assemble.is c.assemble_file.ensures

pub returns-in-List : goal.returns-in-List
returns-in-List g c = rw c.in-List.is c.list_file.ensures

pub returns-in-Verify : goal.returns-in-Verify
returns-in-Verify g c = rw c.in-Verify.is c.verify_file.ensures

pub returns-in-Run : goal.returns-in-Run
returns-in-Run g c = rw c.in-Run.is c.run_asked.ensures

pub returns-in-Trace : goal.returns-in-Trace
returns-in-Trace g c = rw c.in-Trace.is c.trace_file.ensures

pub returns-in-Profile : goal.returns-in-Profile
returns-in-Profile g c = rw c.in-Profile.is c.profile_file.ensures

pub returns-in-Debug : goal.returns-in-Debug
returns-in-Debug g c = rw c.in-Debug.is c.debug_file.ensures

pub returns-in-Reference : goal.returns-in-Reference
returns-in-Reference g c = rw c.in-Reference.is (rw c.machine-machine.ensures at c.reference_file.ensures)

pub returns-in-Micro : goal.returns-in-Micro
returns-in-Micro g c = rw c.in-Micro.is (rw c.machine-machine.ensures at c.micro.ensures)

pub returns-in-PrintMicro : goal.returns-in-PrintMicro
returns-in-PrintMicro g c = rw c.in-PrintMicro.is (rw c.machine-machine.ensures at c.print_asked.ensures)

pub returns-in-Soak : goal.returns-in-Soak
returns-in-Soak g c = rw c.in-Soak.is c.soak.ensures

pub returns-in-Cache : goal.returns-in-Cache
returns-in-Cache g c = rw c.in-Cache.is c.cache_file.ensures

pub returns-in-Rewind : goal.returns-in-Rewind
returns-in-Rewind g c = rw c.in-Rewind.is c.rewind_file.ensures

pub returns-in-Compile : goal.returns-in-Compile
returns-in-Compile g c = rw c.in-Compile.is c.compile_file.ensures

pub returns-in-Tiny : goal.returns-in-Tiny
returns-in-Tiny g c = rw c.in-Tiny.is c.run_tiny.ensures
