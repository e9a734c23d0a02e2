use Rattle.tiny_runs.proofs.AsMeant.{never_errs, halts, ended, prefix, reaches}
use Rattle.tiny_runs.proofs.Ends.{machines_advance}
use Rattle.tiny_runs.proofs.laws.images_run_as_meant.Goals as goal

pub returns : goal.returns
returns c =
    record {
      as_meant = λ program p image named laid stack_end main_locals timing safe advances input.
          let holds = c.laid_out_programs_hold.ensures image p program laid in
          let one = c.runs_end_once.ensures.one in
          let passed = c.runs_end_once.ensures.passed in
          record {
            never_errs = never_errs program p image stack_end main_locals timing named holds safe advances one passed input;
            halts = halts program p image stack_end main_locals timing named holds safe advances one passed input;
            ended = ended program p image stack_end main_locals timing named holds safe advances one passed input;
            prefix = prefix program p image stack_end main_locals timing named holds safe advances one passed input;
            reaches = reaches program p image stack_end main_locals timing named holds safe advances one passed input;
          };
      machines = machines_advance;
    }
