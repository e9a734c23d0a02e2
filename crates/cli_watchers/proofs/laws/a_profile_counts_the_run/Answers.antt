use Rattle.cli_watchers.proofs.Common.{length, arith, replicate, completes, no_tally}
use Rattle.cli_watchers.proofs.Counting.{all_in, boot_in, row_counted}
use Rattle.cli_watchers.proofs.laws.a_profile_counts_the_run.Goals as goal

pub returns-clause-rows : goal.returns-clause-rows
returns-clause-rows c = row_counted

pub returns-clause-boot : goal.returns-clause-boot
returns-clause-boot c = λ rows cs are. boot_in rows (length cs) cs 0 (replicate 27 no_tally) are

pub returns-clause-all : goal.returns-clause-all
returns-clause-all c = λ cs e are. all_in (completes e) (length cs) cs 0 are (omega arith)
