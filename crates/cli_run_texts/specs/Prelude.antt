-- The words of this crate, for those that use it.
pub use Rattle.cli_run_texts.specs.Ends.{clocked_end, end_name, status_of}
pub use Rattle.cli_run_texts.specs.Report.{clocked_head, cycles_of, head, last_boundary, left_report, plain_head}
