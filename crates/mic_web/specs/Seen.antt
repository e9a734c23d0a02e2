-- What a call sees of files, a console and two sinks in memory.
use Rattle.std.specs.Prelude.{Some}
use Rattle.mic_base.specs.Memory.{files_contents, files_faults, source_left, source_faults, sink_bytes, sink_passed, sink_faults}
use Rattle.cli_outside.specs.Outside.{OutsideView, files_state, source_state, sink_state, outside_view}
use Rattle.mic_web.specs.declared.outside.PageOutside.{PageOutside}

abbrev pub seen : PageOutside → OutsideView
seen m = outside_view (files_state (Some (files_contents m.files)) (files_faults m.files))
    (source_state (Some (source_left m.console)) (source_faults m.console))
    (sink_state (Some (sink_bytes m.out)) (Some (sink_passed m.out)) (sink_faults m.out))
    (sink_state (Some (sink_bytes m.err)) (Some (sink_passed m.err)) (sink_faults m.err))
