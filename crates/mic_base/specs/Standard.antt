-- What the adapters stand on, and the counts of their faults.
use Rattle.std.specs.Prelude.{ℕ}
use Rattle.mic_base.specs.declared.standard.ahead.ReadAhead.{ReadAhead}
use Rattle.mic_base.specs.declared.standard.source.StdSource.{StdSource}
use Rattle.mic_base.specs.declared.standard.sink.StdSink.{StdSink}
use Rattle.mic_base.specs.declared.standard.files.StdFiles.{StdFiles}

abbrev pub read_ahead_of : {R : Type 0} → ReadAhead R → R
read_ahead_of r = r.reader

abbrev pub reader_of : {R : Type 0} → StdSource R → R
reader_of s = s.reader

abbrev pub reader_faults : {R : Type 0} → StdSource R → ℕ
reader_faults s = s.faults

abbrev pub writer_of : {W : Type 0} → StdSink W → W
writer_of s = s.writer

abbrev pub writer_faults : {W : Type 0} → StdSink W → ℕ
writer_faults s = s.faults

abbrev pub runtime_of : {R : Type 0} → StdFiles R → R
runtime_of s = s.rt

abbrev pub runtime_faults : {R : Type 0} → StdFiles R → ℕ
runtime_faults s = s.faults
