-- The statement that the word of a control spells.
use Rattle.mic2_datapath.specs.Common.{Mic2, statement_of, Placed}
use Rattle.mic2_datapath.specs.declared.control.Control.{Control}

abbrev pub spelled : Control → Placed
spelled control = statement_of Mic2 control.word
