-- The dotted words that stand alone on a line: where they stand, and what they begin or end.
use Rattle.ijvm_tokens.specs.declared.sign.Sign.{Sign}
use Rattle.ijvm_tokens.specs.declared.sign.Sign.TheVariants as signs
use Rattle.ijvm_line.specs.declared.place.Place.{Place}
use Rattle.ijvm_line.specs.declared.place.Place.TheVariants as places
use Rattle.ijvm_line.specs.declared.place.Mark.{Mark}
use Rattle.ijvm_line.specs.declared.place.Mark.TheVariants as marks

abbrev pub mark_place : Mark → Place
mark_place marks.BeginConstants = places.Outside
mark_place marks.EndConstants = places.Constants
mark_place marks.BeginMain = places.Outside
mark_place marks.EndMain = places.Code
mark_place marks.EndMethod = places.Code
mark_place marks.BeginLocals = places.Code
mark_place marks.EndLocals = places.Locals

abbrev pub mark_sign : Mark → Sign
mark_sign marks.BeginConstants = signs.Constant
mark_sign marks.EndConstants = signs.EndConstant
mark_sign marks.BeginMain = signs.Main
mark_sign marks.EndMain = signs.EndMain
mark_sign marks.EndMethod = signs.EndMethod
mark_sign marks.BeginLocals = signs.Var
mark_sign marks.EndLocals = signs.EndVar
