-- The texts are the canonical texts of the listed statements.
use Rattle.mal_shipped.proofs.Common.{◌≡◌, refl, hex_text, canonical_text, MIC2, Machine, Mic1, Mic2, text_of, listed_program, program1, rows1, program2, rows2}
use Rattle.std.specs.Fmt.{digits}
use Rattle.mal_shipped.specs.declared.mic1.TheConstants.{MIC1}

pub text1 : MIC1.now ≡ canonical_text program1
unfolding program1 rows1 hex_text digits
text1 = refl

pub text2 : MIC2.now ≡ canonical_text program2
unfolding program2 rows2 hex_text digits
text2 = refl

pub canonical : (machine : Machine) → text_of machine ≡ canonical_text (listed_program machine)
canonical Mic1 = text1
canonical Mic2 = text2
