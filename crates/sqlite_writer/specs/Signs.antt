-- What each part of a pattern adds to the text behind LIKE and behind GLOB.
use Rattle.std.specs.Prelude.{ℕ, List, []}
use Rattle.sig_strings.specs.declared.part.Part.{Part}
use Rattle.sig_strings.specs.declared.part.Part.TheVariants.{Char, One, Run, Dash, Hole}
use Rattle.sql_lang.specs.Meaning.{AnyRun, AnyOne, Exactly}
use Rattle.sql_layout.specs.Escaped.{like_piece, glob_piece}

abbrev pub like_sign : Part → List ℕ
like_sign (Char c) = like_piece (Exactly c)
like_sign One = like_piece AnyOne
like_sign Run = like_piece AnyRun
like_sign Dash = []
like_sign (Hole name) = []

abbrev pub glob_sign : Part → List ℕ
glob_sign (Char c) = glob_piece (Exactly c)
glob_sign One = glob_piece AnyOne
glob_sign Run = glob_piece AnyRun
glob_sign Dash = []
glob_sign (Hole name) = []
