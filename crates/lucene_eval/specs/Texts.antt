-- What is sought in a text that isn't a number's.
use Rattle.std.specs.Prelude.{ℕ, Bool, false, List}
use Rattle.std.specs.Str.{bytes_eq}
use Rattle.lucene_lang.specs.Query.{Sought, Term, Phrase, Range}
use Rattle.lucene_lang.specs.Meaning.{term_fits, kept, kept_glyphs}

abbrev pub text_meets : Bool → Sought → List ℕ → Bool
text_meets cased (Term gs) text = term_fits (kept_glyphs cased gs) (kept cased text)
text_meets cased (Phrase t) text = bytes_eq (kept cased t) (kept cased text)
text_meets cased (Range low low_in high high_in) text = false
