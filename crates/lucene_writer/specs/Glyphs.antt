-- The characters and wildcards of a term that a pattern is.
use Rattle.std.specs.Prelude.{List, [], ◌∷◌}
use Rattle.sig_strings.specs.declared.part.Part.{Part}
use Rattle.sig_strings.specs.declared.part.Part.TheVariants as parts
use Rattle.lucene_lang.specs.declared.query.Glyph.{Glyph}
use Rattle.lucene_lang.specs.declared.query.Glyph.TheVariants.{Char, One, Run}

-- patterns that are written have no dashes and no placeholders
abbrev pub glyphs_of : List Part → List Glyph
glyphs_of [] = []
glyphs_of (parts.Char c ∷ ps) = Char c ∷ glyphs_of ps
glyphs_of (parts.One ∷ ps) = One ∷ glyphs_of ps
glyphs_of (parts.Run ∷ ps) = Run ∷ glyphs_of ps
glyphs_of (parts.Dash ∷ ps) = glyphs_of ps
glyphs_of (parts.Hole name ∷ ps) = glyphs_of ps
