-- What a chain makes of a pattern (Sigma specification 2.0, modifiers).
use Rattle.std.specs.Prelude.{not, ◌||◌, List, [], ◌∷◌, if◌then◌else◌}
use Rattle.std.specs.List.{list_any}
use Rattle.modifier_words.specs.Kinds.{is_position}
use Rattle.modifier_words.specs.Written.{Written}
use Rattle.modifier_words.specs.declared.modifier.Modifier.{Modifier}
use Rattle.modifier_words.specs.declared.modifier.Modifier.TheVariants.{Position as In, Windash}
use Rattle.modifier_words.specs.declared.modifier.Position.{Position}
use Rattle.modifier_words.specs.declared.modifier.Position.TheVariants.{Around, After, Before}
use Rattle.sig_strings.specs.Edits.{with_run_before, with_run_after, dashes_of}
use Rattle.sig_strings.specs.declared.part.Part.{Part}

-- the pattern with runs where the rest of a text may stand
abbrev pub with_runs : Position → List Part → List Part
with_runs Around parts = with_run_after (with_run_before parts)
with_runs After parts = with_run_after parts
with_runs Before parts = with_run_before parts

-- what a modifier makes of a pattern: a position adds runs, `windash` makes dash places, and no other kind changes it
abbrev pub edited : Modifier → List Part → List Part
edited (In position) parts = with_runs position parts
edited Windash parts = dashes_of parts
edited _ parts = parts

-- the modifiers are applied from left to right
abbrev pub all_edited : List Modifier → List Part → List Part
all_edited [] parts = parts
all_edited (modifier ∷ modifiers) parts = all_edited modifiers (edited modifier parts)

-- a keyword is looked for anywhere, unless a modifier says where
abbrev pub keyword_edited : Written → List Part → List Part
keyword_edited chain parts =
    if not chain.keyword || list_any is_position chain.modifiers then parts else with_runs Around parts

abbrev pub pattern_of : Written → List Part → List Part
pattern_of chain parts = keyword_edited chain (all_edited chain.modifiers parts)
