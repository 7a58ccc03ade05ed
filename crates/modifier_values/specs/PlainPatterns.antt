-- Patterns of characters that fields have; patterns without placeholders; and those that a language of queries can write.
use Rattle.std.specs.Prelude.{◌≡◌, Bool, true, ◌&&◌, ◌||◌, nat_lt, List}
use Rattle.std.specs.List.{list_all}
use Rattle.modifier_windash.specs.Choices.{is_dash_place}
use Rattle.event_schema.specs.Events.{IsPlainText}
use Rattle.sig_strings.specs.Edits.{is_written, all_written, plain_text}
use Rattle.sig_strings.specs.declared.part.Part.{Part}

-- no placeholder
abbrev pub is_filled : Part → Bool
is_filled part = is_written part || is_dash_place part

-- its characters are other than U+0000
abbrev pub has_no_nul : List Part → Bool
has_no_nul parts = list_all (λ c. nat_lt 0 c) (plain_text parts)

-- characters other than U+0000, single characters, runs and dash places
abbrev pub is_dashed : List Part → Bool
is_dashed parts = list_all is_filled parts && has_no_nul parts

-- characters other than U+0000, single characters and runs
abbrev pub is_plain : List Part → Bool
is_plain parts = all_written parts && has_no_nul parts

-- its characters are Unicode scalar values other than U+0000
abbrev pub HasPlainText : List Part → Type 0
HasPlainText parts = IsPlainText (plain_text parts)

-- and it has no placeholder
pub record IsDashedPattern (parts : List Part) : Type 0 where
  pub filled : list_all is_filled parts ≡ true
  pub plain : HasPlainText parts

-- nor a dash place
pub record IsPlainPattern (parts : List Part) : Type 0 where
  pub written : all_written parts ≡ true
  pub plain : HasPlainText parts
