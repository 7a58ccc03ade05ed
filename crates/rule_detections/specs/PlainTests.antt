-- Tests whose patterns have no U+0000, whose networks are of 32 bits, which compare with numbers that
-- fields have, which name fields by legal names, and whose regular expressions are some and have no U+0000.
use Rattle.std.specs.Prelude.{◌<◌, ◌≤◌, ◌^◌, Bool, true, List, ⊤}
use Rattle.std.specs.List.{list_all}
use Rattle.event_schema.specs.Events.{IsWholeNumber}
use Rattle.event_schema.specs.Lists.{EachOf}
use Rattle.event_schema.specs.Names.{IsName}
use Rattle.sig_encode.specs.Networks.{Net}
use Rattle.modifier_values.specs.Expressions.{IsPlainExpression}
use Rattle.modifier_values.specs.PlainPatterns.{is_filled, HasPlainText}
use Rattle.rule_detections.specs.declared.test.Test.{Test}
use Rattle.rule_detections.specs.declared.test.Test.TheVariants.{Absent, Exists, Fits, Equals, Inside, Compare, SameAs, Finds}

-- an address's number, and a prefix of its bits
abbrev pub IsPlainNetwork : Net → Type 0
IsPlainNetwork n = (n.bits < 2 ^ 32) × (n.prefix ≤ 32)

abbrev pub IsPlainTest : Test → Type 0
IsPlainTest Absent = ⊤
IsPlainTest (Exists there) = ⊤
IsPlainTest (Fits pattern cased) = HasPlainText pattern
IsPlainTest (Equals n) = ⊤
IsPlainTest (Inside n) = IsPlainNetwork n
IsPlainTest (Compare op n) = IsWholeNumber n
IsPlainTest (SameAs name) = IsName name
IsPlainTest (Finds text flags) = IsPlainExpression flags text

abbrev pub ArePlainTests : List Test → Type 0
ArePlainTests tests = EachOf IsPlainTest tests

-- asks that a value fits a pattern, or that a regular expression is found in it
abbrev pub IsPatternTest : Test → Type 0
IsPatternTest Absent = ⊥
IsPatternTest (Exists there) = ⊥
IsPatternTest (Fits pattern cased) = ⊤
IsPatternTest (Equals n) = ⊥
IsPatternTest (Inside n) = ⊥
IsPatternTest (Compare op n) = ⊥
IsPatternTest (SameAs name) = ⊥
IsPatternTest (Finds text flags) = ⊤

-- has no placeholder that is still to be filled
abbrev pub is_filled_test : Test → Bool
is_filled_test Absent = true
is_filled_test (Exists there) = true
is_filled_test (Fits pattern cased) = list_all is_filled pattern
is_filled_test (Equals n) = true
is_filled_test (Inside n) = true
is_filled_test (Compare op n) = true
is_filled_test (SameAs name) = true
is_filled_test (Finds text flags) = true
