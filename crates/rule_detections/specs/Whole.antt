-- What the detections of every rule that is read keep: nothing in them is empty, their names are legal, and their patterns have no
-- U+0000.
use Rattle.std.specs.Prelude.{List}
use Rattle.event_schema.specs.Lists.{EachOf, HasElement}
use Rattle.rule_detections.specs.PlainTests.{ArePlainTests, IsPatternTest}
use Rattle.rule_detections.specs.declared.test.Test.{Test}
use Rattle.event_schema.specs.Names.{IsName}
use Rattle.rule_detections.specs.declared.detection.Detection.{Detection}
use Rattle.rule_detections.specs.declared.item.Fields.{Fields}
use Rattle.rule_detections.specs.declared.item.Fields.TheVariants.{Keyword, Names}
use Rattle.rule_detections.specs.declared.item.Item.{Item}

pub record IsWholeValue (tests : List Test) : Type 0 where
  pub some : HasElement tests
  pub each : ArePlainTests tests

-- at least one name, or patterns alone for a keyword
abbrev pub AreWholeFields : Fields → List (List Test) → Type 0
AreWholeFields Keyword values = EachOf (λ tests. EachOf IsPatternTest tests) values
AreWholeFields (Names names) values = HasElement names × EachOf IsName names

pub record IsWholeItem (i : Item) : Type 0 where
  pub fields : AreWholeFields i.fields i.tests
  pub some : HasElement i.tests
  pub each : EachOf IsWholeValue i.tests

pub record IsWholeAlternative (items : List Item) : Type 0 where
  pub some : HasElement items
  pub each : EachOf IsWholeItem items

pub record IsWholeDetection (d : Detection) : Type 0 where
  pub some : HasElement d.alternatives
  pub each : EachOf IsWholeAlternative d.alternatives
