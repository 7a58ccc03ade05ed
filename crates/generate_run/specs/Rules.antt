-- The rule of a seed: `sel1` is `Image` with a text, `sel2` is `User|contains` with a text, `sel3` is `Code|gte` with a number, and
-- the condition is `sel1 or not sel2 and sel3` (Sigma specification 2.0). The texts have no wildcards, and each place is the first.
use Rattle.std.specs.Prelude.{ℕ, ℤ, pos, ◌%◌, true, false, List, [], ◌∷◌, map, codes, Some, None}
use Rattle.modifier_words.specs.declared.modifier.Joined.TheVariants.{Any}
use Rattle.modifier_words.specs.declared.modifier.Op.TheVariants.{Gte}
use Rattle.rule_head.specs.Plain.{PlainHead}
use Rattle.rule_head.specs.declared.source.LogSource.{LogSource}
use Rattle.rule_detections.specs.declared.detection.Detection.{Detection}
use Rattle.rule_detections.specs.declared.item.Fields.TheVariants.{Names}
use Rattle.rule_detections.specs.declared.item.Item.{Item}
use Rattle.rule_model.specs.Plain.{PlainRule}
use Rattle.sig_base.specs.declared.refusal.Place.{Place}
use Rattle.sig_conditions.specs.Formulas.{PlainFormula, FDetection, FNot, FAnd, FOr, no_forms, form}
use Rattle.rule_detections.specs.declared.test.Test.{Test}
use Rattle.rule_detections.specs.declared.test.Test.TheVariants.{Fits, Compare}
use Rattle.sig_strings.specs.Edits.{with_run_before, with_run_after}
use Rattle.sig_strings.specs.declared.part.Part.{Part}
use Rattle.sig_strings.specs.declared.part.Part.TheVariants.{Char}
use Rattle.generate_run.specs.Draws.{first_draw, second_draw, third_draw}
use Rattle.generate_run.specs.Words.{word}

abbrev pub start : Place
start = record { line = 1; column = 1 }

-- the pattern of a text without wildcards
abbrev pub literal : List ℕ → List Part
literal text = map Char text

-- the text, without regard to the case of A to Z
abbrev pub is_text : List ℕ → Test
is_text text = Fits (literal text) false

-- a text in which this one stands (modifier `contains`)
abbrev pub has_text : List ℕ → Test
has_text text = Fits (with_run_after (with_run_before (literal text))) false

-- a number that is at least this one (modifier `gte`)
abbrev pub is_from : ℤ → Test
is_from n = Compare Gte n

-- an item, and a detection, that asks one test of one field
abbrev pub item : List ℕ → Test → Item
item field test = record { fields = Names (field ∷ []); tests = (test ∷ []) ∷ []; joined = Any; place = start }

abbrev pub asks : (name field : List ℕ) → Test → Detection
asks name field test = record { name = name; alternatives = (item field test ∷ []) ∷ []; place = start }

-- with these texts and this number
abbrev pub detections : (image user : List ℕ) → ℤ → List Detection
detections image user code =
    asks (codes "sel1") (codes "Image") (is_text image)
    ∷ asks (codes "sel2") (codes "User") (has_text user)
    ∷ asks (codes "sel3") (codes "Code") (is_from code)
    ∷ []

-- `not sel2 and sel3`, and `sel1 or not sel2 and sel3`, by the numbers of the detections
abbrev pub second_part : PlainFormula
second_part = FAnd (form (FNot (FDetection 1)) (form (FDetection 2) no_forms))

abbrev pub condition : PlainFormula
condition = FOr (form (FDetection 0) (form second_part no_forms))

-- what stands above the detections says nothing of events
abbrev pub head : PlainHead
head = record { title = codes "Generated"; id = None; name = None; place = start; rest = [] }

abbrev pub source : LogSource
source = record { category = Some (codes "generated"); product = None; service = None }

abbrev pub rule_from : (image user : List ℕ) → ℤ → PlainRule
rule_from image user code =
    record { head = head; source = source; detections = detections image user code; conditions = condition ∷ [] }

-- three draws make the rule
abbrev pub rule_of : ℕ → PlainRule
rule_of seed = rule_from (word (first_draw seed % 8)) (word (second_draw seed % 8)) (pos (third_draw seed % 100))
