-- What the lines of reports are as JSON.
use Rattle.std.specs.Prelude.{◌≡◌, ℕ, ◌^◌, ◌<◌, List, [], ◌∷◌, Some, codes, encode_utf8_all}
use Rattle.serde_json.specs.Data.{Data, unsigned, number, string, array, object, Items, no_items, item, no_members, member}
use Rattle.serde_json.specs.Read.{read}
use Rattle.correlation_windows.specs.declared.report.Report.{Report}
use Rattle.correlation_run.specs.Lines.{report_line}

abbrev pub strings : List (List ℕ) → Items
strings [] = no_items
strings (text ∷ texts) = item (string (encode_utf8_all text)) (strings texts)

-- the object of a report, whose members are found by their names
abbrev pub report_data : List ℕ → Report → Data
report_data name r =
    object
    (member (codes "correlation") (string name)
    (member (codes "count") (number (unsigned r.count))
    (member (codes "from") (number (unsigned r.from))
    (member (codes "group") (array (strings r.group))
    (member (codes "line") (number (unsigned r.line)) no_members)))))

-- a line is a JSON text, and is read as the report's object
abbrev pub ReadsBack : Type 0
ReadsBack = (name : List ℕ) (r : Report) → r.line < 2 ^ 64 → r.from < 2 ^ 64 → r.count < 2 ^ 64 → read (report_line name r) ≡ Some (report_data name r)
