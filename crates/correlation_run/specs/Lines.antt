-- The lines that tell of reports: JSON (RFC 8259), with the strings that `serde_json` writes.
use Rattle.std.specs.Prelude.{ℕ, List, [], ◌∷◌, ◌++◌, codes, decimal, encode_utf8_all}
use Rattle.json.specs.Print.{quoted}
use Rattle.correlation_windows.specs.declared.report.Report.{Report}

-- the characters of a text as a JSON string
abbrev pub json_text : List ℕ → List ℕ
json_text text = quoted (encode_utf8_all text)

-- texts with a comma before each
abbrev pub more_texts : List (List ℕ) → List ℕ
more_texts [] = []
more_texts (text ∷ texts) = codes "," ++ (json_text text ++ more_texts texts)

-- texts with commas between them
abbrev pub all_texts : List (List ℕ) → List ℕ
all_texts [] = []
all_texts (text ∷ texts) = json_text text ++ more_texts texts

-- the bytes of a report's line, where the correlation has a name of these bytes
abbrev pub report_line : List ℕ → Report → List ℕ
report_line name r =
    codes "{\"correlation\":" ++ quoted name
    ++ codes ",\"line\":" ++ decimal r.line
    ++ codes ",\"from\":" ++ decimal r.from
    ++ codes ",\"count\":" ++ decimal r.count
    ++ codes ",\"group\":[" ++ all_texts r.group
    ++ codes "]}"
