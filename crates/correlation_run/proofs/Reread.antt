-- A report's line is the text of an object, with the members in the line's order.
use Rattle.std.proofs.Common.{◌≡◌, ℕ, ◌<◌, ◌≤◌, ◌^◌, true, false, List, [], ◌∷◌, ◌++◌, Some, refl, ap, sym, ◌∙◌, arith, append-nil}
use Rattle.std.proofs.lemmas.List.{append_assoc}
use Rattle.std.specs.Prelude.{Option, codes, decimal, encode_utf8_all, option_map, option_and_then}
use Rattle.json.specs.Json as json
use Rattle.json.specs.Print.{quoted, escape_byte, print}
use Rattle.json.specs.Token.{Token}
use Rattle.json.specs.Tree as tree
use Rattle.json.proofs.Printed.Decimals.{IsNumber-decimal}
use Rattle.json.proofs.Printed.Tokens.{tokens-print}
use Rattle.json.proofs.Printed.Trees.{ArePrintable-json_tokens, value-json_tokens}
use Rattle.serde_json.specs.Data.{Data, unsigned, number, string, array, object, item, no_members, member}
use Rattle.serde_json.specs.Read.{read, max_depth, of_json, of_items}
use Rattle.serde_json.specs.Written.{outline, items_outline, compact_text, items_text}
use Rattle.serde_json.proofs.Numbers.{number_of-decimal}
use Rattle.serde_json.proofs.Texts.{print-outline}
use Rattle.correlation_windows.specs.declared.report.Report.{Report}
use Rattle.correlation_run.specs.ReportLaws.{strings, report_data, ReadsBack}
use Rattle.correlation_run.specs.Lines.{json_text, more_texts, all_texts, report_line}

-- the object in the line's order
abbrev written : List ℕ → Report → Data
written name r =
    object
    (member (codes "correlation") (string name)
    (member (codes "line") (number (unsigned r.line))
    (member (codes "from") (number (unsigned r.from))
    (member (codes "count") (number (unsigned r.count))
    (member (codes "group") (array (strings r.group)) no_members)))))

later_texts : (texts : List (List ℕ)) → more_texts texts ++ 93 ∷ [] ≡ items_text true (strings texts)
later_texts [] = refl
later_texts (text ∷ texts) = ap (λ s. 44 ∷ s) (append_assoc (json_text text) (more_texts texts) (93 ∷ []) ∙ ap (λ s. json_text text ++ s) (later_texts texts))

first_texts : (texts : List (List ℕ)) → all_texts texts ++ 93 ∷ [] ≡ items_text false (strings texts)
first_texts [] = refl
first_texts (text ∷ texts) = append_assoc (json_text text) (more_texts texts) (93 ∷ []) ∙ ap (λ s. json_text text ++ s) (later_texts texts)

regroup : (a b c d e f g h i j k : List ℕ) → a ++ b ++ c ++ d ++ e ++ f ++ g ++ h ++ i ++ j ++ k ≡ a ++ (b ++ (c ++ (d ++ (e ++ (f ++ (g ++ (h ++ (i ++ (j ++ k)))))))))
regroup a b c d e f g h i j k = simp append_assoc

closing : (texts : List (List ℕ)) → all_texts texts ++ codes "]}" ≡ items_text false (strings texts) ++ 125 ∷ []
closing texts = sym (append_assoc (all_texts texts) (93 ∷ []) (125 ∷ [])) ∙ ap (λ s. s ++ 125 ∷ []) (first_texts texts)

line_is : (name : List ℕ) (r : Report) → report_line name r ≡ compact_text (written name r)
unfolding escape_byte
line_is name r =
    regroup (codes "{\"correlation\":") (quoted name) (codes ",\"line\":") (decimal r.line) (codes ",\"from\":") (decimal r.from) (codes ",\"count\":") (decimal r.count) (codes ",\"group\":[") (all_texts r.group) (codes "]}")
    ∙ ap (λ s. codes "{\"correlation\":" ++ (quoted name ++ (codes ",\"line\":" ++ (decimal r.line ++ (codes ",\"from\":" ++ (decimal r.from ++ (codes ",\"count\":" ++ (decimal r.count ++ (codes ",\"group\":[" ++ s))))))))) (closing r.group)

have_numbers : (texts : List (List ℕ)) → tree.ItemsHaveNumbers (items_outline (strings texts))
have_numbers [] = tt
have_numbers (text ∷ texts) = (tt, have_numbers texts)

no_depth : (texts : List (List ℕ)) → tree.items_depth (items_outline (strings texts)) ≡ 0
no_depth [] = refl
no_depth (text ∷ texts) = let rest : tree.items_depth (items_outline (strings texts)) ≡ 0 = no_depth texts in omega (arith, rest)

strings_read : (texts : List (List ℕ)) → of_items (items_outline (strings texts)) ≡ Some (strings texts)
strings_read [] = refl
strings_read (text ∷ texts) = ap (option_map (item (string (encode_utf8_all text)))) (strings_read texts)

object_read : (name : List ℕ) (r : Report) → r.line < 2 ^ 64 → r.from < 2 ^ 64 → r.count < 2 ^ 64 → of_json (outline (written name r)) ≡ Some (report_data name r)
object_read name r line from count = rw (number_of-decimal r.line line) (rw (number_of-decimal r.from from) (rw (number_of-decimal r.count count) (rw (strings_read r.group) refl)))

-- what was read, if nothing comes behind it
abbrev whole : Option (json.Json × List Token) → Option Data
whole o = option_and_then of_json (option_and_then (λ p. json.if_last p.0 p.1) o)

text_read : (j : json.Json) → tree.HasNumbers j → tree.depth j ≤ max_depth → read (print (tree.json_tokens j)) ≡ of_json j
text_read j numbers shallow =
    ap whole (ap (json.value max_depth) (tokens-print (tree.json_tokens j) (ArePrintable-json_tokens j numbers) ∙ sym (append-nil (tree.json_tokens j))) ∙ value-json_tokens j max_depth [] shallow)

pub reads_back : ReadsBack
reads_back name r line from count =
    let numbers : tree.HasNumbers (outline (written name r)) = (tt, (IsNumber-decimal r.line line, (IsNumber-decimal r.from from, (IsNumber-decimal r.count count, (have_numbers r.group, tt))))) in
    let flat : tree.items_depth (items_outline (strings r.group)) ≡ 0 = no_depth r.group in
    let shallow : tree.depth (outline (written name r)) ≤ max_depth = omega (arith, flat) in
    ap read (line_is name r ∙ sym (print-outline (written name r))) ∙ (text_read (outline (written name r)) numbers shallow ∙ object_read name r line from count)
