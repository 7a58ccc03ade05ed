-- Tables of small texts with what they are, reckoned by hand from YAML 1.2 and the profile's differences.
use Rattle.std.proofs.Common.{◌≡◌, ℕ, List, [], ◌∷◌, codes, pos, negsuc, true, false, map as list_map, Err, refl}
use Rattle.yaml_tree.specs.Tree.{Scalar, null, truth, text, whole, Tree, scalar, list, map, no_elements, element, no_members, Answer, tree, refusal}
use Rattle.yaml_inline.specs.File.{Line, line_texts, lines_of, is_parting, is_marker, parted, documents_of, skip_blanks, carries_nothing, ends_line}
use Rattle.yaml_inline.specs.Line.{indentation, indent, body, is_comment, is_empty_line, bad_start, unexpected, plain_len, trimmed, plain_front, plain_rest, Read, refused, unclosed, stops, is_indicator, starts_plain, is_dash, is_left_out}
use Rattle.yaml_inline.specs.Scalar.{value_within, whole_of, resolved, single, escape, double, begins_blank, block_text}
use Rattle.yaml_inline.specs.Flow.{quoted, behind_colon, flow_key, fresh_key, after_element, flow_element, flow_elements, flow_value, flow_entry, flow_members, flow_scalar, flow_node}
use Rattle.yaml_inline.specs.Key.{key_at}
use Rattle.yaml_blocks.specs.Blocks.{nothing_in, continuation, more_plain, plain_text, scalar_lines, block_scalar}
use Rattle.yaml_blocks.specs.Reading.{element_in, item_key, key_in, entry_in, scalar_or_flow_in, node_in}
use Rattle.yaml_blocks.proofs.Examples.{at, text_at, entry, answers}

-- what each of some texts is answered
abbrev told : List (List ℕ) → List (List Answer)
told texts = list_map (answers 32) texts

-- one document that is a scalar, and one that is refused
abbrev is_scalar : Scalar → List Answer
is_scalar s = tree (scalar (at 1 1) s) ∷ []

abbrev is_text : List ℕ → List Answer
is_text t = is_scalar (text t)

abbrev is_refused : ℕ → ℕ → ℕ → List Answer
is_refused code line column = refusal (code, at line column) ∷ []

-- one document with this value at the key `a`
abbrev at_a : Tree → List Answer
at_a t = tree (map (at 1 1) (entry 1 1 (codes "a") t no_members)) ∷ []

-- Each escape of a double-quoted scalar, and what is none (YAML 1.2, 5.7).
escapes : told
    (codes "\"\\\\\""
    ∷ codes "\"\\\"\""
    ∷ codes "\"\\/\""
    ∷ codes "\"\\n\""
    ∷ codes "\"\\t\""
    ∷ codes "\"\\r\""
    ∷ codes "\"\\0\""
    ∷ codes "\"\\x7E\""
    ∷ codes "\"\\xfF\""
    ∷ codes "\"\\u20aC\""
    ∷ codes "\"\\ud7fF\""
    ∷ codes "\"\\uE000\""
    ∷ codes "\"\\x411\""
    ∷ codes "\"a\\u00e9b\""
    ∷ codes "\"\\uDFFF\""
    ∷ codes "\"\\uD800\""
    ∷ codes "\"\\x4\""
    ∷ codes "\"\\x4g\""
    ∷ codes "\"\\u20a\""
    ∷ codes "\"a\\a\""
    ∷ codes "\"\\U0001F600\""
    ∷ codes "\"\\'\""
    ∷ codes "\"\\ \""
    ∷ codes "'a\\nb'"
    ∷ codes "''''"
    ∷ codes "''"
    ∷ codes "\"\""
    ∷ codes "'\"'" ∷ [])
    ≡ ((is_text (92 ∷ []))
    ∷ (is_text (34 ∷ []))
    ∷ (is_text (47 ∷ []))
    ∷ (is_text (10 ∷ []))
    ∷ (is_text (9 ∷ []))
    ∷ (is_text (13 ∷ []))
    ∷ (is_text (0 ∷ []))
    ∷ (is_text (126 ∷ []))
    ∷ (is_text (255 ∷ []))
    ∷ (is_text (8364 ∷ []))
    ∷ (is_text (55295 ∷ []))
    ∷ (is_text (57344 ∷ []))
    ∷ (is_text (65 ∷ 49 ∷ []))
    ∷ (is_text (97 ∷ 233 ∷ 98 ∷ []))
    ∷ (is_refused 9 1 2)
    ∷ (is_refused 9 1 2)
    ∷ (is_refused 9 1 2)
    ∷ (is_refused 9 1 2)
    ∷ (is_refused 9 1 2)
    ∷ (is_refused 9 1 3)
    ∷ (is_refused 9 1 2)
    ∷ (is_refused 9 1 2)
    ∷ (is_refused 9 1 2)
    ∷ (is_text (codes "a\\nb"))
    ∷ (is_text (codes "'"))
    ∷ (is_text (codes ""))
    ∷ (is_text (codes ""))
    ∷ (is_text (codes "\"")) ∷ [])
unfolding line_texts lines_of documents_of parted is_parting is_marker skip_blanks carries_nothing ends_line indentation indent body is_comment is_empty_line bad_start unexpected plain_len trimmed plain_front plain_rest value_within whole_of resolved single escape double block_text quoted behind_colon flow_key fresh_key after_element flow_element flow_elements flow_value flow_entry flow_members flow_scalar flow_node nothing_in key_at continuation more_plain plain_text scalar_lines block_scalar element_in item_key key_in entry_in scalar_or_flow_in node_in
escapes = refl

-- Each word for null and for a truth value, and words that are texts (YAML 1.2, 10.3.2).
words : told
    (codes "~"
    ∷ codes "null"
    ∷ codes "Null"
    ∷ codes "NULL"
    ∷ codes "nULL"
    ∷ codes "none"
    ∷ codes "~~"
    ∷ codes "true"
    ∷ codes "True"
    ∷ codes "TRUE"
    ∷ codes "tRUE"
    ∷ codes "false"
    ∷ codes "False"
    ∷ codes "FALSE"
    ∷ codes "fALSE"
    ∷ codes "on"
    ∷ codes "no"
    ∷ codes "'true'"
    ∷ codes "\"null\""
    ∷ codes "'7'" ∷ [])
    ≡ ((is_scalar null)
    ∷ (is_scalar null)
    ∷ (is_scalar null)
    ∷ (is_scalar null)
    ∷ (is_text (codes "nULL"))
    ∷ (is_text (codes "none"))
    ∷ (is_text (codes "~~"))
    ∷ (is_scalar (truth true))
    ∷ (is_scalar (truth true))
    ∷ (is_scalar (truth true))
    ∷ (is_text (codes "tRUE"))
    ∷ (is_scalar (truth false))
    ∷ (is_scalar (truth false))
    ∷ (is_scalar (truth false))
    ∷ (is_text (codes "fALSE"))
    ∷ (is_text (codes "on"))
    ∷ (is_text (codes "no"))
    ∷ (is_text (codes "true"))
    ∷ (is_text (codes "null"))
    ∷ (is_text (codes "7")) ∷ [])
unfolding line_texts lines_of documents_of parted is_parting is_marker skip_blanks carries_nothing ends_line indentation indent body is_comment is_empty_line bad_start unexpected plain_len trimmed plain_front plain_rest value_within whole_of resolved single escape double block_text quoted behind_colon flow_key fresh_key after_element flow_element flow_elements flow_value flow_entry flow_members flow_scalar flow_node nothing_in key_at continuation more_plain plain_text scalar_lines block_scalar element_in item_key key_in entry_in scalar_or_flow_in node_in
words = refl

-- Whole numbers fit 64 bits; all else is a text (YAML 1.2, 10.3.2).
numbers : told
    (codes "0"
    ∷ codes "-7"
    ∷ codes "9223372036854775807"
    ∷ codes "+9223372036854775807"
    ∷ codes "9223372036854775808"
    ∷ codes "+9223372036854775808"
    ∷ codes "-9223372036854775808"
    ∷ codes "-9223372036854775809"
    ∷ codes "+"
    ∷ codes "+-1"
    ∷ codes "--1"
    ∷ codes "1_0"
    ∷ codes "1e3"
    ∷ codes "1 2"
    ∷ codes "/0"
    ∷ codes "1:0"
    ∷ codes "0o7" ∷ [])
    ≡ ((is_scalar (whole (pos 0)))
    ∷ (is_scalar (whole (negsuc 6)))
    ∷ (is_scalar (whole (pos 9223372036854775807)))
    ∷ (is_scalar (whole (pos 9223372036854775807)))
    ∷ (is_text (codes "9223372036854775808"))
    ∷ (is_text (codes "+9223372036854775808"))
    ∷ (is_scalar (whole (negsuc 9223372036854775807)))
    ∷ (is_text (codes "-9223372036854775809"))
    ∷ (is_text (codes "+"))
    ∷ (is_text (codes "+-1"))
    ∷ (is_text (codes "--1"))
    ∷ (is_text (codes "1_0"))
    ∷ (is_text (codes "1e3"))
    ∷ (is_text (codes "1 2"))
    ∷ (is_text (codes "/0"))
    ∷ (is_text (codes "1:0"))
    ∷ (is_text (codes "0o7")) ∷ [])
unfolding line_texts lines_of documents_of parted is_parting is_marker skip_blanks carries_nothing ends_line indentation indent body is_comment is_empty_line bad_start unexpected plain_len trimmed plain_front plain_rest value_within whole_of resolved single escape double block_text quoted behind_colon flow_key fresh_key after_element flow_element flow_elements flow_value flow_entry flow_members flow_scalar flow_node nothing_in key_at continuation more_plain plain_text scalar_lines block_scalar element_in item_key key_in entry_in scalar_or_flow_in node_in
numbers = refl

-- Folded lines, lines that begin with a blank, empty ones, and what stays at the end (YAML 1.2, 8.1.1.2 and 8.1.3).
folds : told
    (codes "a: >\n  b\n   c\n\n\n   d\n  e"
    ∷ codes "a: >\n  b\n\n   c\n\n  d"
    ∷ codes "a: >\n  b\n  \tc\n  d"
    ∷ codes "a: >\n\n\n  b\n  c\n"
    ∷ codes "a: >\n   \n   b\n"
    ∷ codes "a: >+\n  b\n\n\n"
    ∷ codes "a: >+\n  b\n  c"
    ∷ codes "a: >-\n  b\n\n\n"
    ∷ codes "a: >\n  b\n\n\n"
    ∷ codes "a: >+\n\n\n"
    ∷ codes "a: >\n\n\n"
    ∷ codes "a: |-\n\n  b\n\n  c\n\n"
    ∷ codes "a: |\n  b\n\n\n  c\n"
    ∷ codes "a: |+\n\n"
    ∷ codes "a: |\n   b\n    c\n   d"
    ∷ codes "a: |\n  b \n"
    ∷ codes "a: >\n  b \n  c"
    ∷ codes "a: > # d\n  b # c"
    ∷ codes "a: >\n  b\n # d"
    ∷ codes "a: b\n\n\n  c\n  d"
    ∷ codes "a: b \n  c # d"
    ∷ codes "a: b\n\n" ∷ [])
    ≡ ((at_a (text_at 1 4 (codes "b\n c\n\n\n d\ne\n")))
    ∷ (at_a (text_at 1 4 (codes "b\n\n c\n\nd\n")))
    ∷ (at_a (text_at 1 4 (codes "b\n\tc\nd\n")))
    ∷ (at_a (text_at 1 4 (codes "\n\nb c\n")))
    ∷ (at_a (text_at 1 4 (codes "\nb\n")))
    ∷ (at_a (text_at 1 4 (codes "b\n\n\n")))
    ∷ (at_a (text_at 1 4 (codes "b c\n")))
    ∷ (at_a (text_at 1 4 (codes "b")))
    ∷ (at_a (text_at 1 4 (codes "b\n")))
    ∷ (at_a (text_at 1 4 (codes "\n\n")))
    ∷ (at_a (text_at 1 4 (codes "")))
    ∷ (at_a (text_at 1 4 (codes "\nb\n\nc")))
    ∷ (at_a (text_at 1 4 (codes "b\n\n\nc\n")))
    ∷ (at_a (text_at 1 4 (codes "\n")))
    ∷ (at_a (text_at 1 4 (codes "b\n c\nd\n")))
    ∷ (at_a (text_at 1 4 (codes "b \n")))
    ∷ (at_a (text_at 1 4 (codes "b  c\n")))
    ∷ (at_a (text_at 1 4 (codes "b # c\n")))
    ∷ (at_a (text_at 1 4 (codes "b\n")))
    ∷ (at_a (text_at 1 4 (codes "b\n\nc d")))
    ∷ (at_a (text_at 1 4 (codes "b c")))
    ∷ (at_a (text_at 1 4 (codes "b"))) ∷ [])
unfolding line_texts lines_of documents_of parted is_parting is_marker skip_blanks carries_nothing ends_line indentation indent body is_comment is_empty_line bad_start unexpected plain_len trimmed plain_front plain_rest value_within whole_of resolved single escape double block_text quoted behind_colon flow_key fresh_key after_element flow_element flow_elements flow_value flow_entry flow_members flow_scalar flow_node nothing_in key_at continuation more_plain plain_text scalar_lines block_scalar element_in item_key key_in entry_in scalar_or_flow_in node_in
folds = refl

-- Each place inside a flow collection where a reading stops (YAML 1.2, 7.4).
flows : told
    (codes "["
    ∷ codes "[\n]"
    ∷ codes "[a"
    ∷ codes "[a,"
    ∷ codes "[a # ]"
    ∷ codes "[a]]"
    ∷ codes "[a] b"
    ∷ codes "[a]#b"
    ∷ codes "[a \"b\"]"
    ∷ codes "[\"a\" b]"
    ∷ codes "[[a] b]"
    ∷ codes "[, a]"
    ∷ codes "[a}"
    ∷ codes "[@a]"
    ∷ codes "[- a]"
    ∷ codes "[*a]"
    ∷ codes "[b, !t c]"
    ∷ codes "[? a]"
    ∷ codes "['a': b]"
    ∷ codes "{"
    ∷ codes "{\n}"
    ∷ codes "{a"
    ∷ codes "{a\n}"
    ∷ codes "{a:"
    ∷ codes "{a: b"
    ∷ codes "{a: b c: d}"
    ∷ codes "{a b}"
    ∷ codes "{\"a\" b}"
    ∷ codes "{,}"
    ∷ codes "{a: b, ,}"
    ∷ codes "{a: b]"
    ∷ codes "{a: [b}"
    ∷ codes "{[a]: b}"
    ∷ codes "{@a: b}"
    ∷ codes "{&a b: c}"
    ∷ codes "{a: *b}"
    ∷ codes "{? a: b}"
    ∷ codes "{b: 1, <<: x}"
    ∷ codes "{a: 1, \"a\": 2}"
    ∷ codes "{a: \"\\q\"}"
    ∷ codes "{\"\\q\": a}"
    ∷ codes "{a: \"b}\n\""
    ∷ codes "{'a\n'"
    ∷ codes "['a\n]"
    ∷ codes "{\"a\":b, c: , d: }"
    ∷ codes "[a , b\t]"
    ∷ codes "{a: {}, b: []}" ∷ [])
    ≡ ((is_refused 4 1 1)
    ∷ (is_refused 3 1 1)
    ∷ (is_refused 4 1 1)
    ∷ (is_refused 4 1 1)
    ∷ (is_refused 4 1 1)
    ∷ (is_refused 4 1 1)
    ∷ (is_refused 4 1 1)
    ∷ (is_refused 4 1 1)
    ∷ (tree (list (at 1 1) (element (text_at 1 2 (codes "a \"b\"")) no_elements)) ∷ [])
    ∷ (is_refused 4 1 1)
    ∷ (is_refused 4 1 1)
    ∷ (is_refused 4 1 1)
    ∷ (is_refused 4 1 1)
    ∷ (is_refused 4 1 1)
    ∷ (is_refused 4 1 1)
    ∷ (is_refused 3 1 2)
    ∷ (is_refused 3 1 5)
    ∷ (is_refused 3 1 2)
    ∷ (is_refused 3 1 2)
    ∷ (is_refused 4 1 1)
    ∷ (is_refused 3 1 1)
    ∷ (is_refused 4 1 1)
    ∷ (is_refused 3 1 1)
    ∷ (is_refused 4 1 1)
    ∷ (is_refused 4 1 1)
    ∷ (is_refused 4 1 1)
    ∷ (is_refused 4 1 1)
    ∷ (is_refused 4 1 1)
    ∷ (is_refused 4 1 1)
    ∷ (is_refused 4 1 1)
    ∷ (is_refused 4 1 1)
    ∷ (is_refused 4 1 1)
    ∷ (is_refused 4 1 1)
    ∷ (is_refused 4 1 1)
    ∷ (is_refused 3 1 2)
    ∷ (is_refused 3 1 5)
    ∷ (is_refused 3 1 2)
    ∷ (is_refused 3 1 8)
    ∷ (is_refused 5 1 8)
    ∷ (is_refused 9 1 6)
    ∷ (is_refused 9 1 3)
    ∷ (is_refused 3 1 5)
    ∷ (is_refused 3 1 2)
    ∷ (is_refused 3 1 1)
    ∷ (tree (map (at 1 2) (entry 1 2 (codes "a") (text_at 1 6 (codes "b")) (entry 1 9 (codes "c") (scalar (at 1 9) null) (entry 1 14 (codes "d") (scalar (at 1 14) null) no_members)))) ∷ [])
    ∷ (tree (list (at 1 1) (element (text_at 1 2 (codes "a")) (element (text_at 1 6 (codes "b")) no_elements))) ∷ [])
    ∷ (tree (map (at 1 2) (entry 1 2 (codes "a") (map (at 1 5) no_members) (entry 1 9 (codes "b") (list (at 1 12) no_elements) no_members))) ∷ []) ∷ [])
unfolding line_texts lines_of documents_of parted is_parting is_marker skip_blanks carries_nothing ends_line indentation indent body is_comment is_empty_line bad_start unexpected plain_len trimmed plain_front plain_rest value_within whole_of resolved single escape double block_text quoted behind_colon flow_key fresh_key after_element flow_element flow_elements flow_value flow_entry flow_members flow_scalar flow_node nothing_in key_at continuation more_plain plain_text scalar_lines block_scalar element_in item_key key_in entry_in scalar_or_flow_in node_in
flows = refl

-- Where quotes, the headers of block scalars and scalars that stand alone stop (YAML 1.2, 7.3 and 8.1.1).
quotes_and_heads : told
    (codes "'a"
    ∷ codes "'a'b"
    ∷ codes "'a':b"
    ∷ codes "\"a\" b"
    ∷ codes "\"a\"#b"
    ∷ codes "'a''"
    ∷ codes "\"a\\\""
    ∷ codes "a: 'b\n'"
    ∷ codes "a: |b"
    ∷ codes "a: |-+"
    ∷ codes "a: |+-"
    ∷ codes "a: |-2"
    ∷ codes "a: >2-"
    ∷ codes "a: |#b"
    ∷ codes "a: >- b"
    ∷ codes "&a"
    ∷ codes "*a"
    ∷ codes "!t a"
    ∷ codes "*a : b"
    ∷ codes "!t a: b"
    ∷ codes "- *a"
    ∷ codes "a: !t b"
    ∷ codes "@a"
    ∷ codes "`a"
    ∷ codes "a: %b"
    ∷ codes "- %b"
    ∷ codes ", a"
    ∷ codes "] a"
    ∷ codes "a: - b"
    ∷ codes "a: ? b"
    ∷ codes "a: b: c"
    ∷ codes ": a"
    ∷ codes "-a"
    ∷ codes "?a"
    ∷ codes ":a"
    ∷ codes "a#b"
    ∷ codes "a #b" ∷ [])
    ≡ ((is_refused 4 1 1)
    ∷ (is_refused 4 1 1)
    ∷ (is_refused 4 1 1)
    ∷ (is_refused 4 1 1)
    ∷ (is_refused 4 1 1)
    ∷ (is_refused 4 1 1)
    ∷ (is_refused 4 1 1)
    ∷ (is_refused 3 1 4)
    ∷ (is_refused 4 1 1)
    ∷ (is_refused 4 1 1)
    ∷ (is_refused 4 1 1)
    ∷ (is_refused 3 1 6)
    ∷ (is_refused 3 1 5)
    ∷ (is_refused 4 1 1)
    ∷ (is_refused 4 1 1)
    ∷ (is_refused 3 1 1)
    ∷ (is_refused 3 1 1)
    ∷ (is_refused 3 1 1)
    ∷ (is_refused 3 1 1)
    ∷ (is_refused 3 1 1)
    ∷ (is_refused 3 1 3)
    ∷ (is_refused 3 1 4)
    ∷ (is_refused 4 1 1)
    ∷ (is_refused 4 1 1)
    ∷ (is_refused 4 1 1)
    ∷ (is_refused 4 1 1)
    ∷ (is_refused 4 1 1)
    ∷ (is_refused 4 1 1)
    ∷ (is_refused 4 1 1)
    ∷ (is_refused 3 1 4)
    ∷ (is_refused 4 1 1)
    ∷ (is_refused 4 1 1)
    ∷ (is_text (codes "-a"))
    ∷ (is_text (codes "?a"))
    ∷ (is_text (codes ":a"))
    ∷ (is_text (codes "a#b"))
    ∷ (is_text (codes "a")) ∷ [])
unfolding line_texts lines_of documents_of parted is_parting is_marker skip_blanks carries_nothing ends_line indentation indent body is_comment is_empty_line bad_start unexpected plain_len trimmed plain_front plain_rest value_within whole_of resolved single escape double block_text quoted behind_colon flow_key fresh_key after_element flow_element flow_elements flow_value flow_entry flow_members flow_scalar flow_node nothing_in key_at continuation more_plain plain_text scalar_lines block_scalar element_in item_key key_in entry_in scalar_or_flow_in node_in
quotes_and_heads = refl

-- Where blocks stop: another indentation, another kind of item, a tab, a line behind a value (YAML 1.2, 8.2).
blocks : told
    (codes "a:\n  b: 1\n   c: 2"
    ∷ codes "a: 1\n  b: 2"
    ∷ codes "- a\nb: 1"
    ∷ codes "a: 1\n- b"
    ∷ codes "a:\n- b\nc"
    ∷ codes "- a\n - b"
    ∷ codes "- a:\n  b\n"
    ∷ codes "a: 1\n\tb: 2"
    ∷ codes "a: \"b\"\n  c"
    ∷ codes "a: []\n  b"
    ∷ codes "a: |\n  b\n c: d"
    ∷ codes "- a\n-b"
    ∷ codes "a: b # c\n  d"
    ∷ codes "a: b\n# c\n  d"
    ∷ codes "a:\n  b\n  \tc"
    ∷ codes "'a': 1\na: 2"
    ∷ codes "a:\n  - b\n  c: d"
    ∷ codes "a\nb"
    ∷ codes "a:\n\n  # b\n  c"
    ∷ codes "a:\n- b"
    ∷ codes "- - - a" ∷ [])
    ≡ ((is_refused 4 3 1)
    ∷ (is_refused 4 2 1)
    ∷ (is_refused 4 2 1)
    ∷ (is_refused 4 2 1)
    ∷ (is_refused 4 3 1)
    ∷ (tree (list (at 1 1) (element (text_at 1 3 (codes "a - b")) no_elements)) ∷ [])
    ∷ (is_refused 4 2 1)
    ∷ (is_refused 8 2 1)
    ∷ (is_refused 4 2 1)
    ∷ (is_refused 4 2 1)
    ∷ (is_refused 4 3 1)
    ∷ (is_refused 4 2 1)
    ∷ (is_refused 4 2 1)
    ∷ (is_refused 4 3 1)
    ∷ (is_refused 8 3 3)
    ∷ (is_refused 5 2 1)
    ∷ (is_refused 4 3 1)
    ∷ (is_text (codes "a b"))
    ∷ (at_a (text_at 4 3 (codes "c")))
    ∷ (at_a (list (at 2 1) (element (text_at 2 3 (codes "b")) no_elements)))
    ∷ (tree (list (at 1 1) (element (list (at 1 3) (element (list (at 1 5) (element (text_at 1 7 (codes "a")) no_elements)) no_elements)) no_elements)) ∷ []) ∷ [])
unfolding line_texts lines_of documents_of parted is_parting is_marker skip_blanks carries_nothing ends_line indentation indent body is_comment is_empty_line bad_start unexpected plain_len trimmed plain_front plain_rest value_within whole_of resolved single escape double block_text quoted behind_colon flow_key fresh_key after_element flow_element flow_elements flow_value flow_entry flow_members flow_scalar flow_node nothing_in key_at continuation more_plain plain_text scalar_lines block_scalar element_in item_key key_in entry_in scalar_or_flow_in node_in
blocks = refl

-- Blanks, characters at the edge of what is allowed, signs, escapes behind escapes, and keys farther up (YAML 1.2, 5.1, 5.3, 5.7, 6.2, 7.4).
signs : told
    (codes "a: \"b\" "
    ∷ codes "a: b  "
    ∷ codes "a: b\t# c"
    ∷ codes "a: \u{1f}"
    ∷ codes "a: \u{7f}"
    ∷ codes "a: b # \u{1f}"
    ∷ codes "a: ~b \u{80}"
    ∷ codes "... a"
    ∷ codes "...."
    ∷ codes "[#a]"
    ∷ codes "[|a]"
    ∷ codes "[>a]"
    ∷ codes "[$a, =b, (c, )d, _e]"
    ∷ codes "\"\\n\\q\""
    ∷ codes "\"\\x41\\q\""
    ∷ codes "\"\\x4A\\xaF\""
    ∷ codes "\"\\x4G\""
    ∷ codes "\"\\x4@\""
    ∷ codes "\"\\x4`\""
    ∷ codes "{\"a\" : b}"
    ∷ codes "[\"a\" , 'b' ]"
    ∷ codes "[a,b]"
    ∷ codes "{a, b: c}"
    ∷ codes "{<<, b: c}"
    ∷ codes "{a:\n}"
    ∷ codes "{a: 1, b: 2, a: 3}"
    ∷ codes "a: 1\nb: 2\na: 3" ∷ [])
    ≡ ((at_a (text_at 1 4 (codes "b")))
    ∷ (at_a (text_at 1 4 (codes "b")))
    ∷ (at_a (text_at 1 4 (codes "b")))
    ∷ (is_refused 4 1 1)
    ∷ (is_refused 4 1 1)
    ∷ (is_refused 4 1 1)
    ∷ (at_a (text_at 1 4 (126 ∷ 98 ∷ 32 ∷ 128 ∷ [])))
    ∷ (is_refused 3 1 1)
    ∷ (is_text (codes "...."))
    ∷ (is_refused 4 1 1)
    ∷ (is_refused 4 1 1)
    ∷ (is_refused 4 1 1)
    ∷ (tree (list (at 1 1) (element (text_at 1 2 (codes "$a")) (element (text_at 1 6 (codes "=b")) (element (text_at 1 10 (codes "(c")) (element (text_at 1 14 (codes ")d")) (element (text_at 1 18 (codes "_e")) no_elements)))))) ∷ [])
    ∷ (is_refused 9 1 4)
    ∷ (is_refused 9 1 6)
    ∷ (is_text (74 ∷ 175 ∷ []))
    ∷ (is_refused 9 1 2)
    ∷ (is_refused 9 1 2)
    ∷ (is_refused 9 1 2)
    ∷ (tree (map (at 1 2) (entry 1 2 (codes "a") (text_at 1 8 (codes "b")) no_members)) ∷ [])
    ∷ (tree (list (at 1 1) (element (text_at 1 2 (codes "a")) (element (text_at 1 8 (codes "b")) no_elements))) ∷ [])
    ∷ (tree (list (at 1 1) (element (text_at 1 2 (codes "a")) (element (text_at 1 4 (codes "b")) no_elements))) ∷ [])
    ∷ (is_refused 4 1 1)
    ∷ (is_refused 4 1 1)
    ∷ (is_refused 3 1 1)
    ∷ (is_refused 5 1 14)
    ∷ (is_refused 5 3 1) ∷ [])
unfolding line_texts lines_of documents_of parted is_parting is_marker skip_blanks carries_nothing ends_line indentation indent body is_comment is_empty_line bad_start unexpected plain_len trimmed plain_front plain_rest value_within whole_of resolved single escape double block_text quoted behind_colon flow_key fresh_key after_element flow_element flow_elements flow_value flow_entry flow_members flow_scalar flow_node nothing_in key_at continuation more_plain plain_text scalar_lines block_scalar element_in item_key key_in entry_in scalar_or_flow_in node_in
signs = refl

-- Where a reading stops on one line, with the openings that nothing closes there, outermost first.
abbrev line_seven : List ℕ → Line
line_seven cs = record { number = 7; text = cs }

abbrev stops_of : List (List ℕ) → List (Read (Tree × List ℕ))
stops_of texts = list_map (λ cs. flow_node 3 (line_seven cs) cs) texts

stops_inside : stops_of
    (codes "[a"
    ∷ codes "[b, {c: 'd"
    ∷ codes "{\"a"
    ∷ codes "[[[[a]]]]"
    ∷ codes "[a b: c]" ∷ [])
    ≡ ((Err (unclosed 7 ((at 7 1, 93) ∷ [])))
    ∷ (Err (unclosed 7 ((at 7 1, 93) ∷ (at 7 5, 125) ∷ (at 7 9, 39) ∷ [])))
    ∷ (Err (unclosed 7 ((at 7 1, 125) ∷ (at 7 2, 34) ∷ [])))
    ∷ (Err (refused 6 (at 7 4)))
    ∷ (Err (refused 3 (at 7 2))) ∷ [])
unfolding line_texts lines_of documents_of parted is_parting is_marker skip_blanks carries_nothing ends_line indentation indent body is_comment is_empty_line bad_start unexpected plain_len trimmed plain_front plain_rest value_within whole_of resolved single escape double block_text quoted behind_colon flow_key fresh_key after_element flow_element flow_elements flow_value flow_entry flow_members flow_scalar flow_node nothing_in key_at continuation more_plain plain_text scalar_lines block_scalar element_in item_key key_in entry_in scalar_or_flow_in node_in
stops_inside = refl

-- Why nothing more may stand on a line.
unexpected_lines : list_map (λ cs. unexpected (line_seven cs)) (codes "--- x" ∷ codes "..." ∷ codes "  \tx" ∷ codes "  x" ∷ [])
    ≡ (refused 3 (at 7 1) ∷ refused 3 (at 7 1) ∷ refused 8 (at 7 3) ∷ refused 4 (at 7 1) ∷ [])
unfolding line_texts lines_of documents_of parted is_parting is_marker skip_blanks carries_nothing ends_line indentation indent body is_comment is_empty_line bad_start unexpected plain_len trimmed plain_front plain_rest value_within whole_of resolved single escape double block_text quoted behind_colon flow_key fresh_key after_element flow_element flow_elements flow_value flow_entry flow_members flow_scalar flow_node nothing_in key_at continuation more_plain plain_text scalar_lines block_scalar element_in item_key key_in entry_in scalar_or_flow_in node_in
unexpected_lines = refl

-- An empty plain scalar is null (YAML 1.2, 10.3.2).
empty_is_null : resolved [] ≡ null
unfolding line_texts lines_of documents_of parted is_parting is_marker skip_blanks carries_nothing ends_line indentation indent body is_comment is_empty_line bad_start unexpected plain_len trimmed plain_front plain_rest value_within whole_of resolved single escape double block_text quoted behind_colon flow_key fresh_key after_element flow_element flow_elements flow_value flow_entry flow_members flow_scalar flow_node nothing_in key_at continuation more_plain plain_text scalar_lines block_scalar element_in item_key key_in entry_in scalar_or_flow_in node_in
empty_is_null = refl

-- The characters that begin no plain scalar, and others (YAML 1.2, 5.3).
indicators : list_map is_indicator (codes ",[]{}#&*!|>'\"%@`") ≡ (true ∷ true ∷ true ∷ true ∷ true ∷ true ∷ true ∷ true ∷ true ∷ true ∷ true ∷ true ∷ true ∷ true ∷ true ∷ true ∷ [])
indicators = refl

no_indicators : list_map is_indicator (codes "-?:$()+;<=^_~") ≡ (false ∷ false ∷ false ∷ false ∷ false ∷ false ∷ false ∷ false ∷ false ∷ false ∷ false ∷ false ∷ false ∷ [])
no_indicators = refl

-- What a text without characters begins and ends.
at_the_end : (stops false [] ∷ stops true [] ∷ starts_plain [] ∷ is_dash [] ∷ is_left_out [] ∷ begins_blank [] ∷ begins_blank (codes "\ta") ∷ [])
    ≡ (true ∷ true ∷ false ∷ false ∷ false ∷ false ∷ true ∷ [])
at_the_end = refl
