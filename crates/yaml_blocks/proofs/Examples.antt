-- Examples of the profile, computed.
use Rattle.std.proofs.Common.{◌≡◌, ℕ, List, [], ◌∷◌, ◌++◌, if◌then◌else◌, codes, pos, refl, Ok, Err}
use Rattle.yaml_tree.specs.Tree.{At, null, text, whole, Tree, scalar, list, map, no_elements, element, Members, no_members, member, Answer, tree, refusal}
use Rattle.yaml_inline.specs.File.{Line, line_texts, lines_of, is_parting, is_marker, parted, documents_of, skip_blanks, carries_nothing, ends_line}
use Rattle.yaml_inline.specs.Line.{indentation, indent, body, is_comment, is_empty_line, bad_start, unexpected, plain_len, trimmed, plain_front, plain_rest, Read}
use Rattle.yaml_inline.specs.Scalar.{value_within, whole_of, resolved, single, escape, double, block_text}
use Rattle.yaml_inline.specs.Flow.{quoted, behind_colon, flow_key, fresh_key, after_element, flow_element, flow_elements, flow_value, flow_entry, flow_members, flow_scalar, flow_node}
use Rattle.yaml_inline.specs.Key.{key_at}
use Rattle.yaml_blocks.specs.Blocks.{nothing_in, continuation, more_plain, plain_text, scalar_lines, block_scalar}
use Rattle.yaml_blocks.specs.Reading.{element_in, item_key, key_in, entry_in, scalar_or_flow_in, node_in, block_in}
use Rattle.yaml_blocks.specs.Documents.{home, is_alive, code_at}

abbrev pub at : ℕ → ℕ → At
at l c = record { line = l; column = c }

abbrev pub text_at : ℕ → ℕ → List ℕ → Tree
text_at l c t = scalar (at l c) (text t)

abbrev pub entry : ℕ → ℕ → List ℕ → Tree → Members → Members
entry l c k t ms = member k (at l c) t ms

abbrev answer_read : Read Tree → Answer
answer_read (Ok t) = tree t
answer_read (Err s) = refusal (0, home)

-- the first line up to which the lines aren't alive, or else the tree
abbrev answer_from : ℕ → List Line → List Line → Answer
answer_from depth front [] = answer_read (block_in depth 0 home front)
answer_from depth front (l ∷ ls) =
    if is_alive depth (front ++ l ∷ []) then answer_from depth (front ++ l ∷ []) ls else refusal (code_at depth front l ls)

abbrev answers_from : ℕ → List (List Line) → List Answer
answers_from depth [] = []
answers_from depth (d ∷ ds) = answer_from depth [] d ∷ answers_from depth ds

abbrev pub answers : ℕ → List ℕ → List Answer
answers depth cs = answers_from depth (documents_of cs)

unclosed_quote : answers 32 (codes "title: \"cut") ≡ refusal (4, at 1 1) ∷ []
unfolding line_texts lines_of documents_of parted is_parting is_marker skip_blanks carries_nothing ends_line indentation indent body is_comment is_empty_line bad_start unexpected plain_len trimmed plain_front plain_rest value_within whole_of resolved single escape double block_text quoted behind_colon flow_key fresh_key after_element flow_element flow_elements flow_value flow_entry flow_members flow_scalar flow_node nothing_in key_at continuation more_plain plain_text scalar_lines block_scalar element_in item_key key_in entry_in scalar_or_flow_in node_in
unclosed_quote = refl

tab_in_indentation : answers 32 (codes "a:\n\tb: 1") ≡ refusal (8, at 2 1) ∷ []
unfolding line_texts lines_of documents_of parted is_parting is_marker skip_blanks carries_nothing ends_line indentation indent body is_comment is_empty_line bad_start unexpected plain_len trimmed plain_front plain_rest value_within whole_of resolved single escape double block_text quoted behind_colon flow_key fresh_key after_element flow_element flow_elements flow_value flow_entry flow_members flow_scalar flow_node nothing_in key_at continuation more_plain plain_text scalar_lines block_scalar element_in item_key key_in entry_in scalar_or_flow_in node_in
tab_in_indentation = refl

equal_keys : answers 32 (codes "a: 1\na: 2") ≡ refusal (5, at 2 1) ∷ []
unfolding line_texts lines_of documents_of parted is_parting is_marker skip_blanks carries_nothing ends_line indentation indent body is_comment is_empty_line bad_start unexpected plain_len trimmed plain_front plain_rest value_within whole_of resolved single escape double block_text quoted behind_colon flow_key fresh_key after_element flow_element flow_elements flow_value flow_entry flow_members flow_scalar flow_node nothing_in key_at continuation more_plain plain_text scalar_lines block_scalar element_in item_key key_in entry_in scalar_or_flow_in node_in
equal_keys = refl

anchor : answers 32 (codes "a: &x 1") ≡ refusal (3, at 1 4) ∷ []
unfolding line_texts lines_of documents_of parted is_parting is_marker skip_blanks carries_nothing ends_line indentation indent body is_comment is_empty_line bad_start unexpected plain_len trimmed plain_front plain_rest value_within whole_of resolved single escape double block_text quoted behind_colon flow_key fresh_key after_element flow_element flow_elements flow_value flow_entry flow_members flow_scalar flow_node nothing_in key_at continuation more_plain plain_text scalar_lines block_scalar element_in item_key key_in entry_in scalar_or_flow_in node_in
anchor = refl

unclosed_bracket : answers 32 (codes "a: [1, 2") ≡ refusal (4, at 1 1) ∷ []
unfolding line_texts lines_of documents_of parted is_parting is_marker skip_blanks carries_nothing ends_line indentation indent body is_comment is_empty_line bad_start unexpected plain_len trimmed plain_front plain_rest value_within whole_of resolved single escape double block_text quoted behind_colon flow_key fresh_key after_element flow_element flow_elements flow_value flow_entry flow_members flow_scalar flow_node nothing_in key_at continuation more_plain plain_text scalar_lines block_scalar element_in item_key key_in entry_in scalar_or_flow_in node_in
unclosed_bracket = refl

bracket_closes_later : answers 32 (codes "a: [1, 2\n]") ≡ refusal (3, at 1 4) ∷ []
unfolding line_texts lines_of documents_of parted is_parting is_marker skip_blanks carries_nothing ends_line indentation indent body is_comment is_empty_line bad_start unexpected plain_len trimmed plain_front plain_rest value_within whole_of resolved single escape double block_text quoted behind_colon flow_key fresh_key after_element flow_element flow_elements flow_value flow_entry flow_members flow_scalar flow_node nothing_in key_at continuation more_plain plain_text scalar_lines block_scalar element_in item_key key_in entry_in scalar_or_flow_in node_in
bracket_closes_later = refl

unknown_escape : answers 32 (codes "a: \"x\\q\"") ≡ refusal (9, at 1 6) ∷ []
unfolding line_texts lines_of documents_of parted is_parting is_marker skip_blanks carries_nothing ends_line indentation indent body is_comment is_empty_line bad_start unexpected plain_len trimmed plain_front plain_rest value_within whole_of resolved single escape double block_text quoted behind_colon flow_key fresh_key after_element flow_element flow_elements flow_value flow_entry flow_members flow_scalar flow_node nothing_in key_at continuation more_plain plain_text scalar_lines block_scalar element_in item_key key_in entry_in scalar_or_flow_in node_in
unknown_escape = refl

escape_at_the_end : answers 32 (codes "a: \"x\\") ≡ refusal (9, at 1 6) ∷ []
unfolding line_texts lines_of documents_of parted is_parting is_marker skip_blanks carries_nothing ends_line indentation indent body is_comment is_empty_line bad_start unexpected plain_len trimmed plain_front plain_rest value_within whole_of resolved single escape double block_text quoted behind_colon flow_key fresh_key after_element flow_element flow_elements flow_value flow_entry flow_members flow_scalar flow_node nothing_in key_at continuation more_plain plain_text scalar_lines block_scalar element_in item_key key_in entry_in scalar_or_flow_in node_in
escape_at_the_end = refl

indentation_digit : answers 32 (codes "a: |2") ≡ refusal (3, at 1 5) ∷ []
unfolding line_texts lines_of documents_of parted is_parting is_marker skip_blanks carries_nothing ends_line indentation indent body is_comment is_empty_line bad_start unexpected plain_len trimmed plain_front plain_rest value_within whole_of resolved single escape double block_text quoted behind_colon flow_key fresh_key after_element flow_element flow_elements flow_value flow_entry flow_members flow_scalar flow_node nothing_in key_at continuation more_plain plain_text scalar_lines block_scalar element_in item_key key_in entry_in scalar_or_flow_in node_in
indentation_digit = refl

pair : answers 32 (codes "a: [b: c]") ≡ refusal (3, at 1 5) ∷ []
unfolding line_texts lines_of documents_of parted is_parting is_marker skip_blanks carries_nothing ends_line indentation indent body is_comment is_empty_line bad_start unexpected plain_len trimmed plain_front plain_rest value_within whole_of resolved single escape double block_text quoted behind_colon flow_key fresh_key after_element flow_element flow_elements flow_value flow_entry flow_members flow_scalar flow_node nothing_in key_at continuation more_plain plain_text scalar_lines block_scalar element_in item_key key_in entry_in scalar_or_flow_in node_in
pair = refl

pair_of_quoted : answers 32 (codes "[\"a\": b]") ≡ refusal (3, at 1 2) ∷ []
unfolding line_texts lines_of documents_of parted is_parting is_marker skip_blanks carries_nothing ends_line indentation indent body is_comment is_empty_line bad_start unexpected plain_len trimmed plain_front plain_rest value_within whole_of resolved single escape double block_text quoted behind_colon flow_key fresh_key after_element flow_element flow_elements flow_value flow_entry flow_members flow_scalar flow_node nothing_in key_at continuation more_plain plain_text scalar_lines block_scalar element_in item_key key_in entry_in scalar_or_flow_in node_in
pair_of_quoted = refl

pair_of_collection : answers 32 (codes "[[a]: b]") ≡ refusal (4, at 1 1) ∷ []
unfolding line_texts lines_of documents_of parted is_parting is_marker skip_blanks carries_nothing ends_line indentation indent body is_comment is_empty_line bad_start unexpected plain_len trimmed plain_front plain_rest value_within whole_of resolved single escape double block_text quoted behind_colon flow_key fresh_key after_element flow_element flow_elements flow_value flow_entry flow_members flow_scalar flow_node nothing_in key_at continuation more_plain plain_text scalar_lines block_scalar element_in item_key key_in entry_in scalar_or_flow_in node_in
pair_of_collection = refl

text_behind_marker : answers 32 (codes "--- x") ≡ refusal (3, at 1 1) ∷ []
unfolding line_texts lines_of documents_of parted is_parting is_marker skip_blanks carries_nothing ends_line indentation indent body is_comment is_empty_line bad_start unexpected plain_len trimmed plain_front plain_rest value_within whole_of resolved single escape double block_text quoted behind_colon flow_key fresh_key after_element flow_element flow_elements flow_value flow_entry flow_members flow_scalar flow_node nothing_in key_at continuation more_plain plain_text scalar_lines block_scalar element_in item_key key_in entry_in scalar_or_flow_in node_in
text_behind_marker = refl

question : answers 32 (codes "? a") ≡ refusal (3, at 1 1) ∷ []
unfolding line_texts lines_of documents_of parted is_parting is_marker skip_blanks carries_nothing ends_line indentation indent body is_comment is_empty_line bad_start unexpected plain_len trimmed plain_front plain_rest value_within whole_of resolved single escape double block_text quoted behind_colon flow_key fresh_key after_element flow_element flow_elements flow_value flow_entry flow_members flow_scalar flow_node nothing_in key_at continuation more_plain plain_text scalar_lines block_scalar element_in item_key key_in entry_in scalar_or_flow_in node_in
question = refl

question_at_end : answers 32 (codes "?") ≡ refusal (4, at 1 1) ∷ []
unfolding line_texts lines_of documents_of parted is_parting is_marker skip_blanks carries_nothing ends_line indentation indent body is_comment is_empty_line bad_start unexpected plain_len trimmed plain_front plain_rest value_within whole_of resolved single escape double block_text quoted behind_colon flow_key fresh_key after_element flow_element flow_elements flow_value flow_entry flow_members flow_scalar flow_node nothing_in key_at continuation more_plain plain_text scalar_lines block_scalar element_in item_key key_in entry_in scalar_or_flow_in node_in
question_at_end = refl

merge_key : answers 32 (codes "<<: x") ≡ refusal (3, at 1 1) ∷ []
unfolding line_texts lines_of documents_of parted is_parting is_marker skip_blanks carries_nothing ends_line indentation indent body is_comment is_empty_line bad_start unexpected plain_len trimmed plain_front plain_rest value_within whole_of resolved single escape double block_text quoted behind_colon flow_key fresh_key after_element flow_element flow_elements flow_value flow_entry flow_members flow_scalar flow_node nothing_in key_at continuation more_plain plain_text scalar_lines block_scalar element_in item_key key_in entry_in scalar_or_flow_in node_in
merge_key = refl

anchored_key : answers 32 (codes "a: 1\n&a b: 1") ≡ refusal (3, at 2 1) ∷ []
unfolding line_texts lines_of documents_of parted is_parting is_marker skip_blanks carries_nothing ends_line indentation indent body is_comment is_empty_line bad_start unexpected plain_len trimmed plain_front plain_rest value_within whole_of resolved single escape double block_text quoted behind_colon flow_key fresh_key after_element flow_element flow_elements flow_value flow_entry flow_members flow_scalar flow_node nothing_in key_at continuation more_plain plain_text scalar_lines block_scalar element_in item_key key_in entry_in scalar_or_flow_in node_in
anchored_key = refl

quote_closes_later : answers 32 (codes "a: \"x\n\"") ≡ refusal (3, at 1 4) ∷ []
unfolding line_texts lines_of documents_of parted is_parting is_marker skip_blanks carries_nothing ends_line indentation indent body is_comment is_empty_line bad_start unexpected plain_len trimmed plain_front plain_rest value_within whole_of resolved single escape double block_text quoted behind_colon flow_key fresh_key after_element flow_element flow_elements flow_value flow_entry flow_members flow_scalar flow_node nothing_in key_at continuation more_plain plain_text scalar_lines block_scalar element_in item_key key_in entry_in scalar_or_flow_in node_in
quote_closes_later = refl

empty_element : answers 32 (codes "a: [,]") ≡ refusal (4, at 1 1) ∷ []
unfolding line_texts lines_of documents_of parted is_parting is_marker skip_blanks carries_nothing ends_line indentation indent body is_comment is_empty_line bad_start unexpected plain_len trimmed plain_front plain_rest value_within whole_of resolved single escape double block_text quoted behind_colon flow_key fresh_key after_element flow_element flow_elements flow_value flow_entry flow_members flow_scalar flow_node nothing_in key_at continuation more_plain plain_text scalar_lines block_scalar element_in item_key key_in entry_in scalar_or_flow_in node_in
empty_element = refl

two_commas : answers 32 (codes "[a, , b") ≡ refusal (4, at 1 1) ∷ []
unfolding line_texts lines_of documents_of parted is_parting is_marker skip_blanks carries_nothing ends_line indentation indent body is_comment is_empty_line bad_start unexpected plain_len trimmed plain_front plain_rest value_within whole_of resolved single escape double block_text quoted behind_colon flow_key fresh_key after_element flow_element flow_elements flow_value flow_entry flow_members flow_scalar flow_node nothing_in key_at continuation more_plain plain_text scalar_lines block_scalar element_in item_key key_in entry_in scalar_or_flow_in node_in
two_commas = refl

two_colons : answers 32 (codes "a: b: c") ≡ refusal (4, at 1 1) ∷ []
unfolding line_texts lines_of documents_of parted is_parting is_marker skip_blanks carries_nothing ends_line indentation indent body is_comment is_empty_line bad_start unexpected plain_len trimmed plain_front plain_rest value_within whole_of resolved single escape double block_text quoted behind_colon flow_key fresh_key after_element flow_element flow_elements flow_value flow_entry flow_members flow_scalar flow_node nothing_in key_at continuation more_plain plain_text scalar_lines block_scalar element_in item_key key_in entry_in scalar_or_flow_in node_in
two_colons = refl

key_in_continuation_line : answers 32 (codes "a: b\n  c: d") ≡ refusal (4, at 2 1) ∷ []
unfolding line_texts lines_of documents_of parted is_parting is_marker skip_blanks carries_nothing ends_line indentation indent body is_comment is_empty_line bad_start unexpected plain_len trimmed plain_front plain_rest value_within whole_of resolved single escape double block_text quoted behind_colon flow_key fresh_key after_element flow_element flow_elements flow_value flow_entry flow_members flow_scalar flow_node nothing_in key_at continuation more_plain plain_text scalar_lines block_scalar element_in item_key key_in entry_in scalar_or_flow_in node_in
key_in_continuation_line = refl

directive : answers 32 (codes "%YAML 1.2") ≡ refusal (3, at 1 1) ∷ []
unfolding line_texts lines_of documents_of parted is_parting is_marker skip_blanks carries_nothing ends_line indentation indent body is_comment is_empty_line bad_start unexpected plain_len trimmed plain_front plain_rest value_within whole_of resolved single escape double block_text quoted behind_colon flow_key fresh_key after_element flow_element flow_elements flow_value flow_entry flow_members flow_scalar flow_node nothing_in key_at continuation more_plain plain_text scalar_lines block_scalar element_in item_key key_in entry_in scalar_or_flow_in node_in
directive = refl

percent_as_key : answers 32 (codes "a: 1\n%b") ≡ refusal (4, at 2 1) ∷ []
unfolding line_texts lines_of documents_of parted is_parting is_marker skip_blanks carries_nothing ends_line indentation indent body is_comment is_empty_line bad_start unexpected plain_len trimmed plain_front plain_rest value_within whole_of resolved single escape double block_text quoted behind_colon flow_key fresh_key after_element flow_element flow_elements flow_value flow_entry flow_members flow_scalar flow_node nothing_in key_at continuation more_plain plain_text scalar_lines block_scalar element_in item_key key_in entry_in scalar_or_flow_in node_in
percent_as_key = refl

less_indented_content : answers 32 (codes "a: |\n  x\n y") ≡ refusal (4, at 3 1) ∷ []
unfolding line_texts lines_of documents_of parted is_parting is_marker skip_blanks carries_nothing ends_line indentation indent body is_comment is_empty_line bad_start unexpected plain_len trimmed plain_front plain_rest value_within whole_of resolved single escape double block_text quoted behind_colon flow_key fresh_key after_element flow_element flow_elements flow_value flow_entry flow_members flow_scalar flow_node nothing_in key_at continuation more_plain plain_text scalar_lines block_scalar element_in item_key key_in entry_in scalar_or_flow_in node_in
less_indented_content = refl

tab_behind_spaces : answers 32 (codes "a: b\n  \tc") ≡ refusal (8, at 2 3) ∷ []
unfolding line_texts lines_of documents_of parted is_parting is_marker skip_blanks carries_nothing ends_line indentation indent body is_comment is_empty_line bad_start unexpected plain_len trimmed plain_front plain_rest value_within whole_of resolved single escape double block_text quoted behind_colon flow_key fresh_key after_element flow_element flow_elements flow_value flow_entry flow_members flow_scalar flow_node nothing_in key_at continuation more_plain plain_text scalar_lines block_scalar element_in item_key key_in entry_in scalar_or_flow_in node_in
tab_behind_spaces = refl

tab_behind_dash : answers 32 (codes "-\ta: 1") ≡ refusal (4, at 1 1) ∷ []
unfolding line_texts lines_of documents_of parted is_parting is_marker skip_blanks carries_nothing ends_line indentation indent body is_comment is_empty_line bad_start unexpected plain_len trimmed plain_front plain_rest value_within whole_of resolved single escape double block_text quoted behind_colon flow_key fresh_key after_element flow_element flow_elements flow_value flow_entry flow_members flow_scalar flow_node nothing_in key_at continuation more_plain plain_text scalar_lines block_scalar element_in item_key key_in entry_in scalar_or_flow_in node_in
tab_behind_dash = refl

equal_keys_quoted : answers 32 (codes "a: 1\n\"a\": 2") ≡ refusal (5, at 2 1) ∷ []
unfolding line_texts lines_of documents_of parted is_parting is_marker skip_blanks carries_nothing ends_line indentation indent body is_comment is_empty_line bad_start unexpected plain_len trimmed plain_front plain_rest value_within whole_of resolved single escape double block_text quoted behind_colon flow_key fresh_key after_element flow_element flow_elements flow_value flow_entry flow_members flow_scalar flow_node nothing_in key_at continuation more_plain plain_text scalar_lines block_scalar element_in item_key key_in entry_in scalar_or_flow_in node_in
equal_keys_quoted = refl

end_marker : answers 32 (codes "a: 1\n...") ≡ refusal (3, at 2 1) ∷ []
unfolding line_texts lines_of documents_of parted is_parting is_marker skip_blanks carries_nothing ends_line indentation indent body is_comment is_empty_line bad_start unexpected plain_len trimmed plain_front plain_rest value_within whole_of resolved single escape double block_text quoted behind_colon flow_key fresh_key after_element flow_element flow_elements flow_value flow_entry flow_members flow_scalar flow_node nothing_in key_at continuation more_plain plain_text scalar_lines block_scalar element_in item_key key_in entry_in scalar_or_flow_in node_in
end_marker = refl

outermost_that_closes : answers 32 (codes "[a, {b: \"c\n}") ≡ refusal (3, at 1 5) ∷ []
unfolding line_texts lines_of documents_of parted is_parting is_marker skip_blanks carries_nothing ends_line indentation indent body is_comment is_empty_line bad_start unexpected plain_len trimmed plain_front plain_rest value_within whole_of resolved single escape double block_text quoted behind_colon flow_key fresh_key after_element flow_element flow_elements flow_value flow_entry flow_members flow_scalar flow_node nothing_in key_at continuation more_plain plain_text scalar_lines block_scalar element_in item_key key_in entry_in scalar_or_flow_in node_in
outermost_that_closes = refl

less_indented_key : answers 32 (codes "a:\n  b: 1\n c: 1") ≡ refusal (4, at 3 1) ∷ []
unfolding line_texts lines_of documents_of parted is_parting is_marker skip_blanks carries_nothing ends_line indentation indent body is_comment is_empty_line bad_start unexpected plain_len trimmed plain_front plain_rest value_within whole_of resolved single escape double block_text quoted behind_colon flow_key fresh_key after_element flow_element flow_elements flow_value flow_entry flow_members flow_scalar flow_node nothing_in key_at continuation more_plain plain_text scalar_lines block_scalar element_in item_key key_in entry_in scalar_or_flow_in node_in
less_indented_key = refl

deeper_key_behind_value : answers 32 (codes "a: {b: 1}\n   c: 1") ≡ refusal (4, at 2 1) ∷ []
unfolding line_texts lines_of documents_of parted is_parting is_marker skip_blanks carries_nothing ends_line indentation indent body is_comment is_empty_line bad_start unexpected plain_len trimmed plain_front plain_rest value_within whole_of resolved single escape double block_text quoted behind_colon flow_key fresh_key after_element flow_element flow_elements flow_value flow_entry flow_members flow_scalar flow_node nothing_in key_at continuation more_plain plain_text scalar_lines block_scalar element_in item_key key_in entry_in scalar_or_flow_in node_in
deeper_key_behind_value = refl

equal_keys_in_flow : answers 32 (codes "a: {b: 1, b: 2}") ≡ refusal (5, at 1 11) ∷ []
unfolding line_texts lines_of documents_of parted is_parting is_marker skip_blanks carries_nothing ends_line indentation indent body is_comment is_empty_line bad_start unexpected plain_len trimmed plain_front plain_rest value_within whole_of resolved single escape double block_text quoted behind_colon flow_key fresh_key after_element flow_element flow_elements flow_value flow_entry flow_members flow_scalar flow_node nothing_in key_at continuation more_plain plain_text scalar_lines block_scalar element_in item_key key_in entry_in scalar_or_flow_in node_in
equal_keys_in_flow = refl

form_before_unclosed : answers 32 (codes "[&x\n]") ≡ refusal (3, at 1 2) ∷ []
unfolding line_texts lines_of documents_of parted is_parting is_marker skip_blanks carries_nothing ends_line indentation indent body is_comment is_empty_line bad_start unexpected plain_len trimmed plain_front plain_rest value_within whole_of resolved single escape double block_text quoted behind_colon flow_key fresh_key after_element flow_element flow_elements flow_value flow_entry flow_members flow_scalar flow_node nothing_in key_at continuation more_plain plain_text scalar_lines block_scalar element_in item_key key_in entry_in scalar_or_flow_in node_in
form_before_unclosed = refl

escape_before_unclosed : answers 32 (codes "\"a\\q\n\"") ≡ refusal (9, at 1 3) ∷ []
unfolding line_texts lines_of documents_of parted is_parting is_marker skip_blanks carries_nothing ends_line indentation indent body is_comment is_empty_line bad_start unexpected plain_len trimmed plain_front plain_rest value_within whole_of resolved single escape double block_text quoted behind_colon flow_key fresh_key after_element flow_element flow_elements flow_value flow_entry flow_members flow_scalar flow_node nothing_in key_at continuation more_plain plain_text scalar_lines block_scalar element_in item_key key_in entry_in scalar_or_flow_in node_in
escape_before_unclosed = refl

key_without_colon : answers 32 (codes "{a}") ≡ refusal (4, at 1 1) ∷ []
unfolding line_texts lines_of documents_of parted is_parting is_marker skip_blanks carries_nothing ends_line indentation indent body is_comment is_empty_line bad_start unexpected plain_len trimmed plain_front plain_rest value_within whole_of resolved single escape double block_text quoted behind_colon flow_key fresh_key after_element flow_element flow_elements flow_value flow_entry flow_members flow_scalar flow_node nothing_in key_at continuation more_plain plain_text scalar_lines block_scalar element_in item_key key_in entry_in scalar_or_flow_in node_in
key_without_colon = refl

colon_without_blank : answers 32 (codes "{a:}") ≡ refusal (4, at 1 1) ∷ []
unfolding line_texts lines_of documents_of parted is_parting is_marker skip_blanks carries_nothing ends_line indentation indent body is_comment is_empty_line bad_start unexpected plain_len trimmed plain_front plain_rest value_within whole_of resolved single escape double block_text quoted behind_colon flow_key fresh_key after_element flow_element flow_elements flow_value flow_entry flow_members flow_scalar flow_node nothing_in key_at continuation more_plain plain_text scalar_lines block_scalar element_in item_key key_in entry_in scalar_or_flow_in node_in
colon_without_blank = refl

merge_without_colon : answers 32 (codes "{<<}") ≡ refusal (4, at 1 1) ∷ []
unfolding line_texts lines_of documents_of parted is_parting is_marker skip_blanks carries_nothing ends_line indentation indent body is_comment is_empty_line bad_start unexpected plain_len trimmed plain_front plain_rest value_within whole_of resolved single escape double block_text quoted behind_colon flow_key fresh_key after_element flow_element flow_elements flow_value flow_entry flow_members flow_scalar flow_node nothing_in key_at continuation more_plain plain_text scalar_lines block_scalar element_in item_key key_in entry_in scalar_or_flow_in node_in
merge_without_colon = refl

merge_in_flow : answers 32 (codes "{<<: x}") ≡ refusal (3, at 1 2) ∷ []
unfolding line_texts lines_of documents_of parted is_parting is_marker skip_blanks carries_nothing ends_line indentation indent body is_comment is_empty_line bad_start unexpected plain_len trimmed plain_front plain_rest value_within whole_of resolved single escape double block_text quoted behind_colon flow_key fresh_key after_element flow_element flow_elements flow_value flow_entry flow_members flow_scalar flow_node nothing_in key_at continuation more_plain plain_text scalar_lines block_scalar element_in item_key key_in entry_in scalar_or_flow_in node_in
merge_in_flow = refl

collection_as_key : answers 32 (codes "[a]: b") ≡ refusal (4, at 1 1) ∷ []
unfolding line_texts lines_of documents_of parted is_parting is_marker skip_blanks carries_nothing ends_line indentation indent body is_comment is_empty_line bad_start unexpected plain_len trimmed plain_front plain_rest value_within whole_of resolved single escape double block_text quoted behind_colon flow_key fresh_key after_element flow_element flow_elements flow_value flow_entry flow_members flow_scalar flow_node nothing_in key_at continuation more_plain plain_text scalar_lines block_scalar element_in item_key key_in entry_in scalar_or_flow_in node_in
collection_as_key = refl

surrogate : answers 32 (codes "\"\\ud800\"") ≡ refusal (9, at 1 2) ∷ []
unfolding line_texts lines_of documents_of parted is_parting is_marker skip_blanks carries_nothing ends_line indentation indent body is_comment is_empty_line bad_start unexpected plain_len trimmed plain_front plain_rest value_within whole_of resolved single escape double block_text quoted behind_colon flow_key fresh_key after_element flow_element flow_elements flow_value flow_entry flow_members flow_scalar flow_node nothing_in key_at continuation more_plain plain_text scalar_lines block_scalar element_in item_key key_in entry_in scalar_or_flow_in node_in
surrogate = refl

carriage_return_alone : answers 32 (codes "a: b\rc") ≡ refusal (4, at 1 1) ∷ []
unfolding line_texts lines_of documents_of parted is_parting is_marker skip_blanks carries_nothing ends_line indentation indent body is_comment is_empty_line bad_start unexpected plain_len trimmed plain_front plain_rest value_within whole_of resolved single escape double block_text quoted behind_colon flow_key fresh_key after_element flow_element flow_elements flow_value flow_entry flow_members flow_scalar flow_node nothing_in key_at continuation more_plain plain_text scalar_lines block_scalar element_in item_key key_in entry_in scalar_or_flow_in node_in
carriage_return_alone = refl

comment_without_blank : answers 32 (codes "a: \"b\"#c") ≡ refusal (4, at 1 1) ∷ []
unfolding line_texts lines_of documents_of parted is_parting is_marker skip_blanks carries_nothing ends_line indentation indent body is_comment is_empty_line bad_start unexpected plain_len trimmed plain_front plain_rest value_within whole_of resolved single escape double block_text quoted behind_colon flow_key fresh_key after_element flow_element flow_elements flow_value flow_entry flow_members flow_scalar flow_node nothing_in key_at continuation more_plain plain_text scalar_lines block_scalar element_in item_key key_in entry_in scalar_or_flow_in node_in
comment_without_blank = refl

marker_in_scalar : answers 32 (codes "|\n x\n--- y") ≡ refusal (3, at 3 1) ∷ []
unfolding line_texts lines_of documents_of parted is_parting is_marker skip_blanks carries_nothing ends_line indentation indent body is_comment is_empty_line bad_start unexpected plain_len trimmed plain_front plain_rest value_within whole_of resolved single escape double block_text quoted behind_colon flow_key fresh_key after_element flow_element flow_elements flow_value flow_entry flow_members flow_scalar flow_node nothing_in key_at continuation more_plain plain_text scalar_lines block_scalar element_in item_key key_in entry_in scalar_or_flow_in node_in
marker_in_scalar = refl

unclosed_behind_forbidden : answers 32 (codes "a: \u{1} [b\n]") ≡ refusal (4, at 1 1) ∷ []
unfolding line_texts lines_of documents_of parted is_parting is_marker skip_blanks carries_nothing ends_line indentation indent body is_comment is_empty_line bad_start unexpected plain_len trimmed plain_front plain_rest value_within whole_of resolved single escape double block_text quoted behind_colon flow_key fresh_key after_element flow_element flow_elements flow_value flow_entry flow_members flow_scalar flow_node nothing_in key_at continuation more_plain plain_text scalar_lines block_scalar element_in item_key key_in entry_in scalar_or_flow_in node_in
unclosed_behind_forbidden = refl

too_deep_list : answers 1 (codes "a: [[1]]") ≡ refusal (6, at 1 4) ∷ []
unfolding line_texts lines_of documents_of parted is_parting is_marker skip_blanks carries_nothing ends_line indentation indent body is_comment is_empty_line bad_start unexpected plain_len trimmed plain_front plain_rest value_within whole_of resolved single escape double block_text quoted behind_colon flow_key fresh_key after_element flow_element flow_elements flow_value flow_entry flow_members flow_scalar flow_node nothing_in key_at continuation more_plain plain_text scalar_lines block_scalar element_in item_key key_in entry_in scalar_or_flow_in node_in
too_deep_list = refl

too_deep_in_list : answers 2 (codes "a: [[1]]") ≡ refusal (6, at 1 5) ∷ []
unfolding line_texts lines_of documents_of parted is_parting is_marker skip_blanks carries_nothing ends_line indentation indent body is_comment is_empty_line bad_start unexpected plain_len trimmed plain_front plain_rest value_within whole_of resolved single escape double block_text quoted behind_colon flow_key fresh_key after_element flow_element flow_elements flow_value flow_entry flow_members flow_scalar flow_node nothing_in key_at continuation more_plain plain_text scalar_lines block_scalar element_in item_key key_in entry_in scalar_or_flow_in node_in
too_deep_in_list = refl

too_deep_map : answers 1 (codes "a:\n  b: 1") ≡ refusal (6, at 2 3) ∷ []
unfolding line_texts lines_of documents_of parted is_parting is_marker skip_blanks carries_nothing ends_line indentation indent body is_comment is_empty_line bad_start unexpected plain_len trimmed plain_front plain_rest value_within whole_of resolved single escape double block_text quoted behind_colon flow_key fresh_key after_element flow_element flow_elements flow_value flow_entry flow_members flow_scalar flow_node nothing_in key_at continuation more_plain plain_text scalar_lines block_scalar element_in item_key key_in entry_in scalar_or_flow_in node_in
too_deep_map = refl

merge_key_too_deep : answers 1 (codes "a:\n  <<: 1") ≡ refusal (3, at 2 3) ∷ []
unfolding line_texts lines_of documents_of parted is_parting is_marker skip_blanks carries_nothing ends_line indentation indent body is_comment is_empty_line bad_start unexpected plain_len trimmed plain_front plain_rest value_within whole_of resolved single escape double block_text quoted behind_colon flow_key fresh_key after_element flow_element flow_elements flow_value flow_entry flow_members flow_scalar flow_node nothing_in key_at continuation more_plain plain_text scalar_lines block_scalar element_in item_key key_in entry_in scalar_or_flow_in node_in
merge_key_too_deep = refl

folded : answers 32 (codes "a: >\n  b\n  c\n\n  d\n") ≡ tree (map (at 1 1) (entry 1 1 (codes "a") (text_at 1 4 (codes "b c\nd\n")) no_members)) ∷ []
unfolding line_texts lines_of documents_of parted is_parting is_marker skip_blanks carries_nothing ends_line indentation indent body is_comment is_empty_line bad_start unexpected plain_len trimmed plain_front plain_rest value_within whole_of resolved single escape double block_text quoted behind_colon flow_key fresh_key after_element flow_element flow_elements flow_value flow_entry flow_members flow_scalar flow_node nothing_in key_at continuation more_plain plain_text scalar_lines block_scalar element_in item_key key_in entry_in scalar_or_flow_in node_in
folded = refl

scalars : answers 32 (codes "a: +7\nb: yes\nc: 1.5\nd: 0x10\ne: -0\nf: 007") ≡ tree (map (at 1 1) (entry 1 1 (codes "a") (scalar (at 1 4) (whole (pos 7))) (entry 2 1 (codes "b") (text_at 2 4 (codes "yes")) (entry 3 1 (codes "c") (text_at 3 4 (codes "1.5")) (entry 4 1 (codes "d") (text_at 4 4 (codes "0x10")) (entry 5 1 (codes "e") (scalar (at 5 4) (whole (pos 0))) (entry 6 1 (codes "f") (scalar (at 6 4) (whole (pos 7))) no_members))))))) ∷ []
unfolding line_texts lines_of documents_of parted is_parting is_marker skip_blanks carries_nothing ends_line indentation indent body is_comment is_empty_line bad_start unexpected plain_len trimmed plain_front plain_rest value_within whole_of resolved single escape double block_text quoted behind_colon flow_key fresh_key after_element flow_element flow_elements flow_value flow_entry flow_members flow_scalar flow_node nothing_in key_at continuation more_plain plain_text scalar_lines block_scalar element_in item_key key_in entry_in scalar_or_flow_in node_in
scalars = refl

nested_sequences : answers 32 (codes "- - a: 1\n    b: 2\n  - c\n-\n- x\n  y") ≡ tree (list (at 1 1) (element (list (at 1 3) (element (map (at 1 5) (entry 1 5 (codes "a") (scalar (at 1 8) (whole (pos 1))) (entry 2 5 (codes "b") (scalar (at 2 8) (whole (pos 2))) no_members))) (element (text_at 3 5 (codes "c")) no_elements))) (element (scalar (at 4 1) null) (element (text_at 5 3 (codes "x y")) no_elements)))) ∷ []
unfolding line_texts lines_of documents_of parted is_parting is_marker skip_blanks carries_nothing ends_line indentation indent body is_comment is_empty_line bad_start unexpected plain_len trimmed plain_front plain_rest value_within whole_of resolved single escape double block_text quoted behind_colon flow_key fresh_key after_element flow_element flow_elements flow_value flow_entry flow_members flow_scalar flow_node nothing_in key_at continuation more_plain plain_text scalar_lines block_scalar element_in item_key key_in entry_in scalar_or_flow_in node_in
nested_sequences = refl

sequence_at_key : answers 32 (codes "a:\n- 1\n- 2\nb:\n  c: {d: [e, 'f', ], g: }") ≡ tree (map (at 1 1) (entry 1 1 (codes "a") (list (at 2 1) (element (scalar (at 2 3) (whole (pos 1))) (element (scalar (at 3 3) (whole (pos 2))) no_elements))) (entry 4 1 (codes "b") (map (at 5 3) (entry 5 3 (codes "c") (map (at 5 7) (entry 5 7 (codes "d") (list (at 5 10) (element (text_at 5 11 (codes "e")) (element (text_at 5 14 (codes "f")) no_elements))) (entry 5 22 (codes "g") (scalar (at 5 22) null) no_members))) no_members)) no_members))) ∷ []
unfolding line_texts lines_of documents_of parted is_parting is_marker skip_blanks carries_nothing ends_line indentation indent body is_comment is_empty_line bad_start unexpected plain_len trimmed plain_front plain_rest value_within whole_of resolved single escape double block_text quoted behind_colon flow_key fresh_key after_element flow_element flow_elements flow_value flow_entry flow_members flow_scalar flow_node nothing_in key_at continuation more_plain plain_text scalar_lines block_scalar element_in item_key key_in entry_in scalar_or_flow_in node_in
sequence_at_key = refl

literal_kept : answers 32 (codes "a: |+\n\n  x\n    y\n\n# c\nb:") ≡ tree (map (at 1 1) (entry 1 1 (codes "a") (text_at 1 4 (codes "\nx\n  y\n\n")) (entry 7 1 (codes "b") (scalar (at 7 1) null) no_members))) ∷ []
unfolding line_texts lines_of documents_of parted is_parting is_marker skip_blanks carries_nothing ends_line indentation indent body is_comment is_empty_line bad_start unexpected plain_len trimmed plain_front plain_rest value_within whole_of resolved single escape double block_text quoted behind_colon flow_key fresh_key after_element flow_element flow_elements flow_value flow_entry flow_members flow_scalar flow_node nothing_in key_at continuation more_plain plain_text scalar_lines block_scalar element_in item_key key_in entry_in scalar_or_flow_in node_in
literal_kept = refl

kept_at_the_end : answers 32 (codes "a: |+\n  x\n") ≡ tree (map (at 1 1) (entry 1 1 (codes "a") (text_at 1 4 (codes "x\n")) no_members)) ∷ []
unfolding line_texts lines_of documents_of parted is_parting is_marker skip_blanks carries_nothing ends_line indentation indent body is_comment is_empty_line bad_start unexpected plain_len trimmed plain_front plain_rest value_within whole_of resolved single escape double block_text quoted behind_colon flow_key fresh_key after_element flow_element flow_elements flow_value flow_entry flow_members flow_scalar flow_node nothing_in key_at continuation more_plain plain_text scalar_lines block_scalar element_in item_key key_in entry_in scalar_or_flow_in node_in
kept_at_the_end = refl

literal_front : answers 32 (codes "a: |\n     \n  x\n   \n  y") ≡ tree (map (at 1 1) (entry 1 1 (codes "a") (text_at 1 4 (codes "\nx\n \ny\n")) no_members)) ∷ []
unfolding line_texts lines_of documents_of parted is_parting is_marker skip_blanks carries_nothing ends_line indentation indent body is_comment is_empty_line bad_start unexpected plain_len trimmed plain_front plain_rest value_within whole_of resolved single escape double block_text quoted behind_colon flow_key fresh_key after_element flow_element flow_elements flow_value flow_entry flow_members flow_scalar flow_node nothing_in key_at continuation more_plain plain_text scalar_lines block_scalar element_in item_key key_in entry_in scalar_or_flow_in node_in
literal_front = refl

folded_blank : answers 32 (codes "a: >-\n  b\n   c\n  d") ≡ tree (map (at 1 1) (entry 1 1 (codes "a") (text_at 1 4 (codes "b\n c\nd")) no_members)) ∷ []
unfolding line_texts lines_of documents_of parted is_parting is_marker skip_blanks carries_nothing ends_line indentation indent body is_comment is_empty_line bad_start unexpected plain_len trimmed plain_front plain_rest value_within whole_of resolved single escape double block_text quoted behind_colon flow_key fresh_key after_element flow_element flow_elements flow_value flow_entry flow_members flow_scalar flow_node nothing_in key_at continuation more_plain plain_text scalar_lines block_scalar element_in item_key key_in entry_in scalar_or_flow_in node_in
folded_blank = refl

plain_lines : answers 32 (codes "a: x\n  y\n\n  z") ≡ tree (map (at 1 1) (entry 1 1 (codes "a") (text_at 1 4 (codes "x y\nz")) no_members)) ∷ []
unfolding line_texts lines_of documents_of parted is_parting is_marker skip_blanks carries_nothing ends_line indentation indent body is_comment is_empty_line bad_start unexpected plain_len trimmed plain_front plain_rest value_within whole_of resolved single escape double block_text quoted behind_colon flow_key fresh_key after_element flow_element flow_elements flow_value flow_entry flow_members flow_scalar flow_node nothing_in key_at continuation more_plain plain_text scalar_lines block_scalar element_in item_key key_in entry_in scalar_or_flow_in node_in
plain_lines = refl

-- outside flow collections their signs are text, on continuation lines too (YAML 1.2, 7.3.3)
plain_lines_with_flow_signs : answers 32 (codes "a: x\n  y, [z]") ≡ tree (map (at 1 1) (entry 1 1 (codes "a") (text_at 1 4 (codes "x y, [z]")) no_members)) ∷ []
unfolding line_texts lines_of documents_of parted is_parting is_marker skip_blanks carries_nothing ends_line indentation indent body is_comment is_empty_line bad_start unexpected plain_len trimmed plain_front plain_rest value_within whole_of resolved single escape double block_text quoted behind_colon flow_key fresh_key after_element flow_element flow_elements flow_value flow_entry flow_members flow_scalar flow_node nothing_in key_at continuation more_plain plain_text scalar_lines block_scalar element_in item_key key_in entry_in scalar_or_flow_in node_in
plain_lines_with_flow_signs = refl

quotes : answers 32 (codes "a: 'it''s' # c\n'b' : 2") ≡ tree (map (at 1 1) (entry 1 1 (codes "a") (text_at 1 4 (codes "it's")) (entry 2 1 (codes "b") (scalar (at 2 7) (whole (pos 2))) no_members))) ∷ []
unfolding line_texts lines_of documents_of parted is_parting is_marker skip_blanks carries_nothing ends_line indentation indent body is_comment is_empty_line bad_start unexpected plain_len trimmed plain_front plain_rest value_within whole_of resolved single escape double block_text quoted behind_colon flow_key fresh_key after_element flow_element flow_elements flow_value flow_entry flow_members flow_scalar flow_node nothing_in key_at continuation more_plain plain_text scalar_lines block_scalar element_in item_key key_in entry_in scalar_or_flow_in node_in
quotes = refl

empty_flow : answers 32 (codes "a: []\nb: {}\nc:\td") ≡ tree (map (at 1 1) (entry 1 1 (codes "a") (list (at 1 4) no_elements) (entry 2 1 (codes "b") (map (at 2 4) no_members) (entry 3 1 (codes "c") (text_at 3 4 (codes "d")) no_members)))) ∷ []
unfolding line_texts lines_of documents_of parted is_parting is_marker skip_blanks carries_nothing ends_line indentation indent body is_comment is_empty_line bad_start unexpected plain_len trimmed plain_front plain_rest value_within whole_of resolved single escape double block_text quoted behind_colon flow_key fresh_key after_element flow_element flow_elements flow_value flow_entry flow_members flow_scalar flow_node nothing_in key_at continuation more_plain plain_text scalar_lines block_scalar element_in item_key key_in entry_in scalar_or_flow_in node_in
empty_flow = refl

no_comment : answers 32 (codes "a:#c") ≡ tree (text_at 1 1 (codes "a:#c")) ∷ []
unfolding line_texts lines_of documents_of parted is_parting is_marker skip_blanks carries_nothing ends_line indentation indent body is_comment is_empty_line bad_start unexpected plain_len trimmed plain_front plain_rest value_within whole_of resolved single escape double block_text quoted behind_colon flow_key fresh_key after_element flow_element flow_elements flow_value flow_entry flow_members flow_scalar flow_node nothing_in key_at continuation more_plain plain_text scalar_lines block_scalar element_in item_key key_in entry_in scalar_or_flow_in node_in
no_comment = refl

without_content : answers 32 (codes "a: |-\nb: |+") ≡ tree (map (at 1 1) (entry 1 1 (codes "a") (text_at 1 4 (codes "")) (entry 2 1 (codes "b") (text_at 2 4 (codes "")) no_members))) ∷ []
unfolding line_texts lines_of documents_of parted is_parting is_marker skip_blanks carries_nothing ends_line indentation indent body is_comment is_empty_line bad_start unexpected plain_len trimmed plain_front plain_rest value_within whole_of resolved single escape double block_text quoted behind_colon flow_key fresh_key after_element flow_element flow_elements flow_value flow_entry flow_members flow_scalar flow_node nothing_in key_at continuation more_plain plain_text scalar_lines block_scalar element_in item_key key_in entry_in scalar_or_flow_in node_in
without_content = refl

escapes : answers 32 (codes "- a:\n  - 1\n  b: \"\\x41\\u00e9\\n\"") ≡ tree (list (at 1 1) (element (map (at 1 3) (entry 1 3 (codes "a") (list (at 2 3) (element (scalar (at 2 5) (whole (pos 1))) no_elements)) (entry 3 3 (codes "b") (scalar (at 3 6) (text (65 ∷ 233 ∷ 10 ∷ []))) no_members))) no_elements)) ∷ []
unfolding line_texts lines_of documents_of parted is_parting is_marker skip_blanks carries_nothing ends_line indentation indent body is_comment is_empty_line bad_start unexpected plain_len trimmed plain_front plain_rest value_within whole_of resolved single escape double block_text quoted behind_colon flow_key fresh_key after_element flow_element flow_elements flow_value flow_entry flow_members flow_scalar flow_node nothing_in key_at continuation more_plain plain_text scalar_lines block_scalar element_in item_key key_in entry_in scalar_or_flow_in node_in
escapes = refl

tab_before_scalar : answers 32 (codes "-\ta") ≡ tree (list (at 1 1) (element (text_at 1 3 (codes "a")) no_elements)) ∷ []
unfolding line_texts lines_of documents_of parted is_parting is_marker skip_blanks carries_nothing ends_line indentation indent body is_comment is_empty_line bad_start unexpected plain_len trimmed plain_front plain_rest value_within whole_of resolved single escape double block_text quoted behind_colon flow_key fresh_key after_element flow_element flow_elements flow_value flow_entry flow_members flow_scalar flow_node nothing_in key_at continuation more_plain plain_text scalar_lines block_scalar element_in item_key key_in entry_in scalar_or_flow_in node_in
tab_before_scalar = refl

byte_order_mark : answers 32 (codes "\u{feff}a: b\r\n") ≡ tree (map (at 1 1) (entry 1 1 (codes "a") (text_at 1 4 (codes "b")) no_members)) ∷ []
unfolding line_texts lines_of documents_of parted is_parting is_marker skip_blanks carries_nothing ends_line indentation indent body is_comment is_empty_line bad_start unexpected plain_len trimmed plain_front plain_rest value_within whole_of resolved single escape double block_text quoted behind_colon flow_key fresh_key after_element flow_element flow_elements flow_value flow_entry flow_members flow_scalar flow_node nothing_in key_at continuation more_plain plain_text scalar_lines block_scalar element_in item_key key_in entry_in scalar_or_flow_in node_in
byte_order_mark = refl

signs_in_flow : answers 32 (codes "[-, ?, :]") ≡ tree (list (at 1 1) (element (text_at 1 2 (codes "-")) (element (text_at 1 5 (codes "?")) (element (text_at 1 8 (codes ":")) no_elements)))) ∷ []
unfolding line_texts lines_of documents_of parted is_parting is_marker skip_blanks carries_nothing ends_line indentation indent body is_comment is_empty_line bad_start unexpected plain_len trimmed plain_front plain_rest value_within whole_of resolved single escape double block_text quoted behind_colon flow_key fresh_key after_element flow_element flow_elements flow_value flow_entry flow_members flow_scalar flow_node nothing_in key_at continuation more_plain plain_text scalar_lines block_scalar element_in item_key key_in entry_in scalar_or_flow_in node_in
signs_in_flow = refl

no_parting : answers 32 (codes "---#x") ≡ tree (text_at 1 1 (codes "---#x")) ∷ []
unfolding line_texts lines_of documents_of parted is_parting is_marker skip_blanks carries_nothing ends_line indentation indent body is_comment is_empty_line bad_start unexpected plain_len trimmed plain_front plain_rest value_within whole_of resolved single escape double block_text quoted behind_colon flow_key fresh_key after_element flow_element flow_elements flow_value flow_entry flow_members flow_scalar flow_node nothing_in key_at continuation more_plain plain_text scalar_lines block_scalar element_in item_key key_in entry_in scalar_or_flow_in node_in
no_parting = refl

-- five documents of one file, of which the last has a tree
five_documents : answers 32 (codes "title: \"cut\n---\na:\n\tb: 1\n---\na: 1\na: 2\n---\na: &x 1\n---\n\ntitle: Whoami # c\n")
    ≡ refusal (4, at 1 1) ∷ refusal (8, at 4 1) ∷ refusal (5, at 7 1) ∷ refusal (3, at 9 4)
    ∷ tree (map (at 12 1) (entry 12 1 (codes "title") (text_at 12 8 (codes "Whoami")) no_members)) ∷ []
unfolding line_texts lines_of documents_of parted is_parting is_marker skip_blanks carries_nothing ends_line indentation indent body is_comment is_empty_line bad_start unexpected plain_len trimmed plain_front plain_rest value_within whole_of resolved single escape double block_text quoted behind_colon flow_key fresh_key after_element flow_element flow_elements flow_value flow_entry flow_members flow_scalar flow_node nothing_in key_at continuation more_plain plain_text scalar_lines block_scalar element_in item_key key_in entry_in scalar_or_flow_in node_in
five_documents = refl

-- a document without content is passed over
no_documents : answers 32 (codes "\n---\n# c\n--- # d\n") ≡ []
unfolding line_texts lines_of documents_of parted is_parting is_marker skip_blanks carries_nothing ends_line indentation indent body is_comment is_empty_line bad_start unexpected plain_len trimmed plain_front plain_rest value_within whole_of resolved single escape double block_text quoted behind_colon flow_key fresh_key after_element flow_element flow_elements flow_value flow_entry flow_members flow_scalar flow_node nothing_in key_at continuation more_plain plain_text scalar_lines block_scalar element_in item_key key_in entry_in scalar_or_flow_in node_in
no_documents = refl
