-- Chains of positions, `all`, `cased` and `exists`; chains with encodings.
use Rattle.std.proofs.Common.{ℕ, ◌≡◌, Bool, true, false, ◌&&◌, ◌||◌, not, nat_le, List, [], ◌∷◌, refl, ap, ◌∙◌, cond, count_by}
use Rattle.std.specs.Prelude.{Option, None, is_some, if◌then◌else◌}
use Rattle.std.specs.List.{list_all, list_any}
use Rattle.std.proofs.lemmas.Bool.{and_parts, and_from}
use Rattle.std.proofs.lemmas.List.Sums.{sum_by-cons}
use Rattle.modifier_words.specs.Chains.{is_chain, is_empty, is_presence, is_network_chain, is_order_chain, is_all_or_none, is_reference, is_expression_chain, is_text_chain, at_most_one, units_lead, encodings_lead, has_some_of}
use Rattle.modifier_words.specs.CommonChains.{is_common_text_word, is_common_word, is_common_chain}
use Rattle.modifier_words.specs.Kinds.{is_position, is_all, is_cased, is_exists, is_windash, is_expand, is_units, is_encoding, is_cidr, order_in, is_fieldref, is_re, is_expression_word, expression_kinds, is_text_word, text_kinds, unencoded_kinds}
use Rattle.modifier_words.specs.declared.modifier.Modifier.{Modifier}
use Rattle.modifier_words.specs.declared.modifier.Op.{Op}
use Rattle.modifier_words.specs.declared.modifier.Modifier.TheVariants.{Position, All, Cased, Windash, Expand, Units, Encoding, Exists, Cidr, Order, Fieldref, Re, Flag}

-- what a common word is and isn't
record IsPlain (m : Modifier) : Type 0 where
  word : is_text_word m ≡ is_common_text_word m
  no_windash : is_windash m ≡ false
  no_expand : is_expand m ≡ false
  no_units : is_units m ≡ false
  no_encoding : is_encoding m ≡ false
  no_cidr : is_cidr m ≡ false
  no_order : order_in m ≡ None
  no_fieldref : is_fieldref m ≡ false
  no_re : is_re m ≡ false

plain : (m : Modifier) → is_common_word m ≡ true → IsPlain m
plain (Position p) h = record { word = refl; no_windash = refl; no_expand = refl; no_units = refl; no_encoding = refl; no_cidr = refl; no_order = refl; no_fieldref = refl; no_re = refl }
plain All h = record { word = refl; no_windash = refl; no_expand = refl; no_units = refl; no_encoding = refl; no_cidr = refl; no_order = refl; no_fieldref = refl; no_re = refl }
plain Cased h = record { word = refl; no_windash = refl; no_expand = refl; no_units = refl; no_encoding = refl; no_cidr = refl; no_order = refl; no_fieldref = refl; no_re = refl }
plain Windash h = absurd cc
plain Expand h = absurd cc
plain (Units form) h = absurd cc
plain (Encoding e) h = absurd cc
plain Exists h = record { word = refl; no_windash = refl; no_expand = refl; no_units = refl; no_encoding = refl; no_cidr = refl; no_order = refl; no_fieldref = refl; no_re = refl }
plain Cidr h = absurd cc
plain (Order op) h = absurd cc
plain Fieldref h = absurd cc
plain Re h = absurd cc
plain (Flag flag) h = absurd cc

-- what a list of common words has and hasn't
record ArePlain (ms : List Modifier) : Type 0 where
  words : list_all is_text_word ms ≡ list_all is_common_text_word ms
  windashes : count_by is_windash ms ≡ 0
  expands : count_by is_expand ms ≡ 0
  encodings : count_by is_encoding ms ≡ 0
  no_encoding : list_any is_encoding ms ≡ false
  units : units_lead ms ≡ true
  leads : encodings_lead ms ≡ true

count_none : (q : Modifier → Bool) (m : Modifier) (ms : List Modifier) → q m ≡ false → count_by q ms ≡ 0 → count_by q (m ∷ ms) ≡ 0
count_none q m ms none rest = sum_by-cons (λ x. cond (q x) 1 0) m ms ∙ rw (none, rest) refl

any_none : (q : Modifier → Bool) (m : Modifier) (ms : List Modifier) → q m ≡ false → list_any q ms ≡ false → list_any q (m ∷ ms) ≡ false
any_none q m ms none rest = rw (none, rest) refl

unit_first : (m : Modifier) (ms : List Modifier) → is_units m ≡ false → units_lead ms ≡ true → units_lead (m ∷ ms) ≡ true
unit_first m ms none rest = rw (none, rest) refl

behind : (a b : Bool) → b ≡ false → (not a || not b) ≡ true
behind true b h = rw h refl
behind false b h = refl

encoding_first : (m : Modifier) (ms : List Modifier) → list_any is_encoding ms ≡ false → encodings_lead ms ≡ true → encodings_lead (m ∷ ms) ≡ true
encoding_first m ms none rest = and_from (not (is_position m) || not (list_any is_encoding ms)) (encodings_lead ms) (behind (is_position m) (list_any is_encoding ms) none) rest

all_plain : (ms : List Modifier) → list_all is_common_word ms ≡ true → ArePlain ms
all_plain [] h = record { words = refl; windashes = refl; expands = refl; encodings = refl; no_encoding = refl; units = refl; leads = refl }
all_plain (m ∷ ms) h =
    let both = and_parts (is_common_word m) (list_all is_common_word ms) h in
    let first : IsPlain m = plain m both.0 in
    let more : ArePlain ms = all_plain ms both.1 in
    record {
      words = ap (λ b. b && list_all is_text_word ms) first.word ∙ ap (λ b. is_common_text_word m && b) more.words;
      windashes = count_none is_windash m ms first.no_windash more.windashes;
      expands = count_none is_expand m ms first.no_expand more.expands;
      encodings = count_none is_encoding m ms first.no_encoding more.encodings;
      no_encoding = any_none is_encoding m ms first.no_encoding more.no_encoding;
      units = unit_first m ms first.no_units more.units;
      leads = encoding_first m ms more.no_encoding more.leads;
    }

no_network : (ms : List Modifier) → list_all is_common_word ms ≡ true → is_network_chain ms ≡ false
no_network [] h = refl
no_network (m ∷ ms) h = let first : IsPlain m = plain m (and_parts (is_common_word m) (list_all is_common_word ms) h).0 in rw first.no_cidr refl

no_order : (ms : List Modifier) → list_all is_common_word ms ≡ true → is_order_chain ms ≡ false
no_order [] h = refl
no_order (m ∷ ms) h =
    let first : IsPlain m = plain m (and_parts (is_common_word m) (list_all is_common_word ms) h).0 in by (is_all_or_none ms) (order_in m) first.no_order
  where
    by : (b : Bool) (o : Option Op) → o ≡ None → is_some (if b then o else None) ≡ false
    by true o none = rw none refl
    by false o none = refl

no_reference : (ms : List Modifier) → list_all is_common_word ms ≡ true → is_reference ms ≡ false
no_reference [] h = refl
no_reference (m ∷ ms) h = let first : IsPlain m = plain m (and_parts (is_common_word m) (list_all is_common_word ms) h).0 in rw first.no_fieldref refl

no_expression : (ms : List Modifier) → list_all is_common_word ms ≡ true → is_expression_chain ms ≡ false
no_expression [] h = refl
no_expression (m ∷ ms) h = let first : IsPlain m = plain m (and_parts (is_common_word m) (list_all is_common_word ms) h).0 in rw first.no_re refl

-- the text chains among them, by what is said of each part
text_chain : (words position all cased units leads encoding : Bool) (windashes expands encodings : ℕ)
    → windashes ≡ 0 → expands ≡ 0 → encodings ≡ 0 → units ≡ true → leads ≡ true → encoding ≡ false → (unencoded : Bool)
    → (words && (position && (all && (cased && (nat_le windashes 1 && (nat_le expands 1 && (nat_le encodings 1 && true)))))) && units && leads && not (encoding && unencoded))
    ≡ (words && position && all && cased)
text_chain true true true true units leads encoding windashes expands encodings d x e u l n unencoded = rw (d, x, e, u, l, n) refl
text_chain true true true false units leads encoding windashes expands encodings d x e u l n unencoded = refl
text_chain true true false cased units leads encoding windashes expands encodings d x e u l n unencoded = refl
text_chain true false all cased units leads encoding windashes expands encodings d x e u l n unencoded = refl
text_chain false position all cased units leads encoding windashes expands encodings d x e u l n unencoded = refl

common_text : (ms : List Modifier) → list_all is_common_word ms ≡ true
    → is_text_chain ms ≡ (list_all is_common_text_word ms && at_most_one is_position ms && at_most_one is_all ms && at_most_one is_cased ms)
common_text ms h =
    let are : ArePlain ms = all_plain ms h in
    text_chain (list_all is_text_word ms) (at_most_one is_position ms) (at_most_one is_all ms) (at_most_one is_cased ms)
    (units_lead ms) (encodings_lead ms) (list_any is_encoding ms) (count_by is_windash ms) (count_by is_expand ms) (count_by is_encoding ms)
    are.windashes are.expands are.encodings are.units are.leads are.no_encoding (has_some_of unencoded_kinds ms)
    ∙ ap (λ b. b && at_most_one is_position ms && at_most_one is_all ms && at_most_one is_cased ms) are.words

at_keyword : (empty presence expression text common : Bool) → expression ≡ false → text ≡ common
    → (empty || expression || text) ≡ (empty || (presence && false) || common)
at_keyword true presence expression text common x h = refl
at_keyword false true expression text common x h = rw x h
at_keyword false false expression text common x h = rw x h

at_field : (empty presence network order reference expression text common : Bool) → network ≡ false → order ≡ false → reference ≡ false
    → expression ≡ false → text ≡ common
    → (empty || presence || network || order || reference || expression || text) ≡ (empty || (presence && true) || common)
at_field true presence network order reference expression text common n o r x h = refl
at_field false true network order reference expression text common n o r x h = refl
at_field false false network order reference expression text common n o r x h = rw (n, o, r, x) h

pub common : (keyword : Bool) (ms : List Modifier) → list_all is_common_word ms ≡ true → is_chain keyword ms ≡ is_common_chain keyword ms
common true ms h =
    at_keyword (is_empty ms) (is_presence ms) (is_expression_chain ms) (is_text_chain ms) _ (no_expression ms h) (common_text ms h)
common false ms h =
    at_field (is_empty ms) (is_presence ms) (is_network_chain ms) (is_order_chain ms) (is_reference ms) (is_expression_chain ms) (is_text_chain ms) _
    (no_network ms h) (no_order ms h) (no_reference ms h) (no_expression ms h) (common_text ms h)

-- ---- encodings and what they don't stand together with

-- what no encoding stands together with
abbrev pub Apart : List Modifier → Type 0
Apart ms = ((list_any is_encoding ms && list_any is_windash ms) ≡ false) × ((list_any is_encoding ms && list_any is_expand ms) ≡ false)

last_of : (a b c d e w x : Bool) → (a && b && c && d && not (e && (w || (x || false)))) ≡ true → ((e && w) ≡ false) × ((e && x) ≡ false)
last_of true true true true true true x h = absurd cc
last_of true true true true true false true h = absurd cc
last_of true true true true true false false h = (refl, refl)
last_of true true true true false w x h = (refl, refl)
last_of true true true false e w x h = absurd cc
last_of true true false d e w x h = absurd cc
last_of true false c d e w x h = absurd cc
last_of false b c d e w x h = absurd cc

text_apart : (ms : List Modifier) → is_text_chain ms ≡ true → Apart ms
text_apart ms h =
    last_of (list_all is_text_word ms) (list_all (λ is_kind. at_most_one is_kind ms) text_kinds) (units_lead ms) (encodings_lead ms)
    (list_any is_encoding ms) (list_any is_windash ms) (list_any is_expand ms) h

-- a chain that begins with a modifier which is no encoding, and goes on with `all` at most, has no encoding
tail_apart : (ms : List Modifier) → is_all_or_none ms ≡ true → list_any is_encoding ms ≡ false
tail_apart [] h = refl
tail_apart (All ∷ []) h = refl
tail_apart (All ∷ m ∷ ms) h = absurd cc
tail_apart (Position p ∷ ms) h = absurd cc
tail_apart (Cased ∷ ms) h = absurd cc
tail_apart (Windash ∷ ms) h = absurd cc
tail_apart (Expand ∷ ms) h = absurd cc
tail_apart (Units form ∷ ms) h = absurd cc
tail_apart (Encoding e ∷ ms) h = absurd cc
tail_apart (Exists ∷ ms) h = absurd cc
tail_apart (Cidr ∷ ms) h = absurd cc
tail_apart (Order op ∷ ms) h = absurd cc
tail_apart (Fieldref ∷ ms) h = absurd cc
tail_apart (Re ∷ ms) h = absurd cc
tail_apart (Flag flag ∷ ms) h = absurd cc

empty_apart : (ms : List Modifier) → is_empty ms ≡ true → list_any is_encoding ms ≡ false
empty_apart [] h = refl
empty_apart (m ∷ ms) h = absurd cc

presence_alone : (m : Modifier) → is_exists m ≡ true → is_encoding m ≡ false
presence_alone Exists h = refl
presence_alone (Position p) h = refl
presence_alone All h = refl
presence_alone Cased h = refl
presence_alone Windash h = refl
presence_alone Expand h = refl
presence_alone (Units form) h = refl
presence_alone (Encoding e) h = absurd cc
presence_alone Cidr h = refl
presence_alone (Order op) h = refl
presence_alone Fieldref h = refl
presence_alone Re h = refl
presence_alone (Flag flag) h = refl

network_alone : (m : Modifier) → is_cidr m ≡ true → is_encoding m ≡ false
network_alone Cidr h = refl
network_alone (Position p) h = refl
network_alone All h = refl
network_alone Cased h = refl
network_alone Windash h = refl
network_alone Expand h = refl
network_alone (Units form) h = refl
network_alone (Encoding e) h = absurd cc
network_alone Exists h = refl
network_alone (Order op) h = refl
network_alone Fieldref h = refl
network_alone Re h = refl
network_alone (Flag flag) h = refl

order_alone : (m : Modifier) → is_some (order_in m) ≡ true → is_encoding m ≡ false
order_alone (Order op) h = refl
order_alone (Position p) h = refl
order_alone All h = refl
order_alone Cased h = refl
order_alone Windash h = refl
order_alone Expand h = refl
order_alone (Units form) h = refl
order_alone (Encoding e) h = absurd cc
order_alone Exists h = refl
order_alone Cidr h = refl
order_alone Fieldref h = refl
order_alone Re h = refl
order_alone (Flag flag) h = refl

reference_alone : (m : Modifier) → is_fieldref m ≡ true → is_encoding m ≡ false
reference_alone Fieldref h = refl
reference_alone (Position p) h = refl
reference_alone All h = refl
reference_alone Cased h = refl
reference_alone Windash h = refl
reference_alone Expand h = refl
reference_alone (Units form) h = refl
reference_alone (Encoding e) h = absurd cc
reference_alone Exists h = refl
reference_alone Cidr h = refl
reference_alone (Order op) h = refl
reference_alone Re h = refl
reference_alone (Flag flag) h = refl

expression_alone : (m : Modifier) → is_re m ≡ true → is_encoding m ≡ false
expression_alone Re h = refl
expression_alone (Position p) h = refl
expression_alone All h = refl
expression_alone Cased h = refl
expression_alone Windash h = refl
expression_alone Expand h = refl
expression_alone (Units form) h = refl
expression_alone (Encoding e) h = absurd cc
expression_alone Exists h = refl
expression_alone Cidr h = refl
expression_alone (Order op) h = refl
expression_alone Fieldref h = refl
expression_alone (Flag flag) h = refl

-- what stands behind `re` is no encoding
word_alone : (m : Modifier) → is_expression_word m ≡ true → is_encoding m ≡ false
word_alone (Flag flag) h = refl
word_alone (Position p) h = refl
word_alone All h = refl
word_alone Cased h = refl
word_alone Windash h = refl
word_alone Expand h = refl
word_alone (Units form) h = refl
word_alone (Encoding e) h = absurd cc
word_alone Exists h = refl
word_alone Cidr h = refl
word_alone (Order op) h = refl
word_alone Fieldref h = refl
word_alone Re h = refl

no_encoding_in : (m : Modifier) (ms : List Modifier) → is_encoding m ≡ false → list_any is_encoding ms ≡ false → list_any is_encoding (m ∷ ms) ≡ false
no_encoding_in m ms first rest = rw (first, rest) refl

presence_apart : (ms : List Modifier) → is_presence ms ≡ true → list_any is_encoding ms ≡ false
presence_apart [] h = refl
presence_apart (m ∷ ms) h =
    let both = and_parts (is_exists m) (is_empty ms) h in no_encoding_in m ms (presence_alone m both.0) (empty_apart ms both.1)

network_apart : (ms : List Modifier) → is_network_chain ms ≡ true → list_any is_encoding ms ≡ false
network_apart [] h = refl
network_apart (m ∷ ms) h =
    let both = and_parts (is_cidr m) (is_all_or_none ms) h in no_encoding_in m ms (network_alone m both.0) (tail_apart ms both.1)

order_apart : (ms : List Modifier) → is_order_chain ms ≡ true → list_any is_encoding ms ≡ false
order_apart [] h = refl
order_apart (m ∷ ms) h = by (is_all_or_none ms) refl h
  where
    by : (b : Bool) → is_all_or_none ms ≡ b → is_some (if b then order_in m else None) ≡ true → list_any is_encoding (m ∷ ms) ≡ false
    by true is some = no_encoding_in m ms (order_alone m some) (tail_apart ms is)
    by false is some = absurd cc

reference_apart : (ms : List Modifier) → is_reference ms ≡ true → list_any is_encoding ms ≡ false
reference_apart [] h = refl
reference_apart (m ∷ ms) h =
    let both = and_parts (is_fieldref m) (is_empty ms) h in no_encoding_in m ms (reference_alone m both.0) (empty_apart ms both.1)

words_apart : (ms : List Modifier) → list_all is_expression_word ms ≡ true → list_any is_encoding ms ≡ false
words_apart [] h = refl
words_apart (m ∷ ms) h =
    let both = and_parts (is_expression_word m) (list_all is_expression_word ms) h in no_encoding_in m ms (word_alone m both.0) (words_apart ms both.1)

first_two : (a b c : Bool) → (a && b && c) ≡ true → (a ≡ true) × (b ≡ true)
first_two true true c h = (refl, refl)
first_two true false c h = absurd cc
first_two false b c h = absurd cc

expression_apart : (ms : List Modifier) → is_expression_chain ms ≡ true → list_any is_encoding ms ≡ false
expression_apart [] h = refl
expression_apart (m ∷ ms) h =
    let both = first_two (is_re m) (list_all is_expression_word ms) (list_all (λ is_kind. at_most_one is_kind ms) expression_kinds) h in
    no_encoding_in m ms (expression_alone m both.0) (words_apart ms both.1)

without : (ms : List Modifier) → list_any is_encoding ms ≡ false → Apart ms
without ms h = (ap (λ e. e && list_any is_windash ms) h, ap (λ e. e && list_any is_expand ms) h)

by_kind : (ms : List Modifier) (empty presence network order reference expression text : Bool) → is_empty ms ≡ empty → is_presence ms ≡ presence
    → is_network_chain ms ≡ network → is_order_chain ms ≡ order → is_reference ms ≡ reference → is_expression_chain ms ≡ expression
    → is_text_chain ms ≡ text → (empty || presence || network || order || reference || expression || text) ≡ true
    → Apart ms
by_kind ms true presence network order reference expression text e p n o r x t h =
    without ms (empty_apart ms e)
by_kind ms false true network order reference expression text e p n o r x t h =
    without ms (presence_apart ms p)
by_kind ms false false true order reference expression text e p n o r x t h =
    without ms (network_apart ms n)
by_kind ms false false false true reference expression text e p n o r x t h =
    without ms (order_apart ms o)
by_kind ms false false false false true expression text e p n o r x t h =
    without ms (reference_apart ms r)
by_kind ms false false false false false true text e p n o r x t h =
    without ms (expression_apart ms x)
by_kind ms false false false false false false text e p n o r x t h = text_apart ms (t ∙ h)

-- what keywords take fields take too
wider : (empty presence network order reference expression text : Bool) → (empty || expression || text) ≡ true
    → (empty || presence || network || order || reference || expression || text) ≡ true
wider true presence network order reference expression text h = refl
wider false true network order reference expression text h = refl
wider false false true order reference expression text h = refl
wider false false false true reference expression text h = refl
wider false false false false true expression text h = refl
wider false false false false false expression text h = h

field_apart : (ms : List Modifier) → is_chain false ms ≡ true → Apart ms
field_apart ms h =
    by_kind ms (is_empty ms) (is_presence ms) (is_network_chain ms) (is_order_chain ms) (is_reference ms) (is_expression_chain ms) (is_text_chain ms)
    refl refl refl refl refl refl refl h

pub alone : (keyword : Bool) (ms : List Modifier) → is_chain keyword ms ≡ true → Apart ms
alone true ms h =
    field_apart ms
    (wider (is_empty ms) (is_presence ms) (is_network_chain ms) (is_order_chain ms) (is_reference ms) (is_expression_chain ms) (is_text_chain ms) h)
alone false ms h = field_apart ms h
