-- What fields take of a value whose texts are UTF-8 is of their kinds, so the event that a line is is one of its schema.
use Rattle.std.proofs.Common.{◌≡◌, ℕ, ℤ, pos, negsuc, Bool, true, false, ◌≤◌, List, [], ◌∷◌, ◌++◌, length, Option, Some, None, Result, Ok, Err, IsUtf8, refl, sym, ◌∙◌, subst, arith, nat_lt, if◌then◌else◌}
use Rattle.std.specs.Prelude.{⊤, ◌^◌, ◌-◌, option_and_then, encode_utf8_all, is_some}
use Rattle.std.specs.declared.cmp.Ordering.{Ordering}
use Rattle.std.specs.declared.cmp.Ordering.TheVariants as orders
use Rattle.std.specs.Cmp.Lexicographic.{slice_cmp}
use Rattle.std.specs.Fmt.{signed_decimal}
use Rattle.std.specs.List.{list_all}
use Rattle.std.specs.Ordering.{nat_cmp, match_ordering}
use Rattle.std.specs.Str.{chars, is_utf8}
use Rattle.std.specs.Str.Parse.{signed_digits_value}
use Rattle.std.proofs.lemmas.Int.{ints}
use Rattle.std.proofs.lemmas.Bool.{ltb-true}
use Rattle.std.proofs.lemmas.Str.{scalars-chars, IsUtf8-from_is_utf8}
use Rattle.event_read.proofs.PlainTexts.{decimal_plain}
use Rattle.event_read.proofs.QuadLemmas.{address_is}
use Rattle.event_read.specs.EventOf.{Row, take_if_any, field_of, row_step, row_of, values_of, with_moment, event_read, event_of}
use Rattle.event_read.specs.Moments.{moment_of}
use Rattle.event_read.specs.Paths.{found}
use Rattle.event_read.specs.Quads.{is_address}
use Rattle.event_read.specs.Takes.{Taking, Takings, is_whole, is_decimal, as_text, as_whole, as_digits, whole_of_text, address_of_text, take_single, alone, joined, take_each, take_many, take_values}
use Rattle.event_schema.specs.Events.{IsWholeNumber, IsOfKind, AreValuesOf, IsEvent}
use Rattle.event_schema.specs.Lists.{EachOf}
use Rattle.event_schema.specs.Occurrence.{Occurrence}
use Rattle.event_schema.specs.declared.schema.Field.{Field}
use Rattle.event_schema.specs.declared.schema.FieldKind.{FieldKind}
use Rattle.event_schema.specs.declared.schema.FieldKind.TheVariants as kinds
use Rattle.event_schema.specs.declared.schema.Schema.{Schema}
use Rattle.event_schema.specs.declared.value.Value.TheVariants as values
use Rattle.serde_json.specs.Data.{unsigned, negative, float, Data, null, boolean, number, string, array, object, Items, no_items, item, Members, no_members, member}
use Rattle.serde_json.specs.Find.{get, get_member, as_object}
use Rattle.serde_json.specs.Read.{read}
use Rattle.event_read.proofs.Lexed.{DataTexts, ItemTexts, MemberTexts, IfAny, read_texts}

-- ---- one value

-- what is taken, if something is, is of this kind
abbrev IfTaken : FieldKind → Taking → Type 0
IfTaken kind (Ok None) = ⊤
IfTaken kind (Ok (Some v)) = IsOfKind kind v
IfTaken kind (Err code) = ⊤

plain_text : (text : List ℕ) → IsUtf8 text → IfTaken kinds.Text (as_text (chars text))
plain_text text utf8 = by (list_all (λ c. nat_lt 0 c) (chars text)) refl where
  by : (b : Bool) → list_all (λ c. nat_lt 0 c) (chars text) ≡ b → IfTaken kinds.Text (if b then Ok (Some (values.Text (chars text))) else Err 28)
  by true e = (scalars-chars text utf8, e)
  by false e = tt

address_text : (text : List ℕ) → IsUtf8 text → IfTaken kinds.Address (address_of_text text)
address_text text utf8 = by (is_address text) refl where
  of : is_address text ≡ true → (t : Taking) → as_text (chars text) ≡ t → IfTaken kinds.Text t → IfTaken kinds.Address t
  of is t same h = within (list_all (λ c. nat_lt 0 c) (chars text)) t same h where
    within : (b : Bool) (t : Taking) → (if b then Ok (Some (values.Text (chars text))) else Err 28) ≡ t → IfTaken kinds.Text t → IfTaken kinds.Address t
    within true t same h = subst (λ (s : Taking). IfTaken kinds.Address s) same (subst (λ (s : Taking). IfTaken kinds.Text s) (sym same) h, address_is text utf8 is)
    within false t same h = subst (λ (s : Taking). IfTaken kinds.Address s) same tt

  by : (b : Bool) → is_address text ≡ b → IfTaken kinds.Address (if b then as_text (chars text) else Err 26)
  by true is = of is (as_text (chars text)) refl (plain_text text utf8)
  by false is = tt

whole_number : (z : ℤ) → is_whole z ≡ true → IsWholeNumber z
whole_number (pos n) e = let small = ltb-true n (2 ^ 63) e in (omega (arith, ints, small), omega (arith, ints, small))
whole_number (negsuc n) e = let small = ltb-true n (2 ^ 63 - 1) e in (omega (arith, ints, small), omega (arith, ints, small))

wholes : (z : ℤ) → IfTaken kinds.Whole (as_whole z)
wholes z = by (is_whole z) refl where
  by : (b : Bool) → is_whole z ≡ b → IfTaken kinds.Whole (if b then Ok (Some (values.Whole z)) else Err 27)
  by true e = whole_number z e
  by false e = tt

digits : (z : ℤ) → IfTaken kinds.Text (as_digits z)
digits z = by (is_whole z) refl where
  by : (b : Bool) → is_whole z ≡ b → IfTaken kinds.Text (if b then Ok (Some (values.Text (signed_decimal z))) else Err 27)
  by true e = decimal_plain z e
  by false e = tt

whole_text : (text : List ℕ) → IfTaken kinds.Whole (whole_of_text text)
whole_text text = by (is_decimal text) where
  by : (b : Bool) → IfTaken kinds.Whole (if b then as_whole (signed_digits_value 10 text) else Err 26)
  by true = wholes (signed_digits_value 10 text)
  by false = tt

single : (kind : FieldKind) (d : Data) → DataTexts d → IfTaken kind (take_single kind d)
single kinds.Text null h = tt
single kinds.Text (boolean true) h = (refl, refl)
single kinds.Text (boolean false) h = (refl, refl)
single kinds.Text (number (unsigned n)) h = digits (pos n)
single kinds.Text (number (negative z)) h = digits z
single kinds.Text (number (float x)) h = tt
single kinds.Text (string s) h = plain_text s h
single kinds.Text (array ds) h = tt
single kinds.Text (object ms) h = tt
single kinds.Whole null h = tt
single kinds.Whole (boolean b) h = tt
single kinds.Whole (number (unsigned n)) h = wholes (pos n)
single kinds.Whole (number (negative z)) h = wholes z
single kinds.Whole (number (float x)) h = tt
single kinds.Whole (string s) h = whole_text s
single kinds.Whole (array ds) h = tt
single kinds.Whole (object ms) h = tt
single kinds.Address null h = tt
single kinds.Address (boolean b) h = tt
single kinds.Address (number n) h = tt
single kinds.Address (string s) h = address_text s h
single kinds.Address (array ds) h = tt
single kinds.Address (object ms) h = tt

-- ---- lists of values

abbrev AllTaken : FieldKind → Takings → Type 0
AllTaken kind (Ok vs) = EachOf (IsOfKind kind) vs
AllTaken kind (Err code) = ⊤

abbrev OneTaken : FieldKind → Takings → Type 0
OneTaken kind (Ok vs) = EachOf (IsOfKind kind) vs × (length vs ≤ 1)
OneTaken kind (Err code) = ⊤

lone : (kind : FieldKind) (t : Taking) → IfTaken kind t → OneTaken kind (alone t)
lone kind (Ok None) h = (tt, omega arith)
lone kind (Ok (Some v)) h = ((h, tt), omega arith)
lone kind (Err code) h = tt

as_all : (kind : FieldKind) (t : Takings) → OneTaken kind t → AllTaken kind t
as_all kind (Ok vs) h = h.0
as_all kind (Err code) h = tt

each_both : {A : Type 0} (P : A → Type 0) (xs ys : List A) → EachOf P xs → EachOf P ys → EachOf P (xs ++ ys)
each_both P [] ys h k = k
each_both P (x ∷ xs) ys h k = (h.0, each_both P xs ys h.1 k)

both : (kind : FieldKind) (t u : Takings) → AllTaken kind t → AllTaken kind u → AllTaken kind (joined t u)
both kind (Ok vs) (Ok ws) h k = each_both (IsOfKind kind) vs ws h k
both kind (Ok vs) (Err code) h k = tt
both kind (Err code) u h k = tt

each_taken : (kind : FieldKind) (ds : Items) → ItemTexts ds → AllTaken kind (take_each kind ds)
each_taken kind no_items h = tt
each_taken kind (item d ds) h =
    both kind (alone (take_single kind d)) (take_each kind ds) (as_all kind (alone (take_single kind d)) (lone kind (take_single kind d) (single kind d h.0))) (each_taken kind ds h.1)

alone_taken : (kind : FieldKind) (d : Data) → DataTexts d → OneTaken kind (alone (take_single kind d))
alone_taken kind d h = lone kind (take_single kind d) (single kind d h)

many_taken : (kind : FieldKind) (d : Data) → DataTexts d → AllTaken kind (take_many kind d)
many_taken kind null h = as_all kind (alone (take_single kind null)) (alone_taken kind null h)
many_taken kind (boolean b) h = as_all kind (alone (take_single kind (boolean b))) (alone_taken kind (boolean b) h)
many_taken kind (number n) h = as_all kind (alone (take_single kind (number n))) (alone_taken kind (number n) h)
many_taken kind (string s) h = as_all kind (alone (take_single kind (string s))) (alone_taken kind (string s) h)
many_taken kind (array ds) h = each_taken kind ds h
many_taken kind (object ms) h = as_all kind (alone (take_single kind (object ms))) (alone_taken kind (object ms) h)

-- ---- fields

abbrev IfValues : Field → Takings → Type 0
IfValues field (Ok vs) = AreValuesOf field vs
IfValues field (Err code) = ⊤

not_false : true ≡ false → ⊥
not_false h = cc

values_taken : (field : Field) (d : Data) → DataTexts d → IfValues field (take_values field.kind field.many d)
values_taken field d h = by field.many refl where
  several : (t : Takings) → field.many ≡ true → AllTaken field.kind t → IfValues field t
  several (Ok vs) is all = record { kinds = all; few = λ no. absurd (not_false (sym is ∙ no)) }
  several (Err code) is all = tt

  at_most_one : (t : Takings) → OneTaken field.kind t → IfValues field t
  at_most_one (Ok vs) all = record { kinds = all.0; few = λ no. all.1 }
  at_most_one (Err code) all = tt

  by : (b : Bool) → field.many ≡ b → IfValues field (take_values field.kind b d)
  by true is = several (take_many field.kind d) is (many_taken field.kind d h)
  by false is = at_most_one (alone (take_single field.kind d)) (alone_taken field.kind d h)

-- the value that a path leads to
member_texts : (k : List ℕ) (ms : Members) → MemberTexts ms → IfAny DataTexts (get_member k ms)
member_texts k no_members h = tt
member_texts k (member l e ms) h = by (slice_cmp nat_cmp k l) (member_texts k ms h.1) where
  by : (o : Ordering) → IfAny DataTexts (get_member k ms) → IfAny DataTexts (match_ordering o (get_member k ms) (Some e) (get_member k ms))
  by orders.Less later = later
  by orders.Equal later = h.0
  by orders.Greater later = later

get_texts : (k : List ℕ) (d : Data) → DataTexts d → IfAny DataTexts (get k d)
get_texts k null h = tt
get_texts k (boolean b) h = tt
get_texts k (number n) h = tt
get_texts k (string s) h = tt
get_texts k (array ds) h = tt
get_texts k (object ms) h = member_texts k ms h

found_texts : (keys : List (List ℕ)) (d : Data) → DataTexts d → IfAny DataTexts (found keys d)
found_texts [] d h = h
found_texts (key ∷ keys) d h = by (get (encode_utf8_all key) d) (get_texts (encode_utf8_all key) d h) (λ e is. found_texts keys e is) where
  by : (o : Option Data) → IfAny DataTexts o → ((e : Data) → DataTexts e → IfAny DataTexts (found keys e)) → IfAny DataTexts (option_and_then (found keys) o)
  by None is more = tt
  by (Some e) is more = more e is

field_taken : (field : Field) (d : Data) → DataTexts d → IfValues field (field_of field d)
field_taken field d h = by (found field.at d) (found_texts field.at d h) where
  by : (o : Option Data) → IfAny DataTexts o → IfValues field (take_if_any field.kind field.many o)
  by None is = record { kinds = tt; few = λ no. omega arith }
  by (Some e) is = values_taken field e is

-- ---- rows

abbrev IfRow : List Field → Row → Type 0
IfRow fields (Ok row) = IsEvent fields row
IfRow fields (Err code) = ⊤

step_kept : (field : Field) (fields : List Field) (t : Takings) (rest : Row) → IfValues field t → IfRow fields rest → IfRow (field ∷ fields) (row_step t rest)
step_kept field fields (Ok vs) (Ok row) h k = (h, k)
step_kept field fields (Ok vs) (Err code) h k = tt
step_kept field fields (Err code) rest h k = tt

row_kept : (fields : List Field) (d : Data) → DataTexts d → IfRow fields (row_of fields d)
row_kept [] d h = tt
row_kept (field ∷ fields) d h = step_kept field fields (field_of field d) (row_of fields d) (field_taken field d h) (row_kept fields d h)

values_kept : (fields : List Field) (d : Data) → DataTexts d → IfRow fields (values_of fields d)
values_kept fields d h = by (is_some (as_object d)) where
  by : (b : Bool) → IfRow fields (if b then row_of fields d else Err 25)
  by true = row_kept fields d h
  by false = tt

-- ---- lines

abbrev IfEvent : List Field → Result Occurrence ℕ → Type 0
IfEvent fields (Ok event) = IsEvent fields event.values
IfEvent fields (Err code) = ⊤

with_kept : (fields : List Field) (moment : Option ℤ) (row : Row) → IfRow fields row → IfEvent fields (with_moment moment row)
with_kept fields moment (Ok row) h = h
with_kept fields moment (Err code) h = tt

line_kept : (schema : Schema) (line : List ℕ) → IfEvent schema.fields (event_of schema line)
line_kept schema line = by (is_utf8 line) refl where
  of : (o : Option Data) → IfAny DataTexts o → IfEvent schema.fields (event_read schema o)
  of None h = tt
  of (Some d) h = with_kept schema.fields (moment_of schema.time d) (values_of schema.fields d) (values_kept schema.fields d h)

  by : (b : Bool) → is_utf8 line ≡ b → IfEvent schema.fields (event_read schema (if b then read line else None))
  by true utf8 = of (read line) (read_texts line (IsUtf8-from_is_utf8 line utf8))
  by false utf8 = tt

pub events_kept : (schema : Schema) (line : List ℕ) (event : Occurrence) → event_of schema line ≡ Ok event → IsEvent schema.fields event.values
events_kept schema line event is = subst (IfEvent schema.fields) is (line_kept schema line)
