-- The texts in the JSON value that UTF-8 is are UTF-8.
use Rattle.std.proofs.Common.{◌≡◌, ℕ, ◌-◌, zero, suc, Bool, true, false, cond, ◌&&◌, ◌==◌, List, [], ◌∷◌, ◌++◌, length, take, drop, Option, Some, None, option_map, option_and_then, IsUtf8, refl, sym, subst, arith, append_assoc}
use Rattle.std.specs.Prelude.{⊤, nat_eq}
use Rattle.std.specs.List.{starts_with}
use Rattle.std.specs.declared.cmp.Ordering.{Ordering}
use Rattle.std.specs.declared.cmp.Ordering.TheVariants as orders
use Rattle.std.specs.Cmp.Lexicographic.{slice_cmp}
use Rattle.std.specs.Ordering.{nat_cmp, match_ordering}
use Rattle.std.proofs.lemmas.Bool.{eqb-true}
use Rattle.json.specs.Ascii as ascii
use Rattle.json.specs.Json as json
use Rattle.json.specs.Json.{Json, Parse, parse_map, after_end_array, read_key, items_step, members_step, items, members, value_with, value, if_last}
use Rattle.json.specs.Lex.{Lexeme, token, comma, colon, Class, quote, backslash, operator, space, other, class, operator_lexeme, string_token, Mode, between, in_word, in_string, in_escape, lex_byte, lex}
use Rattle.json.specs.Lex.{Place, fresh, after_value, after_comma, after_key, begins_colon, may_begin, may_close, if_allowed, place_token, punctuate, tokens}
use Rattle.json.specs.Text.{content, plain}
use Rattle.json.specs.Token.{Token, begin_object, end_object, begin_array, end_array, key, string, number, boolean, null, bad}
use Rattle.json.specs.Word.{head, ends_word, after_number, number_before, literal, word, is_operator, is_space}
use Rattle.serde_json.specs.Data as tree
use Rattle.serde_json.specs.Data.{Data, Items, no_items, item, Members, no_members, member, put}
use Rattle.serde_json.specs.Read.{number_of, of_json, of_items, of_members, max_depth, read}
use Rattle.event_read.proofs.Quoted.{ascii_apart, Ends, content_utf8}

-- ---- tokens

-- a string's text is UTF-8 (a key's is left out: no field takes it)
abbrev IsText : Token → Type 0
IsText begin_object = ⊤
IsText end_object = ⊤
IsText begin_array = ⊤
IsText end_array = ⊤
IsText (key s) = ⊤
IsText (string s) = IsUtf8 s
IsText (number s) = ⊤
IsText (boolean b) = ⊤
IsText null = ⊤
IsText bad = ⊤

abbrev AreTexts : List Token → Type 0
AreTexts [] = ⊤
AreTexts (t ∷ ts) = IsText t × AreTexts ts

abbrev IsLexeme : Lexeme → Type 0
IsLexeme (token t) = IsText t
IsLexeme comma = ⊤
IsLexeme colon = ⊤

abbrev AreLexemes : List Lexeme → Type 0
AreLexemes [] = ⊤
AreLexemes (l ∷ ls) = IsLexeme l × AreLexemes ls

mark : (b : Bool) (x y : Lexeme) → IsLexeme x → IsLexeme y → IsLexeme (cond b x y)
mark true x y p q = p
mark false x y p q = q

marks : (x : ℕ) → IsLexeme (operator_lexeme x)
marks x =
    mark (x == 123) (token begin_object) _ tt (mark (x == 125) (token end_object) _ tt (mark (x == 91) (token begin_array) _ tt (mark (x == 93) (token end_array) _ tt (mark (x == 44) comma colon tt tt))))

one : (b : Bool) (t u : Token) → IsText t → IsText u → IsText (cond b t u)
one true t u p q = p
one false t u p q = q

number_text : (xs : List ℕ) (o : Option (List ℕ)) → IsText (number_before xs o)
number_text xs None = tt
number_text xs (Some rest) = one (ends_word rest) (number (take (length xs - length rest) xs)) bad tt tt

literal_text : (name : List ℕ) (t : Token) (xs : List ℕ) → IsText t → IsText (literal name t xs)
literal_text name t xs h = one (starts_with nat_eq xs name && ends_word (drop (length name) xs)) t bad h tt

word_text : (xs : List ℕ) → IsText (word xs)
unfolding word
word_text xs =
    one (head xs == 116) (literal ascii.true_text (boolean true) xs) _ (literal_text ascii.true_text (boolean true) xs tt)
    (one (head xs == 102) (literal ascii.false_text (boolean false) xs) _ (literal_text ascii.false_text (boolean false) xs tt)
    (one (head xs == 110) (literal ascii.null_text null xs) _ (literal_text ascii.null_text null xs tt) (number_text xs (after_number xs))))

string_text : (o : Option (List ℕ)) → Ends [] o → IsText (string_token o)
string_text None h = tt
string_text (Some s) h = h

byte : (m : Mode) (c : Class) (x : ℕ) (xs : List ℕ) (k : Mode → List Lexeme) → (c ≡ quote → IsUtf8 xs) → ((n : Mode) → AreLexemes (k n)) → AreLexemes (lex_byte m c x xs k)
byte between quote x xs k utf8 h = (string_text (content plain xs) (content_utf8 xs (utf8 refl)), h in_string)
byte between backslash x xs k utf8 h = (tt, h in_word)
byte between operator x xs k utf8 h = (marks x, h between)
byte between space x xs k utf8 h = h between
byte between other x xs k utf8 h = (word_text (x ∷ xs), h in_word)
byte in_word quote x xs k utf8 h = h in_word
byte in_word backslash x xs k utf8 h = h in_word
byte in_word operator x xs k utf8 h = (marks x, h between)
byte in_word space x xs k utf8 h = h between
byte in_word other x xs k utf8 h = h in_word
byte in_string quote x xs k utf8 h = h between
byte in_string backslash x xs k utf8 h = h in_escape
byte in_string operator x xs k utf8 h = h in_string
byte in_string space x xs k utf8 h = h in_string
byte in_string other x xs k utf8 h = h in_string
byte in_escape c x xs k utf8 h = h in_string

is_quote : (x : ℕ) → class x ≡ quote → x ≡ 34
is_quote x e = by (x == 34) refl (x == 92) (is_operator x) (is_space x) e where
  by : (q : Bool) → (x == 34) ≡ q → (b o s : Bool) → cond q quote (cond b backslash (cond o operator (cond s space other))) ≡ quote → x ≡ 34
  by true is b o s h = eqb-true x 34 is
  by false is true o s h = absurd cc
  by false is false true s h = absurd cc
  by false is false false true h = absurd cc
  by false is false false false h = absurd cc

lexemes : (front xs : List ℕ) (m : Mode) → IsUtf8 (front ++ xs) → AreLexemes (lex m xs)
unfolding lex
lexemes front [] m utf8 = tt
lexemes front (x ∷ xs) m utf8 =
    byte m (class x) x xs (λ n. lex n xs) (λ e. (ascii_apart front xs x (let same = is_quote x e in omega (arith, same)) utf8).1)
    (λ n. lexemes (front ++ x ∷ []) xs n (subst IsUtf8 (sym (append_assoc front (x ∷ []) xs)) utf8))

allowed : (b : Bool) (t : Token) (k : Place → List Token) (next : Place) → IsText t → AreTexts (k next) → AreTexts (if_allowed b t k next)
allowed true t k next p q = (p, q)
allowed false t k next p q = (tt, tt)

placed : (p : Place) (t : Token) (b : Bool) (k : Place → List Token) → IsText t → ((n : Place) → AreTexts (k n)) → AreTexts (place_token p t b k)
placed p begin_object b k q h = allowed (may_begin p) begin_object k fresh q (h fresh)
placed p end_object b k q h = allowed (may_close p) end_object k after_value q (h after_value)
placed p begin_array b k q h = allowed (may_begin p) begin_array k fresh q (h fresh)
placed p end_array b k q h = allowed (may_close p) end_array k after_value q (h after_value)
placed p (key s) b k q h = (tt, tt)
placed p (string s) true k q h = allowed (may_begin p) (key s) k after_key tt (h after_key)
placed p (string s) false k q h = allowed (may_begin p) (string s) k after_value q (h after_value)
placed p (number s) b k q h = allowed (may_begin p) (number s) k after_value q (h after_value)
placed p (boolean v) b k q h = allowed (may_begin p) (boolean v) k after_value q (h after_value)
placed p null b k q h = allowed (may_begin p) null k after_value q (h after_value)
placed p bad b k q h = (tt, tt)

punctuated : (ls : List Lexeme) → AreLexemes ls → (p : Place) → AreTexts (punctuate p ls)
unfolding punctuate
punctuated [] h fresh = tt
punctuated [] h after_value = tt
punctuated [] h after_comma = (tt, tt)
punctuated [] h after_key = (tt, tt)
punctuated (token t ∷ ls) h p = placed p t (begins_colon ls) (λ n. punctuate n ls) h.0 (punctuated ls h.1)
punctuated (comma ∷ ls) h fresh = (tt, tt)
punctuated (comma ∷ ls) h after_value = punctuated ls h.1 after_comma
punctuated (comma ∷ ls) h after_comma = (tt, tt)
punctuated (comma ∷ ls) h after_key = (tt, tt)
punctuated (colon ∷ ls) h fresh = (tt, tt)
punctuated (colon ∷ ls) h after_value = (tt, tt)
punctuated (colon ∷ ls) h after_comma = (tt, tt)
punctuated (colon ∷ ls) h after_key = punctuated ls h.1 fresh

-- ---- values of the grammar

abbrev mutual
  JsonTexts : Json → Type 0
  JsonTexts json.null = ⊤
  JsonTexts (json.boolean b) = ⊤
  JsonTexts (json.number s) = ⊤
  JsonTexts (json.string s) = IsUtf8 s
  JsonTexts (json.array js) = JsonItems js
  JsonTexts (json.object ms) = JsonMembers ms

  JsonItems : json.Items → Type 0
  JsonItems json.no_items = ⊤
  JsonItems (json.item j js) = JsonTexts j × JsonItems js

  JsonMembers : json.Members → Type 0
  JsonMembers json.no_members = ⊤
  JsonMembers (json.member k j ms) = JsonTexts j × JsonMembers ms

abbrev Gives : {A : Type 0} → (A → Type 0) → Option (A × List Token) → Type 0
Gives Q None = ⊤
Gives Q (Some p) = Q p.0 × AreTexts p.1

abbrev Keeps : {A : Type 0} → (A → Type 0) → Parse A → Type 0
Keeps Q p = (ts : List Token) → AreTexts ts → Gives Q (p ts)

mapped : {A B : Type 0} (P : A → Type 0) (Q : B → Type 0) (f : A → B) → ((a : A) → P a → Q (f a)) → (o : Option (A × List Token)) → Gives P o → Gives Q (parse_map f o)
mapped P Q f g None h = tt
mapped P Q f g (Some p) h = (g p.0 h.0, h.1)

and_more : {B : Type 0} (Q : B → Type 0) (f : Json → B → B) → ((j : Json) (b : B) → JsonTexts j → Q b → Q (f j b)) → (more : Parse B) → Keeps Q more
    → (o : Option (Json × List Token)) → Gives JsonTexts o → Gives Q (option_and_then (λ q. parse_map (f q.0) (more q.1)) o)
and_more Q f g more keeps None h = tt
and_more Q f g more keeps (Some q) h = mapped Q Q (f q.0) (λ b. g q.0 b h.0) _ (keeps q.1 h.1)

abbrev Rest : Option (List Token) → Type 0
Rest None = ⊤
Rest (Some r) = AreTexts r

closing : (ts : List Token) → AreTexts ts → Rest (after_end_array ts)
closing [] h = tt
closing (begin_object ∷ ts) h = tt
closing (end_object ∷ ts) h = tt
closing (begin_array ∷ ts) h = tt
closing (end_array ∷ ts) h = h.1
closing (key s ∷ ts) h = tt
closing (string s ∷ ts) h = tt
closing (number s ∷ ts) h = tt
closing (boolean v ∷ ts) h = tt
closing (null ∷ ts) h = tt
closing (bad ∷ ts) h = tt

naming : Keeps (λ (k : Option (List ℕ)). ⊤) read_key
naming [] h = tt
naming (begin_object ∷ ts) h = tt
naming (end_object ∷ ts) h = (tt, h.1)
naming (begin_array ∷ ts) h = tt
naming (end_array ∷ ts) h = tt
naming (key s ∷ ts) h = (tt, h.1)
naming (string s ∷ ts) h = tt
naming (number s ∷ ts) h = tt
naming (boolean v ∷ ts) h = tt
naming (null ∷ ts) h = tt
naming (bad ∷ ts) h = tt

module _ (p : Parse Json) (keeps : Keeps JsonTexts p) where
  item_turn : (more : Parse json.Items) → Keeps JsonItems more → (ts : List Token) → AreTexts ts → (o : Option (List Token)) → Rest o → Gives JsonItems (items_step p more ts o)
  item_turn more again ts h (Some r) q = (tt, q)
  item_turn more again ts h None q = and_more JsonItems json.item (λ j b x y. (x, y)) more again (p ts) (keeps ts h)

  keeps_items : (n : ℕ) → Keeps JsonItems (items p n)
  unfolding items
  keeps_items zero ts h = tt
  keeps_items (suc n) ts h = item_turn (items p n) (keeps_items n) ts h (after_end_array ts) (closing ts h)

  member_turn : (more : Parse json.Members) → Keeps JsonMembers more → (o : Option (Option (List ℕ) × List Token)) → Gives (λ (k : Option (List ℕ)). ⊤) o
      → Gives JsonMembers (option_and_then (λ q. members_step p more q.0 q.1) o)
  member_turn more again None h = tt
  member_turn more again (Some (None, s)) h = (tt, h.1)
  member_turn more again (Some (Some k, s)) h = and_more JsonMembers (json.member k) (λ j b x y. (x, y)) more again (p s) (keeps s h.1)

  keeps_members : (n : ℕ) → Keeps JsonMembers (members p n)
  unfolding members
  keeps_members zero ts h = tt
  keeps_members (suc n) ts h = member_turn (members p n) (keeps_members n) (read_key ts) (naming ts h)

keeps_with : (a : Parse json.Items) (o : Parse json.Members) → Keeps JsonItems a → Keeps JsonMembers o → Keeps JsonTexts (value_with a o)
keeps_with a o p q [] h = tt
keeps_with a o p q (begin_object ∷ ts) h = mapped JsonMembers JsonTexts json.object (λ m x. x) _ (q ts h.1)
keeps_with a o p q (end_object ∷ ts) h = tt
keeps_with a o p q (begin_array ∷ ts) h = mapped JsonItems JsonTexts json.array (λ m x. x) _ (p ts h.1)
keeps_with a o p q (end_array ∷ ts) h = tt
keeps_with a o p q (key s ∷ ts) h = tt
keeps_with a o p q (string s ∷ ts) h = h
keeps_with a o p q (number s ∷ ts) h = h
keeps_with a o p q (boolean v ∷ ts) h = h
keeps_with a o p q (null ∷ ts) h = h
keeps_with a o p q (bad ∷ ts) h = tt

keeps_value : (depth : ℕ) → Keeps JsonTexts (value depth)
unfolding value
keeps_value zero = keeps_with (λ ts. None) (λ ts. None) (λ ts h. tt) (λ ts h. tt)
keeps_value (suc d) =
    keeps_with (λ ts. items (value d) (length ts) ts) (λ ts. members (value d) (length ts) ts)
    (λ ts. keeps_items (value d) (keeps_value d) (length ts) ts) (λ ts. keeps_members (value d) (keeps_value d) (length ts) ts)

-- ---- values as they are kept

abbrev mutual
  pub DataTexts : Data → Type 0
  DataTexts tree.null = ⊤
  DataTexts (tree.boolean b) = ⊤
  DataTexts (tree.number n) = ⊤
  DataTexts (tree.string s) = IsUtf8 s
  DataTexts (tree.array ds) = ItemTexts ds
  DataTexts (tree.object ms) = MemberTexts ms

  pub ItemTexts : Items → Type 0
  ItemTexts no_items = ⊤
  ItemTexts (item d ds) = DataTexts d × ItemTexts ds

  pub MemberTexts : Members → Type 0
  MemberTexts no_members = ⊤
  MemberTexts (member k d ms) = DataTexts d × MemberTexts ms

put_texts : (k : List ℕ) (d : Data) (ms : Members) → DataTexts d → MemberTexts ms → MemberTexts (put k d ms)
put_texts k d no_members h all = (h, tt)
put_texts k d (member l e ms) h all = by (slice_cmp nat_cmp k l) (put_texts k d ms h all.1) where
  by : (o : Ordering) → MemberTexts (put k d ms) → MemberTexts (match_ordering o (member k d (member l e ms)) (member l d ms) (member l e (put k d ms)))
  by orders.Less later = (h, all)
  by orders.Equal later = (h, all.1)
  by orders.Greater later = (all.0, later)

-- of what may be there
abbrev pub IfAny : {A : Type 0} → (A → Type 0) → Option A → Type 0
IfAny P None = ⊤
IfAny P (Some x) = P x

numbered : (o : Option tree.Num) → IfAny DataTexts (option_map tree.number o)
numbered None = tt
numbered (Some n) = tt

arrays : (o : Option Items) → IfAny ItemTexts o → IfAny DataTexts (option_map tree.array o)
arrays None h = tt
arrays (Some ds) h = h

objects : (o : Option Members) → IfAny MemberTexts o → IfAny DataTexts (option_map tree.object o)
objects None h = tt
objects (Some ms) h = h

item_before : (d : Data) (o : Option Items) → DataTexts d → IfAny ItemTexts o → IfAny ItemTexts (option_map (item d) o)
item_before d None h all = tt
item_before d (Some ds) h all = (h, all)

items_then : (o : Option Data) (rest : Option Items) → IfAny DataTexts o → IfAny ItemTexts rest → IfAny ItemTexts (option_and_then (λ d. option_map (item d) rest) o)
items_then None rest h all = tt
items_then (Some d) rest h all = item_before d rest h all

members_then : (o : Option Data) (more : Data → Option Members) → IfAny DataTexts o → ((d : Data) → DataTexts d → IfAny MemberTexts (more d)) → IfAny MemberTexts (option_and_then more o)
members_then None more h all = tt
members_then (Some d) more h all = all d h

mutual
  kept : (j : Json) → JsonTexts j → IfAny DataTexts (of_json j)
  kept json.null h = tt
  kept (json.boolean b) h = tt
  kept (json.number s) h = numbered (number_of s)
  kept (json.string s) h = h
  kept (json.array js) h = arrays (of_items js) (kept_items js h)
  kept (json.object ms) h = objects (of_members ms no_members) (kept_members ms no_members h tt)

  kept_items : (js : json.Items) → JsonItems js → IfAny ItemTexts (of_items js)
  kept_items json.no_items h = tt
  kept_items (json.item j js) h = items_then (of_json j) (of_items js) (kept j h.0) (kept_items js h.1)

  kept_members : (ms : json.Members) (found : Members) → JsonMembers ms → MemberTexts found → IfAny MemberTexts (of_members ms found)
  kept_members json.no_members found h all = all
  kept_members (json.member k j ms) found h all =
      members_then (of_json j) (λ d. of_members ms (put k d found)) (kept j h.0) (λ d is. kept_members ms (put k d found) h.1 (put_texts k d found is all))

whole : (o : Option (Json × List Token)) → Gives JsonTexts o → IfAny DataTexts (option_and_then of_json (option_and_then (λ p. if_last p.0 p.1) o))
whole None h = tt
whole (Some (j, [])) h = kept j h.0
whole (Some (j, t ∷ ts)) h = tt

pub read_texts : (text : List ℕ) → IsUtf8 text → IfAny DataTexts (read text)
read_texts text utf8 = whole (value max_depth (tokens text)) (keeps_value max_depth (tokens text) (punctuated (lex between text) (lexemes [] text between utf8) fresh))
