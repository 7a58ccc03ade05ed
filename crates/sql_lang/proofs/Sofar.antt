-- What a state has read, as tokens: each step reads one token more.
use Rattle.std.proofs.Common.{ℕ, zero, suc, ◌≡◌, refl, sym, ◌∙◌, ap, Bool, true, false, List, [], ◌∷◌, ◌++◌, codes, append_assoc, append-nil, ◌&&◌, subst}
use Rattle.std.specs.Prelude.{Option, Some, None, if◌then◌else◌}
use Rattle.std.specs.Str.{bytes_eq}
use Rattle.std.proofs.lemmas.Slice.Eq.{bytes_eq-Decides}
use Rattle.sql_lang.specs.Tokens.{SELECT, FROM, WHERE, OR, AND, NOT, IS, NULL, LIKE, ESCAPE, GLOB, REGEXP, IN, BETWEEN, COLLATE, NOCASE, BINARY, Op, Sort, Word, Name, Text, Number, Opening, Closing, Comma, Star, Semicolon, Compares}
use Rattle.sql_lang.specs.Grammar.{Collate, Unsaid, Literal, Right, constant, Ands, Nots, spell_collate, spell_right, spell_literal, spell_not, spell_before, spell_test, spell_or, spell_and, spell_nots, spell_head}
use Rattle.sql_lang.specs.Machine.{Partial, Start, Named, Collating, Collated, Is, IsNot, Against, Compared, RightCollating, NamedNot, CollatedNot, Liking, Liked, Escaping, Globbing, Searching, Among, Listing, Listed, Ranging, Low, High, Complete, Closed, Level, level, negated, and_of, or_of, ands_of, ors_of, State, Begun, Selected, Starred, FromWord, Tabled, Inside, Ended, constant_of, in_collated, in_named, named, collated, collation, is, is_not, on_literal, against, on_word, on_text, on_number, on_opening, listed, first, go_on, whole, is_whole, is_joint, within, at_start, behind, behind_if, started, inside, head_on, on_table, step}

-- ---- of a test

abbrev pub sofar_test : Partial → List Sort
sofar_test Start = []
sofar_test (Named n) = Name n ∷ []
sofar_test (Collating n) = Name n ∷ Word COLLATE ∷ []
sofar_test (Collated n c) = Name n ∷ spell_collate c
sofar_test (Is n) = Name n ∷ Word IS ∷ []
sofar_test (IsNot n) = Name n ∷ Word IS ∷ Word NOT ∷ []
sofar_test (Against n c op) = Name n ∷ (spell_collate c ++ Compares op ∷ [])
sofar_test (Compared n c op x) = Name n ∷ (spell_collate c ++ Compares op ∷ spell_right x ∷ [])
sofar_test (RightCollating n c op x) = Name n ∷ (spell_collate c ++ Compares op ∷ spell_right x ∷ Word COLLATE ∷ [])
sofar_test (NamedNot n) = Name n ∷ Word NOT ∷ []
sofar_test (CollatedNot n c) = Name n ∷ (spell_collate c ++ Word NOT ∷ [])
sofar_test (Liking n b) = Name n ∷ (spell_not b ++ Word LIKE ∷ [])
sofar_test (Liked n b v) = Name n ∷ (spell_not b ++ Word LIKE ∷ Text v ∷ [])
sofar_test (Escaping n b v) = Name n ∷ (spell_not b ++ Word LIKE ∷ Text v ∷ Word ESCAPE ∷ [])
sofar_test (Globbing n b) = Name n ∷ (spell_not b ++ Word GLOB ∷ [])
sofar_test (Searching n b) = Name n ∷ (spell_not b ++ Word REGEXP ∷ [])
sofar_test (Among n c b) = Name n ∷ (spell_collate c ++ (spell_not b ++ Word IN ∷ []))
sofar_test (Listing n c b ls) = Name n ∷ (spell_collate c ++ (spell_not b ++ Word IN ∷ Opening ∷ spell_before ls))
sofar_test (Listed n c b ls l) = Name n ∷ (spell_collate c ++ (spell_not b ++ Word IN ∷ Opening ∷ (spell_before ls ++ spell_literal l ∷ [])))
sofar_test (Ranging n c b) = Name n ∷ (spell_collate c ++ (spell_not b ++ Word BETWEEN ∷ []))
sofar_test (Low n c b w) = Name n ∷ (spell_collate c ++ (spell_not b ++ Word BETWEEN ∷ Number w ∷ []))
sofar_test (High n c b w) = Name n ∷ (spell_collate c ++ (spell_not b ++ Word BETWEEN ∷ Number w ∷ Word AND ∷ []))
sofar_test (Complete t) = spell_test t
sofar_test (Closed o) = Opening ∷ (spell_or o ++ Closing ∷ [])

-- what a step makes of a test, if it makes one, has read these tokens
abbrev pub Extends : Option Partial → List Sort → Type 0
Extends None ts = Unit {0}
Extends (Some p) ts = sofar_test p ≡ ts

along : (o : Option Partial) (ts us : List Sort) → ts ≡ us → Extends o ts → Extends o us
along None ts us same h = tt
along (Some p) ts us same h = h ∙ same

constant_extends : (w : List ℕ) → Extends (constant_of w) (Number w ∷ [])
constant_extends w = by (bytes_eq w (codes "0")) (bytes_eq w (codes "1")) (bytes_eq-Decides w (codes "0")).0 (bytes_eq-Decides w (codes "1")).0 where
  by : (a b : Bool) → (a ≡ true → w ≡ codes "0") → (b ≡ true → w ≡ codes "1")
      → Extends (if a then Some (Complete (constant false)) else if b then Some (Complete (constant true)) else None) (Number w ∷ [])
  by true b zero_is one_is = ap (λ (v : List ℕ). Number v ∷ []) (sym (zero_is refl))
  by false true zero_is one_is = ap (λ (v : List ℕ). Number v ∷ []) (sym (one_is refl))
  by false false zero_is one_is = tt

first_extends : (t : Sort) → Extends (first t) (t ∷ [])
first_extends (Name n) = refl
first_extends (Number w) = constant_extends w
first_extends t = tt

in_collated_extends : (n : List ℕ) (c : Collate) (b : Bool) (t : Sort) → Extends (in_collated n c b t) (Name n ∷ (spell_collate c ++ (spell_not b ++ t ∷ [])))
in_collated_extends n c b (Word IN) = refl
in_collated_extends n c b (Word BETWEEN) = refl
in_collated_extends n c b t = tt

in_named_extends : (n : List ℕ) (b : Bool) (t : Sort) → Extends (in_named n b t) (Name n ∷ (spell_not b ++ t ∷ []))
in_named_extends n b (Word LIKE) = refl
in_named_extends n b (Word GLOB) = refl
in_named_extends n b (Word REGEXP) = refl
in_named_extends n b t = in_collated_extends n Unsaid b t

named_extends : (n : List ℕ) (t : Sort) → Extends (named n t) (Name n ∷ t ∷ [])
named_extends n (Word COLLATE) = refl
named_extends n (Word IS) = refl
named_extends n (Word NOT) = refl
named_extends n (Compares op) = refl
named_extends n t = in_named_extends n false t

collated_extends : (n : List ℕ) (c : Collate) (t : Sort) → Extends (collated n c t) (Name n ∷ (spell_collate c ++ t ∷ []))
collated_extends n c (Word NOT) = refl
collated_extends n c (Compares op) = refl
collated_extends n c t = in_collated_extends n c false t

is_extends : (n : List ℕ) (t : Sort) → Extends (is n t) (Name n ∷ Word IS ∷ t ∷ [])
is_extends n (Word NOT) = refl
is_extends n (Word NULL) = refl
is_extends n t = tt

is_not_extends : (n : List ℕ) (t : Sort) → Extends (is_not n t) (Name n ∷ Word IS ∷ Word NOT ∷ t ∷ [])
is_not_extends n (Word NULL) = refl
is_not_extends n t = tt

named_collation : (n : List ℕ) (t : Sort) → Extends (collation (Collated n) t) (Name n ∷ Word COLLATE ∷ t ∷ [])
named_collation n (Word NOCASE) = refl
named_collation n (Word BINARY) = refl
named_collation n t = tt

against_extends : (n : List ℕ) (c : Collate) (op : Op) (t : Sort) → Extends (against (Compared n c op) t) (Name n ∷ (spell_collate c ++ Compares op ∷ t ∷ []))
against_extends n c op (Name m) = refl
against_extends n c op (Text v) = refl
against_extends n c op (Number w) = refl
against_extends n c op t = tt

compared_extends : (n : List ℕ) (c : Collate) (op : Op) (x : Right) (t : Sort)
    → Extends (on_word COLLATE (RightCollating n c op x) t) (Name n ∷ (spell_collate c ++ Compares op ∷ spell_right x ∷ t ∷ []))
compared_extends n c op x (Word COLLATE) = refl
compared_extends n c op x t = tt

right_collation : (n : List ℕ) (c : Collate) (op : Op) (x : Right) (t : Sort)
    → Extends (go_on (RightCollating n c op x) t) (Name n ∷ (spell_collate c ++ Compares op ∷ spell_right x ∷ Word COLLATE ∷ t ∷ []))
unfolding go_on
right_collation n c op x (Word NOCASE) = refl
right_collation n c op x (Word BINARY) = refl
right_collation n c op x t = tt

liking_extends : (n : List ℕ) (b : Bool) (t : Sort) → Extends (on_text (Liked n b) t) (Name n ∷ (spell_not b ++ Word LIKE ∷ t ∷ []))
liking_extends n b (Text v) = refl
liking_extends n b t = tt

liked_extends : (n : List ℕ) (b : Bool) (v : List ℕ) (t : Sort) → Extends (on_word ESCAPE (Escaping n b v) t) (Name n ∷ (spell_not b ++ Word LIKE ∷ Text v ∷ t ∷ []))
liked_extends n b v (Word ESCAPE) = refl
liked_extends n b v t = tt

escaping_extends : (n : List ℕ) (b : Bool) (v : List ℕ) (t : Sort)
    → Extends (go_on (Escaping n b v) t) (Name n ∷ (spell_not b ++ Word LIKE ∷ Text v ∷ Word ESCAPE ∷ t ∷ []))
unfolding go_on
escaping_extends n b v (Text e) = refl
escaping_extends n b v t = tt

globbing_extends : (n : List ℕ) (b : Bool) (t : Sort) → Extends (go_on (Globbing n b) t) (Name n ∷ (spell_not b ++ Word GLOB ∷ t ∷ []))
unfolding go_on
globbing_extends n b (Text v) = refl
globbing_extends n b t = tt

searching_extends : (n : List ℕ) (b : Bool) (t : Sort) → Extends (go_on (Searching n b) t) (Name n ∷ (spell_not b ++ Word REGEXP ∷ t ∷ []))
unfolding go_on
searching_extends n b (Text v) = refl
searching_extends n b t = tt

among_extends : (n : List ℕ) (c : Collate) (b : Bool) (t : Sort)
    → Extends (on_opening (Listing n c b []) t) (Name n ∷ (spell_collate c ++ (spell_not b ++ Word IN ∷ t ∷ [])))
among_extends n c b Opening = refl
among_extends n c b t = tt

listing_extends : (n : List ℕ) (c : Collate) (b : Bool) (ls : List Literal) (t : Sort)
    → Extends (on_literal (Listed n c b ls) t) (Name n ∷ (spell_collate c ++ (spell_not b ++ Word IN ∷ Opening ∷ (spell_before ls ++ t ∷ []))))
listing_extends n c b ls (Text v) = refl
listing_extends n c b ls (Number w) = refl
listing_extends n c b ls t = tt

before_last : (ls : List Literal) (l : Literal) → spell_before (ls ++ l ∷ []) ≡ spell_before ls ++ spell_literal l ∷ Comma ∷ []
before_last [] l = refl
before_last (m ∷ ls) l = ap (λ (ts : List Sort). spell_literal m ∷ Comma ∷ ts) (before_last ls l)

listed_extends : (n : List ℕ) (c : Collate) (b : Bool) (ls : List Literal) (l : Literal) (t : Sort)
    → Extends (listed n c b ls l t) (Name n ∷ (spell_collate c ++ (spell_not b ++ Word IN ∷ Opening ∷ (spell_before ls ++ spell_literal l ∷ t ∷ []))))
listed_extends n c b ls l Comma = ap (λ (ts : List Sort). Name n ∷ (spell_collate c ++ (spell_not b ++ Word IN ∷ Opening ∷ ts))) (before_last ls l)
listed_extends n c b ls l Closing = refl
listed_extends n c b ls l t = tt

ranging_extends : (n : List ℕ) (c : Collate) (b : Bool) (t : Sort)
    → Extends (on_number (Low n c b) t) (Name n ∷ (spell_collate c ++ (spell_not b ++ Word BETWEEN ∷ t ∷ [])))
ranging_extends n c b (Number w) = refl
ranging_extends n c b t = tt

low_extends : (n : List ℕ) (c : Collate) (b : Bool) (w : List ℕ) (t : Sort)
    → Extends (on_word AND (High n c b w) t) (Name n ∷ (spell_collate c ++ (spell_not b ++ Word BETWEEN ∷ Number w ∷ t ∷ [])))
low_extends n c b w (Word AND) = refl
low_extends n c b w t = tt

high_extends : (n : List ℕ) (c : Collate) (b : Bool) (w : List ℕ) (t : Sort)
    → Extends (go_on (High n c b w) t) (Name n ∷ (spell_collate c ++ (spell_not b ++ Word BETWEEN ∷ Number w ∷ Word AND ∷ t ∷ [])))
unfolding go_on
high_extends n c b w (Number v) = refl
high_extends n c b w t = tt

-- a token that a test goes on with is the next that it has read
pub go_on_extends : (p : Partial) (t : Sort) → Extends (go_on p t) (sofar_test p ++ t ∷ [])
unfolding go_on
go_on_extends Start t = first_extends t
go_on_extends (Named n) t = named_extends n t
go_on_extends (Collating n) t = named_collation n t
go_on_extends (Collated n c) t = collated_extends n c t
go_on_extends (Is n) t = is_extends n t
go_on_extends (IsNot n) t = is_not_extends n t
go_on_extends (Against n c op) t = along (against (Compared n c op) t) _ _ (simp append_assoc) (against_extends n c op t)
go_on_extends (Compared n c op x) t = along (on_word COLLATE (RightCollating n c op x) t) _ _ (simp append_assoc) (compared_extends n c op x t)
go_on_extends (RightCollating n c op x) t = along (go_on (RightCollating n c op x) t) _ _ (simp append_assoc) (right_collation n c op x t)
go_on_extends (NamedNot n) t = in_named_extends n true t
go_on_extends (CollatedNot n c) t = along (in_collated n c true t) _ _ (simp append_assoc) (in_collated_extends n c true t)
go_on_extends (Liking n b) t = along (on_text (Liked n b) t) _ _ (simp append_assoc) (liking_extends n b t)
go_on_extends (Liked n b v) t = along (on_word ESCAPE (Escaping n b v) t) _ _ (simp append_assoc) (liked_extends n b v t)
go_on_extends (Escaping n b v) t = along (go_on (Escaping n b v) t) _ _ (simp append_assoc) (escaping_extends n b v t)
go_on_extends (Globbing n b) t = along (go_on (Globbing n b) t) _ _ (simp append_assoc) (globbing_extends n b t)
go_on_extends (Searching n b) t = along (go_on (Searching n b) t) _ _ (simp append_assoc) (searching_extends n b t)
go_on_extends (Among n c b) t = along (on_opening (Listing n c b []) t) _ _ (simp append_assoc) (among_extends n c b t)
go_on_extends (Listing n c b ls) t = along (on_literal (Listed n c b ls) t) _ _ (simp append_assoc) (listing_extends n c b ls t)
go_on_extends (Listed n c b ls l) t = along (listed n c b ls l t) _ _ (simp append_assoc) (listed_extends n c b ls l t)
go_on_extends (Ranging n c b) t = along (on_number (Low n c b) t) _ _ (simp append_assoc) (ranging_extends n c b t)
go_on_extends (Low n c b w) t = along (on_word AND (High n c b w) t) _ _ (simp append_assoc) (low_extends n c b w t)
go_on_extends (High n c b w) t = along (go_on (High n c b w) t) _ _ (simp append_assoc) (high_extends n c b w t)
go_on_extends (Complete x) t = tt
go_on_extends (Closed o) t = tt

-- ---- of levels and states

abbrev pub sofar_ors : List Ands → List Sort
sofar_ors [] = []
sofar_ors (a ∷ as') = spell_and a ++ Word OR ∷ sofar_ors as'

abbrev pub sofar_ands : List Nots → List Sort
sofar_ands [] = []
sofar_ands (n ∷ ns) = spell_nots n ++ Word AND ∷ sofar_ands ns

abbrev pub sofar_nots : ℕ → List Sort
sofar_nots zero = []
sofar_nots (suc n) = Word NOT ∷ sofar_nots n

abbrev pub sofar_level : Level → List Sort
sofar_level l = sofar_ors l.ors ++ (sofar_ands l.ands ++ sofar_nots l.nots)

abbrev pub sofar_outer : List Level → List Sort
sofar_outer [] = []
sofar_outer (l ∷ ls) = sofar_outer ls ++ (sofar_level l ++ Opening ∷ [])

abbrev pub sofar : State → List Sort
sofar Begun = []
sofar Selected = Word SELECT ∷ []
sofar Starred = Word SELECT ∷ Star ∷ []
sofar FromWord = Word SELECT ∷ Star ∷ Word FROM ∷ []
sofar (Tabled n) = Word SELECT ∷ Star ∷ Word FROM ∷ Name n ∷ []
sofar (Inside table p l ls) = spell_head table ++ (sofar_outer ls ++ (sofar_level l ++ sofar_test p))
sofar (Ended table o) = spell_head table ++ (spell_or o ++ Semicolon ∷ [])

abbrev pub Grows : Option State → List Sort → Type 0
Grows None ts = Unit {0}
Grows (Some s) ts = sofar s ≡ ts

abbrev pub Spells : Option Nots → List Sort → Type 0
Spells None ts = Unit {0}
Spells (Some v) ts = spell_nots v ≡ ts

pub whole_spells : (p : Partial) → Spells (whole p) (sofar_test p)
whole_spells (Compared n c op x) = refl
whole_spells (Liked n b v) = refl
whole_spells (Complete t) = refl
whole_spells (Closed o) = refl
whole_spells p = tt

nots_last : (n : ℕ) → sofar_nots n ++ Word NOT ∷ [] ≡ Word NOT ∷ sofar_nots n
nots_last zero = refl
nots_last (suc n) = ap (λ (ts : List Sort). Word NOT ∷ ts) (nots_last n)

negated_spells : (n : ℕ) (v : Nots) → spell_nots (negated n v) ≡ sofar_nots n ++ spell_nots v
negated_spells zero v = refl
negated_spells (suc n) v = ap (λ (ts : List Sort). Word NOT ∷ ts) (negated_spells n v)

and_of_spells : (ns : List Nots) (v : Nots) → spell_and (and_of ns v) ≡ sofar_ands ns ++ spell_nots v
and_of_spells [] v = refl
and_of_spells (n ∷ ns) v = rw (and_of_spells ns v) (simp append_assoc)

or_of_spells : (as' : List Ands) (a : Ands) → spell_or (or_of as' a) ≡ sofar_ors as' ++ spell_and a
or_of_spells [] a = refl
or_of_spells (b ∷ bs) a = rw (or_of_spells bs a) (simp append_assoc)

ands_last : (ns : List Nots) (v : Nots) → sofar_ands (ns ++ v ∷ []) ≡ sofar_ands ns ++ (spell_nots v ++ Word AND ∷ [])
ands_last [] v = refl
ands_last (n ∷ ns) v = rw (ands_last ns v) (simp append_assoc)

ors_last : (as' : List Ands) (a : Ands) → sofar_ors (as' ++ a ∷ []) ≡ sofar_ors as' ++ (spell_and a ++ Word OR ∷ [])
ors_last [] a = refl
ors_last (b ∷ bs) a = rw (ors_last bs a) (simp append_assoc)

ands_of_spells : (l : Level) (v : Nots) → spell_and (ands_of l v) ≡ sofar_ands l.ands ++ (sofar_nots l.nots ++ spell_nots v)
ands_of_spells l v = and_of_spells l.ands (negated l.nots v) ∙ ap (λ (ts : List Sort). sofar_ands l.ands ++ ts) (negated_spells l.nots v)

pub ors_of_spells : (l : Level) (v : Nots) → spell_or (ors_of l v) ≡ sofar_level l ++ spell_nots v
ors_of_spells l v = or_of_spells l.ors (ands_of l v) ∙ rw (ands_of_spells l v) (simp append_assoc)

within_grows : (table : List ℕ) (l : Level) (ls : List Level) (o : Option Partial) (ts : List Sort) (t : Sort) → Extends o (ts ++ t ∷ [])
    → Grows (within table l ls o) ((spell_head table ++ (sofar_outer ls ++ (sofar_level l ++ ts))) ++ t ∷ [])
within_grows table l ls None ts t h = tt
within_grows table l ls (Some p) ts t h = rw h (simp append_assoc)

start_grows : (table : List ℕ) (l : Level) (ls : List Level) (t : Sort) → Grows (at_start table l ls t) (sofar (Inside table Start l ls) ++ t ∷ [])
start_grows table l ls (Word NOT) = let h = nots_last l.nots in simp (append_assoc, append-nil, h)
start_grows table l ls Opening = simp (append_assoc, append-nil)
start_grows table l ls t = within_grows table l ls (first t) [] t (first_extends t)

behind_grows : (table : List ℕ) (v : Nots) (l : Level) (ls : List Level) (t : Sort)
    → Grows (behind table v l ls t) ((spell_head table ++ (sofar_outer ls ++ (sofar_level l ++ spell_nots v))) ++ t ∷ [])
behind_grows table v l ls (Word AND) = rw (ands_last l.ands (negated l.nots v), negated_spells l.nots v) (simp (append_assoc, append-nil))
behind_grows table v l ls (Word OR) = rw (ors_last l.ors (ands_of l v), ands_of_spells l v) (simp (append_assoc, append-nil))
behind_grows table v l [] Closing = tt
behind_grows table v l (m ∷ ls) Closing = rw (ors_of_spells l v) (simp append_assoc)
behind_grows table v l [] Semicolon = rw (ors_of_spells l v) (simp append_assoc)
behind_grows table v l (m ∷ ls) Semicolon = tt
behind_grows table v l ls t = tt

behind_if_grows : (table : List ℕ) (o : Option Nots) (l : Level) (ls : List Level) (t : Sort) (ts : List Sort) → Spells o ts
    → Grows (behind_if table o l ls t) ((spell_head table ++ (sofar_outer ls ++ (sofar_level l ++ ts))) ++ t ∷ [])
behind_if_grows table None l ls t ts h = tt
behind_if_grows table (Some v) l ls t ts h =
    let P : List Sort → Type 0 = λ us. Grows (behind table v l ls t) ((spell_head table ++ (sofar_outer ls ++ (sofar_level l ++ us))) ++ t ∷ []) in
    subst P h (behind_grows table v l ls t)

started_grows : (table : List ℕ) (p : Partial) (l : Level) (ls : List Level) (t : Sort)
    → Grows (started table p l ls t) (sofar (Inside table p l ls) ++ t ∷ [])
started_grows table p l ls t =
    elim (is_joint t && is_whole p) as (λ b. Grows (if b then behind_if table (whole p) l ls t else within table l ls (go_on p t)) (sofar (Inside table p l ls) ++ t ∷ [])) [
      | true ↦ behind_if_grows table (whole p) l ls t (sofar_test p) (whole_spells p)
      | false ↦ within_grows table l ls (go_on p t) (sofar_test p) t (go_on_extends p t)
    ]

inside_grows : (table : List ℕ) (p : Partial) (l : Level) (ls : List Level) (t : Sort)
    → Grows (inside table p l ls t) (sofar (Inside table p l ls) ++ t ∷ [])
inside_grows table Start l ls t = start_grows table l ls t
inside_grows table p l ls t = started_grows table p l ls t

head_grows : (w t : Sort) (s : State) (ts : List Sort) → sofar s ≡ ts ++ w ∷ [] → Grows (head_on w t s) (ts ++ t ∷ [])
head_grows (Word SELECT) (Word SELECT) s ts h = h
head_grows (Word FROM) (Word FROM) s ts h = h
head_grows (Word WHERE) (Word WHERE) s ts h = h
head_grows Star Star s ts h = h
head_grows w t s ts h = tt

table_grows : (t : Sort) → Grows (on_table t) (Word SELECT ∷ Star ∷ Word FROM ∷ t ∷ [])
table_grows (Name n) = refl
table_grows t = tt

-- a step reads one token
pub step_grows : (s : State) (t : Sort) → Grows (step s t) (sofar s ++ t ∷ [])
unfolding step
step_grows Begun t = head_grows (Word SELECT) t Selected [] refl
step_grows Selected t = head_grows Star t Starred (Word SELECT ∷ []) refl
step_grows Starred t = head_grows (Word FROM) t FromWord (Word SELECT ∷ Star ∷ []) refl
step_grows FromWord t = table_grows t
step_grows (Tabled n) t = head_grows (Word WHERE) t (Inside n Start (level [] [] 0) []) (Word SELECT ∷ Star ∷ Word FROM ∷ Name n ∷ []) refl
step_grows (Inside table p l ls) t = inside_grows table p l ls t
step_grows (Ended table o) t = tt
