-- The written text of a pattern, or of a name, is scanned as exactly this pattern, or this name.
use Rattle.std.proofs.Common.{ℕ, ◌≡◌, refl, sym, ◌∙◌, ap, Bool, true, false, List, [], ◌∷◌, ◌++◌, codes, append-nil, arith, inl, inr, subst}
use Rattle.std.specs.Prelude.{◌==◌, ◌||◌, not, if◌then◌else◌, map}
use Rattle.std.specs.List.{list_all, list_any}
use Rattle.std.specs.Str.{all_scalars, bytes_eq}
use Rattle.std.proofs.Math.Utf8.{scalar}
use Rattle.std.proofs.lemmas.Bool.Decides.{nat_tests}
use Rattle.std.proofs.lemmas.Slice.Eq.{bytes_eq-Decides}
use Rattle.std.proofs.lemmas.Bool.{and_parts, or_cases, cases_Bool}
use Rattle.sig_base.specs.Digits.{is_digit}
use Rattle.query_tokens.specs.Places.{origin}
use Rattle.query_tokens.specs.Tokens.{sorts}
use Rattle.lucene_lang.specs.declared.query.Glyph.{Glyph}
use Rattle.lucene_lang.specs.declared.query.Glyph.TheVariants.{Char, One, Run}
use Rattle.lucene_lang.specs.declared.query.Word.TheVariants.{And, Or}
use Rattle.lucene_lang.specs.declared.written.Written.{Written}
use Rattle.lucene_lang.specs.declared.written.Written.TheVariants.{Bare, Escaped}
use Rattle.lucene_lang.specs.Tokens.{Sort, Joins, Not, Star, Wild, To, Decimal, Plain, Outside, character, is_bare, is_wildcard, run_sort, bare_sort, other_sort, is_decimal, tokens, scan}
use Rattle.lucene_lang.specs.Grammar.{Term, exact, spell_name, spell_term, sought, a_term}
use Rattle.lucene_lang.specs.Query.{glyph, glyphs, name_text, term_glyphs}
use Rattle.lucene_lang.specs.Faults.{is_left_out, is_plus_or_minus, begins_signed, begins_minus, is_outside}
use Rattle.lucene_layout.specs.Escaped.{is_word_text, word_escaped, is_special, char_written, glyph_written, is_word, escape_first, no_word, pattern_written, as_char, name_written, term_as, name_as, term_for, name_for, characters}
use Rattle.lucene_layout.specs.Layout.{written, token_text, in_run, is_empty, IsRunOf, HasText, text_leaf}
use Rattle.lucene_layout.proofs.Scanned.{scans_token, at_end, as_bare, written_bare, DecimalIs, decimal_is, may_begin}

-- ---- what a run's sort says of the run

data SortOf (w : List Written) : Sort → Type 0 where
  and_word : w ≡ map as_bare (codes "AND") → SortOf w (Joins And)
  or_word : w ≡ map as_bare (codes "OR") → SortOf w (Joins Or)
  not_word : w ≡ map as_bare (codes "NOT") → SortOf w Not
  is_star : w ≡ map as_bare (codes "*") → SortOf w Star
  is_to : w ≡ map as_bare (codes "TO") → SortOf w To
  is_number : (cs : List ℕ) → w ≡ map as_bare cs → is_decimal cs ≡ true → SortOf w (Decimal cs)
  is_wild : list_any is_wildcard w ≡ true → SortOf w (Wild w)
  is_plain : list_any is_wildcard w ≡ false → SortOf w (Plain w)

pub bare_is : (w : List Written) → list_all is_bare w ≡ true → w ≡ map as_bare (map character w)
bare_is [] all = refl
bare_is (Bare c ∷ w) all = ap (λ (v : List Written). Bare c ∷ v) (bare_is w all)
bare_is (Escaped c ∷ w) all = absurd cc

other_is : (w : List Written) → SortOf w (other_sort w)
other_is w = by (list_any is_wildcard w) refl where
  by : (b : Bool) → list_any is_wildcard w ≡ b → SortOf w (if b then Wild w else Plain w)
  by true is = is_wild is
  by false is = is_plain is

module _ (w : List Written) (cs : List ℕ) (same : w ≡ map as_bare cs) where
  told : (k : List ℕ) (x y : Sort) → (w ≡ map as_bare k → SortOf w x) → SortOf w y → SortOf w (if bytes_eq cs k then x else y)
  told k x y yes' no' = by (bytes_eq cs k) refl where
    by : (b : Bool) → bytes_eq cs k ≡ b → SortOf w (if b then x else y)
    by true is = yes' (same ∙ ap (λ (ds : List ℕ). map as_bare ds) ((bytes_eq-Decides cs k).0 is))
    by false is = no'

  told_number : SortOf w (if is_decimal cs then Decimal cs else other_sort w)
  told_number = by (is_decimal cs) refl where
    by : (b : Bool) → is_decimal cs ≡ b → SortOf w (if b then Decimal cs else other_sort w)
    by true is = is_number cs same is
    by false is = other_is w

  bare_told : SortOf w (bare_sort cs w)
  bare_told =
      told (codes "AND") (Joins And) _ and_word
      (told (codes "OR") (Joins Or) _ or_word
      (told (codes "NOT") Not _ not_word
      (told (codes "*") Star _ is_star
      (told (codes "TO") To _ is_to told_number))))

sort_is : (w : List Written) → SortOf w (run_sort w)
unfolding run_sort
sort_is w = by (list_all is_bare w) refl where
  by : (b : Bool) → list_all is_bare w ≡ b → SortOf w (if b then bare_sort (map character w) w else other_sort w)
  by true is = bare_told w (map character w) (bare_is w is)
  by false is = other_is w

-- ---- runs that are ready to be written: some characters, which may stand in a run and are left in the language

record Ready (w : List Written) : Type 0 where
  some : is_empty w ≡ false
  runs : list_all in_run w ≡ true
  scalars : all_scalars (map character w) ≡ true
  inside : list_any is_left_out w ≡ false
  unsigned : begins_signed w ≡ false

-- the same text without a word
record Wordless (w v : List Written) : Type 0 where
  ready : Ready w → Ready v
  no_word : is_word (run_sort v) ≡ false
  glyphs : glyphs v ≡ glyphs w
  characters : map character v ≡ map character w
  wildcards : list_any is_wildcard v ≡ list_any is_wildcard w

wordless_and : (w : List Written) → w ≡ map as_bare (codes "AND") → Wordless w (escape_first w)
unfolding run_sort
wordless_and w is = subst (λ (v : List Written). Wordless v (escape_first v)) (sym is)
    (record { ready = λ r. record { some = refl; runs = refl; scalars = refl; inside = refl; unsigned = refl }; no_word = refl; glyphs = refl; characters = refl; wildcards = refl })

wordless_or : (w : List Written) → w ≡ map as_bare (codes "OR") → Wordless w (escape_first w)
unfolding run_sort
wordless_or w is = subst (λ (v : List Written). Wordless v (escape_first v)) (sym is)
    (record { ready = λ r. record { some = refl; runs = refl; scalars = refl; inside = refl; unsigned = refl }; no_word = refl; glyphs = refl; characters = refl; wildcards = refl })

wordless_not : (w : List Written) → w ≡ map as_bare (codes "NOT") → Wordless w (escape_first w)
unfolding run_sort
wordless_not w is = subst (λ (v : List Written). Wordless v (escape_first v)) (sym is)
    (record { ready = λ r. record { some = refl; runs = refl; scalars = refl; inside = refl; unsigned = refl }; no_word = refl; glyphs = refl; characters = refl; wildcards = refl })

wordless : (w : List Written) → Wordless w (no_word w)
wordless w = by (run_sort w) refl (sort_is w) where
  kept : (s : Sort) → run_sort w ≡ s → is_word s ≡ false → Wordless w (if is_word s then escape_first w else w)
  kept s is other = subst (λ (b : Bool). Wordless w (if b then escape_first w else w)) (sym other)
      (record { ready = λ r. r; no_word = ap is_word is ∙ other; glyphs = refl; characters = refl; wildcards = refl })

  by : (s : Sort) → run_sort w ≡ s → SortOf w s → Wordless w (if is_word s then escape_first w else w)
  by _ is (and_word e) = wordless_and w e
  by _ is (or_word e) = wordless_or w e
  by _ is (not_word e) = wordless_not w e
  by _ is (is_star e) = kept Star is refl
  by _ is (is_to e) = kept To is refl
  by _ is (is_number cs e d) = kept (Decimal cs) is refl
  by _ is (is_wild e) = kept (Wild w) is refl
  by _ is (is_plain e) = kept (Plain w) is refl

-- ---- what a run is as a term and as a name

record TermIs (w : List Written) (s : Sort) : Type 0 where
  spelled : spell_term (term_as s w) ≡ s
  text : token_text s ≡ written w
  has : HasText s
  glyphs : term_glyphs (term_as s w) ≡ glyphs w
  inside : is_outside false s ≡ false

record NameIs (w : List Written) (s : Sort) : Type 0 where
  spelled : spell_name (name_as s w) ≡ s
  text : token_text s ≡ written w
  has : HasText s
  name : name_text (name_as s w) ≡ map character w
  inside : is_outside false s ≡ false

run_of : (s : Sort) (w : List Written) → Ready w → run_sort w ≡ s → IsRunOf s w
run_of s w r is = record { some = r.some; runs = r.runs; scalars = r.scalars; sorted = is }

bare_written : (w : List Written) (cs : List ℕ) → w ≡ map as_bare cs → written w ≡ cs
bare_written w cs same = ap written same ∙ written_bare cs

bare_characters : (cs : List ℕ) → map character (map as_bare cs) ≡ cs
bare_characters [] = refl
bare_characters (c ∷ cs) = ap (λ (ds : List ℕ). c ∷ ds) (bare_characters cs)

plain_glyphs : (w : List Written) → list_any is_wildcard w ≡ false → glyphs w ≡ map as_char (map character w)
plain_glyphs [] none = refl
plain_glyphs (Bare c ∷ w) none =
    let run : (c == 42) ≡ false = (by (c == 42) (c == 63) (list_any is_wildcard w) none).0 in
    let parts = by (c == 42) (c == 63) (list_any is_wildcard w) none in
    let one = parts.1 in
    rw (run, one) (ap (λ (gs : List Glyph). Char c ∷ gs) (plain_glyphs w parts.2)) where
      by : (a b r : Bool) → ((a || b) || r) ≡ false → (a ≡ false) × (b ≡ false) × (r ≡ false)
      by false false false h = (refl, refl, refl)
      by false false true h = absurd cc
      by false true r h = absurd cc
      by true b r h = absurd cc
plain_glyphs (Escaped c ∷ w) none = ap (λ (gs : List Glyph). Char c ∷ gs) (plain_glyphs w none)

begins_minus_of : (w : List Written) (cs : List ℕ) → w ≡ map as_bare cs → begins_signed w ≡ false → begins_minus cs ≡ false
begins_minus_of w [] same none = refl
begins_minus_of w (c ∷ cs) same none = by (c == 43) (subst (λ (v : List Written). begins_signed v ≡ false) same none) where
  by : (b : Bool) → (b || c == 45) ≡ false → (c == 45) ≡ false
  by false h = h
  by true h = absurd cc

digit_wild : (c : ℕ) → is_digit c ≡ true → is_wildcard (Bare c) ≡ false
digit_wild c h = grind (arith, nat_tests)

digits_wild : (cs : List ℕ) → list_all is_digit cs ≡ true → list_any is_wildcard (map as_bare cs) ≡ false
digits_wild [] all = refl
digits_wild (c ∷ cs) all =
    let each = and_parts (is_digit c) (list_all is_digit cs) all in
    let here = digit_wild c each.0 in
    rw here (digits_wild cs each.1)

begins_wild : (c : ℕ) → may_begin c ≡ true → is_wildcard (Bare c) ≡ false
begins_wild c h = grind (arith, nat_tests)

decimal_wild : (cs : List ℕ) → DecimalIs cs → list_any is_wildcard (map as_bare cs) ≡ false
decimal_wild [] d = absurd d
decimal_wild (c ∷ cs) d = let here = begins_wild c d.0 in rw here (digits_wild cs d.1)

module _ (w : List Written) (r : Ready w) where
  decimal_glyphs : (cs : List ℕ) → w ≡ map as_bare cs → is_decimal cs ≡ true → map as_char cs ≡ glyphs w
  decimal_glyphs cs same is =
      ap (λ (ds : List ℕ). map as_char ds) (sym (bare_characters cs))
      ∙ (sym (plain_glyphs (map as_bare cs) (decimal_wild cs (decimal_is cs is))) ∙ ap glyphs (sym same))

  left_in : list_any is_left_out w ≡ false → begins_signed w ≡ false → is_outside false (Plain w) ≡ false
  left_in inside unsigned = rw (inside, unsigned) refl

  term_is : (s : Sort) → run_sort w ≡ s → SortOf w s → is_word s ≡ false → TermIs w s
  term_is _ is (and_word e) no' = absurd cc
  term_is _ is (or_word e) no' = absurd cc
  term_is _ is (not_word e) no' = absurd cc
  term_is _ is (is_star e) no' =
      record { spelled = refl; text = sym (bare_written w (codes "*") e); has = tt; glyphs = ap glyphs (sym e); inside = refl }
  term_is _ is (is_to e) no' =
      record { spelled = refl; text = sym (bare_written w (codes "TO") e); has = tt; glyphs = ap glyphs (sym e); inside = refl }
  term_is _ is (is_number cs e d) no' = record {
    spelled = refl;
    text = sym (bare_written w cs e);
    has = d;
    glyphs = decimal_glyphs cs e d;
    inside = begins_minus_of w cs e r.unsigned;
  }
  term_is _ is (is_wild e) no' =
      record { spelled = refl; text = refl; has = run_of (Wild w) w r is; glyphs = refl; inside = left_in r.inside r.unsigned }
  term_is _ is (is_plain e) no' =
      record { spelled = refl; text = refl; has = run_of (Plain w) w r is; glyphs = sym (plain_glyphs w e); inside = left_in r.inside r.unsigned }

  name_is : (s : Sort) → run_sort w ≡ s → SortOf w s → is_word s ≡ false → list_any is_wildcard w ≡ false → NameIs w s
  name_is _ is (and_word e) no' none = absurd cc
  name_is _ is (or_word e) no' none = absurd cc
  name_is _ is (not_word e) no' none = absurd cc
  name_is _ is (is_star e) no' none = absurd (clash (ap (list_any is_wildcard) e) none) where
    clash : list_any is_wildcard w ≡ true → list_any is_wildcard w ≡ false → ⊥
    clash a b = let c : true ≡ false = sym a ∙ b in absurd cc
  name_is _ is (is_to e) no' none =
      record { spelled = refl; text = sym (bare_written w (codes "TO") e); has = tt; name = ap (λ (v : List Written). map character v) (sym e); inside = refl }
  name_is _ is (is_number cs e d) no' none = record {
    spelled = refl;
    text = sym (bare_written w cs e);
    has = d;
    name = sym (bare_characters cs) ∙ ap (λ (v : List Written). map character v) (sym e);
    inside = begins_minus_of w cs e r.unsigned;
  }
  name_is _ is (is_wild e) no' none = absurd cc
  name_is _ is (is_plain e) no' none =
      record { spelled = refl; text = refl; has = run_of (Plain w) w r is; name = refl; inside = left_in r.inside r.unsigned }

-- ---- patterns and names

bare_ready : (c : ℕ) → is_special c ≡ false
    → (in_run (Bare c) ≡ true) × (is_left_out (Bare c) ≡ false) × (is_plus_or_minus c ≡ false) × (glyph (Bare c) ≡ Char c) × (is_wildcard (Bare c) ≡ false)
bare_ready c h =
    let run : (c == 42) ≡ false = grind (arith, nat_tests) in
    let one : (c == 63) ≡ false = grind (arith, nat_tests) in (
      grind (arith, nat_tests),
      grind (arith, nat_tests),
      grind (arith, nat_tests),
      rw (run, one) refl,
      grind (arith, nat_tests),
    )

special_no_u : (c : ℕ) → is_special c ≡ true → (c == 117) ≡ false
special_no_u c h = grind (arith, nat_tests)

record CharIs (c : ℕ) (x : Written) : Type 0 where
  runs : in_run x ≡ true
  character : character x ≡ c
  inside : is_left_out x ≡ false
  unsigned : begins_signed (x ∷ []) ≡ false
  glyph : glyph x ≡ Char c
  wildcard : is_wildcard x ≡ false

char_is : (c : ℕ) → CharIs c (char_written c)
char_is c = by (is_special c) refl where
  by : (b : Bool) → is_special c ≡ b → CharIs c (if b then Escaped c else Bare c)
  by true is = record { runs = refl; character = refl; inside = special_no_u c is; unsigned = refl; glyph = refl; wildcard = refl }
  by false is =
      let b = bare_ready c is in
      record { runs = b.0; character = refl; inside = b.1; unsigned = b.2; glyph = b.3; wildcard = b.4 }

record GlyphIs (g : Glyph) (x : Written) : Type 0 where
  runs : in_run x ≡ true
  inside : is_left_out x ≡ false
  unsigned : begins_signed (x ∷ []) ≡ false
  glyph : glyph x ≡ g

glyph_is : (g : Glyph) → GlyphIs g (glyph_written g)
glyph_is (Char c) = let x = char_is c in record { runs = x.runs; inside = x.inside; unsigned = x.unsigned; glyph = x.glyph }
glyph_is One = record { runs = refl; inside = refl; unsigned = refl; glyph = refl }
glyph_is Run = record { runs = refl; inside = refl; unsigned = refl; glyph = refl }

record PatternIs (gs : List Glyph) (w : List Written) : Type 0 where
  runs : list_all in_run w ≡ true
  inside : list_any is_left_out w ≡ false
  glyphs : glyphs w ≡ gs
  scalars : all_scalars (map character w) ≡ true

glyph_scalar : (g : Glyph) (gs : List Glyph) → all_scalars (characters (g ∷ gs)) ≡ true
    → (scalar (character (glyph_written g)) ≡ true) × (all_scalars (characters gs) ≡ true)
glyph_scalar (Char c) gs h =
    let each = and_parts (scalar c) (all_scalars (characters gs)) h in
    (ap scalar (char_is c).character ∙ each.0, each.1)
glyph_scalar One gs h = (refl, h)
glyph_scalar Run gs h = (refl, h)

pattern_is : (gs : List Glyph) → all_scalars (characters gs) ≡ true → PatternIs gs (map glyph_written gs)
pattern_is [] h = record { runs = refl; inside = refl; glyphs = refl; scalars = refl }
pattern_is (g ∷ gs) h =
    let x = glyph_is g in
    let s = glyph_scalar g gs h in
    let more = pattern_is gs s.1 in
    let runs = x.runs in
    let inside = x.inside in
    let first = s.0 in
    record {
      runs = rw runs more.runs;
      inside = rw inside more.inside;
      glyphs = ap (λ (y : Glyph). y ∷ glyphs (map glyph_written gs)) x.glyph ∙ ap (λ (ys : List Glyph). g ∷ ys) more.glyphs;
      scalars = rw first more.scalars;
    }

first_unsigned : (x : Written) (w : List Written) → begins_signed (x ∷ []) ≡ false → begins_signed (x ∷ w) ≡ false
first_unsigned (Bare c) w h = h
first_unsigned (Escaped c) w h = h

pattern_ready : (g : Glyph) (gs : List Glyph) → all_scalars (characters (g ∷ gs)) ≡ true → Ready (map glyph_written (g ∷ gs))
pattern_ready g gs h =
    let p = pattern_is (g ∷ gs) h in
    record { some = refl; runs = p.runs; scalars = p.scalars; inside = p.inside; unsigned = first_unsigned (glyph_written g) _ (glyph_is g).unsigned }

-- the term of a pattern: its tokens, its text, its parts
pub record TermFor (gs : List Glyph) : Type 0 where
  pub text : token_text (spell_term (term_for gs)) ≡ written (pattern_written gs)
  pub has : HasText (spell_term (term_for gs))
  pub glyphs : term_glyphs (term_for gs) ≡ gs
  pub inside : is_outside false (spell_term (term_for gs)) ≡ false

term_of_run : (w v : List Written) (gs : List Glyph) → Ready w → Wordless w v → glyphs w ≡ gs
    → TermIs v (run_sort v) × (term_glyphs (term_as (run_sort v) v) ≡ gs)
term_of_run w v gs r l same =
    let t = term_is v (l.ready r) (run_sort v) refl (sort_is v) l.no_word in
    (t, t.glyphs ∙ (l.glyphs ∙ same))

pub term_fine : (g : Glyph) (gs : List Glyph) → all_scalars (characters (g ∷ gs)) ≡ true → TermFor (g ∷ gs)
unfolding term_for pattern_written
term_fine g gs h =
    let w = map glyph_written (g ∷ gs) in
    let t = term_of_run w (no_word w) (g ∷ gs) (pattern_ready g gs h) (wordless w) (pattern_is (g ∷ gs) h).glyphs in
    let spelled = t.0.spelled in
    record {
      text = ap token_text spelled ∙ t.0.text;
      has = subst HasText (sym spelled) t.0.has;
      glyphs = t.1;
      inside = ap (is_outside false) spelled ∙ t.0.inside;
    }

-- a text's characters are its pattern's
chars_of : (cs : List ℕ) → characters (map as_char cs) ≡ cs
chars_of [] = refl
chars_of (c ∷ cs) = ap (λ (ds : List ℕ). c ∷ ds) (chars_of cs)

written_characters : (cs : List ℕ) → map character (map glyph_written (map as_char cs)) ≡ cs
written_characters [] = refl
written_characters (c ∷ cs) =
    ap (λ (d : ℕ). d ∷ map character (map glyph_written (map as_char cs))) (char_is c).character ∙ ap (λ (ds : List ℕ). c ∷ ds) (written_characters cs)

written_wild : (cs : List ℕ) → list_any is_wildcard (map glyph_written (map as_char cs)) ≡ false
written_wild [] = refl
written_wild (c ∷ cs) = let here = (char_is c).wildcard in rw here (written_wild cs)

pub record NameFor (cs : List ℕ) : Type 0 where
  pub text : token_text (spell_name (name_for cs)) ≡ written (name_written cs)
  pub has : HasText (spell_name (name_for cs))
  pub name : name_text (name_for cs) ≡ cs
  pub inside : is_outside false (spell_name (name_for cs)) ≡ false

pub name_fine : (c : ℕ) (cs : List ℕ) → all_scalars (c ∷ cs) ≡ true → NameFor (c ∷ cs)
unfolding name_for pattern_written
name_fine c cs h =
    let w = map glyph_written (map as_char (c ∷ cs)) in
    let scalars : all_scalars (characters (map as_char (c ∷ cs))) ≡ true = ap all_scalars (chars_of (c ∷ cs)) ∙ h in
    let l = wordless w in
    let v = no_word w in
    let n = name_is v (l.ready (pattern_ready (Char c) (map as_char cs) scalars)) (run_sort v) refl (sort_is v) l.no_word (l.wildcards ∙ written_wild (c ∷ cs)) in
    let spelled = n.spelled in
    record {
      text = ap token_text spelled ∙ n.text;
      has = subst HasText (sym spelled) n.has;
      name = n.name ∙ (l.characters ∙ written_characters (c ∷ cs));
      inside = ap (is_outside false) spelled ∙ n.inside;
    }

exact_as : (w : List Written) (s : Sort) → SortOf w s → is_word s ≡ false → list_any is_wildcard w ≡ false → term_as s w ≡ exact (name_as s w)
exact_as w _ (and_word e) no' none = absurd cc
exact_as w _ (or_word e) no' none = absurd cc
exact_as w _ (not_word e) no' none = absurd cc
exact_as w _ (is_star e) no' none = absurd (clash (ap (list_any is_wildcard) e) none) where
  clash : list_any is_wildcard w ≡ true → list_any is_wildcard w ≡ false → ⊥
  clash a b = let c : true ≡ false = sym a ∙ b in absurd cc
exact_as w _ (is_to e) no' none = refl
exact_as w _ (is_number cs e d) no' none = refl
exact_as w _ (is_wild e) no' none = absurd cc
exact_as w _ (is_plain e) no' none = refl

-- the term of characters alone has no wildcard
pub exact_for : (cs : List ℕ) → term_for (map as_char cs) ≡ exact (name_for cs)
unfolding term_for name_for pattern_written
exact_for cs =
    let w = map glyph_written (map as_char cs) in
    let l = wordless w in
    exact_as (no_word w) (run_sort (no_word w)) (sort_is (no_word w)) l.no_word (l.wildcards ∙ written_wild cs)

-- the text of a pattern is one token
pub term_scanned : (g : Glyph) (gs : List Glyph) → all_scalars (characters (g ∷ gs)) ≡ true
    → sorts (tokens (written (pattern_written (g ∷ gs)))) ≡ spell_term (term_for (g ∷ gs)) ∷ []
unfolding tokens scan
term_scanned g gs h =
    let t = term_fine g gs h in
    let f = scans_token (spell_term (term_for (g ∷ gs))) t.has origin [] at_end in
    ap (λ (cs : List ℕ). sorts (scan Outside origin cs)) (sym t.text ∙ sym (append-nil _)) ∙ f.1

-- ---- texts

abbrev no_backslash : List ℕ → Bool
no_backslash cs = list_all (λ c. not (c == 92)) cs

bare_again : (w : List Written) → no_backslash (written w) ≡ true → w ≡ map as_bare (written w)
bare_again [] h = refl
bare_again (Bare c ∷ w) h = ap (λ (v : List Written). Bare c ∷ v) (bare_again w (and_parts (not (c == 92)) (no_backslash (written w)) h).1)
bare_again (Escaped c ∷ w) h = absurd cc

from_text : (w : List Written) (cs : List ℕ) → bytes_eq (written w) cs ≡ true → no_backslash cs ≡ true → w ≡ map as_bare cs
from_text w cs is none =
    let same = (bytes_eq-Decides (written w) cs).0 is in
    bare_again w (ap no_backslash same ∙ none) ∙ ap (λ (ds : List ℕ). map as_bare ds) same

-- a run whose text is a word is this word
data WordIs (w : List Written) : Type 0 where
  and_is : w ≡ map as_bare (codes "AND") → WordIs w
  or_is : w ≡ map as_bare (codes "OR") → WordIs w
  not_is : w ≡ map as_bare (codes "NOT") → WordIs w

word_is : (w : List Written) → is_word_text (written w) ≡ true → WordIs w
word_is w h = elim (or_cases (bytes_eq (written w) (codes "AND")) _ h) [
  | inl first ↦ and_is (from_text w (codes "AND") first refl)
  | inr more ↦ elim (or_cases (bytes_eq (written w) (codes "OR")) (bytes_eq (written w) (codes "NOT")) more) [
    | inl second ↦ or_is (from_text w (codes "OR") second refl)
    | inr third ↦ not_is (from_text w (codes "NOT") third refl)
  ]
]

abbrev RunText : List Written → Type 0
RunText w = written (no_word w) ≡ word_escaped (written w)

word_text : (w : List Written) → WordIs w → RunText w
unfolding run_sort
word_text w (and_is e) = subst RunText (sym e) refl
word_text w (or_is e) = subst RunText (sym e) refl
word_text w (not_is e) = subst RunText (sym e) refl

text_of_word : (w : List Written) (s : Sort) → SortOf w s → is_word s ≡ true → is_word_text (written w) ≡ true
text_of_word w _ (and_word e) h = ap (λ (v : List Written). is_word_text (written v)) e
text_of_word w _ (or_word e) h = ap (λ (v : List Written). is_word_text (written v)) e
text_of_word w _ (not_word e) h = ap (λ (v : List Written). is_word_text (written v)) e
text_of_word w _ (is_star e) h = absurd cc
text_of_word w _ (is_to e) h = absurd cc
text_of_word w _ (is_number cs e d) h = absurd cc
text_of_word w _ (is_wild e) h = absurd cc
text_of_word w _ (is_plain e) h = absurd cc

run_text : (w : List Written) → RunText w
run_text w = elim (cases_Bool (is_word_text (written w))) [ inl yes' ↦ word_text w (word_is w yes') | inr no' ↦ kept (is_word (run_sort w)) refl no' ] where
  kept : (b : Bool) → is_word (run_sort w) ≡ b → is_word_text (written w) ≡ false → written (if b then escape_first w else w) ≡ word_escaped (written w)
  kept true is none = let both : true ≡ false = sym (text_of_word w (run_sort w) (sort_is w) is) ∙ none in absurd cc
  kept false is none = rw none refl

pub pattern_text : (gs : List Glyph) → written (pattern_written gs) ≡ word_escaped (written (map glyph_written gs))
unfolding pattern_written
pattern_text gs = run_text (map glyph_written gs)

spelled_text : (w : List Written) (s : Sort) → SortOf w s → is_word s ≡ false → token_text (spell_term (term_as s w)) ≡ written w
spelled_text w _ (and_word e) no' = absurd cc
spelled_text w _ (or_word e) no' = absurd cc
spelled_text w _ (not_word e) no' = absurd cc
spelled_text w _ (is_star e) no' = sym (bare_written w (codes "*") e)
spelled_text w _ (is_to e) no' = sym (bare_written w (codes "TO") e)
spelled_text w _ (is_number cs e d) no' = sym (bare_written w cs e)
spelled_text w _ (is_wild e) no' = refl
spelled_text w _ (is_plain e) no' = refl

term_text : (gs : List Glyph) → token_text (spell_term (term_for gs)) ≡ written (pattern_written gs)
unfolding term_for pattern_written
term_text gs =
    let w = map glyph_written gs in
    spelled_text (no_word w) (run_sort (no_word w)) (sort_is (no_word w)) (wordless w).no_word

-- of characters alone, so is the name's
pub name_text_is : (cs : List ℕ) → token_text (spell_name (name_for cs)) ≡ written (name_written cs)
name_text_is cs = ap (λ (t : Term). token_text (spell_term t)) (sym (exact_for cs)) ∙ term_text (map as_char cs)

pub leaf_text : (cs : List ℕ) (gs : List Glyph)
    → text_leaf (sought (name_for cs) (a_term (term_for gs))) ≡ written (name_written cs) ++ (58 ∷ written (pattern_written gs))
leaf_text cs gs =
    ap (λ (t : List ℕ). t ++ (58 ∷ token_text (spell_term (term_for gs)))) (name_text_is cs)
    ∙ ap (λ (t : List ℕ). written (name_written cs) ++ (58 ∷ t)) (term_text gs)
