-- A line feed behind a text adds no token, and takes none away: it ends the last one, as the end of the text does.
use Rattle.std.proofs.Common.{ℕ, ◌≡◌, refl, sym, ap, subst, Bool, true, false, ◌||◌, List, [], ◌∷◌, ◌++◌}
use Rattle.std.specs.Prelude.{Option, Some, None, ◌==◌, ◌&&◌, if◌then◌else◌, ⊤}
use Rattle.std.proofs.lemmas.Bool.{eqb-true}
use Rattle.event_schema.specs.declared.schema.Schema.{Schema}
use Rattle.query_tokens.specs.Places.{At, origin, after, CodeAt}
use Rattle.query_tokens.specs.Tokens.{sorts, places}
use Rattle.query_lang.specs.Ended.{with_line_feed, SameWithLineFeed, RefusedForPatterns}
use Rattle.query_lang.proofs.Text.{text_behind, one_more}
use Rattle.sql_lang.specs.Expression.{Expr}
use Rattle.sql_lang.specs.Faults.{query_faults}
use Rattle.sql_lang.specs.Grammar.{spell_query}
use Rattle.sql_lang.specs.Reading.{SqlReads, Reads, nests_too_far, BytesRead, BytesRefused, IsRefusedPlace}
use Rattle.sql_lang.specs.Tokens.{Op, Token, is_blank, is_run_char, begins_sign, long_sign, sign_of, sign_turn, quoted_sort, run_sort, Mode, Outside, Whole, InRun, InQuotes, AfterQuotes, InSign, start, goes_on, ends, turn, last, scan, tokens}
use Rattle.sql_lang.specs.Queries.{IsWithin}
use Rattle.sql_read.specs.Answers.{IsRefused}

-- quotes are opened by other characters than a line feed
abbrev IsQuoted : Mode → Type 0
IsQuoted Outside = ⊤
IsQuoted (Whole s q) = ⊤
IsQuoted (InRun w q) = ⊤
IsQuoted (InQuotes quote w q) = (10 == quote) ≡ false
IsQuoted (AfterQuotes quote w q) = (10 == quote) ≡ false
IsQuoted (InSign s q) = ⊤

is_quote : (c : ℕ) → (c == 34 || c == 39) ≡ true → (10 == c) ≡ false
is_quote c h = by (c == 34) refl h where
  by : (b : Bool) → (c == 34) ≡ b → (b || c == 39) ≡ true → (10 == c) ≡ false
  by true e k = subst (λ (d : ℕ). (10 == d) ≡ false) (sym (eqb-true c 34 e)) refl
  by false e k = subst (λ (d : ℕ). (10 == d) ≡ false) (sym (eqb-true c 39 k)) refl

start_quoted : (p : At) (c : ℕ) → IsQuoted (start p c)
start_quoted p c = by (is_blank c) (c == 34 || c == 39) refl (is_run_char c || c == 45) (begins_sign c) where
  by : (a b : Bool) → (c == 34 || c == 39) ≡ b → (d e : Bool)
      → IsQuoted (if a then Outside else if b then InQuotes c [] p else if d then InRun (c ∷ []) p else if e then InSign c p else Whole (sign_of c) p)
  by true b q d e = tt
  by false true q d e = is_quote c q
  by false false q true e = tt
  by false false q false true = tt
  by false false q false false = tt

turn_quoted : (m : Mode) (p : At) (c : ℕ) → IsQuoted m → IsQuoted (turn m p c).mode
turn_quoted Outside p c h = start_quoted p c
turn_quoted (Whole s q) p c h = start_quoted p c
turn_quoted (InRun w q) p c h = by (is_run_char c) where
  by : (b : Bool) → IsQuoted (if b then goes_on (InRun (w ++ c ∷ []) q) else ends (run_sort w) q (start p c)).mode
  by true = tt
  by false = start_quoted p c
turn_quoted (InQuotes quote w q) p c h = by (c == quote) where
  by : (b : Bool) → IsQuoted (if b then goes_on (AfterQuotes quote w q) else goes_on (InQuotes quote (w ++ c ∷ []) q)).mode
  by true = h
  by false = h
turn_quoted (AfterQuotes quote w q) p c h = by (c == quote) where
  by : (b : Bool) → IsQuoted (if b then goes_on (InQuotes quote (w ++ quote ∷ []) q) else ends (quoted_sort quote w) q (start p c)).mode
  by true = h
  by false = start_quoted p c
turn_quoted (InSign s q) p c h = by (long_sign s c) where
  by : (o : Option Op) → IsQuoted (sign_turn o s q (start p c)).mode
  by (Some op) = tt
  by None = start_quoted p c

-- ---- at the end

ends_with_feed : (m : Mode) (p : At) → IsQuoted m → (turn m p 10).ended ++ last (turn m p 10).mode ≡ last m
ends_with_feed Outside p h = refl
ends_with_feed (Whole s q) p h = refl
ends_with_feed (InRun w q) p h = refl
ends_with_feed (InQuotes quote w q) p h = rw h refl
ends_with_feed (AfterQuotes quote w q) p h = rw h refl
ends_with_feed (InSign s q) p h = by (s == 60) where
  by : (b : Bool) → (sign_turn (if b && false then Some Op.Ne else None) s q (start p 10)).ended ++ last (sign_turn (if b && false then Some Op.Ne else None) s q (start p 10)).mode
      ≡ last (InSign s q)
  by true = refl
  by false = refl

scan_with_feed : (m : Mode) (p : At) (cs : List ℕ) → IsQuoted m → scan m p (with_line_feed cs) ≡ scan m p cs
unfolding scan
scan_with_feed m p [] h = ends_with_feed m p h
scan_with_feed m p (c ∷ cs) h =
    ap (λ (ts : List Token). (turn m p c).ended ++ ts) (scan_with_feed (turn m p c).mode (after p c) cs (turn_quoted m p c h))

same_tokens : (cs : List ℕ) → tokens cs ≡ tokens (with_line_feed cs)
unfolding tokens
same_tokens cs = sym (scan_with_feed Outside origin cs tt)

-- ---- queries

reads_with_feed : (schema : Schema) (cs : List ℕ) (e : Expr) → SqlReads schema cs e → SqlReads schema (with_line_feed cs) e
reads_with_feed schema cs e h = record {
  query = h.query;
  spelled = subst (λ (ts : List Token). spell_query h.query ≡ sorts ts) (same_tokens cs) h.spelled;
  faultless = subst (λ (ts : List Token). query_faults schema [] h.query (places ts) ≡ []) (same_tokens cs) h.faultless;
  means = h.means;
}

bytes_with_feed : (limit : ℕ) (schema : Schema) (bytes : List ℕ) (e : Expr) → BytesRead limit schema bytes e → BytesRead limit schema (with_line_feed bytes) e
bytes_with_feed limit schema bytes e h = record {
  characters = with_line_feed h.characters;
  text = text_behind bytes h.characters h.text;
  reads = record {
    reads = reads_with_feed schema h.characters e h.reads.reads;
    nests = subst (λ (ts : List Token). nests_too_far limit (sorts ts) ≡ false) (same_tokens h.characters) h.reads.nests;
    deep = h.reads.deep;
  };
}

pub same_query : SameWithLineFeed Reads IsWithin
same_query limits schema bytes e reads within short =
    let text = text_behind bytes reads.characters (record { scalars = reads.scalars; encoded = reads.encoded }) in
    let whole : Reads schema (with_line_feed bytes) e = record {
      characters = with_line_feed reads.characters;
      scalars = text.scalars;
      encoded = text.encoded;
      reads = reads_with_feed schema reads.characters e reads.reads;
    } in
    (whole, record { short = one_more bytes limits.query_bytes short; reads = bytes_with_feed limits.sql_depth schema bytes e within.reads })

-- ---- refusals

-- a query within the limit is refused at such a place alone
abbrev pub OnlyAtPlaces : Type 0
OnlyAtPlaces = (limit : ℕ) (schema : Schema) (refused : List CodeAt) (bytes : List ℕ) (e : Expr) (f : CodeAt)
    → BytesRead limit schema bytes e → BytesRefused limit schema refused bytes f → IsRefusedPlace refused f

pub for_patterns : OnlyAtPlaces → RefusedForPatterns IsWithin IsRefused
for_patterns only limits schema bytes e places r within refused = (only limits.sql_depth schema places bytes e _ within.reads refused.first).1
