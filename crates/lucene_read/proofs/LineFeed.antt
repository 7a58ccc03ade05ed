-- A line feed behind a query's text adds no token, and takes none away: it ends the last one, as the end of the text does. (It would not
-- behind a backslash, but no query ends with one.)
use Rattle.std.proofs.Common.{ℕ, ◌≡◌, refl, sym, ap, subst, false, List, [], ◌∷◌, ◌++◌}
use Rattle.std.specs.Prelude.{⊤, None}
use Rattle.event_schema.specs.Lists.{EachOf}
use Rattle.event_schema.specs.declared.schema.Schema.{Schema}
use Rattle.query_tokens.specs.Places.{At, origin, after, CodeAt}
use Rattle.query_tokens.specs.Tokens.{sorts, places}
use Rattle.query_lang.specs.Ended.{with_line_feed, SameWithLineFeed, RefusedForPatterns}
use Rattle.query_lang.proofs.Text.{text_behind, one_more}
use Rattle.lucene_lang.specs.Faults.{query_faults}
use Rattle.lucene_lang.specs.Grammar.{Name, to, decimal, plain, star, wild, exact, unbounded, bound, Value, a_term, a_phrase, a_range, Group, last as last_clause, joined, Clause, asked, forbidden, everything, sought, Atom, a_leaf, enclosed, spell_name, spell_value, spell_group, spell_clause, spell_atom}
use Rattle.lucene_lang.specs.Query as query
use Rattle.lucene_lang.specs.Reading.{first_outside, LuceneReads, Reads, opens_too_far, BytesRead, BytesRefused}
use Rattle.lucene_lang.specs.Tokens.{Sort, Joins, Closing, Unclosed, Token, Mode, Outside, InRun, BehindBackslash, InPhrase, EscapedInPhrase, turn, last, cut_run, scan, tokens}
use Rattle.lucene_read.specs.Answered.{IsRefused}
use Rattle.lucene_lang.specs.Queries.{IsWithin}

-- ---- no query has an unclosed token

abbrev IsClosed : Sort → Type 0
IsClosed Unclosed = ⊥
IsClosed s = ⊤

abbrev AreClosed : List Sort → Type 0
AreClosed ts = EachOf IsClosed ts

both : (ts us : List Sort) → AreClosed ts → AreClosed us → AreClosed (ts ++ us)
both [] us h k = k
both (t ∷ ts) us h k = (h.0, both ts us h.1 k)

name_closed : (n : Name) → IsClosed (spell_name n)
name_closed to = tt
name_closed (decimal w) = tt
name_closed (plain w) = tt

value_closed : (v : Value) → AreClosed (spell_value v)
value_closed (a_term star) = (tt, tt)
value_closed (a_term (wild w)) = (tt, tt)
value_closed (a_term (exact n)) = (name_closed n, tt)
value_closed (a_phrase w) = (tt, tt)
value_closed (a_range b unbounded unbounded c) = (tt, (tt, (tt, (tt, (tt, tt)))))
value_closed (a_range b unbounded (bound w) c) = (tt, (tt, (tt, (tt, (tt, tt)))))
value_closed (a_range b (bound v) unbounded c) = (tt, (tt, (tt, (tt, (tt, tt)))))
value_closed (a_range b (bound v) (bound w) c) = (tt, (tt, (tt, (tt, (tt, tt)))))

mutual
  group_closed : (g : Group) → AreClosed (spell_group g)
  group_closed (last_clause c) = clause_closed c
  group_closed (joined c w g) = both (spell_clause c) (Joins w ∷ spell_group g) (clause_closed c) (tt, group_closed g)

  clause_closed : (c : Clause) → AreClosed (spell_clause c)
  clause_closed (asked a) = atom_closed a
  clause_closed (forbidden a) = (tt, atom_closed a)

  atom_closed : (a : Atom) → AreClosed (spell_atom a)
  atom_closed (a_leaf everything) = (tt, (tt, (tt, tt)))
  atom_closed (a_leaf (sought n v)) = (name_closed n, (tt, value_closed v))
  atom_closed (enclosed g) = (tt, both (spell_group g) (Closing ∷ []) (group_closed g) (tt, tt))

-- ---- at the end

behind : (ts us : List Token) → AreClosed (sorts (ts ++ us)) → AreClosed (sorts us)
behind [] us h = h
behind (t ∷ ts) us h = behind ts us h.1

ends_with_feed : (m : Mode) (p : At) → AreClosed (sorts (last m)) → (turn m p 10).ended ++ last (turn m p 10).mode ≡ last m
ends_with_feed Outside p h = refl
ends_with_feed (InRun w q) p h = refl
ends_with_feed (BehindBackslash w q b) p h = absurd (behind (cut_run w q) _ h).0
ends_with_feed (InPhrase w q) p h = refl
ends_with_feed (EscapedInPhrase w q) p h = refl

scan_with_feed : (m : Mode) (p : At) (cs : List ℕ) → AreClosed (sorts (scan m p cs)) → scan m p (with_line_feed cs) ≡ scan m p cs
unfolding scan
scan_with_feed m p [] h = ends_with_feed m p h
scan_with_feed m p (c ∷ cs) h =
    ap (λ (ts : List Token). (turn m p c).ended ++ ts) (scan_with_feed (turn m p c).mode (after p c) cs (behind (turn m p c).ended _ h))

same_tokens : (cs : List ℕ) → AreClosed (sorts (tokens cs)) → tokens cs ≡ tokens (with_line_feed cs)
unfolding tokens
same_tokens cs h = sym (scan_with_feed Outside origin cs h)

-- ---- queries

query_tokens : (schema : Schema) (cs : List ℕ) (g : query.Group) → LuceneReads schema cs g → tokens cs ≡ tokens (with_line_feed cs)
query_tokens schema cs g h = same_tokens cs (subst AreClosed h.spelled (group_closed h.query))

reads_with_feed : (schema : Schema) (cs : List ℕ) (g : query.Group) → LuceneReads schema cs g → LuceneReads schema (with_line_feed cs) g
reads_with_feed schema cs g h = let same = query_tokens schema cs g h in record {
  query = h.query;
  inside = subst (λ (ts : List Token). first_outside false ts ≡ None) same h.inside;
  spelled = subst (λ (ts : List Token). spell_group h.query ≡ sorts ts) same h.spelled;
  faultless = subst (λ (ts : List Token). query_faults schema h.query (places ts) ≡ []) same h.faultless;
  means = h.means;
}

bytes_with_feed : (limit : ℕ) (schema : Schema) (bytes : List ℕ) (g : query.Group) → BytesRead limit schema bytes g → BytesRead limit schema (with_line_feed bytes) g
bytes_with_feed limit schema bytes g h = record {
  characters = with_line_feed h.characters;
  text = text_behind bytes h.characters h.text;
  reads = record {
    reads = reads_with_feed schema h.characters g h.reads.reads;
    nests = subst (λ (ts : List Token). opens_too_far limit 0 0 (sorts ts) ≡ false) (query_tokens schema h.characters g h.reads.reads) h.reads.nests;
  };
}

pub same_query : SameWithLineFeed Reads IsWithin
same_query limits schema bytes g reads within short =
    let text = text_behind bytes reads.characters (record { scalars = reads.scalars; encoded = reads.encoded }) in
    let whole : Reads schema (with_line_feed bytes) g = record {
      characters = with_line_feed reads.characters;
      scalars = text.scalars;
      encoded = text.encoded;
      reads = reads_with_feed schema reads.characters g reads.reads;
    } in
    (whole, record { short = one_more bytes limits.query_bytes short; reads = bytes_with_feed limits.lucene_depth schema bytes g within.reads })

-- ---- refusals

-- no query within the limit is refused
abbrev pub NeverRefused : Type 0
NeverRefused = (limit : ℕ) (schema : Schema) (bytes : List ℕ) (g : query.Group) (f : CodeAt)
    → BytesRead limit schema bytes g → BytesRefused limit schema bytes f → ⊥

pub for_patterns : NeverRefused → RefusedForPatterns IsWithin IsRefused
for_patterns never limits schema bytes g places r within refused = absurd (never limits.lucene_depth schema bytes g _ within.reads refused.first)
