-- Some query begins with what a state has read; so the reading stops exactly where no query goes on.
use Rattle.std.proofs.Common.{ℕ, ◌≡◌, refl, sym, ◌∙◌, ap, true, false, List, [], ◌∷◌, ◌++◌, append_assoc, append-nil, subst}
use Rattle.std.specs.Prelude.{Option, Some, None, Result, Ok, Err}
use Rattle.sql_lang.specs.Tokens.{FROM, WHERE, AND, IS, NULL, LIKE, BETWEEN, NOCASE, Eq, Sort, Word, Name, Text, Number, Opening, Closing, Star, Compares}
use Rattle.sql_lang.specs.Grammar.{Unsaid, NoCase, a_text, a_name, constant, is_null, compares, like, glob, regexp, one_of, between, Ors, last_and, last_not, Nots, a_test, enclosed, Query, spell_test, spell_or, spell_nots, spell_head, spell_query, Begins, IsQuery, IsDead}
use Rattle.sql_lang.specs.Machine.{Partial, Start, Named, Collating, Collated, Is, IsNot, Against, Compared, RightCollating, NamedNot, CollatedNot, Liking, Liked, Escaping, Globbing, Searching, Among, Listing, Listed, Ranging, Low, High, Complete, Closed, Level, ors_of, State, Begun, Selected, Starred, FromWord, Tabled, Inside, Ended, whole, step, on_step, run, query_if, done, finish, Ends, reads, stops_at_end, stops}
use Rattle.sql_lang.proofs.Complete.{reads_query, goes_step}
use Rattle.sql_lang.proofs.Sofar.{Grows, Spells, sofar_test, sofar_level, sofar_outer, sofar, step_grows, whole_spells, ors_of_spells}

-- ---- completions

-- a not that begins with what was read of a test
record Completes (p : Partial) : Type 0 where
  core : Nots
  rest : List Sort
  spelled : spell_nots core ≡ sofar_test p ++ rest

completes : (p : Partial) → Completes p
completes Start = record { core = a_test (constant false); rest = spell_test (constant false); spelled = refl }
completes (Named n) = record { core = a_test (is_null n false); rest = Word IS ∷ Word NULL ∷ []; spelled = refl }
completes (Collating n) =
    record { core = a_test (compares n NoCase Eq (a_name n) Unsaid); rest = Word NOCASE ∷ Compares Eq ∷ Name n ∷ []; spelled = refl }
completes (Collated n c) = record { core = a_test (compares n c Eq (a_name n) Unsaid); rest = Compares Eq ∷ Name n ∷ []; spelled = refl }
completes (Is n) = record { core = a_test (is_null n false); rest = Word NULL ∷ []; spelled = refl }
completes (IsNot n) = record { core = a_test (is_null n true); rest = Word NULL ∷ []; spelled = refl }
completes (Against n c op) = record { core = a_test (compares n c op (a_name n) Unsaid); rest = Name n ∷ []; spelled = simp append_assoc }
completes (Compared n c op x) = record { core = a_test (compares n c op x Unsaid); rest = []; spelled = simp (append_assoc, append-nil) }
completes (RightCollating n c op x) = record { core = a_test (compares n c op x NoCase); rest = Word NOCASE ∷ []; spelled = simp append_assoc }
completes (NamedNot n) = record { core = a_test (like n true [] None); rest = Word LIKE ∷ Text [] ∷ []; spelled = refl }
completes (CollatedNot n c) =
    record { core = a_test (between n c true [] []); rest = Word BETWEEN ∷ Number [] ∷ Word AND ∷ Number [] ∷ []; spelled = simp append_assoc }
completes (Liking n b) = record { core = a_test (like n b [] None); rest = Text [] ∷ []; spelled = simp append_assoc }
completes (Liked n b v) = record { core = a_test (like n b v None); rest = []; spelled = simp (append_assoc, append-nil) }
completes (Escaping n b v) = record { core = a_test (like n b v (Some [])); rest = Text [] ∷ []; spelled = simp append_assoc }
completes (Globbing n b) = record { core = a_test (glob n b []); rest = Text [] ∷ []; spelled = simp append_assoc }
completes (Searching n b) = record { core = a_test (regexp n b []); rest = Text [] ∷ []; spelled = simp append_assoc }
completes (Among n c b) = record { core = a_test (one_of n c b [] (a_text [])); rest = Opening ∷ Text [] ∷ Closing ∷ []; spelled = simp append_assoc }
completes (Listing n c b ls) = record { core = a_test (one_of n c b ls (a_text [])); rest = Text [] ∷ Closing ∷ []; spelled = simp append_assoc }
completes (Listed n c b ls l) = record { core = a_test (one_of n c b ls l); rest = Closing ∷ []; spelled = simp append_assoc }
completes (Ranging n c b) =
    record { core = a_test (between n c b [] []); rest = Number [] ∷ Word AND ∷ Number [] ∷ []; spelled = simp append_assoc }
completes (Low n c b w) = record { core = a_test (between n c b w []); rest = Word AND ∷ Number [] ∷ []; spelled = simp append_assoc }
completes (High n c b w) = record { core = a_test (between n c b w []); rest = Number [] ∷ []; spelled = simp append_assoc }
completes (Complete t) = record { core = a_test t; rest = []; spelled = simp append-nil }
completes (Closed o) = record { core = enclosed o; rest = []; spelled = simp append-nil }

-- an or that begins with what was read of the outer levels and of this one
record Encloses (ls : List Level) (ts : List Sort) : Type 0 where
  whole_or : Ors
  rest : List Sort
  spelled : spell_or whole_or ≡ (sofar_outer ls ++ ts) ++ rest

encloses : (ls : List Level) (o : Ors) (ts rest : List Sort) → spell_or o ≡ ts ++ rest → Encloses ls ts
encloses [] o ts rest spelled = record { whole_or = o; rest = rest; spelled = spelled }
encloses (l ∷ ls) o ts rest spelled =
    let here : spell_or (ors_of l (enclosed o)) ≡ (sofar_level l ++ Opening ∷ ts) ++ (rest ++ Closing ∷ [])
    = ors_of_spells l (enclosed o) ∙ rw spelled (simp append_assoc) in
    let outer = encloses ls (ors_of l (enclosed o)) (sofar_level l ++ Opening ∷ ts) (rest ++ Closing ∷ []) here in
    record { whole_or = outer.whole_or; rest = outer.rest; spelled = outer.spelled ∙ simp append_assoc }

some_query : (table : List ℕ) (o : Ors) → Query
some_query table o = record { table = table; condition = o; ends = false }

a_false : Ors
a_false = last_and (last_not (a_test (constant false)))

-- some query begins with what a state has read
pub alive : (s : State) → Begins (sofar s)
unfolding some_query a_false
alive Begun = (some_query [] a_false, spell_query (some_query [] a_false), refl)
alive Selected = (some_query [] a_false, Star ∷ Word FROM ∷ Name [] ∷ Word WHERE ∷ spell_or a_false, refl)
alive Starred = (some_query [] a_false, Word FROM ∷ Name [] ∷ Word WHERE ∷ spell_or a_false, refl)
alive FromWord = (some_query [] a_false, Name [] ∷ Word WHERE ∷ spell_or a_false, refl)
alive (Tabled n) = (some_query n a_false, Word WHERE ∷ spell_or a_false, refl)
alive (Inside table p l ls) =
    let c = completes p in
    let here : spell_or (ors_of l c.core) ≡ (sofar_level l ++ sofar_test p) ++ c.rest = ors_of_spells l c.core ∙ rw c.spelled (simp append_assoc) in
    let e = encloses ls (ors_of l c.core) (sofar_level l ++ sofar_test p) c.rest here in
    (some_query table e.whole_or, e.rest, rw e.spelled (simp (append_assoc, append-nil)))
alive (Ended table o) = (record { table = table; condition = o; ends = true }, [], simp append-nil)

-- ---- runs: one that ends has read all, and one that stops has read a front

abbrev RunReads : State → List Sort → Result State (List Sort) → Type 0
RunReads s ts (Ok u) = sofar u ≡ sofar s ++ ts
RunReads s ts (Err rest) =
    (front : List Sort) × (u : State) × (t : Sort) × (more : List Sort) × (rest ≡ t ∷ more) × (ts ≡ front ++ rest) × (sofar u ≡ sofar s ++ front)
    × (step u t ≡ None) × ((us : List Sort) → run s (front ++ us) ≡ run u us)

step_grew : (s u : State) (t : Sort) → step s t ≡ Some u → sofar u ≡ sofar s ++ t ∷ []
step_grew s u t is = let P : Option State → Type 0 = λ o. Grows o (sofar s ++ t ∷ []) in subst P is (step_grows s t)

run_more : (s u : State) (t : Sort) (ts : List Sort) (r : Result State (List Sort)) → step s t ≡ Some u → RunReads u ts r → RunReads s (t ∷ ts) r
run_more s u t ts (Ok v) is h = h ∙ (ap (λ (us : List Sort). us ++ ts) (step_grew s u t is) ∙ append_assoc (sofar s) (t ∷ []) ts)
run_more s u t ts (Err rest) is h = (
  t ∷ h.0,
  h.1,
  h.2,
  h.3,
  h.4,
  ap (λ (us : List Sort). t ∷ us) h.5,
  h.6 ∙ (ap (λ (us : List Sort). us ++ h.0) (step_grew s u t is) ∙ append_assoc (sofar s) (t ∷ []) h.0),
  h.7,
  λ us. goes_step s u t (h.0 ++ us) is ∙ h.8 us,
)

run_next : (s : State) (t : Sort) (ts : List Sort) (o : Option State) → step s t ≡ o → ((u : State) → RunReads u ts (run u ts))
    → RunReads s (t ∷ ts) (on_step o (λ u. run u ts) (t ∷ ts))
run_next s t ts None is more = ([], s, t, ts, refl, refl, sym (append-nil (sofar s)), is, λ us. refl)
run_next s t ts (Some u) is more = run_more s u t ts (run u ts) is (more u)

run_reads : (s : State) (ts : List Sort) → RunReads s ts (run s ts)
run_reads s [] = sym (append-nil (sofar s))
run_reads s (t ∷ ts) = run_next s t ts (step s t) refl (λ u. run_reads u ts)

-- ---- how a reading ends

abbrev DoneSpells : Option Query → List Sort → Type 0
DoneSpells None ts = Unit {0}
DoneSpells (Some q) ts = spell_query q ≡ ts

query_if_spells : (table : List ℕ) (o : Option Nots) (l : Level) (ls : List Level) (ts : List Sort) → Spells o ts
    → DoneSpells (query_if table o l ls) (spell_head table ++ (sofar_outer ls ++ (sofar_level l ++ ts)))
query_if_spells table None l ls ts h = tt
query_if_spells table (Some v) l [] ts h = rw (ors_of_spells l v, h) (simp append-nil)
query_if_spells table (Some v) l (m ∷ ls) ts h = tt

done_spells : (s : State) → DoneSpells (done s) (sofar s)
done_spells (Inside table p l ls) = query_if_spells table (whole p) l ls (sofar_test p) (whole_spells p)
done_spells (Ended table o) = refl
done_spells s = tt

-- a reading that ends with no query has read none
no_query : (ts : List Sort) (r : Result (Option Query) (List Sort)) → finish (run Begun ts) ≡ r → ((q : Query) → r ≡ Ok (Some q) → ⊥) → IsQuery ts → ⊥
no_query ts r is none (q, spelled) = none q (sym is ∙ (ap (λ (us : List Sort). finish (run Begun us)) (sym spelled) ∙ reads_query q))

ends_done : (ts : List Sort) (s : State) (o : Option Query) → run Begun ts ≡ Ok s → done s ≡ o → sofar s ≡ ts → DoneSpells o (sofar s) → Ends ts (Ok o)
ends_done ts s (Some q) is same read spelled = reads q (spelled ∙ read)
ends_done ts s None is same read spelled =
    let ended : finish (run Begun ts) ≡ Ok None = ap finish is ∙ ap (λ (o : Option Query). Ok o) same in
    stops_at_end (record {
      parts = sym (append-nil ts);
      alive = subst Begins read (alive s);
      dead = no_query ts (Ok None) ended (λ q e. absurd cc);
    })

err_stays : (u : State) (t : Sort) (us : List Sort) → step u t ≡ None → run u (t ∷ us) ≡ Err (t ∷ us)
err_stays u t us is = rw is refl

dead_at : (front : List Sort) (u : State) (t : Sort) (more : List Sort) → step u t ≡ None → ((us : List Sort) → run Begun (front ++ us) ≡ run u us)
    → IsDead front (t ∷ more)
dead_at front u t more is goes (q, behind, spelled) =
    let text : spell_query q ≡ front ++ t ∷ behind = spelled ∙ append_assoc front (t ∷ []) behind in
    let stuck : run Begun (front ++ t ∷ behind) ≡ Err (t ∷ behind) = goes (t ∷ behind) ∙ err_stays u t behind is in
    let ended : finish (run Begun (spell_query q)) ≡ Err (t ∷ behind) = ap (λ (us : List Sort). finish (run Begun us)) text ∙ ap finish stuck in
    let read = reads_query q in
    absurd cc

ends_run : (ts : List Sort) (r : Result State (List Sort)) → run Begun ts ≡ r → RunReads Begun ts r → Ends ts (finish r)
ends_run ts (Ok s) is h = ends_done ts s (done s) is refl h (done_spells s)
ends_run ts (Err rest) is h = stops h.0 rest (record {
  parts = h.5;
  alive = subst Begins h.6 (alive h.1);
  dead = subst (IsDead h.0) (sym h.4) (dead_at h.0 h.1 h.2 h.3 h.7 h.8);
})

pub ends_so : (ts : List Sort) → Ends ts (finish (run Begun ts))
ends_so ts = ends_run ts (run Begun ts) refl (run_reads Begun ts)
