-- Some query begins with what a state has read; so the reading stops exactly where no query goes on.
use Rattle.std.proofs.Common.{◌≡◌, refl, sym, ◌∙◌, ap, List, [], ◌∷◌, ◌++◌, append_assoc, append-nil, subst}
use Rattle.std.specs.Prelude.{Option, Some, None, Result, Ok, Err}
use Rattle.lucene_lang.specs.Tokens.{Sort, Star, To, Opening, Closing, Closes, Colon}
use Rattle.lucene_lang.specs.Grammar.{star, unbounded, a_term, a_range, Group, everything, sought, Atom, a_leaf, enclosed, spell_group, spell_atom, Begins, IsQuery, IsDead}
use Rattle.lucene_lang.specs.Machine.{Partial, Start, Starred, StarColon, Named, Seeking, Ranging, Low, Upto, High, Complete, Level, ended, State, Inside, step, on_step, run, begun, done, finish, Ends, reads, stops_at_end, stops}
use Rattle.lucene_lang.proofs.Complete.{reads_query}
use Rattle.lucene_lang.proofs.Sofar.{sofar_partial, sofar_level, sofar_outer, sofar, ended_spells, Grows, step_grows}

-- ---- completions

-- an atom that begins with what was read of one
record Completes (p : Partial) : Type 0 where
  core : Atom
  rest : List Sort
  spelled : spell_atom core ≡ sofar_partial p ++ rest

completes : (p : Partial) → Completes p
completes Start = record { core = a_leaf everything; rest = Star ∷ Colon ∷ Star ∷ []; spelled = refl }
completes Starred = record { core = a_leaf everything; rest = Colon ∷ Star ∷ []; spelled = refl }
completes StarColon = record { core = a_leaf everything; rest = Star ∷ []; spelled = refl }
completes (Named n) = record { core = a_leaf (sought n (a_term star)); rest = Colon ∷ Star ∷ []; spelled = refl }
completes (Seeking n) = record { core = a_leaf (sought n (a_term star)); rest = Star ∷ []; spelled = refl }
completes (Ranging n b) = record { core = a_leaf (sought n (a_range b unbounded unbounded b)); rest = Star ∷ To ∷ Star ∷ Closes b ∷ []; spelled = refl }
completes (Low n b e) = record { core = a_leaf (sought n (a_range b e unbounded b)); rest = To ∷ Star ∷ Closes b ∷ []; spelled = refl }
completes (Upto n b e) = record { core = a_leaf (sought n (a_range b e unbounded b)); rest = Star ∷ Closes b ∷ []; spelled = refl }
completes (High n b e f) = record { core = a_leaf (sought n (a_range b e f b)); rest = Closes b ∷ []; spelled = refl }
completes (Complete a) = record { core = a; rest = []; spelled = sym (append-nil (spell_atom a)) }

record Encloses (ls : List Level) (ts : List Sort) : Type 0 where
  whole : Group
  rest : List Sort
  spelled : spell_group whole ≡ (sofar_outer ls ++ ts) ++ rest

encloses : (ls : List Level) (g : Group) (ts rest : List Sort) → spell_group g ≡ ts ++ rest → Encloses ls ts
encloses [] g ts rest spelled = record { whole = g; rest = rest; spelled = spelled }
encloses (l ∷ ls) g ts rest spelled =
    let here : spell_group (ended l (enclosed g)) ≡ (sofar_level l ++ Opening ∷ ts) ++ (rest ++ Closing ∷ [])
    = ended_spells l (enclosed g) ∙ rw spelled (simp append_assoc) in
    let outer = encloses ls (ended l (enclosed g)) (sofar_level l ++ Opening ∷ ts) (rest ++ Closing ∷ []) here in
    record { whole = outer.whole; rest = outer.rest; spelled = outer.spelled ∙ simp append_assoc }

-- some query begins with what a state has read
pub alive : (s : State) → Begins (sofar s)
alive (Inside p l ls) =
    let c = completes p in
    let here : spell_group (ended l c.core) ≡ (sofar_level l ++ sofar_partial p) ++ c.rest = ended_spells l c.core ∙ rw c.spelled (simp append_assoc) in
    let e = encloses ls (ended l c.core) (sofar_level l ++ sofar_partial p) c.rest here in
    (e.whole, e.rest, e.spelled)

goes_step : (s u : State) (t : Sort) (ts : List Sort) → step s t ≡ Some u → run s (t ∷ ts) ≡ run u ts
goes_step s u t ts is = rw is refl

-- ---- runs: one that ends has read all, and one that stops has read a front

abbrev RunReads : State → List Sort → Result State (List Sort) → Type 0
RunReads s ts (Ok u) = sofar u ≡ sofar s ++ ts
RunReads s ts (Err rest) =
    (front : List Sort) × (u : State) × (t : Sort) × (more : List Sort) × (rest ≡ t ∷ more) × (ts ≡ front ++ rest) × (sofar u ≡ sofar s ++ front)
    × (step u t ≡ None) × ((us : List Sort) → run s (front ++ us) ≡ run u us)

step_grew : (s u : State) (t : Sort) → step s t ≡ Some u → sofar u ≡ sofar s ++ t ∷ []
step_grew s u t is = let P : Option State → Type 0 = λ o. Grows o (sofar s ++ t ∷ []) in subst P is (step_grows s t)

run_more : (s u : State) (t : Sort) (ts : List Sort) (r : Result State (List Sort)) → step s t ≡ Some u → RunReads u ts r → RunReads s (t ∷ ts) r
run_more s u t ts (Ok v) is h = h ∙ (ap (λ (us : List Sort). us ++ ts) (step_grew s u t is) ∙ append_assoc (sofar s) (t ∷ []) ts)
run_more s u t ts (Err rest) is h = (
  t ∷ h.0,
  h.1,
  h.2,
  h.3,
  h.4,
  ap (λ (us : List Sort). t ∷ us) h.5,
  h.6 ∙ (ap (λ (us : List Sort). us ++ h.0) (step_grew s u t is) ∙ append_assoc (sofar s) (t ∷ []) h.0),
  h.7,
  λ us. goes_step s u t (h.0 ++ us) is ∙ h.8 us,
)

run_next : (s : State) (t : Sort) (ts : List Sort) (o : Option State) → step s t ≡ o → ((u : State) → RunReads u ts (run u ts))
    → RunReads s (t ∷ ts) (on_step o (λ u. run u ts) (t ∷ ts))
run_next s t ts None is more = ([], s, t, ts, refl, refl, sym (append-nil (sofar s)), is, λ us. refl)
run_next s t ts (Some u) is more = run_more s u t ts (run u ts) is (more u)

run_reads : (s : State) (ts : List Sort) → RunReads s ts (run s ts)
run_reads s [] = sym (append-nil (sofar s))
run_reads s (t ∷ ts) = run_next s t ts (step s t) refl (λ u. run_reads u ts)

-- ---- how a reading ends

abbrev DoneSpells : Option Group → List Sort → Type 0
DoneSpells None ts = Unit {0}
DoneSpells (Some q) ts = spell_group q ≡ ts

done_spells : (s : State) → DoneSpells (done s) (sofar s)
done_spells (Inside (Complete a) l []) = ended_spells l a
done_spells (Inside (Complete a) l (m ∷ ls)) = tt
done_spells (Inside p l ls) = tt

-- a reading that ends with no query has read none
no_query : (ts : List Sort) (r : Result (Option Group) (List Sort)) → finish (run begun ts) ≡ r → ((q : Group) → r ≡ Ok (Some q) → ⊥) → IsQuery ts → ⊥
no_query ts r is none (q, spelled) = none q (sym is ∙ (ap (λ (us : List Sort). finish (run begun us)) (sym spelled) ∙ reads_query q))

ends_done : (ts : List Sort) (s : State) (o : Option Group) → run begun ts ≡ Ok s → done s ≡ o → sofar s ≡ ts → DoneSpells o (sofar s) → Ends ts (Ok o)
ends_done ts s (Some q) is same read spelled = reads q (spelled ∙ read)
ends_done ts s None is same read spelled =
    let ended : finish (run begun ts) ≡ Ok None = ap finish is ∙ ap (λ (o : Option Group). Ok o) same in
    stops_at_end (record {
      parts = sym (append-nil ts);
      alive = subst Begins read (alive s);
      dead = no_query ts (Ok None) ended (λ q e. absurd cc);
    })

err_stays : (u : State) (t : Sort) (us : List Sort) → step u t ≡ None → run u (t ∷ us) ≡ Err (t ∷ us)
err_stays u t us is = rw is refl

dead_at : (front : List Sort) (u : State) (t : Sort) (more : List Sort) → step u t ≡ None → ((us : List Sort) → run begun (front ++ us) ≡ run u us)
    → IsDead front (t ∷ more)
dead_at front u t more is goes (q, behind, spelled) =
    let text : spell_group q ≡ front ++ t ∷ behind = spelled ∙ append_assoc front (t ∷ []) behind in
    let stuck : run begun (front ++ t ∷ behind) ≡ Err (t ∷ behind) = goes (t ∷ behind) ∙ err_stays u t behind is in
    let ended : finish (run begun (spell_group q)) ≡ Err (t ∷ behind) = ap (λ (us : List Sort). finish (run begun us)) text ∙ ap finish stuck in
    let read = reads_query q in
    absurd cc

ends_run : (ts : List Sort) (r : Result State (List Sort)) → run begun ts ≡ r → RunReads begun ts r → Ends ts (finish r)
ends_run ts (Ok s) is h = ends_done ts s (done s) is refl h (done_spells s)
ends_run ts (Err rest) is h = stops h.0 rest (record {
  parts = h.5;
  alive = subst Begins h.6 (alive h.1);
  dead = subst (IsDead h.0) (sym h.4) (dead_at h.0 h.1 h.2 h.3 h.7 h.8);
})

pub ends_so : (ts : List Sort) → Ends ts (finish (run begun ts))
ends_so ts = ends_run ts (run begun ts) refl (run_reads begun ts)
