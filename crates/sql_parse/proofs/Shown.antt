-- From the reading's answer to the grammar's.
use Rattle.std.proofs.Common.{◌≡◌, ℕ, ◌+◌, ◌-◌, ◌<◌, ◌≤◌, arith, List, [], ◌∷◌, ◌++◌, length, drop, take, refl, sym, ◌∙◌, ap, subst, length-append, length-drop}
use Rattle.std.specs.Prelude.{Result, Ok, Err, Option, Some, None, ◌↔◌, IfOk}
use Rattle.sql_lang.specs.Tokens.{Sort}
use Rattle.sql_lang.specs.Grammar.{Query, StopsAt, spell_query}
use Rattle.sql_lang.specs.Machine.{Begun, run, finish}
use Rattle.sql_lang.specs.Machine.{Ends, reads, stops_at_end, stops}
use Rattle.sql_parse.specs.View.{query_view}
use Rattle.sql_parse.specs.Outcomes.{Answers, Shows, left_of}
use Rattle.sql_parse.specs.declared.state.Outcome.{Outcome}
use Rattle.sql_parse.specs.declared.state.Outcome.TheVariants.{Read, Stops}

front_len : (ts front : List Sort) (n : ℕ) → n ≤ length ts → ts ≡ front ++ drop n ts → length front ≡ n
front_len ts front n le e =
    let a = ap length e in
    let b = length-append front (drop n ts) in
    let d = length-drop n ts in
    omega arith

spelled : (ts : List Sort) (q : Query) (r : Result (Option Query) (List Sort)) → Ends ts r → r ≡ Ok (Some q) → spell_query q ≡ ts
spelled ts q (Ok (Some p)) (reads r h) e = let same : r ≡ q = cc in subst (λ (x : Query). spell_query x ≡ ts) same h
spelled ts q (Ok None) (stops_at_end s) e = absurd cc
spelled ts q (Err rest) (stops front more s) e = absurd cc

parted : (ts rest : List Sort) (r : Result (Option Query) (List Sort)) → Ends ts r → left_of r ≡ Some rest → (front : List Sort) × StopsAt ts front rest
parted ts rest (Ok (Some q)) (reads r h) e = absurd cc
parted ts rest (Ok None) (stops_at_end s) e = let same : [] ≡ rest = cc in (ts, subst (StopsAt ts ts) same s)
parted ts rest (Err left) (stops front more s) e = let same : more ≡ rest = cc in (front, subst (StopsAt ts front) same s)

shown : ((ts : List Sort) → Ends ts (finish (run Begun ts))) → (ts : List Sort) (o : Outcome) → Answers ts o → Shows ts o
shown law ts (Read q) h = spelled ts (query_view q) (finish (run Begun ts)) (law ts) h
shown law ts (Stops n) h =
    let s = parted ts (drop n ts) (finish (run Begun ts)) (law ts) h.1 in
    (s.0, drop n ts, s.1, front_len ts s.0 n h.0 s.1.parts)

pub all_shown : {E : Type 0} → ((ts : List Sort) → Ends ts (finish (run Begun ts))) → (ts : List Sort) (r : Result Outcome E) → IfOk r (Answers ts) → IfOk r (Shows ts)
all_shown law ts (Ok o) h = shown law ts o h
all_shown law ts (Err e) h = tt
