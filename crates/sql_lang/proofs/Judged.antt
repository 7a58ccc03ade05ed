-- A text has exactly one verdict: it is one query within the limit, or it has one first refusal.
use Rattle.std.proofs.Common.{ℕ, ◌≡◌, ◌-◌, ◌<◌, ◌≤◌, refl, sym, ◌∙◌, ap, Bool, true, false, List, [], ◌∷◌, ◌++◌, length, arith, subst, length-append, ◌⊎◌, inl, inr}
use Rattle.std.specs.Prelude.{Option, Some, None, Result, Ok, Err, nat_lt, not}
use Rattle.std.specs.List.{list_all}
use Rattle.std.proofs.lemmas.List.{append_cancel_right}
use Rattle.std.proofs.lemmas.List.Folds.{list_all-append}
use Rattle.std.proofs.lemmas.Bool.Decides.{nat_tests}
use Rattle.std.proofs.lemmas.Bool.{and_parts}
use Rattle.event_schema.specs.declared.schema.Schema.{Schema}
use Rattle.query_tokens.specs.Places.{At, CodeAt, code_at}
use Rattle.sql_lang.specs.Tokens.{Token, Sort, Word, OR, AND, Closing, tokens}
use Rattle.query_tokens.specs.Tokens.{sorts, places, token_place}
use Rattle.sql_lang.specs.Grammar.{Collate, Unsaid, NoCase, Binary, Literal, a_text, a_number, Right, a_name, a_literal, Leaf, constant, is_null, compares, like, glob, regexp, one_of, between, Ors, last_and, and_or, Ands, last_not, not_and, Nots, not_not, a_test, enclosed, Query, spell_collate, spell_literal, spell_right, spell_not, spell_escape, spell_before, spell_test, spell_or, spell_and, spell_nots, spell_end, spell_query, StopsAt}
use Rattle.sql_lang.specs.Expression.{Expr, or_expr, depth}
use Rattle.sql_lang.specs.Faults.{query_faults}
use Rattle.sql_lang.specs.Reading.{ReadsWithin, IsRefusedPlace, Refuses, no_token, nested, stopped, deep, faulty, is_other, first_other, nests_too_far}
use Rattle.sql_lang.specs.Machine.{Begun, run, finish, Ends, reads, stops_at_end, stops}
use Rattle.sql_lang.specs.Verdict.{on_faults, on_depth, on_query, on_nesting, on_other, verdict, IsVerdict}
use Rattle.sql_lang.proofs.Complete.{one_spelled}
use Rattle.sql_lang.proofs.Fewer.{fewer, first_refused}
use Rattle.query_tokens.proofs.Stops.{one_stop_of, no_stop_of}
use Rattle.sql_lang.proofs.Alive.{ends_so}

-- ---- a query's tokens are all of the language

abbrev is_known : Sort → Bool
is_known s = not (is_other s)

abbrev AreKnown : List Sort → Type 0
AreKnown ts = list_all is_known ts ≡ true

known_both : (a b : List Sort) → AreKnown a → AreKnown b → AreKnown (a ++ b)
known_both a b first second = list_all-append is_known a b ∙ rw first second

known_collate : (c : Collate) → AreKnown (spell_collate c)
known_collate Unsaid = refl
known_collate NoCase = refl
known_collate Binary = refl

known_literal : (l : Literal) → is_known (spell_literal l) ≡ true
known_literal (a_text t) = refl
known_literal (a_number w) = refl

known_right : (x : Right) → is_known (spell_right x) ≡ true
known_right (a_name n) = refl
known_right (a_literal l) = known_literal l

known_not : (b : Bool) → AreKnown (spell_not b)
known_not false = refl
known_not true = refl

known_escape : (e : Option (List ℕ)) → AreKnown (spell_escape e)
known_escape None = refl
known_escape (Some e) = refl

known_before : (ls : List Literal) → AreKnown (spell_before ls)
known_before [] = refl
known_before (l ∷ ls) = let here = known_literal l in let more = known_before ls in rw here more

known_test : (t : Leaf) → AreKnown (spell_test t)
known_test (constant b) = refl
known_test (is_null n b) = known_both (spell_not b) (Word _ ∷ []) (known_not b) refl
known_test (compares n c op x d) = known_both (spell_collate c) (_ ∷ spell_right x ∷ spell_collate d) (known_collate c) (let h = known_right x in rw h (known_collate d))
known_test (like n b v e) = known_both (spell_not b) (_ ∷ _ ∷ spell_escape e) (known_not b) (known_escape e)
known_test (glob n b v) = known_both (spell_not b) (_ ∷ _ ∷ []) (known_not b) refl
known_test (regexp n b v) = known_both (spell_not b) (_ ∷ _ ∷ []) (known_not b) refl
known_test (one_of n c b ls l) =
    let behind : AreKnown (spell_before ls ++ spell_literal l ∷ Closing ∷ [])
    = known_both (spell_before ls) (spell_literal l ∷ Closing ∷ []) (known_before ls) (let h = known_literal l in rw h refl) in
    known_both (spell_collate c) (spell_not b ++ _ ∷ _ ∷ (spell_before ls ++ spell_literal l ∷ Closing ∷ [])) (known_collate c)
    (known_both (spell_not b) (_ ∷ _ ∷ (spell_before ls ++ spell_literal l ∷ Closing ∷ [])) (known_not b) behind)
known_test (between n c b low high) =
    known_both (spell_collate c) (spell_not b ++ _ ∷ _ ∷ _ ∷ _ ∷ []) (known_collate c) (known_both (spell_not b) (_ ∷ _ ∷ _ ∷ _ ∷ []) (known_not b) refl)

mutual
  known_or : (o : Ors) → AreKnown (spell_or o)
  known_or (last_and a) = known_and a
  known_or (and_or a o) = known_both (spell_and a) (Word OR ∷ spell_or o) (known_and a) (known_or o)

  known_and : (a : Ands) → AreKnown (spell_and a)
  known_and (last_not n) = known_nots n
  known_and (not_and n a) = known_both (spell_nots n) (Word AND ∷ spell_and a) (known_nots n) (known_and a)

  known_nots : (n : Nots) → AreKnown (spell_nots n)
  known_nots (not_not n) = known_nots n
  known_nots (a_test t) = known_test t
  known_nots (enclosed o) = known_both (spell_or o) (Closing ∷ []) (known_or o) refl

known_end : (b : Bool) → AreKnown (spell_end b)
known_end false = refl
known_end true = refl

known_query : (q : Query) → AreKnown (spell_query q)
known_query q = known_both (spell_or q.condition) (spell_end q.ends) (known_or q.condition) (known_end q.ends)

no_other : (ts : List Token) → AreKnown (sorts ts) → first_other ts ≡ None
no_other [] all = refl
no_other (t ∷ ts) all =
    let each = and_parts (is_known t.sort) (list_all is_known (sorts ts)) all in
    let here : is_other t.sort ≡ false = not_known (is_other t.sort) each.0 in
    rw here (no_other ts each.1) where
      not_known : (b : Bool) → not b ≡ true → b ≡ false
      not_known true h = absurd cc
      not_known false h = refl

no_other_in : (q : Query) (ts : List Token) → spell_query q ≡ sorts ts → first_other ts ≡ None
no_other_in q ts spelled = no_other ts (subst AreKnown spelled (known_query q))

-- ---- not both, and one refusal

no_stop_spelled : (q : Query) (ts front rest : List Sort) → spell_query q ≡ ts → StopsAt ts front rest → ⊥
no_stop_spelled q ts front rest spelled s = no_stop_of spell_query q front rest (subst (λ (us : List Sort). StopsAt us front rest) (sym spelled) s)

same_condition : (p q : Query) (ts : List Sort) → spell_query p ≡ ts → spell_query q ≡ ts → p ≡ q
same_condition p q ts first second = one_spelled p q (first ∙ sym second)

-- A query within the limit is refused by its faults alone.
module _ (limit : ℕ) (schema : Schema) (refused : List CodeAt) (cs : List ℕ) (q : Query) (P : CodeAt → Type 0) where
  refused_so : spell_query q ≡ sorts (tokens cs) → nests_too_far limit (sorts (tokens cs)) ≡ false → depth (or_expr schema.fields q.condition) ≤ limit
      → ((f : CodeAt) (more : List CodeAt) → query_faults schema refused q (places (tokens cs)) ≡ f ∷ more → P f)
      → (f : CodeAt) → Refuses limit schema refused cs f → P f
  refused_so spelled nests within only f (no_token place other is) = let none = no_other_in q (tokens cs) spelled in absurd cc
  refused_so spelled nests within only f (nested other far is) = absurd cc
  refused_so spelled nests within only f (stopped front rest other near s is) = absurd (no_stop_spelled q (sorts (tokens cs)) front rest spelled s)
  refused_so spelled nests within only f (deep r other near spelled' below is) =
      let same = same_condition q r (sorts (tokens cs)) spelled spelled' in
      let over : limit < depth (or_expr schema.fields q.condition) = subst (λ (p : Query). limit < depth (or_expr schema.fields p.condition)) (sym same) below in
      absurd (omega arith)
  refused_so spelled nests within only f (faulty r other near spelled' below more is) =
      let same = same_condition q r (sorts (tokens cs)) spelled spelled' in
      only f more (subst (λ (p : Query). query_faults schema refused p (places (tokens cs)) ≡ f ∷ more) (sym same) is)

pub not_both_of : (limit : ℕ) (schema : Schema) (refused : List CodeAt) (cs : List ℕ) (e : Expr) (f : CodeAt)
    → ReadsWithin limit schema cs e → Refuses limit schema refused cs f → IsRefusedPlace refused f
not_both_of limit schema refused cs e f r h =
    let within : depth (or_expr schema.fields r.reads.query.condition) ≤ limit = subst (λ (x : Expr). depth x ≤ limit) r.reads.means r.deep in
    refused_so limit schema refused cs r.reads.query (IsRefusedPlace refused) r.reads.spelled r.nests within
    (λ g more is. first_refused schema refused r.reads.query (places (tokens cs)) g more r.reads.faultless is) f h

one_length : (ts front rest other more : List Sort) → StopsAt ts front rest → StopsAt ts other more → length front ≡ length other
one_length ts front rest other more s r =
    let same = one_stop_of spell_query ts front rest other more s r in
    let parts : front ++ rest ≡ other ++ rest = sym s.parts ∙ (r.parts ∙ ap (λ (us : List Sort). other ++ us) (sym same)) in
    ap length (append_cancel_right front other rest parts)

pub one_refusal_of : (limit : ℕ) (schema : Schema) (refused : List CodeAt) (cs : List ℕ) (f g : CodeAt) → Refuses limit schema refused cs f → Refuses limit schema refused cs g → f ≡ g
one_refusal_of limit schema refused cs f g (no_token p other is) (no_token q other' is') = let same : p ≡ q = cc in cc
one_refusal_of limit schema refused cs f g (no_token p other is) (nested other' far is') = absurd cc
one_refusal_of limit schema refused cs f g (no_token p other is) (stopped front rest other' near s is') = absurd cc
one_refusal_of limit schema refused cs f g (no_token p other is) (deep q other' near spelled below is') = absurd cc
one_refusal_of limit schema refused cs f g (no_token p other is) (faulty q other' near spelled within more is') = absurd cc
one_refusal_of limit schema refused cs f g (nested other far is) (no_token q other' is') = absurd cc
one_refusal_of limit schema refused cs f g (nested other far is) (nested other' far' is') = cc
one_refusal_of limit schema refused cs f g (nested other far is) (stopped front rest other' near s is') = absurd cc
one_refusal_of limit schema refused cs f g (nested other far is) (deep q other' near spelled below is') = absurd cc
one_refusal_of limit schema refused cs f g (nested other far is) (faulty q other' near spelled within more is') = absurd cc
one_refusal_of limit schema refused cs f g (stopped front rest other near s is) (no_token q other' is') = absurd cc
one_refusal_of limit schema refused cs f g (stopped front rest other near s is) (nested other' far is') = absurd cc
one_refusal_of limit schema refused cs f g (stopped front rest other near s is) (stopped front' rest' other' near' s' is') =
    let same = one_length (sorts (tokens cs)) front rest front' rest' s s' in
    is ∙ (ap (λ (n : ℕ). code_at 120 (token_place cs (tokens cs) n)) same ∙ sym is')
one_refusal_of limit schema refused cs f g (stopped front rest other near s is) (deep q other' near' spelled below is') =
    absurd (no_stop_spelled q (sorts (tokens cs)) front rest spelled s)
one_refusal_of limit schema refused cs f g (stopped front rest other near s is) (faulty q other' near' spelled within more is') =
    absurd (no_stop_spelled q (sorts (tokens cs)) front rest spelled s)
one_refusal_of limit schema refused cs f g (deep p other near spelled below is) (no_token q other' is') = absurd cc
one_refusal_of limit schema refused cs f g (deep p other near spelled below is) (nested other' far is') = absurd cc
one_refusal_of limit schema refused cs f g (deep p other near spelled below is) (stopped front rest other' near' s is') =
    absurd (no_stop_spelled p (sorts (tokens cs)) front rest spelled s)
one_refusal_of limit schema refused cs f g (deep p other near spelled below is) (deep q other' near' spelled' below' is') = cc
one_refusal_of limit schema refused cs f g (deep p other near spelled below is) (faulty q other' near' spelled' within more is') =
    let same = same_condition p q (sorts (tokens cs)) spelled spelled' in
    let over : limit < depth (or_expr schema.fields q.condition) = subst (λ (r : Query). limit < depth (or_expr schema.fields r.condition)) same below in
    absurd (omega arith)
one_refusal_of limit schema refused cs f g (faulty p other near spelled within more is) (no_token q other' is') = absurd cc
one_refusal_of limit schema refused cs f g (faulty p other near spelled within more is) (nested other' far is') = absurd cc
one_refusal_of limit schema refused cs f g (faulty p other near spelled within more is) (stopped front rest other' near' s is') =
    absurd (no_stop_spelled p (sorts (tokens cs)) front rest spelled s)
one_refusal_of limit schema refused cs f g (faulty p other near spelled within more is) (deep q other' near' spelled' below is') =
    let same = same_condition p q (sorts (tokens cs)) spelled spelled' in
    let over : limit < depth (or_expr schema.fields p.condition) = subst (λ (r : Query). limit < depth (or_expr schema.fields r.condition)) (sym same) below in
    absurd (omega arith)
one_refusal_of limit schema refused cs f g (faulty p other near spelled within more is) (faulty q other' near' spelled' within' more' is') =
    let same = same_condition p q (sorts (tokens cs)) spelled spelled' in
    let first : query_faults schema refused q (places (tokens cs)) ≡ f ∷ more = subst (λ (r : Query). query_faults schema refused r (places (tokens cs)) ≡ f ∷ more) same is in
    cc

-- ---- the verdict, computed

module _ (limit : ℕ) (schema : Schema) (refused : List CodeAt) (cs : List ℕ) (known : first_other (tokens cs) ≡ None) (near : nests_too_far limit (sorts (tokens cs)) ≡ false) where
  faults_verdict : (q : Query) (fs : List CodeAt) → spell_query q ≡ sorts (tokens cs) → depth (or_expr schema.fields q.condition) ≤ limit
      → query_faults schema refused q (places (tokens cs)) ≡ fs → IsVerdict limit schema refused cs (on_faults (or_expr schema.fields q.condition) fs)
  faults_verdict q [] spelled within is = (
    record { reads = record { query = q; spelled = spelled; faultless = fewer schema refused q (places (tokens cs)) is; means = refl }; nests = near; deep = within },
    refused_so limit schema refused cs q (λ f. ⊥) spelled near within (λ f more are. let none : [] ≡ f ∷ more = sym is ∙ are in absurd cc),
  )
  faults_verdict q (f ∷ fs) spelled within is = faulty q known near spelled within fs is

  depth_verdict : (q : Query) (b : Bool) → spell_query q ≡ sorts (tokens cs) → nat_lt limit (depth (or_expr schema.fields q.condition)) ≡ b
      → IsVerdict limit schema refused cs (on_depth b schema refused cs q)
  depth_verdict q true spelled is = deep q known near spelled (grind (arith, nat_tests)) refl
  depth_verdict q false spelled is =
      faults_verdict q (query_faults schema refused q (places (tokens cs))) spelled (grind (arith, nat_tests)) refl

  query_verdict : (r : Result (Option Query) (List Sort)) → Ends (sorts (tokens cs)) r → IsVerdict limit schema refused cs (on_query limit schema refused cs r)
  query_verdict _ (reads q spelled) = depth_verdict q (nat_lt limit (depth (or_expr schema.fields q.condition))) spelled refl
  query_verdict _ (stops_at_end s) = stopped (sorts (tokens cs)) [] known near s refl
  query_verdict _ (stops front rest s) =
      let count : length (sorts (tokens cs)) - length rest ≡ length front = omega (arith, ap length s.parts, length-append front rest) in
      stopped front rest known near s (ap (λ (n : ℕ). code_at 120 (token_place cs (tokens cs) n)) count)

nesting_verdict : (limit : ℕ) (schema : Schema) (refused : List CodeAt) (cs : List ℕ) (b : Bool) → first_other (tokens cs) ≡ None → nests_too_far limit (sorts (tokens cs)) ≡ b
    → IsVerdict limit schema refused cs (on_nesting b limit schema refused cs)
nesting_verdict limit schema refused cs true known is = nested known is refl
nesting_verdict limit schema refused cs false known is =
    query_verdict limit schema refused cs known is (finish (run Begun (sorts (tokens cs)))) (ends_so (sorts (tokens cs)))

other_verdict : (limit : ℕ) (schema : Schema) (refused : List CodeAt) (cs : List ℕ) (o : Option At) → first_other (tokens cs) ≡ o → IsVerdict limit schema refused cs (on_other o limit schema refused cs)
other_verdict limit schema refused cs (Some p) is = no_token p is refl
other_verdict limit schema refused cs None is = nesting_verdict limit schema refused cs (nests_too_far limit (sorts (tokens cs))) is refl

pub verdict_is : (limit : ℕ) (schema : Schema) (refused : List CodeAt) (cs : List ℕ) → IsVerdict limit schema refused cs (verdict limit schema refused cs)
unfolding verdict
verdict_is limit schema refused cs = other_verdict limit schema refused cs (first_other (tokens cs)) refl

pub has_verdict_of : (limit : ℕ) (schema : Schema) (refused : List CodeAt) (cs : List ℕ)
    → ((e : Expr) × ReadsWithin limit schema cs e × ((f : CodeAt) → Refuses limit schema refused cs f → ⊥)) ⊎ ((f : CodeAt) × Refuses limit schema refused cs f)
has_verdict_of limit schema refused cs = by (verdict limit schema refused cs) (verdict_is limit schema refused cs) where
  by : (r : Result Expr CodeAt) → IsVerdict limit schema refused cs r
      → ((e : Expr) × ReadsWithin limit schema cs e × ((f : CodeAt) → Refuses limit schema refused cs f → ⊥)) ⊎ ((f : CodeAt) × Refuses limit schema refused cs f)
  by (Ok e) h = inl (e, h.0, h.1)
  by (Err f) h = inr (f, h)
