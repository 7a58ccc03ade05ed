-- A text has exactly one verdict: it is one query within the limit, or it has one first refusal.
use Rattle.std.proofs.Common.{ℕ, ◌≡◌, ◌-◌, refl, sym, ◌∙◌, ap, Bool, true, false, List, [], ◌∷◌, ◌++◌, length, ◌⊎◌, inl, inr, subst, arith, length-append}
use Rattle.std.specs.Prelude.{Option, Some, None, Result, Ok, Err}
use Rattle.event_schema.specs.declared.schema.Schema.{Schema}
use Rattle.query_tokens.specs.Places.{At, CodeAt, code_at}
use Rattle.query_tokens.specs.Tokens.{sorts, places, token_place}
use Rattle.query_tokens.proofs.Stops.{one_stop_of, no_stop_of}
use Rattle.lucene_lang.specs.Tokens.{Sort, tokens}
use Rattle.lucene_lang.specs.Grammar as grammar
use Rattle.lucene_lang.specs.Grammar.{spell_group, StopsAt}
use Rattle.lucene_lang.specs.Query.{Group, group_of}
use Rattle.lucene_lang.specs.Faults.{query_faults}
use Rattle.lucene_lang.specs.Reading.{ReadsWithin, Refuses, left_out, nested, stopped, faulty, first_outside, opens_too_far}
use Rattle.lucene_lang.specs.Machine.{begun, run, finish, Ends, reads, stops_at_end, stops}
use Rattle.lucene_lang.specs.Verdict.{on_faults, on_query, on_nesting, on_outside, verdict, IsVerdict}
use Rattle.lucene_lang.proofs.Complete.{one_spelled}
use Rattle.lucene_lang.proofs.Alive.{ends_so}

-- ---- not both, and one

no_stop_spelled : (q : grammar.Group) (ts front rest : List Sort) → spell_group q ≡ ts → StopsAt ts front rest → ⊥
no_stop_spelled q ts front rest spelled s = no_stop_of spell_group q front rest (subst (λ (us : List Sort). StopsAt us front rest) (sym spelled) s)

same_query : (p q : grammar.Group) (ts : List Sort) → spell_group p ≡ ts → spell_group q ≡ ts → p ≡ q
same_query p q ts a b = one_spelled p q (a ∙ sym b)

module _ (limit : ℕ) (schema : Schema) (cs : List ℕ) where
  pub not_both_of : (g : Group) (f : CodeAt) → ReadsWithin limit schema cs g → Refuses limit schema cs f → ⊥
  not_both_of g f r (left_out p outside is) = let e = r.reads.inside in absurd cc
  not_both_of g f r (nested known far is) = let e = r.nests in absurd cc
  not_both_of g f r (stopped front rest known near s is) = no_stop_spelled r.reads.query (sorts (tokens cs)) front rest r.reads.spelled s
  not_both_of g f r (faulty q known near spelled more is) =
      let same = same_query r.reads.query q (sorts (tokens cs)) r.reads.spelled spelled in
      let none : query_faults schema q (places (tokens cs)) ≡ [] = subst (λ (p : grammar.Group). query_faults schema p (places (tokens cs)) ≡ []) same r.reads.faultless in
      absurd cc

  same_place : (front rest other more : List Sort) → sorts (tokens cs) ≡ front ++ rest → sorts (tokens cs) ≡ other ++ more → rest ≡ more → length front ≡ length other
  same_place front rest other more a b same =
      omega (arith, ap length a, ap length b, length-append front rest, length-append other more, ap length same)

  pub one_refusal_of : (f g : CodeAt) → Refuses limit schema cs f → Refuses limit schema cs g → f ≡ g
  one_refusal_of f g (left_out p outside is) (left_out p' outside' is') = cc
  one_refusal_of f g (left_out p outside is) (nested known far is') = absurd cc
  one_refusal_of f g (left_out p outside is) (stopped front rest known near s is') = absurd cc
  one_refusal_of f g (left_out p outside is) (faulty q known near spelled more is') = absurd cc
  one_refusal_of f g (nested known far is) (left_out p outside is') = absurd cc
  one_refusal_of f g (nested known far is) (nested known' far' is') = cc
  one_refusal_of f g (nested known far is) (stopped front rest known' near s is') = absurd cc
  one_refusal_of f g (nested known far is) (faulty q known' near spelled more is') = absurd cc
  one_refusal_of f g (stopped front rest known near s is) (left_out p outside is') = absurd cc
  one_refusal_of f g (stopped front rest known near s is) (nested known' far is') = absurd cc
  one_refusal_of f g (stopped front rest known near s is) (stopped other more known' near' r is') =
      let same = one_stop_of spell_group (sorts (tokens cs)) front rest other more s r in
      let count = same_place front rest other more s.parts r.parts same in
      is ∙ (ap (λ (n : ℕ). code_at 130 (token_place cs (tokens cs) n)) count ∙ sym is')
  one_refusal_of f g (stopped front rest known near s is) (faulty q known' near' spelled more is') =
      absurd (no_stop_spelled q (sorts (tokens cs)) front rest spelled s)
  one_refusal_of f g (faulty p known near spelled more is) (left_out q outside is') = absurd cc
  one_refusal_of f g (faulty p known near spelled more is) (nested known' far is') = absurd cc
  one_refusal_of f g (faulty p known near spelled more is) (stopped front rest known' near' s is') =
      absurd (no_stop_spelled p (sorts (tokens cs)) front rest spelled s)
  one_refusal_of f g (faulty p known near spelled more is) (faulty q known' near' spelled' more' is') =
      let same = same_query p q (sorts (tokens cs)) spelled spelled' in
      let first : query_faults schema q (places (tokens cs)) ≡ f ∷ more = subst (λ (r : grammar.Group). query_faults schema r (places (tokens cs)) ≡ f ∷ more) same is in
      cc

  -- ---- the verdict, computed

  module _ (known : first_outside false (tokens cs) ≡ None) where
    module _ (near : opens_too_far limit 0 0 (sorts (tokens cs)) ≡ false) where
      faults_verdict : (q : grammar.Group) (fs : List CodeAt) → spell_group q ≡ sorts (tokens cs) → query_faults schema q (places (tokens cs)) ≡ fs → IsVerdict limit schema cs (on_faults (group_of schema.fields q) fs)
      faults_verdict q [] spelled is = record {
        reads = record { query = q; inside = known; spelled = spelled; faultless = is; means = refl };
        nests = near;
      }
      faults_verdict q (f ∷ fs) spelled is = faulty q known near spelled fs is

      query_verdict : (r : Result (Option grammar.Group) (List Sort)) → Ends (sorts (tokens cs)) r → IsVerdict limit schema cs (on_query schema cs r)
      query_verdict _ (reads q spelled) = faults_verdict q (query_faults schema q (places (tokens cs))) spelled refl
      query_verdict _ (stops_at_end s) = stopped (sorts (tokens cs)) [] known near s refl
      query_verdict _ (stops front rest s) =
          let count : length (sorts (tokens cs)) - length rest ≡ length front = omega (arith, ap length s.parts, length-append front rest) in
          stopped front rest known near s (ap (λ (n : ℕ). code_at 130 (token_place cs (tokens cs) n)) count)

    nesting_verdict : (b : Bool) → opens_too_far limit 0 0 (sorts (tokens cs)) ≡ b → IsVerdict limit schema cs (on_nesting b schema cs)
    nesting_verdict true is = nested known is refl
    nesting_verdict false is = query_verdict is (finish (run begun (sorts (tokens cs)))) (ends_so (sorts (tokens cs)))

  outside_verdict : (o : Option At) → first_outside false (tokens cs) ≡ o → IsVerdict limit schema cs (on_outside o limit schema cs)
  outside_verdict (Some p) is = left_out p is refl
  outside_verdict None is = nesting_verdict is (opens_too_far limit 0 0 (sorts (tokens cs))) refl

  pub verdict_is : IsVerdict limit schema cs (verdict limit schema cs)
  unfolding verdict
  verdict_is = outside_verdict (first_outside false (tokens cs)) refl

  pub has_verdict_of : ((g : Group) × ReadsWithin limit schema cs g) ⊎ ((f : CodeAt) × Refuses limit schema cs f)
  has_verdict_of = by (verdict limit schema cs) verdict_is where
    by : (r : Result Group CodeAt) → IsVerdict limit schema cs r → ((g : Group) × ReadsWithin limit schema cs g) ⊎ ((f : CodeAt) × Refuses limit schema cs f)
    by (Ok g) h = inl (g, h)
    by (Err f) h = inr (f, h)
