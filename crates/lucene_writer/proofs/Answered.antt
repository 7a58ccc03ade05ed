-- What the backend's text means, and what its trees are refused with.
use Rattle.std.proofs.Common.{ℕ, ◌≡◌, ◌≤◌, ◌<◌, [], ◌∷◌, Option, Some, None, arith, inl, inr, ◌⊎◌}
use Rattle.std.specs.Prelude.{length, min, ◌^◌, ◌-◌}
use Rattle.std.proofs.Math.Nat.{le-min}
use Rattle.event_schema.specs.declared.schema.Schema.{Schema}
use Rattle.sig_base.specs.Judged.{first}
use Rattle.sig_base.specs.declared.limits.Limits.{Limits}
use Rattle.sig_base.specs.declared.refusal.Place.{Place}
use Rattle.sig_base.specs.declared.refusal.Refusal.{Refusal}
use Rattle.backend_core.proofs.Checks.{parts, within, told_so}
use Rattle.backend_core.specs.Holds.{TreeHolds}
use Rattle.backend_core.specs.Means.{Means}
use Rattle.backend_core.specs.Trees.{Plain}
use Rattle.backend_core.specs.Writing.{IsTooDeep, by_depth, by_clauses}
use Rattle.lucene_lang.specs.Meaning.{LuceneSelects}
use Rattle.lucene_lang.specs.Reading.{Reads}
use Rattle.lucene_lang.specs.Queries.{IsWithin}
use Rattle.lucene_writer.specs.Queries.{query_bytes, query_depth, query_clauses, IsQueryOf}
use Rattle.lucene_writer.specs.Refused.{counted_at_most, deep_refusal}

-- the first of two
first_of : (a b : Option Refusal) (r : Refusal) → first (a ∷ b ∷ []) ≡ Some r → (a ≡ Some r) ⊎ (b ≡ Some r)
first_of (Some x) b r h = inl h
first_of None (Some y) r h = inr h
first_of None None r h = absurd cc

below : (m a b : ℕ) → m < a → m < b → m < min a b
below m a b x y = le-min x y

module _ (limits : Limits) (schema : Schema) (t : Plain) (place : Place) where
  pub shallow : deep_refusal limits schema t place ≡ None → query_depth schema t ≤ limits.lucene_depth
  shallow h =
      within 112 place (min (query_depth schema t) (2 ^ 64 - 1)) (query_depth schema t) limits.lucene_depth
      (parts (counted_at_most 112 place (query_depth schema t) limits.lucene_depth) (counted_at_most 113 place (query_clauses schema t) limits.lucene_clauses ∷ []) h).0

  -- a tree that is too deep or has too many clauses is told with the number
  pub too_deep_is : (r : Refusal) → deep_refusal limits schema t place ≡ Some r → IsTooDeep place r
  too_deep_is r e = elim (first_of (counted_at_most 112 place (query_depth schema t) limits.lucene_depth) (counted_at_most 113 place (query_clauses schema t) limits.lucene_clauses) r e) [
    | inl deep ↦
        (let so = told_so 112 place (min (query_depth schema t) (2 ^ 64 - 1)) (query_depth schema t) limits.lucene_depth r deep in
        by_depth (min (query_depth schema t) (2 ^ 64 - 1)) limits.lucene_depth
        (below limits.lucene_depth (query_depth schema t) (2 ^ 64 - 1) so.0 (omega (arith, limits.lucene_depth_in.1))) so.1)
    | inr many ↦
        (let so = told_so 113 place (min (query_clauses schema t) (2 ^ 64 - 1)) (query_clauses schema t) limits.lucene_clauses r many in
        by_clauses (min (query_clauses schema t) (2 ^ 64 - 1)) limits.lucene_clauses
        (below limits.lucene_clauses (query_clauses schema t) (2 ^ 64 - 1) so.0 (omega (arith, limits.lucene_clauses_in.1))) so.1)
  ]

  -- a text of which all is known that bytes have to say means its tree
  pub means : IsQueryOf limits.lucene_depth schema t (query_bytes schema t) → length (query_bytes schema t) ≤ limits.query_bytes
      → Means Reads IsWithin LuceneSelects limits schema (λ row. TreeHolds row t) (query_bytes schema t)
  means is short = record {
    query = is.query;
    reads = record { characters = is.characters; scalars = is.scalars; encoded = is.encoded; reads = is.reads.reads };
    within = record {
      short = omega (arith, short);
      reads = record { characters = is.characters; text = record { scalars = is.scalars; encoded = is.encoded }; reads = is.reads };
    };
    only = is.only;
    selects = is.selects;
  }
