-- From the writer's clauses, one by one, to what the backend answers and what its texts mean.
use Rattle.std.proofs.Common.{ℕ, ◌≡◌, ◌≤◌, ◌<◌, List, [], ◌∷◌, Option, Some, None, sym, subst, ap, ◌∙◌, refl, inl, inr, arith}
use Rattle.std.specs.Prelude.{length, min, ◌^◌, ◌-◌, Result, Ok, Err, IfOk, IfErr, OnOk}
use Rattle.std.proofs.Math.Nat.{le-min}
use Rattle.event_schema.specs.declared.schema.Schema.{Schema}
use Rattle.sig_base.specs.Judged.{first}
use Rattle.sig_base.specs.declared.limits.Limits.{Limits}
use Rattle.sig_base.specs.declared.refusal.Fault.{Fault}
use Rattle.sig_base.specs.declared.refusal.Fault.TheVariants.{Memory, Refused}
use Rattle.sig_base.specs.declared.refusal.Place.{Place}
use Rattle.sig_base.specs.declared.refusal.Refusal.{Refusal}
use Rattle.backend_core.proofs.Checks.{rest_decides, line_decides, passes, fails, told_so}
use Rattle.backend_core.specs.Holds.{TreeHolds}
use Rattle.backend_core.specs.Lacks.{lack_refusal}
use Rattle.backend_core.specs.Means.{Means}
use Rattle.backend_core.specs.Trees.{Plain}
use Rattle.backend_core.specs.Writing.{IsTooDeep, by_depth, at_most, write_refusal, Writes}
use Rattle.backend_core.specs.declared.lack.Lack.{Lack}
use Rattle.backend_core.specs.declared.tree.Leaf.{Leaf}
use Rattle.sql_lang.specs.Expression.{depth}
use Rattle.sql_lang.specs.Reading.{Reads}
use Rattle.sql_lang.specs.Queries.{IsWithin, Picks}
use Rattle.sqlite_writer.specs.Lacking.{sqlite_lacks}
use Rattle.sqlite_writer.specs.Queries.{query_expr, query_bytes, IsQueryOf}
use Rattle.sqlite_writer.specs.Refused.{IsRefused, IsUnwritten, deep_refusal}

abbrev missing : Schema → Leaf → Option Lack
missing schema l = sqlite_lacks schema.fields l

below_min : (m a b : ℕ) → m < a → m < b → m < min a b
below_min m a b first second = le-min first second

module _ (limits : Limits) (schema : Schema) (t : Plain) (place : Place) where
  abbrev lack : Option Refusal
  lack = lack_refusal (missing schema) t

  abbrev deep : ℕ
  deep = depth (query_expr schema t)

  abbrev long : ℕ
  long = length (query_bytes schema t)

  abbrev too_long : Option Refusal
  too_long = at_most 114 place long long limits.query_bytes

  -- the order of the causes
  third : lack ≡ None → deep ≤ limits.sql_depth → write_refusal missing query_bytes deep_refusal limits schema t place ≡ first (too_long ∷ [])
  third none shallow =
      rest_decides lack (deep_refusal limits schema t place ∷ too_long ∷ []) none
      ∙ rest_decides (deep_refusal limits schema t place) (too_long ∷ []) (passes 112 place (min deep (2 ^ 64 - 1)) deep limits.sql_depth shallow)

  unwritten : (r : Refusal) → lack ≡ None → IsUnwritten limits.sql_depth limits.query_bytes place deep long (Refused r)
      → write_refusal missing query_bytes deep_refusal limits schema t place ≡ Some r
  unwritten r none (inl h) =
      rest_decides lack (deep_refusal limits schema t place ∷ too_long ∷ []) none
      ∙ line_decides (deep_refusal limits schema t place) r (too_long ∷ []) (fails 112 place (min deep (2 ^ 64 - 1)) deep limits.sql_depth h.0 ∙ ap Some (sym h.1))
  unwritten r none (inr h) =
      third none h.0 ∙ line_decides too_long r [] (fails 114 place long long limits.query_bytes h.1 ∙ ap Some (sym h.2))

  refused : (r : Refusal) (o : Option Refusal) → lack ≡ o → IsRefused o (IsUnwritten limits.sql_depth limits.query_bytes place deep long) (Refused r)
      → write_refusal missing query_bytes deep_refusal limits schema t place ≡ Some r
  refused r None is h = unwritten r is h
  refused r (Some lacks) is h = line_decides lack r (deep_refusal limits schema t place ∷ too_long ∷ []) (is ∙ ap Some (sym h))

  -- what the writer's clauses say is what a backend answers
  pub writes : (r : Result (List ℕ) Fault) → IfOk r (λ bytes. bytes ≡ query_bytes schema t) → OnOk r (lack ≡ None)
      → IfOk r (λ bytes. deep ≤ limits.sql_depth) → IfOk r (λ bytes. length bytes ≤ limits.query_bytes)
      → IfErr r (λ e. IsRefused lack (IsUnwritten limits.sql_depth limits.query_bytes place deep long) e)
      → Writes missing query_bytes deep_refusal limits schema t place r
  writes (Ok bytes) same none shallow short err =
      (third none shallow ∙ rest_decides too_long [] (passes 114 place long long limits.query_bytes (subst (λ (bs : List ℕ). length bs ≤ limits.query_bytes) same short)), same)
  writes (Err Memory) same none shallow short err = tt
  writes (Err (Refused r)) same none shallow short err = refused r lack refl err

  -- a tree that is too deep is told with its depth
  pub too_deep_is : (r : Refusal) → deep_refusal limits schema t place ≡ Some r → IsTooDeep place r
  too_deep_is r e =
      let so = told_so 112 place (min deep (2 ^ 64 - 1)) deep limits.sql_depth r e in
      by_depth (min deep (2 ^ 64 - 1)) limits.sql_depth (below_min limits.sql_depth deep (2 ^ 64 - 1) so.0 (omega (arith, limits.sql_depth_in.1))) so.1

  -- a text of which all is known that bytes have to say means its tree
  pub means : IsQueryOf limits.sql_depth schema t (query_bytes schema t) → long ≤ limits.query_bytes
      → Means Reads IsWithin Picks limits schema (λ row. TreeHolds row t) (query_bytes schema t)
  means is short = record {
    query = is.expr;
    reads = record { characters = is.characters; scalars = is.scalars; encoded = is.encoded; reads = is.reads.reads };
    within = record {
      short = omega (arith, short);
      reads = record { characters = is.characters; text = record { scalars = is.scalars; encoded = is.encoded }; reads = is.reads };
    };
    only = is.only;
    selects = is.selects;
  }
