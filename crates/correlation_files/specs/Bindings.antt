-- Which correlations are bound to rules and to the fields of a schema, and which are refused, once all files are read.
use Rattle.std.specs.Prelude.{◌≡◌, ℕ, List, [], ◌∷◌, map, None, Some, Result, Ok, Err, unwrap_or}
use Rattle.correlation_read.specs.Binding.{Names, bind_refusal, IsBound}
use Rattle.correlation_read.specs.Correlations.{PlainCorrelation}
use Rattle.correlation_windows.specs.declared.bound.Bound.{Bound}
use Rattle.event_schema.specs.Lists.{EachOf}
use Rattle.event_schema.specs.declared.schema.Field.{Field}
use Rattle.sig_base.specs.declared.refusal.Refusal.{Refusal}
use Rattle.correlation_files.specs.Found.{Named}

-- what its reports go by: its own name, or else its title
abbrev pub shown_name : PlainCorrelation → List ℕ
shown_name c = unwrap_or c.head.name c.head.title

abbrev pub Verdict : Type 0
Verdict = Result Bound Refusal

-- a correlation is bound to rules of these names and to these fields, or refused 141, 143 or 144
abbrev pub IsVerdict : List Names → List Field → Named → Verdict → Type 0
IsVerdict names fields c (Ok b) = (bind_refusal names fields c.1 ≡ None) × IsBound names fields c.1 b
IsVerdict names fields c (Err r) = bind_refusal names fields c.1 ≡ Some r

-- each of these correlations, with its verdict beside it
pub record AreJudged (names : List Names) (fields : List Field) (correlations : List Named) (judged : List (Named × Verdict)) : Type 0 where
  pub of : map (λ j. j.0) judged ≡ correlations
  pub each : EachOf (λ j. IsVerdict names fields j.0 j.1) judged

-- those that are bound, and the names that their reports go by, in the same order
abbrev pub bounds_in : List (Named × Verdict) → List Bound
bounds_in [] = []
bounds_in ((c, Ok b) ∷ judged) = b ∷ bounds_in judged
bounds_in ((c, Err r) ∷ judged) = bounds_in judged

abbrev pub names_in : List (Named × Verdict) → List (List ℕ)
names_in [] = []
names_in ((c, Ok b) ∷ judged) = shown_name c.1 ∷ names_in judged
names_in ((c, Err r) ∷ judged) = names_in judged

-- the causes for which the others are refused, each behind the name of its file
abbrev pub unbound_in : List (Named × Verdict) → List (List ℕ × Refusal)
unbound_in [] = []
unbound_in ((c, Ok b) ∷ judged) = unbound_in judged
unbound_in ((c, Err r) ∷ judged) = (c.0, r) ∷ unbound_in judged
