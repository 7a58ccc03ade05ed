-- What becomes of a test, counted and made.
use Rattle.std.proofs.Common.{ℕ, ◌+◌, max, ◌≡◌, Bool, true, false, ◌&&◌, ◌||◌, length, List, [], ◌∷◌, map, refl, sym, subst, ap, ◌∙◌}
use native.Mathlib.Omega.{arith}
use Rattle.std.specs.Prelude.{Option, Some, None, if◌then◌else◌, Result, IfOk}
use Rattle.std.specs.List.{list_any}
use Rattle.std.proofs.lemmas.Bool.{or_parts}
use Rattle.std.proofs.lemmas.List.{length-map}
use Rattle.sig_base.specs.declared.refusal.Fault.{Fault}
use Rattle.rule_detections.specs.declared.test.Test.{Test}
use Rattle.rule_detections.specs.declared.test.Test.TheVariants as tests
use Rattle.sig_strings.specs.Edits.{has_wildcard, plain_text}
use Rattle.sig_strings.specs.declared.part.Part.{Part}
use Rattle.sig_strings.specs.declared.part.Part.TheVariants.{Char, One, Run, Dash, Hole}
use Rattle.pipeline_model.specs.declared.pipeline.Var.{Var}
use Rattle.pipeline_model.specs.declared.step.Action.{Action}
use Rattle.pipeline_model.specs.declared.step.Pair.{Pair}
use Rattle.pipeline_fill.specs.declared.growth.Growth.{Growth}
use Rattle.pipeline_limits.specs.Sizes.{total}
use Rattle.pipeline_fill.specs.Entries.{texts_for, largest}
use Rattle.pipeline_fill.specs.Filled.{is_chosen, filled, patterns_found, put_for, is_missing, lacks_values}
use Rattle.pipeline_fill.specs.Changed.{filled_if_chosen, made_of, mapped, is_cased, as_tests}
use Rattle.pipeline_fill.specs.Counts.{capped}
use Rattle.pipeline_fill.specs.Extent.{value_extent}
use Rattle.pipeline_fill.specs.Grown.{leaves_open}
use Rattle.pipeline_fill.specs.Longest.{longest_value}
use Rattle.pipeline_fill.specs.Made.{counted, filled_extent, made_count, longest_made, extent_made, IsGrowth}
use Rattle.pipeline_fill.proofs.Products.{counted_is, extended_is}

-- ---- placeholders that lack values are chosen

none_lacks : (vars : List Var) (action : Action) (parts : List Part) → list_any (is_chosen action) parts ≡ false → list_any (lacks_values vars action) parts ≡ false
none_lacks vars action [] none = refl
none_lacks vars action (part ∷ parts) none =
    let both = or_parts (is_chosen action part) (list_any (is_chosen action) parts) none in
    either (lacks_values vars action part) (one part both.0) (none_lacks vars action parts both.1)
  where
    either : (b : Bool) → b ≡ false → list_any (lacks_values vars action) parts ≡ false → (b || list_any (lacks_values vars action) parts) ≡ false
    either true e f = absurd cc
    either false e f = f

    one : (p : Part) → is_chosen action p ≡ false → lacks_values vars action p ≡ false
    one (Char c) e = refl
    one One e = refl
    one Run e = refl
    one Dash e = refl
    one (Hole name) e = ap (λ (b : Bool). b && is_missing (put_for vars action name)) e

pub stays_closed : (vars : List Var) (action : Action) (parts : List Part) → list_any (is_chosen action) parts ≡ false → false ≡ list_any (lacks_values vars action) parts
stays_closed vars action parts none = sym (none_lacks vars action parts none)

-- ---- patterns with and without chosen placeholders

pub stays_unfilled : (vars : List Var) (action : Action) (parts : List Part) → list_any (is_chosen action) parts ≡ false → filled_if_chosen vars action parts ≡ None
stays_unfilled vars action parts none = ap (λ (b : Bool). if b then Some (filled vars action parts) else None) none

pub is_filled : (vars : List Var) (action : Action) (parts : List Part) → list_any (is_chosen action) parts ≡ true
    → filled_if_chosen vars action parts ≡ Some (filled vars action parts)
is_filled vars action parts some = ap (λ (b : Bool). if b then Some (filled vars action parts) else None) some

-- ---- texts with and without an entry

pub mapped_wild : (pairs : List Pair) (parts : List Part) → None ≡ (if has_wildcard parts then None else Some (plain_text parts)) → mapped pairs parts ≡ None
mapped_wild pairs parts is = by (has_wildcard parts) is
  where
    by : (b : Bool) → None ≡ (if b then None else Some (plain_text parts)) → (if b then None else patterns_found (texts_for pairs (plain_text parts))) ≡ None
    by true e = refl
    by false e = absurd cc

pub mapped_text : (pairs : List Pair) (parts : List Part) (text : List ℕ) → Some text ≡ (if has_wildcard parts then None else Some (plain_text parts))
    → mapped pairs parts ≡ patterns_found (texts_for pairs text)
mapped_text pairs parts text is = by (has_wildcard parts) is
  where
    by : (b : Bool) → Some text ≡ (if b then None else Some (plain_text parts))
        → (if b then None else patterns_found (texts_for pairs (plain_text parts))) ≡ patterns_found (texts_for pairs text)
    by true e = absurd cc
    by false e = let same : plain_text parts ≡ text = cc in ap (λ (t : List ℕ). patterns_found (texts_for pairs t)) same

-- ---- tests

as_many : (test : Test) (o : Option (List (List Part))) → made_count o ≡ length (as_tests test o)
as_many test None = refl
as_many test (Some patterns) = sym (length-map patterns (λ (parts : List Part). tests.Fits parts (is_cased test)))

as_long : (cased : Bool) (patterns : List (List Part)) → largest length patterns ≡ longest_value (map (λ parts. tests.Fits parts cased) patterns)
as_long cased [] = refl
as_long cased (p ∷ patterns) = ap (λ (n : ℕ). max (length p) n) (as_long cased patterns)

pattern_long : (parts : List Part) (cased : Bool) (o : Option (List (List Part))) → longest_made parts o ≡ longest_value (as_tests (tests.Fits parts cased) o)
pattern_long parts cased None = omega arith
pattern_long parts cased (Some patterns) = as_long cased patterns

as_wide : (cased : Bool) (patterns : List (List Part)) → total length patterns ≡ value_extent (map (λ parts. tests.Fits parts cased) patterns)
as_wide cased [] = refl
as_wide cased (p ∷ patterns) = ap (λ (n : ℕ). length p + n) (as_wide cased patterns)

pattern_wide : (parts : List Part) (cased : Bool) (o : Option (List (List Part))) → extent_made parts o ≡ value_extent (as_tests (tests.Fits parts cased) o)
pattern_wide parts cased None = omega arith
pattern_wide parts cased (Some patterns) = as_wide cased patterns

pub grown_test : (r : Result Growth Fault) (parts : List Part) (cased : Bool) (o : Option (List (List Part))) (lacking : Bool)
    → IfOk r (λ g. IsGrowth (made_count o) (longest_made parts o) (extent_made parts o) lacking g)
    → IfOk r (λ g. IsGrowth (length (as_tests (tests.Fits parts cased) o)) (longest_value (as_tests (tests.Fits parts cased) o)) (value_extent (as_tests (tests.Fits parts cased) o)) lacking g)
grown_test r parts cased o lacking grown =
    subst (λ (n : ℕ). IfOk r (λ g. IsGrowth (length (as_tests (tests.Fits parts cased) o)) (longest_value (as_tests (tests.Fits parts cased) o)) n lacking g)) (pattern_wide parts cased o)
    (subst (λ (n : ℕ). IfOk r (λ g. IsGrowth (length (as_tests (tests.Fits parts cased) o)) n (extent_made parts o) lacking g)) (pattern_long parts cased o)
    (subst (λ (n : ℕ). IfOk r (λ g. IsGrowth n (longest_made parts o) (extent_made parts o) lacking g)) (as_many (tests.Fits parts cased) o) grown))

-- ---- placeholders, counted

pub kept_growth : (vars : List Var) (action : Action) (parts : List Part) (g : Growth) → list_any (is_chosen action) parts ≡ false
    → IsGrowth 1 (length parts) (length parts) false g
    → IsGrowth (made_count (filled_if_chosen vars action parts)) (longest_made parts (filled_if_chosen vars action parts)) (extent_made parts (filled_if_chosen vars action parts)) (list_any (lacks_values vars action) parts) g
kept_growth vars action parts g none h =
    let e = stays_unfilled vars action parts none in (
      h.0 ∙ ap (λ (o : Option (List (List Part))). capped (made_count o)) (sym e),
      h.1 ∙ ap (λ (o : Option (List (List Part))). capped (longest_made parts o)) (sym e),
      h.2 ∙ ap (λ (o : Option (List (List Part))). capped (extent_made parts o)) (sym e),
      h.3 ∙ stays_closed vars action parts none,
    )

pub filled_growth : (vars : List Var) (action : Action) (parts : List Part) (tests longest extent : ℕ) → list_any (is_chosen action) parts ≡ true
    → tests ≡ capped (counted vars action parts) → longest ≡ capped (largest length (filled vars action parts)) → extent ≡ capped (filled_extent vars action parts)
    → (tests ≡ capped (made_count (filled_if_chosen vars action parts))) × (longest ≡ capped (longest_made parts (filled_if_chosen vars action parts)))
    × (extent ≡ capped (extent_made parts (filled_if_chosen vars action parts)))
filled_growth vars action parts tests longest extent some counts measures adds =
    let e = is_filled vars action parts some in (
      counts ∙ (ap capped (sym (counted_is vars action parts)) ∙ ap (λ (o : Option (List (List Part))). capped (made_count o)) (sym e)),
      measures ∙ ap (λ (o : Option (List (List Part))). capped (longest_made parts o)) (sym e),
      adds ∙ (ap capped (sym (extended_is vars action parts)) ∙ ap (λ (o : Option (List (List Part))). capped (extent_made parts o)) (sym e)),
    )

abbrev Grows : Result Growth Fault → List Part → Option (List (List Part)) → Bool → Type 0
Grows r parts o lacking = IfOk r (λ g. IsGrowth (made_count o) (longest_made parts o) (extent_made parts o) lacking g)

pub holes_grow : (vars : List Var) (action other : Action) (parts got : List Part) (r : Result Growth Fault) → other ≡ action → got ≡ parts
    → made_of vars action parts ≡ filled_if_chosen vars action parts → leaves_open vars action parts ≡ list_any (lacks_values vars action) parts
    → Grows r got (filled_if_chosen vars other got) (list_any (lacks_values vars other) got) → Grows r parts (made_of vars other parts) (leaves_open vars other parts)
holes_grow vars action other parts got r is same made lacks grown =
    let at : Grows r parts (filled_if_chosen vars action parts) (list_any (lacks_values vars action) parts) =
    subst (λ (a : Action). Grows r parts (filled_if_chosen vars a parts) (list_any (lacks_values vars a) parts)) is
    (subst (λ (ps : List Part). Grows r ps (filled_if_chosen vars other ps) (list_any (lacks_values vars other) ps)) same grown) in
    subst (λ (a : Action). Grows r parts (made_of vars a parts) (leaves_open vars a parts)) (sym is)
    (subst (λ (b : Bool). Grows r parts (made_of vars action parts) b) (sym lacks)
    (subst (λ (o : Option (List (List Part))). Grows r parts o (list_any (lacks_values vars action) parts)) (sym made) at))
