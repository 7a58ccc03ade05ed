-- Groups by numbers that are kept for each alias are those by names.
use Rattle.std.proofs.Common.{ℕ, ◌≡◌, Bool, true, false, cond, List, [], ◌∷◌, map, refl, sym, ap, ◌∙◌}
use Rattle.std.specs.Prelude.{Option, Some, None, Result, Ok, Err, IfOk, option_map, find, suc}
use Rattle.std.specs.Str.{bytes_eq}
use Rattle.event_schema.specs.declared.schema.Field.{Field}
use Rattle.schema_index.specs.Numbers.{number_of}
use Rattle.text_index.specs.Numbers.{first_number}
use Rattle.sig_base.specs.declared.refusal.Fault.{Fault}
use Rattle.correlation_read.specs.declared.correlation.Alias.{Alias}
use Rattle.correlation_read.specs.Correlations.{PlainCorrelation}
use Rattle.correlation_read.specs.declared.bindings.Source.{Source}
use Rattle.correlation_read.specs.Binding.{names_of, alias_field, is_named, stands_for, group_of, groups_of}
use Rattle.correlation_read.specs.Sources.{sourced, source_of, numbers_for, number_at, group_from}
use Rattle.correlation_read.proofs.Positions.{here, later}

abbrev chosen : List Field → List ℕ → ℕ → Option Alias → ℕ
chosen fields rule other None = other
chosen fields rule other (Some a) = number_of fields (alias_field rule a)

one_later : (n : ℕ) (numbers : List ℕ) (other : ℕ) (o : Option ℕ) → number_at (n ∷ numbers) (sourced (option_map (λ k. suc k) o) other) ≡ number_at numbers (sourced o other)
one_later n numbers other None = refl
one_later n numbers other (Some k) = refl

number_is : (fields : List Field) (rule name : List ℕ) (other : ℕ) (aliases : List Alias)
    → number_at (numbers_for fields aliases rule) (sourced (first_number (names_of aliases) name) other) ≡ chosen fields rule other (find (is_named name) aliases)
number_is fields rule name other [] = refl
number_is fields rule name other (a ∷ aliases) = by (number_is fields rule name other aliases) (bytes_eq a.name name) refl where
  by : number_at (numbers_for fields aliases rule) (sourced (first_number (names_of aliases) name) other) ≡ chosen fields rule other (find (is_named name) aliases)
      → (b : Bool) → bytes_eq a.name name ≡ b
      → number_at (numbers_for fields (a ∷ aliases) rule) (sourced (first_number (names_of (a ∷ aliases)) name) other) ≡ chosen fields rule other (find (is_named name) (a ∷ aliases))
  by rest true h =
      ap (λ (o : Option ℕ). number_at (numbers_for fields (a ∷ aliases) rule) (sourced o other)) (here (λ (t : List ℕ). bytes_eq t name) a.name (names_of aliases) h)
      ∙ sym (ap (λ (b : Bool). chosen fields rule other (cond b (Some a) (find (is_named name) aliases))) h)
  by rest false h =
      ap (λ (o : Option ℕ). number_at (numbers_for fields (a ∷ aliases) rule) (sourced o other)) (later (λ (t : List ℕ). bytes_eq t name) a.name (names_of aliases) h)
      ∙ (one_later (number_of fields (alias_field rule a)) (numbers_for fields aliases rule) other (first_number (names_of aliases) name)
      ∙ (rest ∙ sym (ap (λ (b : Bool). chosen fields rule other (cond b (Some a) (find (is_named name) aliases))) h)))

chosen_is : (fields : List Field) (rule name : List ℕ) (o : Option Alias) → chosen fields rule (number_of fields name) o ≡ number_of fields (stands_for rule name o)
chosen_is fields rule name None = refl
chosen_is fields rule name (Some a) = refl

group_is : (fields : List Field) (aliases : List Alias) (rule : List ℕ) (names : List (List ℕ))
    → group_from (map (source_of fields (names_of aliases)) names) (numbers_for fields aliases rule) ≡ group_of fields aliases names rule
group_is fields aliases rule [] = refl
group_is fields aliases rule (name ∷ names) =
    ap (λ (n : ℕ). n ∷ group_from (map (source_of fields (names_of aliases)) names) (numbers_for fields aliases rule))
    (number_is fields rule name (number_of fields name) aliases ∙ chosen_is fields rule name (find (is_named name) aliases))
    ∙ ap (λ (ns : List ℕ). number_of fields (stands_for rule name (find (is_named name) aliases)) ∷ ns) (group_is fields aliases rule names)

pub groups_are : (fields : List Field) (aliases : List Alias) (names : List (List ℕ)) (all : List Source) (rules : List (List ℕ)) → all ≡ map (source_of fields (names_of aliases)) names
    → map (λ rule. group_from all (numbers_for fields aliases rule)) rules ≡ map (group_of fields aliases names) rules
groups_are fields aliases names all [] is = refl
groups_are fields aliases names all (rule ∷ rules) is =
    ap (λ (g : List ℕ). g ∷ map (λ rule. group_from all (numbers_for fields aliases rule)) rules)
    (ap (λ (sources : List Source). group_from sources (numbers_for fields aliases rule)) is ∙ group_is fields aliases rule names)
    ∙ ap (λ (gs : List (List ℕ)). group_of fields aliases names rule ∷ gs) (groups_are fields aliases names all rules is)

pub groups_ok : (fields : List Field) (c : PlainCorrelation) (names : List (List ℕ)) (all : List Source) (aliases : List Alias) (group_by rules : List (List ℕ)) (r : Result (List (List ℕ)) Fault)
    → names ≡ names_of c.aliases → aliases ≡ c.aliases → group_by ≡ c.group_by → rules ≡ c.rules → all ≡ map (source_of fields names) group_by
    → IfOk r (λ groups. groups ≡ map (λ rule. group_from all (numbers_for fields aliases rule)) rules) → IfOk r (λ groups. groups ≡ groups_of fields c)
groups_ok fields c names all aliases group_by rules (Ok groups) named aliased grouped ruled is e =
    e
    ∙ (ap (λ (others : List Alias). map (λ rule. group_from all (numbers_for fields others rule)) rules) aliased
    ∙ (ap (λ (rs : List (List ℕ)). map (λ rule. group_from all (numbers_for fields c.aliases rule)) rs) ruled
    ∙ groups_are fields c.aliases c.group_by all c.rules
    (is ∙ (ap (λ (ns : List (List ℕ)). map (source_of fields ns) group_by) named ∙ ap (λ (gs : List (List ℕ)). map (source_of fields (names_of c.aliases)) gs) grouped))))
groups_ok fields c names all aliases group_by rules (Err f) named aliased grouped ruled is e = tt
