-- What takes a placeholder's place.
use Rattle.std.proofs.Common.{ℕ, ◌≡◌, Bool, true, false, length, List, [], ◌∷◌, ap, ◌∙◌}
use Rattle.std.proofs.lemmas.List.{length-map}
use Rattle.std.specs.Prelude.{Option, if◌then◌else◌, ◌&&◌}
use Rattle.sig_strings.specs.declared.part.Part.{Part}
use Rattle.sig_strings.specs.declared.part.Part.TheVariants.{Hole}
use Rattle.pipeline_model.specs.declared.pipeline.Var.{Var}
use Rattle.pipeline_model.specs.declared.step.Action.{Action}
use Rattle.pipeline_fill.specs.declared.filling.Filling.{Filling}
use Rattle.pipeline_fill.specs.declared.filling.Filling.TheVariants as fillings
use Rattle.modifier_values.specs.Parts.{parts_of}
use Rattle.pipeline_fill.specs.Entries.{patterns_of}
use Rattle.pipeline_fill.specs.Filled.{chosen_by, put_for, none_or, is_missing, choices, lacks_values}
use Rattle.pipeline_fill.specs.Made.{IsFilling, IsPut}

chosen_choices : (vars : List Var) (action : Action) (name : List ℕ) (o : Option (List (List Part))) → chosen_by action name ≡ true → put_for vars action name ≡ o
    → choices vars action (Hole name) ≡ none_or o
chosen_choices vars action name o chosen is =
    ap (λ (b : Bool). if b then none_or (put_for vars action name) else (Hole name ∷ []) ∷ []) chosen ∙ ap none_or is

chosen_lacks : (vars : List Var) (action : Action) (name : List ℕ) (o : Option (List (List Part))) → chosen_by action name ≡ true → put_for vars action name ≡ o
    → lacks_values vars action (Hole name) ≡ is_missing o
chosen_lacks vars action name o chosen is = ap (λ (b : Bool). b && is_missing (put_for vars action name)) chosen ∙ ap is_missing is

pub hole_stays : (vars : List Var) (action : Action) (name : List ℕ) → chosen_by action name ≡ false → IsFilling vars action (Hole name) fillings.Itself
hole_stays vars action name chosen = record {
  stands = ap (λ (b : Bool). if b then none_or (put_for vars action name) else (Hole name ∷ []) ∷ []) chosen;
  lacks = ap (λ (b : Bool). b && is_missing (put_for vars action name)) chosen;
  measured = tt;
}

pub put_fills : (vars : List Var) (action : Action) (name : List ℕ) (f : Filling) → chosen_by action name ≡ true → IsPut (put_for vars action name) f
    → IsFilling vars action (Hole name) f
put_fills vars action name fillings.Itself chosen put = absurd put
put_fills vars action name fillings.Run chosen put = record {
  stands = chosen_choices vars action name _ chosen put;
  lacks = chosen_lacks vars action name _ chosen put;
  measured = tt;
}
put_fills vars action name (fillings.Values e) chosen put = record {
  stands = chosen_choices vars action name _ chosen put.0;
  lacks = chosen_lacks vars action name _ chosen put.0;
  measured = (put.1, put.2);
}
put_fills vars action name fillings.Missing chosen put = record {
  stands = chosen_choices vars action name _ chosen put;
  lacks = chosen_lacks vars action name _ chosen put;
  measured = tt;
}

-- a text is read as one pattern
pub read_count : (texts : List (List ℕ)) → length (patterns_of texts) ≡ length texts
read_count texts = length-map texts (parts_of false)
