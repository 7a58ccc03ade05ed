-- What is left of placeholders in fillings.
use Rattle.std.proofs.Common.{ℕ, zero, suc, ◌≡◌, ◌==◌, Bool, true, false, ◌||◌, List, [], ◌∷◌, ◌++◌, map, refl, ap}
use Rattle.std.specs.Prelude.{Some, if◌then◌else◌}
use Rattle.std.specs.List.{list_any}
use Rattle.std.specs.Str.{bytes_eq}
use Rattle.std.proofs.lemmas.Bool.{or_parts}
use Rattle.event_schema.specs.Lists.{EachOf}
use Rattle.sig_strings.specs.Spells.{is_special}
use Rattle.sig_strings.specs.declared.part.Part.{Part}
use Rattle.sig_strings.specs.declared.part.Part.TheVariants.{Char, One, Run, Dash, Hole}
use Rattle.modifier_values.specs.Parts.{parts_behind, front_of, backslash_front}
use Rattle.pipeline_model.specs.declared.pipeline.Var.{Var}
use Rattle.pipeline_model.specs.declared.step.Action.{Action}
use Rattle.pipeline_model.specs.declared.step.Action.TheVariants.{MapNames, Prefix, Suffix, MapPrefixes, Drop, Add, Source, MapTexts, FillHoles, WildHoles, FailRule, FailItem}
use Rattle.pipeline_model.specs.declared.step.Pair.{Pair}
use Rattle.pipeline_fill.specs.Entries.{texts_for, as_pairs, patterns_of}
use Rattle.pipeline_fill.specs.Filled.{chosen_by, is_chosen, patterns_found, put_for, none_or, choices, crossed, filled}
use Rattle.pipeline_fill.proofs.Plainness.{each_append}

module _ (vars : List Var) (action : Action) where
  -- no chosen placeholder is left
  abbrev IsDone : List Part → Type 0
  IsDone parts = list_any (is_chosen action) parts ≡ false

  done_or : (a b : Bool) → a ≡ false → b ≡ false → (a || b) ≡ false
  done_or true b e f = absurd cc
  done_or false b e f = f

  done_append : (xs ys : List Part) → IsDone xs → IsDone ys → IsDone (xs ++ ys)
  done_append [] ys first second = second
  done_append (x ∷ xs) ys first second =
      let both = or_parts (is_chosen action x) (list_any (is_chosen action) xs) first in
      done_or (is_chosen action x) (list_any (is_chosen action) (xs ++ ys)) both.0 (done_append xs ys both.1 second)

  backslash_done : (cs : List ℕ) → is_chosen action (backslash_front cs).0 ≡ false
  backslash_done [] = refl
  backslash_done (c ∷ cs) = by (is_special c)
    where
      by : (b : Bool) → is_chosen action (if◌then◌else◌ {A = Part × ℕ} b (Char c, 1) (Char 92, 0)).0 ≡ false
      by true = refl
      by false = refl

  front_done : (c : ℕ) (cs : List ℕ) → is_chosen action (front_of false c cs).0 ≡ false
  front_done c cs = by (c == 42) (c == 63) (c == 92)
    where
      by : (x y z : Bool) → is_chosen action (if◌then◌else◌ {A = Part × ℕ} x (Run, 0) (if y then (One, 0) else (if z then backslash_front cs else (Char c, 0)))).0 ≡ false
      by true y z = refl
      by false true z = refl
      by false false true = backslash_done cs
      by false false false = refl

  read_done : (n : ℕ) (cs : List ℕ) → IsDone (parts_behind false n cs)
  read_done n [] = refl
  read_done (suc n) (c ∷ cs) = read_done n cs
  read_done zero (c ∷ cs) =
      done_or (is_chosen action (front_of false c cs).0) (list_any (is_chosen action) (parts_behind false (front_of false c cs).1 cs)) (front_done c cs)
      (read_done (front_of false c cs).1 cs)

  texts_done : (texts : List (List ℕ)) → EachOf IsDone (patterns_of texts)
  texts_done [] = tt
  texts_done (text ∷ texts) = (read_done 0 text, texts_done texts)

  found_done : (pairs : List Pair) (text : List ℕ) → EachOf IsDone (none_or (patterns_found (texts_for pairs text)))
  found_done [] text = tt
  found_done (pair ∷ pairs) text = by (bytes_eq pair.from text) (found_done pairs text)
    where
      by : (b : Bool) → EachOf IsDone (none_or (patterns_found (texts_for pairs text)))
          → EachOf IsDone (none_or (patterns_found (if b then Some pair.to else texts_for pairs text)))
      by true rest = texts_done pair.to
      by false rest = rest

  put_done : (a : Action) (name : List ℕ) → EachOf IsDone (none_or (put_for vars a name))
  put_done (MapNames pairs) name = tt
  put_done (Prefix front) name = tt
  put_done (Suffix back) name = tt
  put_done (MapPrefixes pairs) name = tt
  put_done Drop name = tt
  put_done (Add items negated) name = tt
  put_done (Source source) name = tt
  put_done (MapTexts pairs) name = tt
  put_done (FillHoles choice) name = found_done (as_pairs vars) name
  put_done (WildHoles choice) name = (refl, tt)
  put_done (FailRule message) name = tt
  put_done (FailItem message) name = tt

  part_done : (part : Part) → EachOf IsDone (choices vars action part)
  part_done (Char c) = (refl, tt)
  part_done One = (refl, tt)
  part_done Run = (refl, tt)
  part_done Dash = (refl, tt)
  part_done (Hole name) = by (chosen_by action name) refl
    where
      by : (b : Bool) → chosen_by action name ≡ b → EachOf IsDone (if b then none_or (put_for vars action name) else (Hole name ∷ []) ∷ [])
      by true e = put_done action name
      by false e = (ap (λ (b : Bool). b || false) e, tt)

  front_all : (front : List Part) (more : List (List Part)) → IsDone front → EachOf IsDone more → EachOf IsDone (map (λ rest. front ++ rest) more)
  front_all front [] first all = tt
  front_all front (m ∷ more) first all = (done_append front m first all.0, front_all front more first all.1)

  crossed_done : (fronts more : List (List Part)) → EachOf IsDone fronts → EachOf IsDone more → EachOf IsDone (crossed fronts more)
  crossed_done [] more first second = tt
  crossed_done (f ∷ fronts) more first second =
      each_append IsDone (map (λ rest. f ++ rest) more) (crossed fronts more) (front_all f more first.0 second) (crossed_done fronts more first.1 second)

  pub filled_done : (parts : List Part) → EachOf (λ filling. list_any (is_chosen action) filling ≡ false) (filled vars action parts)
  filled_done [] = (refl, tt)
  filled_done (part ∷ parts) = crossed_done (choices vars action part) (filled vars action parts) (part_done part) (filled_done parts)
