-- Patterns that are put in have no U+0000, and there is one where there are values.
use Rattle.std.proofs.Common.{ℕ, zero, suc, ◌≡◌, ◌==◌, nat_lt, Bool, true, false, ◌&&◌, List, [], ◌∷◌, ◌++◌, map, refl}
use Rattle.std.specs.Prelude.{Option, Some, None, if◌then◌else◌, ⊤}
use Rattle.std.specs.List.{list_all, list_any}
use Rattle.std.specs.Str.{all_scalars, bytes_eq}
use Rattle.std.proofs.lemmas.Bool.{and_parts, and_from, or_parts}
use Rattle.std.proofs.Math.Utf8.{scalar}
use Rattle.event_schema.specs.Events.{IsPlainText}
use Rattle.event_schema.specs.Lists.{EachOf, HasElement}
use Rattle.sig_strings.specs.Edits.{has_wildcard, plain_text}
use Rattle.sig_strings.specs.Spells.{is_special}
use Rattle.sig_strings.specs.declared.part.Part.{Part}
use Rattle.sig_strings.specs.declared.part.Part.TheVariants.{Char, One, Run, Dash, Hole}
use Rattle.modifier_values.specs.Parts.{parts_behind, front_of, backslash_front}
use Rattle.modifier_values.specs.PlainPatterns.{HasPlainText}
use Rattle.pipeline_model.specs.declared.pipeline.Var.{Var}
use Rattle.pipeline_model.specs.declared.step.Action.{Action}
use Rattle.pipeline_model.specs.declared.step.Action.TheVariants.{MapNames, Prefix, Suffix, MapPrefixes, Drop, Add, Source, MapTexts, FillHoles, WildHoles, FailRule, FailItem}
use Rattle.pipeline_model.specs.declared.step.Pair.{Pair}
use Rattle.pipeline_fill.specs.Entries.{texts_for, as_pairs, patterns_of}
use Rattle.pipeline_fill.specs.Filled.{chosen_by, is_chosen, patterns_found, put_for, none_or, choices, crossed, filled, is_missing, lacks_values}
use Rattle.pipeline_fill.specs.Changed.{filled_if_chosen, mapped, made_of}
use Rattle.pipeline_fill.specs.Grown.{leaves_open}
use Rattle.pipeline_fill.specs.Kept.{HasValues, HasTargets, MakesTests}

pub each_append : {A : Type 0} (P : A → Type 0) (xs ys : List A) → EachOf P xs → EachOf P ys → EachOf P (xs ++ ys)
each_append P [] ys a b = b
each_append P (x ∷ xs) ys a b = (a.0, each_append P xs ys a.1 b)

-- ---- part by part

abbrev pub IsPlainPart : Part → Type 0
IsPlainPart (Char c) = (scalar c ≡ true) × (nat_lt 0 c ≡ true)
IsPlainPart One = ⊤
IsPlainPart Run = ⊤
IsPlainPart Dash = ⊤
IsPlainPart (Hole name) = ⊤

abbrev pub ArePlainParts : List Part → Type 0
ArePlainParts parts = EachOf IsPlainPart parts

pub plain_parts : (parts : List Part) → HasPlainText parts → ArePlainParts parts
plain_parts [] h = tt
plain_parts (Char c ∷ parts) h =
    let scalars = and_parts (scalar c) (all_scalars (plain_text parts)) h.0 in
    let aboves = and_parts (nat_lt 0 c) (list_all (λ d. nat_lt 0 d) (plain_text parts)) h.1 in
    ((scalars.0, aboves.0), plain_parts parts (scalars.1, aboves.1))
plain_parts (One ∷ parts) h = (tt, plain_parts parts h)
plain_parts (Run ∷ parts) h = (tt, plain_parts parts h)
plain_parts (Dash ∷ parts) h = (tt, plain_parts parts h)
plain_parts (Hole name ∷ parts) h = (tt, plain_parts parts h)

pub has_plain_text : (parts : List Part) → ArePlainParts parts → HasPlainText parts
has_plain_text [] all = (refl, refl)
has_plain_text (Char c ∷ parts) all =
    let rest = has_plain_text parts all.1 in
    (and_from (scalar c) (all_scalars (plain_text parts)) all.0.0 rest.0, and_from (nat_lt 0 c) (list_all (λ d. nat_lt 0 d) (plain_text parts)) all.0.1 rest.1)
has_plain_text (One ∷ parts) all = has_plain_text parts all.1
has_plain_text (Run ∷ parts) all = has_plain_text parts all.1
has_plain_text (Dash ∷ parts) all = has_plain_text parts all.1
has_plain_text (Hole name ∷ parts) all = has_plain_text parts all.1

-- ---- texts that are read

char_plain : (c : ℕ) (cs : List ℕ) → IsPlainText (c ∷ cs) → IsPlainPart (Char c)
char_plain c cs h = ((and_parts (scalar c) (all_scalars cs) h.0).0, (and_parts (nat_lt 0 c) (list_all (λ d. nat_lt 0 d) cs) h.1).0)

rest_plain : (c : ℕ) (cs : List ℕ) → IsPlainText (c ∷ cs) → IsPlainText cs
rest_plain c cs h = ((and_parts (scalar c) (all_scalars cs) h.0).1, (and_parts (nat_lt 0 c) (list_all (λ d. nat_lt 0 d) cs) h.1).1)

backslash_plain : (cs : List ℕ) → IsPlainText cs → IsPlainPart (backslash_front cs).0
backslash_plain [] h = (refl, refl)
backslash_plain (c ∷ cs) h = by (is_special c)
  where
    by : (b : Bool) → IsPlainPart (if◌then◌else◌ {A = Part × ℕ} b (Char c, 1) (Char 92, 0)).0
    by true = char_plain c cs h
    by false = (refl, refl)

front_plain : (c : ℕ) (cs : List ℕ) → IsPlainText (c ∷ cs) → IsPlainPart (front_of false c cs).0
front_plain c cs h = by (c == 42) (c == 63) (c == 92)
  where
    by : (x y z : Bool) → IsPlainPart (if◌then◌else◌ {A = Part × ℕ} x (Run, 0) (if y then (One, 0) else (if z then backslash_front cs else (Char c, 0)))).0
    by true y z = tt
    by false true z = tt
    by false false true = backslash_plain cs (rest_plain c cs h)
    by false false false = char_plain c cs h

behind_plain : (n : ℕ) (cs : List ℕ) → IsPlainText cs → ArePlainParts (parts_behind false n cs)
behind_plain n [] h = tt
behind_plain (suc n) (c ∷ cs) h = behind_plain n cs (rest_plain c cs h)
behind_plain zero (c ∷ cs) h = (front_plain c cs h, behind_plain (front_of false c cs).1 cs (rest_plain c cs h))

texts_plain : (texts : List (List ℕ)) → EachOf IsPlainText texts → EachOf ArePlainParts (patterns_of texts)
texts_plain [] all = tt
texts_plain (text ∷ texts) all = (behind_plain 0 text all.0, texts_plain texts all.1)

texts_some : (texts : List (List ℕ)) → HasElement texts → HasElement (patterns_of texts)
texts_some [] h = absurd h
texts_some (text ∷ texts) h = tt

-- ---- what is put in

-- some patterns without U+0000, if any
abbrev pub ArePut : Option (List (List Part)) → Type 0
ArePut None = ⊤
ArePut (Some patterns) = HasElement patterns × EachOf ArePlainParts patterns

found_put : (pairs : List Pair) (text : List ℕ) → EachOf HasTargets pairs → ArePut (patterns_found (texts_for pairs text))
found_put [] text all = tt
found_put (pair ∷ pairs) text all = by (bytes_eq pair.from text) (found_put pairs text all.1)
  where
    by : (b : Bool) → ArePut (patterns_found (texts_for pairs text)) → ArePut (patterns_found (if b then Some pair.to else texts_for pairs text))
    by true rest = (texts_some pair.to all.0.some, texts_plain pair.to all.0.plain)
    by false rest = rest

as_pairs_values : (vars : List Var) → EachOf HasValues vars → EachOf HasTargets (as_pairs vars)
as_pairs_values [] all = tt
as_pairs_values (var ∷ vars) all = (all.0, as_pairs_values vars all.1)

put_plain : (vars : List Var) (action : Action) (name : List ℕ) → MakesTests vars action → ArePut (put_for vars action name)
put_plain vars (MapNames pairs) name own = tt
put_plain vars (Prefix front) name own = tt
put_plain vars (Suffix back) name own = tt
put_plain vars (MapPrefixes pairs) name own = tt
put_plain vars Drop name own = tt
put_plain vars (Add items negated) name own = tt
put_plain vars (Source source) name own = tt
put_plain vars (MapTexts pairs) name own = tt
put_plain vars (FillHoles choice) name own = found_put (as_pairs vars) name (as_pairs_values vars own)
put_plain vars (WildHoles choice) name own = (tt, ((tt, tt), tt))
put_plain vars (FailRule message) name own = tt
put_plain vars (FailItem message) name own = tt

none_or_put : (o : Option (List (List Part))) → is_missing o ≡ false → ArePut o → HasElement (none_or o) × EachOf ArePlainParts (none_or o)
none_or_put None there put = absurd cc
none_or_put (Some patterns) there put = put

module _ (vars : List Var) (action : Action) (own : MakesTests vars action) where
  hole_choices : (name : List ℕ) → lacks_values vars action (Hole name) ≡ false
      → HasElement (choices vars action (Hole name)) × EachOf ArePlainParts (choices vars action (Hole name))
  hole_choices name there = by (chosen_by action name) there
    where
      by : (b : Bool) → (b && is_missing (put_for vars action name)) ≡ false
          → HasElement (if b then none_or (put_for vars action name) else (Hole name ∷ []) ∷ [])
          × EachOf ArePlainParts (if b then none_or (put_for vars action name) else (Hole name ∷ []) ∷ [])
      by true e = none_or_put (put_for vars action name) e (put_plain vars action name own)
      by false e = (tt, ((tt, tt), tt))

  part_choices : (part : Part) → IsPlainPart part → lacks_values vars action part ≡ false
      → HasElement (choices vars action part) × EachOf ArePlainParts (choices vars action part)
  part_choices (Char c) plain there = (tt, ((plain, tt), tt))
  part_choices One plain there = (tt, ((tt, tt), tt))
  part_choices Run plain there = (tt, ((tt, tt), tt))
  part_choices Dash plain there = (tt, ((tt, tt), tt))
  part_choices (Hole name) plain there = hole_choices name there

  front_with : (front : List Part) (more : List (List Part)) → ArePlainParts front → EachOf ArePlainParts more → EachOf ArePlainParts (map (λ rest. front ++ rest) more)
  front_with front [] plain all = tt
  front_with front (m ∷ more) plain all = (each_append IsPlainPart front m plain all.0, front_with front more plain all.1)

  crossed_plain : (fronts more : List (List Part)) → EachOf ArePlainParts fronts → EachOf ArePlainParts more → EachOf ArePlainParts (crossed fronts more)
  crossed_plain [] more first second = tt
  crossed_plain (f ∷ fronts) more first second =
      each_append ArePlainParts (map (λ rest. f ++ rest) more) (crossed fronts more) (front_with f more first.0 second) (crossed_plain fronts more first.1 second)

  crossed_some : (fronts more : List (List Part)) → HasElement fronts → HasElement more → HasElement (crossed fronts more)
  crossed_some [] more first second = absurd first
  crossed_some (f ∷ fronts) [] first second = absurd second
  crossed_some (f ∷ fronts) (m ∷ more) first second = tt

  filled_plain : (parts : List Part) → ArePlainParts parts → list_any (lacks_values vars action) parts ≡ false
      → HasElement (filled vars action parts) × EachOf ArePlainParts (filled vars action parts)
  filled_plain [] plain there = (tt, (tt, tt))
  filled_plain (part ∷ parts) plain there =
      let both = or_parts (lacks_values vars action part) (list_any (lacks_values vars action) parts) there in
      let here = part_choices part plain.0 both.0 in
      let rest = filled_plain parts plain.1 both.1 in (
        crossed_some (choices vars action part) (filled vars action parts) here.0 rest.0,
        crossed_plain (choices vars action part) (filled vars action parts) here.1 rest.1,
      )

  chosen_plain : (parts : List Part) → ArePlainParts parts → list_any (lacks_values vars action) parts ≡ false → ArePut (filled_if_chosen vars action parts)
  chosen_plain parts plain there = by (list_any (is_chosen action) parts)
    where
      by : (b : Bool) → ArePut (if b then Some (filled vars action parts) else None)
      by true = filled_plain parts plain there
      by false = tt

mapped_plain : (pairs : List Pair) (parts : List Part) → EachOf HasTargets pairs → ArePut (mapped pairs parts)
mapped_plain pairs parts all = by (has_wildcard parts)
  where
    by : (b : Bool) → ArePut (if b then None else patterns_found (texts_for pairs (plain_text parts)))
    by true = tt
    by false = found_put pairs (plain_text parts) all

pub made_plain : (vars : List Var) (action : Action) (parts : List Part) → MakesTests vars action → HasPlainText parts
    → leaves_open vars action parts ≡ false → ArePut (made_of vars action parts)
made_plain vars (MapNames pairs) parts own plain there = tt
made_plain vars (Prefix front) parts own plain there = tt
made_plain vars (Suffix back) parts own plain there = tt
made_plain vars (MapPrefixes pairs) parts own plain there = tt
made_plain vars Drop parts own plain there = tt
made_plain vars (Add items negated) parts own plain there = tt
made_plain vars (Source source) parts own plain there = tt
made_plain vars (MapTexts pairs) parts own plain there = mapped_plain pairs parts own
made_plain vars (FillHoles choice) parts own plain there = chosen_plain vars (FillHoles choice) own parts (plain_parts parts plain) there
made_plain vars (WildHoles choice) parts own plain there = chosen_plain vars (WildHoles choice) own parts (plain_parts parts plain) there
made_plain vars (FailRule message) parts own plain there = tt
made_plain vars (FailItem message) parts own plain there = tt
