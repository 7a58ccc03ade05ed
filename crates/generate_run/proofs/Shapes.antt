-- The tree of a seed's rule.
use Rattle.std.proofs.Common.{◌≡◌, ◌∙◌, ◌&&◌, ◌%◌, ℕ, Bool, true, List, [], ◌∷◌, Option, None, ap, refl}
use Rattle.std.specs.List.{list_all}
use Rattle.std.specs.Prelude.{ℤ, pos, false, codes}
use Rattle.backend_core.specs.Trees.{Plain, all, any, negated, leaf, no_parts, a_part}
use Rattle.backend_core.specs.declared.tree.LeafTest.{LeafTest}
use Rattle.backend_core.specs.declared.tree.LeafTest.TheVariants as tests
use Rattle.backend_core.specs.declared.tree.Op.TheVariants.{Gte}
use Rattle.event_schema.specs.Lists.{EachOf}
use Rattle.modifier_words.specs.declared.modifier.Joined.TheVariants.{All, Any}
use Rattle.rule_lowering.specs.Joining.{join}
use Rattle.rule_lowering.specs.TreeOf.{detection_tree, tree_of}
use Rattle.rule_schema.specs.Inferred.{fit_refusal, open_refusal}
use Rattle.sig_base.specs.Judged.{first, must}
use Rattle.sig_base.specs.declared.refusal.Refusal.{Refusal}
use Rattle.sig_strings.specs.Edits.{with_run_before, with_run_after}
use Rattle.sig_strings.specs.declared.part.Part.{Part}
use Rattle.modifier_values.specs.PlainPatterns.{is_filled}
use Rattle.generate_run.proofs.Fitting.{of_each}
use Rattle.generate_run.specs.Draws.{first_draw, second_draw, third_draw}
use Rattle.generate_run.specs.Events.{schema}
use Rattle.generate_run.specs.Rules.{start, literal, is_text, has_text, is_from, asks, rule_from, rule_of}
use Rattle.generate_run.specs.Words.{words, word}

abbrev pub asked : ℕ → LeafTest → Plain
asked field test = leaf (record { field = field; test = test; place = start })

abbrev part_of : List ℕ → List Part
part_of text = with_run_after (with_run_before (literal text))

abbrev pub image_leaf : List ℕ → Plain
image_leaf text = asked 0 (tests.Fits (literal text) false)

abbrev pub user_leaf : List ℕ → Plain
user_leaf text = asked 1 (tests.Fits (part_of text) false)

abbrev pub code_leaf : ℤ → Plain
code_leaf n = asked 2 (tests.Compare Gte n)

abbrev pub shape : (image user : List ℕ) → ℤ → Plain
shape image user code =
    any (a_part (image_leaf image) (a_part (all (a_part (negated (user_leaf user)) (a_part (code_leaf code) no_parts))) no_parts))

-- the trees of the three detections
abbrev ImageTree : List ℕ → Type 0
ImageTree text = detection_tree schema.fields (asks (codes "sel1") (codes "Image") (is_text text)) ≡ image_leaf text

image_tree : (i : ℕ) → ImageTree (word i)
unfolding join
image_tree i =
    let each : EachOf ImageTree words = (refl, (refl, (refl, (refl, (refl, (refl, (refl, (refl, tt)))))))) in
    of_each ImageTree words each refl i

abbrev UserTree : List ℕ → Type 0
UserTree text = detection_tree schema.fields (asks (codes "sel2") (codes "User") (has_text text)) ≡ user_leaf text

user_tree : (i : ℕ) → UserTree (word i)
unfolding join
user_tree i =
    let each : EachOf UserTree words = (refl, (refl, (refl, (refl, (refl, (refl, (refl, (refl, tt)))))))) in
    of_each UserTree words each refl i

code_tree : (n : ℤ) → detection_tree schema.fields (asks (codes "sel3") (codes "Code") (is_from n)) ≡ code_leaf n
unfolding join
code_tree n = refl

-- their condition
abbrev joined : Plain → Plain → Plain → Plain
joined a b c = join Any (join Any (a ∷ join All (negated b ∷ c ∷ []) ∷ []) ∷ [])

joined_shape : (image user : List ℕ) (n : ℤ) → joined (image_leaf image) (user_leaf user) (code_leaf n) ≡ shape image user n
unfolding join
joined_shape image user n = refl

pub tree_is : (seed : ℕ) → tree_of schema (rule_of seed) ≡ shape (word (first_draw seed % 8)) (word (second_draw seed % 8)) (pos (third_draw seed % 100))
tree_is seed =
    let i = first_draw seed % 8 in
    let j = second_draw seed % 8 in
    let n = pos (third_draw seed % 100) in
    let b = detection_tree schema.fields (asks (codes "sel2") (codes "User") (has_text (word j))) in
    let c = detection_tree schema.fields (asks (codes "sel3") (codes "Code") (is_from n)) in
    ap (λ (t : Plain). joined t b c) (image_tree i)
    ∙ (ap (λ (t : Plain). joined (image_leaf (word i)) t c) (user_tree j)
    ∙ (ap (λ (t : Plain). joined (image_leaf (word i)) (user_leaf (word j)) t) (code_tree n) ∙ joined_shape (word i) (word j) n))

-- ---- the rule fits the schema, and has no placeholder

pub rule_fits : (seed : ℕ) → fit_refusal schema (rule_of seed) ≡ None
rule_fits seed = refl

abbrev IsFilled : List Part → Type 0
IsFilled parts = list_all is_filled parts ≡ true

image_filled : (i : ℕ) → IsFilled (literal (word i))
image_filled i =
    let each : EachOf (λ text. IsFilled (literal text)) words = (refl, (refl, (refl, (refl, (refl, (refl, (refl, (refl, tt)))))))) in
    of_each (λ text. IsFilled (literal text)) words each refl i

user_filled : (i : ℕ) → IsFilled (part_of (word i))
user_filled i =
    let each : EachOf (λ text. IsFilled (part_of text)) words = (refl, (refl, (refl, (refl, (refl, (refl, (refl, (refl, tt)))))))) in
    of_each (λ text. IsFilled (part_of text)) words each refl i

abbrev open_line : Bool → Option Refusal
open_line filled = must 98 start ((filled && true) && true)

pub rule_filled : (seed : ℕ) → open_refusal (rule_of seed) ≡ None
rule_filled seed =
    let i = first_draw seed % 8 in
    let j = second_draw seed % 8 in
    ap (λ (b : Bool). first (open_line b ∷ open_line (list_all is_filled (part_of (word j))) ∷ open_line true ∷ [])) (image_filled i)
    ∙ ap (λ (b : Bool). first (open_line true ∷ open_line b ∷ open_line true ∷ [])) (user_filled j)
