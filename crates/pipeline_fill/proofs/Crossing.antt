-- Placeholders that are filled from the left.
use Rattle.std.proofs.Common.{ℕ, suc, ◌+◌, ◌<◌, ◌≤◌, length, get_or, drop, map, ◌≡◌, List, [], ◌∷◌, ◌++◌, append-nil, append_assoc, refl, sym, ap, ◌∙◌}
use native.Mathlib.Omega.{arith}
use Rattle.std.proofs.lemmas.List.{drop_more}
use Rattle.sig_strings.specs.declared.part.Part.{Part}
use Rattle.pipeline_model.specs.declared.pipeline.Var.{Var}
use Rattle.pipeline_model.specs.declared.step.Action.{Action}
use Rattle.pipeline_fill.specs.Filled.{choices, crossed, filled}

one_crossed_with : (fronts : List (List Part)) (one : List Part) → crossed fronts (one ∷ []) ≡ map (λ front. front ++ one) fronts
one_crossed_with [] one = refl
one_crossed_with (f ∷ fs) one = ap (λ (xs : List (List Part)). (f ++ one) ∷ xs) (one_crossed_with fs one)

pub single : (more : List (List Part)) (one : List Part) → 1 ≤ length more → length more < 2 → one ≡ get_or more 0 one → more ≡ one ∷ []
single [] one some few is = absurd (let h : 1 ≤ 0 = some in omega (arith, h))
single (m ∷ []) one some few is = ap (λ (n : List Part). n ∷ []) (sym is)
single (m ∷ (n ∷ ms)) one some few is = absurd (let h : suc (suc (length ms)) < 2 = few in omega (arith, h))

-- where one pattern may stand there, it stands behind each
pub one_behind : (fronts more : List (List Part)) (one : List Part) → more ≡ one ∷ [] → map (λ front. front ++ one) fronts ≡ crossed fronts more
one_behind fronts more one is = sym (one_crossed_with fronts one) ∙ ap (crossed fronts) (sym is)

crossed_append : (xs ys more : List (List Part)) → crossed (xs ++ ys) more ≡ crossed xs more ++ crossed ys more
crossed_append [] ys more = refl
crossed_append (x ∷ xs) ys more =
    ap (λ (zs : List (List Part)). map (λ rest. x ++ rest) more ++ zs) (crossed_append xs ys more)
    ∙ sym (append_assoc (map (λ rest. x ++ rest) more) (crossed xs more) (crossed ys more))

joined_map : (x : List Part) (more : List (List Part)) (c : List Part) → map (λ rest. (x ++ c) ++ rest) more ≡ map (λ rest. x ++ rest) (map (λ rest. c ++ rest) more)
joined_map x [] c = refl
joined_map x (m ∷ ms) c =
    ap (λ (n : List Part). n ∷ map (λ rest. (x ++ c) ++ rest) ms) (append_assoc x c m)
    ∙ ap (λ (zs : List (List Part)). (x ++ (c ++ m)) ∷ zs) (joined_map x ms c)

map_append : (x : List Part) (ys zs : List (List Part)) → map (λ rest. x ++ rest) (ys ++ zs) ≡ map (λ rest. x ++ rest) ys ++ map (λ rest. x ++ rest) zs
map_append x [] zs = refl
map_append x (y ∷ ys) zs = ap (λ (ws : List (List Part)). (x ++ y) ∷ ws) (map_append x ys zs)

one_crossed : (x : List Part) (cs more : List (List Part)) → crossed (map (λ c. x ++ c) cs) more ≡ map (λ rest. x ++ rest) (crossed cs more)
one_crossed x [] more = refl
one_crossed x (c ∷ cs) more =
    ap (λ (zs : List (List Part)). map (λ rest. (x ++ c) ++ rest) more ++ zs) (one_crossed x cs more)
    ∙ (ap (λ (zs : List (List Part)). zs ++ map (λ rest. x ++ rest) (crossed cs more)) (joined_map x more c)
    ∙ sym (map_append x (map (λ rest. c ++ rest) more) (crossed cs more)))

crossed_twice : (fronts cs more : List (List Part)) → crossed (crossed fronts cs) more ≡ crossed fronts (crossed cs more)
crossed_twice [] cs more = refl
crossed_twice (x ∷ xs) cs more =
    crossed_append (map (λ c. x ++ c) cs) (crossed xs cs) more
    ∙ (ap (λ (zs : List (List Part)). zs ++ crossed (crossed xs cs) more) (one_crossed x cs more)
    ∙ ap (λ (zs : List (List Part)). map (λ rest. x ++ rest) (crossed cs more) ++ zs) (crossed_twice xs cs more))

-- each of the fronts that are left, with each behind it
pub crossed_turn : (more all new fronts whole : List (List Part)) (i : ℕ) (x : List Part) → all ++ crossed (drop i fronts) more ≡ whole → i < length fronts
    → x ≡ get_or fronts i x → new ≡ all ++ map (λ rest. x ++ rest) more → new ++ crossed (drop (i + 1) fronts) more ≡ whole
crossed_turn more all new fronts whole i x same inside is made =
    let front : drop i fronts ≡ x ∷ drop (i + 1) fronts = drop_more fronts i x inside ∙ ap (λ (y : List Part). y ∷ drop (i + 1) fronts) (sym is) in
    ap (λ (xs : List (List Part)). xs ++ crossed (drop (i + 1) fronts) more) made
    ∙ (append_assoc all (map (λ rest. x ++ rest) more) (crossed (drop (i + 1) fronts) more)
    ∙ (sym (ap (λ (fs : List (List Part)). all ++ crossed fs more) front) ∙ same))

-- what is left to fill, behind the fronts that are made so far, is all
pub fill_turn : (vars : List Var) (action : Action) (fronts new whole : List (List Part)) (parts : List Part) (i : ℕ) (x : Part)
    → crossed fronts (filled vars action (drop i parts)) ≡ whole → i < length parts → x ≡ get_or parts i x → new ≡ crossed fronts (choices vars action x)
    → crossed new (filled vars action (drop (i + 1) parts)) ≡ whole
fill_turn vars action fronts new whole parts i x same inside is made =
    let front : drop i parts ≡ x ∷ drop (i + 1) parts = drop_more parts i x inside ∙ ap (λ (y : Part). y ∷ drop (i + 1) parts) (sym is) in
    ap (λ (fs : List (List Part)). crossed fs (filled vars action (drop (i + 1) parts))) made
    ∙ (crossed_twice fronts (choices vars action x) (filled vars action (drop (i + 1) parts))
    ∙ (sym (ap (λ (ps : List Part). crossed fronts (filled vars action ps)) front) ∙ same))

map_same : (more : List (List Part)) → map (λ rest. rest) more ≡ more
map_same [] = refl
map_same (m ∷ ms) = ap (λ (zs : List (List Part)). m ∷ zs) (map_same ms)

pub fill_start : (fronts more : List (List Part)) → fronts ≡ [] ∷ [] → crossed fronts more ≡ more
fill_start fronts more is = ap (λ (fs : List (List Part)). crossed fs more) is ∙ (append-nil (map (λ rest. rest) more) ∙ map_same more)

fill_none : (fronts : List (List Part)) → crossed fronts ([] ∷ []) ≡ fronts
fill_none [] = refl
fill_none (f ∷ fs) =
    ap (λ (g : List Part). g ∷ crossed fs ([] ∷ [])) (append-nil f) ∙ ap (λ (zs : List (List Part)). f ∷ zs) (fill_none fs)

pub fill_end : (vars : List Var) (action : Action) (fronts whole : List (List Part)) (left : List Part) → left ≡ []
    → crossed fronts (filled vars action left) ≡ whole → fronts ≡ whole
fill_end vars action fronts whole left empty same =
    sym (fill_none fronts) ∙ (sym (ap (λ (ps : List Part). crossed fronts (filled vars action ps)) empty) ∙ same)
