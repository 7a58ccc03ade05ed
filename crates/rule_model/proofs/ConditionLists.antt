-- The conditions of a rule: one, or a list of them.
use Rattle.std.proofs.Common.{◌≡◌, Bool, not, List, [], ◌∷◌, ◌++◌, length, ap, sym, ◌∙◌, subst, Global, Vec}
use Rattle.std.specs.Prelude.{Option, Some, None, Result, Ok, Err, IfOk, codes, is_some, ℕ}
use Rattle.std.specs.List.{AllZip}
use Rattle.std.proofs.lemmas.List.{map-append}
use Rattle.sig_base.specs.declared.limits.Limits.{Limits}
use Rattle.sig_base.specs.declared.refusal.Fault.{Fault}
use Rattle.sig_base.specs.declared.refusal.Place.{Place}
use Rattle.sig_conditions.specs.Formulas.{PlainFormula, form_view, forms_view}
use Rattle.sig_conditions.specs.declared.formula.Formula.{Formula}
use Rattle.sig_base.specs.Judged.{must, first, Judged}
use Rattle.yaml_tree.specs.Nodes.{place_of}
use Rattle.yaml_tree.specs.Tree.{Tree}
use Rattle.yaml_tree.specs.View.{nodes_view}
use Rattle.yaml_tree.specs.declared.tree.Node.{Node}
use Rattle.sig_conditions.specs.Words.{words}
use Rattle.rule_model.proofs.Faultless.{whole_formula}
use Rattle.sig_base.proofs.Firsts.{behind, judged_as}
use Rattle.sig_base.proofs.Checks.{first_one, first_holds, must_holds, must_same, not_holds}
use Rattle.rule_detections.proofs.Zips.{zip_some}
use Rattle.rule_model.specs.Conditions.{names_of, IsFormula, listed_refusal, conditions_refusal, conditions_in, AreConditions}
use Rattle.yaml_tree.specs.Nodes.{is_empty}
use Rattle.yaml_tree.specs.Nodes.{parts_in, value_in, entries_in, refused_by, text_in}
use Rattle.event_schema.specs.Lists.{EachOf, HasElement}
use Rattle.rule_model.specs.Whole.{IsWholeForm}

-- a list that isn't empty isn't refused as such
pub unempty : (ns : List Node) (t : Tree) (place : Place) (b : Bool) → nodes_view ns ≡ parts_in t → place ≡ place_of t → b ≡ is_empty (nodes_view ns)
    → must 78 place (not b) ≡ None → must 78 (place_of t) (not (is_empty (parts_in t))) ≡ None
unempty ns t place b view at is h =
    must_same 78 (place_of t) place (not (is_empty (parts_in t))) (not b) (sym at) (ap not (sym (is ∙ ap is_empty view))) ∙ h

abbrev pub IsJudged : Limits → Tree → Result (Vec Formula Global) Fault → Type 0
IsJudged limits t r = Judged (λ (fs : Vec Formula Global). AreConditions t (forms_view fs.items)) (conditions_refusal limits t) r

-- what the value at `condition` is read as are the conditions
pub listed_judged : (limits : Limits) (t v : Tree) (names : List (List ℕ)) (r : Result (Vec Formula Global) Fault)
    → value_in (codes "condition") (entries_in t) ≡ Some v → names ≡ names_of t
    → Judged (λ (fs : Vec Formula Global). AllZip (IsFormula names) (parts_in v) (forms_view fs.items)) (listed_refusal limits names v) r
    → IsJudged limits t r
listed_judged limits t v names r found same j =
    judged_as _ _ (listed_refusal limits names v) (conditions_refusal limits t) r
    (behind _ _ (ap (λ (o : Option Tree). must 70 (place_of t) (is_some o)) found)
    ∙ (ap (refused_by (listed_refusal limits (names_of t))) found ∙ ap (λ (ns : List (List ℕ)). listed_refusal limits ns v) (sym same)))
    (λ fs all.
    subst (λ (o : Option Tree). AllZip (IsFormula (names_of t)) (conditions_in o) (forms_view fs.items)) (sym found)
    (subst (λ (ns : List (List ℕ)). AllZip (IsFormula ns) (parts_in v) (forms_view fs.items)) same all))
    j

pub pushed_view : (fs gs : List Formula) (f : Formula) → gs ≡ fs ++ f ∷ [] → forms_view gs ≡ forms_view fs ++ form_view f ∷ []
pushed_view fs gs f is = ap forms_view is ∙ map-append form_view fs (f ∷ [])

-- ---- what is read is whole

each_read : {A B : Type 0} (R : A → B → Type 0) (Q : B → Type 0) → ((x : A) (y : B) → R x y → Q y) → (xs : List A) (ys : List B) → AllZip R xs ys → EachOf Q ys
each_read R Q f [] [] all = tt
each_read R Q f [] (y ∷ ys) all = absurd all
each_read R Q f (x ∷ xs) [] all = absurd all
each_read R Q f (x ∷ xs) (y ∷ ys) all = (f x y all.0, each_read R Q f xs ys all.1)

some_listed : (limits : Limits) (names : List (List ℕ)) (place : Place) (o : Option Tree) (fs : List PlainFormula)
    → first (must 70 place (is_some o) ∷ refused_by (listed_refusal limits names) o ∷ []) ≡ None → AllZip (IsFormula names) (conditions_in o) fs → HasElement fs
some_listed limits names place None fs h all = absurd cc
some_listed limits names place (Some v) fs h all =
    let listed : listed_refusal limits names v ≡ None = sym (first_one (listed_refusal limits names v)) ∙ h in
    zip_some (IsFormula names) (parts_in v) fs all
    (not_holds (is_empty (parts_in v)) (must_holds 78 (place_of v) (not (is_empty (parts_in v))) (first_holds _ _ listed).0))

-- a rule that is read has a condition
pub some_conditions : (limits : Limits) (t : Tree) (fs : List PlainFormula) → conditions_refusal limits t ≡ None → AreConditions t fs → HasElement fs
some_conditions limits t fs h all = some_listed limits (names_of t) (place_of t) (value_in (codes "condition") (entries_in t)) fs h all

-- whose numbers are below the count of its detections, and which has no empty chain
pub whole_conditions : (t : Tree) (fs : List PlainFormula) → AreConditions t fs → EachOf (IsWholeForm (length (names_of t))) fs
whole_conditions t fs all =
    each_read (IsFormula (names_of t)) (IsWholeForm (length (names_of t)))
    (λ v f is. whole_formula (names_of t) (words (text_in v)) is.condition f is.reads is.formula)
    (conditions_in (value_in (codes "condition") (entries_in t))) fs all

pub judged_some : (limits : Limits) (t : Tree) (r : Result (Vec Formula Global) Fault) → IsJudged limits t r → IfOk r (λ fs. HasElement (forms_view fs.items))
judged_some limits t (Ok fs) j = some_conditions limits t (forms_view fs.items) j.0 j.1
judged_some limits t (Err e) j = tt

pub judged_whole : (limits : Limits) (t : Tree) (r : Result (Vec Formula Global) Fault) → IsJudged limits t r
    → IfOk r (λ fs. EachOf (IsWholeForm (length (names_of t))) (forms_view fs.items))
judged_whole limits t (Ok fs) j = whole_conditions t (forms_view fs.items) j.1
judged_whole limits t (Err e) j = tt
