-- What makes an alternative of a map, and of a scalar.
use Rattle.std.proofs.Common.{◌≡◌, List, true, sym, subst}
use Rattle.std.specs.Prelude.{Result}
use Rattle.std.specs.List.{AllZip}
use Rattle.sig_base.specs.declared.limits.Limits.{Limits}
use Rattle.sig_base.specs.declared.refusal.Fault.{Fault}
use Rattle.sig_base.specs.declared.refusal.Place.{Place}
use Rattle.sig_base.specs.Judged.{Judged}
use Rattle.yaml_tree.specs.Nodes.{place_of}
use Rattle.yaml_tree.specs.Tree.{Tree, scalar, list, map, Member}
use Rattle.rule_detections.specs.Detections.{IsAlternative, IsKeywordAlone, alternative_refusal, items_refusal}
use Rattle.rule_detections.specs.Items.{IsItem, keyword_refusal}
use Rattle.yaml_tree.specs.Nodes.{is_map, is_scalar, entries_in}
use Rattle.rule_detections.specs.declared.item.Item.{Item}

abbrev ItemsJudged : List Place → Limits → Result (List Item) Fault → Place → List Member → Type 0
ItemsJudged unbuilt limits r place es = Judged (λ items. AllZip IsItem es items) (items_refusal unbuilt limits place es) r

pub map_judged : (unbuilt : List Place) (limits : Limits) (t : Tree) (es : List Member) (place : Place) (r : Result (List Item) Fault) → is_map t ≡ true → entries_in t ≡ es → place ≡ place_of t
    → Judged (λ items. AllZip IsItem es items) (items_refusal unbuilt limits place es) r → Judged (λ items. IsAlternative t items) (alternative_refusal unbuilt limits t) r
map_judged unbuilt limits (scalar a s) es place r is same at judged = absurd cc
map_judged unbuilt limits (list a es) fs place r is same at judged = absurd cc
map_judged unbuilt limits (map a ms) es place r is same at judged =
    subst (λ p. ItemsJudged unbuilt limits r p (entries_in (map a ms))) at (subst (λ fs. ItemsJudged unbuilt limits r place fs) (sym same) judged)

pub scalar_judged : (unbuilt : List Place) (limits : Limits) (t : Tree) (r : Result (List Item) Fault) → is_scalar t ≡ true
    → Judged (λ items. IsKeywordAlone t items) (keyword_refusal unbuilt limits t) r → Judged (λ items. IsAlternative t items) (alternative_refusal unbuilt limits t) r
scalar_judged unbuilt limits (scalar a s) r is judged = judged
scalar_judged unbuilt limits (list a es) r is judged = absurd cc
scalar_judged unbuilt limits (map a ms) r is judged = absurd cc
