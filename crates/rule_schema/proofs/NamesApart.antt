-- The names of a rule's fields: legal, and apart where letters of either case are taken for equal; so the schema that is made of
-- a rule is one.
use Rattle.std.proofs.Common.{ℕ, suc, ◌≡◌, ◌<◌, ◌^◌, length, Bool, true, false, not, cond, List, [], ◌∷◌, ◌++◌, None, refl, sym, subst, ap, ◌∙◌, map}
use Rattle.std.specs.Prelude.{filter, Ok, Err}
use Rattle.std.specs.List.{flat_map}
use Rattle.std.specs.Str.{bytes_eq}
use Rattle.std.specs.declared.result.Result.{Result}
use Rattle.std.proofs.lemmas.Option.{none-some}
use Rattle.event_schema.specs.Lists.{EachOf}
use Rattle.event_schema.specs.Names.{IsName}
use Rattle.event_schema.specs.Schemas.{IsOther, AreApart, twin, IsField, names_of, IsSchema}
use Rattle.sig_base.specs.declared.refusal.Place.{Place}
use Rattle.sig_base.specs.declared.refusal.Refusal.{Refusal}
use Rattle.rule_detections.specs.PlainTests.{IsPlainTest, ArePlainTests}
use Rattle.rule_detections.specs.References.{references_in}
use Rattle.rule_detections.specs.declared.test.Test.{Test}
use Rattle.rule_detections.specs.declared.test.Test.TheVariants as tests
use Rattle.rule_detections.specs.Whole.{IsWholeValue, IsWholeItem, IsWholeAlternative, IsWholeDetection, AreWholeFields}
use Rattle.rule_detections.specs.declared.detection.Detection.{Detection}
use Rattle.rule_detections.specs.declared.item.Fields.{Fields}
use Rattle.rule_detections.specs.declared.item.Fields.TheVariants.{Keyword, Names}
use Rattle.rule_detections.specs.declared.item.Item.{Item}
use Rattle.rule_model.specs.Plain.{PlainRule}
use Rattle.rule_model.specs.Whole.{IsWhole}
use Rattle.rule_schema.specs.Compared.{test_names, value_names, values_names}
use Rattle.rule_schema.specs.Gathered.{use_of, gathered}
use Rattle.rule_schema.specs.Inferred.{Use, item_uses, distinct, uses_of, items_of, rule_names, inferred_schema, schema_refusal, made_field}
use Rattle.rule_schema.specs.Kinds.{Asks, nothing_asked, asks_of, names_in}
use Rattle.rule_schema.specs.declared.names.Named.{Named}
use Rattle.rule_schema.proofs.Compared.{names_compared}
use Rattle.rule_schema.proofs.Gathered.{apart_gathered, names_of_uses, has_clash}

-- ---- legal

each_and : {A : Type 0} (P : A → Type 0) (xs ys : List A) → EachOf P xs → EachOf P ys → EachOf P (xs ++ ys)
each_and P [] ys a b = b
each_and P (x ∷ xs) ys a b = (a.0, each_and P xs ys a.1 b)

abbrev use_names : List Use → List (List ℕ)
use_names us = map (λ u. u.name) us

joined : (a b : List Use) → use_names (a ++ b) ≡ use_names a ++ use_names b
joined [] b = refl
joined (u ∷ us) b = ap (λ (ns : List (List ℕ)). u.name ∷ ns) (joined us b)

joined_legal : (a b : List Use) → EachOf IsName (use_names a) → EachOf IsName (use_names b) → EachOf IsName (use_names (a ++ b))
joined_legal a b x y = subst (EachOf IsName) (sym (joined a b)) (each_and IsName (use_names a) (use_names b) x y)

names_legal : (place : Place) (asks : Asks) (names : List (List ℕ)) → EachOf IsName names → EachOf IsName (use_names (map (use_of place asks) names))
names_legal place asks [] each = tt
names_legal place asks (n ∷ ns) each = (each.0, names_legal place asks ns each.1)

fields_legal : (f : Fields) (values : List (List Test)) → AreWholeFields f values → EachOf IsName (names_in f)
fields_legal Keyword values w = tt
fields_legal (Names names) values w = w.1

-- what a plain test compares with has a legal name
reference_legal : (test : Test) → IsPlainTest test → EachOf IsName (test_names test)
reference_legal tests.Absent p = tt
reference_legal (tests.Exists there) p = tt
reference_legal (tests.Fits pattern cased) p = tt
reference_legal (tests.Equals n) p = tt
reference_legal (tests.Inside n) p = tt
reference_legal (tests.Compare op n) p = tt
reference_legal (tests.SameAs name) p = (p, tt)
reference_legal (tests.Finds text flags) p = tt

value_legal : (value : List Test) → ArePlainTests value → EachOf IsName (value_names value)
value_legal [] each = tt
value_legal (test ∷ value) each = each_and IsName (test_names test) (value_names value) (reference_legal test each.0) (value_legal value each.1)

values_legal : (values : List (List Test)) → EachOf IsWholeValue values → EachOf IsName (values_names values)
values_legal [] each = tt
values_legal (value ∷ values) each = each_and IsName (value_names value) (values_names values) (value_legal value each.0.each) (values_legal values each.1)

references_legal : (values : List (List Test)) → EachOf IsWholeValue values → EachOf IsName (references_in values)
references_legal values each = subst (EachOf IsName) (sym (names_compared values)) (values_legal values each)

item_legal : (i : Item) → IsWholeItem i → EachOf IsName (use_names (item_uses i))
item_legal i w =
    joined_legal (map (use_of i.place (asks_of i.tests)) (names_in i.fields)) (map (use_of i.place nothing_asked) (references_in i.tests))
    (names_legal i.place (asks_of i.tests) (names_in i.fields) (fields_legal i.fields i.tests w.fields))
    (names_legal i.place nothing_asked (references_in i.tests) (references_legal i.tests w.each))

items_legal : (items : List Item) → EachOf IsWholeItem items → EachOf IsName (use_names (uses_of items))
items_legal [] each = tt
items_legal (i ∷ items) each = joined_legal (item_uses i) (uses_of items) (item_legal i each.0) (items_legal items each.1)

alternatives_whole : (alternatives : List (List Item)) → EachOf IsWholeAlternative alternatives → EachOf IsWholeItem (flat_map (λ items. items) alternatives)
alternatives_whole [] each = tt
alternatives_whole (items ∷ more) each = each_and IsWholeItem items (flat_map (λ is. is) more) each.0.each (alternatives_whole more each.1)

detections_whole : (ds : List Detection) → EachOf IsWholeDetection ds → EachOf IsWholeItem (items_of ds)
detections_whole [] each = tt
detections_whole (d ∷ ds) each =
    each_and IsWholeItem (flat_map (λ items. items) d.alternatives) (items_of ds) (alternatives_whole d.alternatives each.0.each) (detections_whole ds each.1)

-- of the names of a list, some are left out
filter_legal : (p : List ℕ → Bool) (ns : List (List ℕ)) → EachOf IsName ns → EachOf IsName (filter p ns)
filter_legal p [] s = tt
filter_legal p (n ∷ ns) s = by (p n) (filter_legal p ns s.1) where
  by : (b : Bool) → EachOf IsName (filter p ns) → EachOf IsName (cond b (n ∷ filter p ns) (filter p ns))
  by true rest = (s.0, rest)
  by false rest = rest

distinct_legal : (ns : List (List ℕ)) → EachOf IsName ns → EachOf IsName (distinct ns)
distinct_legal [] s = tt
distinct_legal (n ∷ ns) s = (s.0, filter_legal (λ other. not (bytes_eq other n)) (distinct ns) (distinct_legal ns s.1))

pub rule_legal : (rule : PlainRule) → IsWhole rule → EachOf IsName (rule_names rule)
rule_legal rule w = distinct_legal (use_names (uses_of (items_of rule.detections))) (items_legal (items_of rule.detections) (detections_whole rule.detections w.detections))

-- ---- apart

pub rule_apart : (rule : PlainRule) → schema_refusal rule ≡ None → AreApart (rule_names rule)
rule_apart rule e = by (gathered [] us) refl where
  us : List Use
  us = uses_of (items_of rule.detections)

  by : (r : Result (List Named) Refusal) → gathered [] us ≡ r → AreApart (rule_names rule)
  by (Ok ms) g = subst AreApart (names_of_uses ms us g) (apart_gathered [] ms us tt g)
  by (Err r) g = absurd (none-some r (sym e ∙ has_clash r us g))

-- ---- schemas

pub fields_kept : (uses : List Use) (names : List (List ℕ)) → EachOf IsName names → EachOf IsField (map (made_field uses) names)
fields_kept uses [] each = tt
fields_kept uses (name ∷ names) each = (record { name = each.0; at = tt; search = λ e. absurd (false_true e); cased = λ e. absurd (false_true e) }, fields_kept uses names each.1) where
  false_true : false ≡ true → ⊥
  false_true e = cc

pub own_names : (uses : List Use) (names : List (List ℕ)) → names_of (map (made_field uses) names) ≡ names
own_names uses [] = refl
own_names uses (name ∷ names) = ap (λ (ns : List (List ℕ)). name ∷ ns) (own_names uses names)

-- no field that is made of a name has a twin
pub no_twins : (uses : List Use) (all names : List (List ℕ)) → EachOf (λ field. field.cased ≡ true → IsOther (twin field.name) all) (map (made_field uses) names)
no_twins uses all [] = tt
no_twins uses all (name ∷ names) = ((λ e. absurd (false_true e)), no_twins uses all names) where
  false_true : false ≡ true → ⊥
  false_true e = cc

as_many : (uses : List Use) (names : List (List ℕ)) → length (map (made_field uses) names) ≡ length names
as_many uses [] = refl
as_many uses (name ∷ names) = ap suc (as_many uses names)

pub inferred_kept : (rule : PlainRule) → IsWhole rule → schema_refusal rule ≡ None → length (rule_names rule) < 2 ^ 32 → IsSchema (inferred_schema rule)
inferred_kept rule whole free few =
    let names = rule_names rule in
    let uses = uses_of (items_of rule.detections) in
    record {
      table = record { legal = refl; scalars = refl };
      fields = fields_kept uses names (rule_legal rule whole);
      apart = subst AreApart (sym (own_names uses names)) (rule_apart rule free);
      twins = no_twins uses (names_of (map (made_field uses) names)) names;
      few = subst (λ (n : ℕ). n < 2 ^ 32) (sym (as_many uses names)) few;
    }
