-- Fields made of names, one after the other.
use Rattle.std.proofs.Common.{ℕ, suc, ◌≡◌, List, [], ◌∷◌, ◌++◌, length, map, ap, sym, refl, ◌∙◌, append_assoc, append-nil, arith}
use Rattle.event_schema.specs.declared.schema.Field.{Field}
use Rattle.rule_schema.specs.Gathered.{field_of, AreMade}
use Rattle.rule_schema.specs.Inferred.{Use, distinct, made_field}
use Rattle.rule_schema.specs.declared.names.Named.{Named}

-- one more name is made a field
pub fields_go : (fs gs : List Field) (f : Field) (x : Named) (xs ys : List Named) (whole : List Field) → xs ≡ x ∷ ys → fs ++ map field_of xs ≡ whole → f ≡ field_of x
    → gs ≡ fs ++ f ∷ [] → gs ++ map field_of ys ≡ whole
fields_go fs gs f x xs ys whole step inv made pushed =
    ap (λ (hs : List Field). hs ++ map field_of ys) (pushed ∙ ap (λ (g : Field). fs ++ g ∷ []) made)
    ∙ (append_assoc fs (field_of x ∷ []) (map field_of ys) ∙ (sym (ap (λ (ns : List Named). fs ++ map field_of ns) step) ∙ inv))

-- no name is left
pub fields_end : (fs : List Field) (xs : List Named) (count : ℕ) (whole : List Field) → count ≡ 0 → count ≡ length xs → fs ++ map field_of xs ≡ whole → fs ≡ whole
fields_end fs [] count whole none left inv = sym (append-nil fs) ∙ inv
fields_end fs (x ∷ xs) count whole none left inv = absurd (omega arith)

-- there are as many names as there are fields
pub as_many : (uses : List Use) (names : List Named) → AreMade uses names → length names ≡ length (distinct (map (λ u. u.name) uses))
as_many uses names made = sym (by_fields names) ∙ (ap length made ∙ by_names (distinct (map (λ u. u.name) uses))) where
  by_fields : (ns : List Named) → length (map field_of ns) ≡ length ns
  by_fields [] = refl
  by_fields (n ∷ ns) = ap suc (by_fields ns)

  by_names : (ns : List (List ℕ)) → length (map (made_field uses) ns) ≡ length ns
  by_names [] = refl
  by_names (n ∷ ns) = ap suc (by_names ns)
