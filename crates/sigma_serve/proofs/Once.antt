-- That there is one answer under the schema of a file, and under the pipelines of one.
use Rattle.std.proofs.Common.{◌≡◌, ℕ, List, [], ◌∷◌, ap, sym, ◌∙◌, subst, Option, None, Some, Result, Ok, Err}
use Rattle.answer_writer.proofs.Rows.{all_one}
use Rattle.answer_writer.specs.Input.{World}
use Rattle.answer_writer.specs.Parts.{Share, Part, no_share}
use Rattle.event_read.specs.SchemaOf.{schema_of}
use Rattle.event_schema.specs.declared.schema.Schema.{Schema}
use Rattle.pipeline_run.specs.Priorities.{by_priority}
use Rattle.pipeline_files.specs.Laws as pipelined
use Rattle.pipeline_files.specs.Outcomes.{ArePipelines, AreCauses}
use Rattle.pipeline_model.specs.declared.pipeline.Pipeline.{Pipeline}
use Rattle.rule_regex.specs.Unbuilt.{Unbuilt}
use Rattle.sig_base.specs.Files.{file_start}
use Rattle.sig_base.specs.Judged.{refusal as refused_at}
use Rattle.sig_base.specs.declared.limits.Limits.{Limits}
use Rattle.sig_base.specs.declared.refusal.Refusal.{Refusal}
use Rattle.sigma_serve.specs.Laws.{OneUnder}
use Rattle.sigma_serve.specs.Reports.{refusal_share}
use Rattle.sigma_serve.specs.RuleFiles.{contents}
use Rattle.sigma_serve.specs.UnderPipelines.{AreReported, UnderPipelines, unpiped, piped_by, not_piped}
use Rattle.sigma_serve.specs.UnderSchema.{BySchema, UnderSchema, without, under, refused, file_part}

-- ---- one answer under a schema

pub none_some : {A : Type 0} (o : Option A) (x : A) → o ≡ None → o ≡ Some x → ⊥
none_some o x none some = apart (sym none ∙ some)
  where
    apart : None ≡ Some x → ⊥
    apart same = cc

pub some_is : {A : Type 0} (o : Option A) (x y : A) → o ≡ Some x → o ≡ Some y → x ≡ y
some_is o x y first second = by (sym first ∙ second)
  where
    by : Some x ≡ Some y → x ≡ y
    by same = cc

abbrev taken : Schema → Result Schema ℕ
taken schema = Ok schema

abbrev coded : ℕ → Result Schema ℕ
coded code = Err code

pub ok_is : (r : Result Schema ℕ) (a b : Schema) → r ≡ Ok a → r ≡ Ok b → a ≡ b
ok_is r a b first second = by (sym first ∙ second)
  where
    by : taken a ≡ taken b → a ≡ b
    by same = cc

err_is : (r : Result Schema ℕ) (a b : ℕ) → r ≡ Err a → r ≡ Err b → a ≡ b
err_is r a b first second = by (sym first ∙ second)
  where
    by : coded a ≡ coded b → a ≡ b
    by same = cc

pub not_both : (r : Result Schema ℕ) (a : Schema) (code : ℕ) → r ≡ Ok a → r ≡ Err code → ⊥
not_both r a code first second = apart (sym first ∙ second)
  where
    apart : Ok a ≡ Err code → ⊥
    apart same = cc

module _ (by : BySchema) (one_by : OneUnder by) (limits : Limits) (schema : Option (List ℕ)) (world : World) where
  -- what the file of this name is as a schema, also said of the same name written otherwise
  moved : (name other : List ℕ) → schema ≡ Some name → schema ≡ Some other → (r : Result Schema ℕ)
      → schema_of limits (contents world.files other) ≡ r → schema_of limits (contents world.files name) ≡ r
  moved name other is too r so = ap (λ (n : List ℕ). schema_of limits (contents world.files n)) (some_is schema name other is too) ∙ so

  pub one_schema : (a b : List Part) → UnderSchema by limits schema world a → UnderSchema by limits schema world b → a ≡ b
  one_schema a b (without is each) (without too each_too) = one_by None world a b each each_too
  one_schema a b (without is each) (under other too given so others each_too same) = absurd (none_some schema other is too)
  one_schema a b (without is each) (refused other too code so same) = absurd (none_some schema other is too)
  one_schema a b (under name is given so others each same) (without too each_too) = absurd (none_some schema name too is)
  one_schema a b (under name is given so others each same) (under other too given_too so_too others_too each_too same_too) =
      let one : given_too ≡ given = ok_is (schema_of limits (contents world.files name)) given_too given (moved name other is too (Ok given_too) so_too) so in
      let rest : others ≡ others_too = one_by (Some given) world others others_too each
      (subst (λ (g : Schema). by (Some g) world others_too) one each_too) in
      same ∙ (ap (λ (n : List ℕ). file_part n no_share ∷ others) (some_is schema name other is too)
      ∙ (ap (λ (ps : List Part). file_part other no_share ∷ ps) rest ∙ sym same_too))
  one_schema a b (under name is given so others each same) (refused other too code so_too same_too) =
      absurd (not_both (schema_of limits (contents world.files name)) given code so (moved name other is too (Err code) so_too))
  one_schema a b (refused name is code so same) (without too each_too) = absurd (none_some schema name too is)
  one_schema a b (refused name is code so same) (under other too given so_too others each_too same_too) =
      absurd (not_both (schema_of limits (contents world.files name)) given code (moved name other is too (Ok given) so_too) so)
  one_schema a b (refused name is code so same) (refused other too code_too so_too same_too) =
      same ∙ (ap (λ (c : ℕ). file_part name (refusal_share name (refused_at c file_start)) ∷ []) (err_is (schema_of limits (contents world.files name)) code code_too so (moved name other is too (Err code_too) so_too))
      ∙ (ap (λ (n : List ℕ). file_part n (refusal_share n (refused_at code_too file_start)) ∷ []) (some_is schema name other is too) ∙ sym same_too))

-- ---- one answer under the pipelines of a file

module _ (one : pipelined.OnePipelines) (causes_one : pipelined.OneCauses) (never : pipelined.NeverBoth) (by : List Pipeline → World → List Part → Type 0)
    (one_by : (ps : List Pipeline) (world : World) (a b : List Part) → by ps world a → by ps world b → a ≡ b) (limits : Limits) (piped : List Unbuilt) (file : Option (List ℕ)) (world : World) where
  -- what the file of this name is, also said of the same name written otherwise
  same_name : (name other : List ℕ) → file ≡ Some name → file ≡ Some other → (P : List ℕ → Type 0) → P other → P name
  same_name name other is too P so = subst P (sym (some_is file name other is too)) so

  one_share_of : (name : List ℕ) (causes : List Refusal) (a b : Share) → AreReported name causes a → AreReported name causes b → a ≡ b
  one_share_of name causes = all_one (λ (r : Refusal) one. one ≡ refusal_share name r) (λ r a b first second. first ∙ sym second) causes

  pub one_piped : (a b : List Part) → UnderPipelines by limits piped file world a → UnderPipelines by limits piped file world b → a ≡ b
  one_piped a b (unpiped is other) (unpiped too other_too) = one_by [] world a b other other_too
  one_piped a b (unpiped is other) (piped_by name too ps are others other_too same) = absurd (none_some file name is too)
  one_piped a b (unpiped is other) (not_piped name too causes are share reported same) = absurd (none_some file name is too)
  one_piped a b (piped_by name is ps are others other same) (unpiped too other_too) = absurd (none_some file name too is)
  one_piped a b (piped_by name is ps are others other same) (piped_by name_too too qs are_too others_too other_too same_too) =
      let both : qs ≡ ps = one piped piped limits (contents world.files name) qs ps (same_name name name_too is too (λ n. ArePipelines piped limits (contents world.files n) qs) are_too) are in
      let rest : others ≡ others_too = one_by (by_priority ps) world others others_too other (subst (λ (l : List Pipeline). by (by_priority l) world others_too) both other_too) in
      same ∙ (ap (λ (n : List ℕ). file_part n no_share ∷ others) (some_is file name name_too is too)
      ∙ (ap (λ (l : List Part). file_part name_too no_share ∷ l) rest ∙ sym same_too))
  one_piped a b (piped_by name is ps are others other same) (not_piped name_too too causes are_too share reported same_too) =
      absurd (never piped limits (contents world.files name) ps causes are (same_name name name_too is too (λ n. AreCauses piped limits (contents world.files n) causes) are_too))
  one_piped a b (not_piped name is causes are share reported same) (unpiped too other_too) = absurd (none_some file name too is)
  one_piped a b (not_piped name is causes are share reported same) (piped_by name_too too ps are_too others other same_too) =
      absurd (never piped limits (contents world.files name) ps causes (same_name name name_too is too (λ n. ArePipelines piped limits (contents world.files n) ps) are_too) are)
  one_piped a b (not_piped name is causes are share reported same) (not_piped name_too too causes_too are_too share_too reported_too same_too) =
      let both : causes_too ≡ causes = causes_one piped limits (contents world.files name) causes_too causes
      (same_name name name_too is too (λ n. AreCauses piped limits (contents world.files n) causes_too) are_too) are in
      let shares : share ≡ share_too = one_share_of name causes share share_too reported
      (subst (λ (c : List Refusal). AreReported name c share_too) both (same_name name name_too is too (λ n. AreReported n causes_too share_too) reported_too)) in
      same ∙ (ap (λ (n : List ℕ). file_part n share ∷ []) (some_is file name name_too is too)
      ∙ (ap (λ (s : Share). file_part name_too s ∷ []) shares ∙ sym same_too))
