-- What answering a tree leaves, for some places at which its regular expressions aren't built.
use Rattle.std.proofs.Common.{◌≡◌, ℕ, Bool, true, false, List, refl, Result, Err}
use Rattle.pipeline_run.specs.Chained.{Makes}
use Rattle.pipeline_model.specs.declared.pipeline.Pipeline.{Pipeline}
use Rattle.answer_writer.proofs.Wrote.{writes_as, writes_memory}
use Rattle.answer_writer.specs.Parts.{Share}
use Rattle.answer_writer.specs.Stands.{Writes}
use Rattle.answer_writer.specs.State.{State}
use Rattle.answer_writer.specs.declared.stop.Stop.{Stop}
use Rattle.answer_writer.specs.declared.stop.Stop.TheVariants.{Memory}
use Rattle.rule_regex.specs.ForUnbuilt.{ForUnbuilt}
use Rattle.rule_regex.specs.Unbuilt.{Unbuilt}
use Rattle.rule_run.proofs.Runs.{unbuilt_later}
use Rattle.sig_base.specs.declared.limits.Limits.{Limits}
use Rattle.sigma_serve.specs.Laws.{EachTree}
use Rattle.sigma_serve.specs.RuleFiles.{ByUnbuilt, BySome}
use Rattle.sigma_serve.specs.UnderSchema.{is_ended}
use Rattle.yaml_tree.specs.Tree.{Tree}

not_ended : false ≡ true → ⊥
not_ended same = cc

-- what came to its end may also have been cut off
pub cut : {ended : Bool} → false ≡ true → ended ≡ true
cut is = absurd (not_ended is)

-- in a file of this name
module _ (by : ByUnbuilt) (limits : Limits) (ps : List Pipeline) (name : List ℕ) (t : Tree) where
  -- it was answered to its end, and a share of this kind is written
  pub tree_wrote : (Says : Unbuilt → Type 0) (P : Share → Type 0) (before after : List (List ℕ)) (result : Result Bool Stop) (old new : State) → ForUnbuilt (Makes limits ps) limits t before after true Says
      → ((unbuilt : Unbuilt) → Says unbuilt → (share : Share) → P share → by unbuilt name t share) → Writes P result old new → Writes (BySome by limits ps before after (is_ended result) name t) result old new
  tree_wrote Says P before after result old new found gives wrote =
      writes_as P (BySome by limits ps before after (is_ended result) name t) result old new
      (λ share is. record {
        unbuilt = found.unbuilt;
        follows = found.follows;
        are = unbuilt_later limits ps true (is_ended result) (λ _. refl) found.unbuilt t found.are;
        says = gives found.unbuilt found.says share is;
      }) wrote

  -- memory was missing, before or after it was answered
  pub tree_memory : (Says : Unbuilt → Type 0) → ((unbuilt : Unbuilt) → EachTree (by unbuilt)) → (before after : List (List ℕ)) (ended : Bool) → ForUnbuilt (Makes limits ps) limits t before after ended Says → (s : State)
      → Writes (BySome by limits ps before after false name t) (Err Memory) s s
  tree_memory Says each before after ended found s =
      let one = each found.unbuilt name t in
      writes_memory (BySome by limits ps before after false name t) s
      (one.0, record { unbuilt = found.unbuilt; follows = found.follows; are = unbuilt_later limits ps ended false cut found.unbuilt t found.are; says = one.1 })
