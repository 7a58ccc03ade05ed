-- What correlating the rules of files leaves, once they are read.
use Rattle.std.proofs.Common.{◌≡◌, ℕ, Bool, true, List, [], ◌∷◌, ◌++◌, map, refl, ap, sym, ◌∙◌, subst, Some, None, Result, Ok, Err}
use Rattle.std.specs.Prelude.{◌||◌}
use Rattle.std.specs.List.{AllZip}
use Rattle.answer_writer.proofs.Ending.{Kind, Then, EachHas, ends_as, ends_both, ends_later, ends_less, ends_memory, ends_written, files_of}
use Rattle.answer_writer.proofs.Rows.{all_one, each_all, shares_of}
use Rattle.answer_writer.specs.FollowedLines.{FollowedLines}
use Rattle.answer_writer.specs.Input.{World, Needs}
use Rattle.answer_writer.specs.Parts.{Share, Part}
use Rattle.answer_writer.specs.Stands.{Writes, Ends}
use Rattle.answer_writer.specs.State.{State}
use Rattle.answer_writer.specs.declared.stop.Stop.{Stop}
use Rattle.answer_writer.specs.declared.stop.Stop.TheVariants.{Memory}
use Rattle.correlation_files.specs.Bindings.{shown_name, Verdict, IsVerdict, AreJudged, bounds_in, names_in, unbound_in}
use Rattle.correlation_files.specs.Found.{IsBareOf, IsKept, StandsFor, Named, names_of_rules}
use Rattle.correlation_files.specs.Laws as files
use Rattle.correlation_files.specs.declared.bindings.Unbound.{Unbound}
use Rattle.correlation_files.specs.declared.found.Found.{Found}
use Rattle.correlation_files.specs.declared.found.Sourced.{Sourced}
use Rattle.correlation_read.specs.Binding.{Names, bind_refusal, IsBound}
use Rattle.correlation_read.specs.Correlations.{PlainCorrelation, correlation_view, correlation_with}
use Rattle.correlation_run.specs.Followed.{Correlating, Follows}
use Rattle.correlation_run.specs.Laws as runs
use Rattle.correlation_windows.specs.History.{Taken}
use Rattle.correlation_windows.specs.declared.bound.Bound.{Bound}
use Rattle.event_schema.specs.Lists.{EachOf}
use Rattle.event_schema.specs.declared.schema.Field.{Field}
use Rattle.event_schema.specs.declared.schema.Schema.{Schema}
use Rattle.rule_model.specs.Plain.{PlainRule}
use Rattle.rule_model.specs.declared.rule.Rule.{Rule}
use Rattle.sig_base.specs.declared.limits.Limits.{Limits}
use Rattle.sig_base.specs.declared.refusal.Refusal.{Refusal}
use Rattle.sigma_serve.proofs.Histories.{each_followed, one_followed, followed_within}
use Rattle.sigma_serve.proofs.Hits.{views, bare_hits, hits_bare, follows_alike}
use Rattle.sigma_serve.specs.Correlated.{note_part, AreUnbound, CorrelatedBy}
use Rattle.sigma_serve.specs.Laws.{EachCorrelated}
use Rattle.sigma_serve.specs.Reports.{refusal_share}
use Rattle.sigma_serve.specs.Sourced.{AreTold}

-- what is followed where these correlations are judged
abbrev correlating : Schema → List PlainRule → List (Named × Verdict) → Correlating
correlating schema rules judged = record { schema = schema; rules = rules; bounds = bounds_in judged; names = names_in judged }

abbrev tells_of : List ℕ × Refusal → Share → Type 0
tells_of c one = one ≡ refusal_share c.0 c.1

-- ---- exactly one answer

each_unbound : (causes : List (List ℕ × Refusal)) → (share : Share) × AreUnbound causes share
each_unbound causes = each_all tells_of (λ c. (refusal_share c.0 c.1, refl)) causes

pub each_correlated : files.EachJudged → runs.EachFollowed → EachCorrelated
each_correlated judge follow limits schema rules correlations world =
    let judged = judge (names_of_rules rules) schema.fields correlations in
    let told = each_unbound (unbound_in judged.0) in
    let lines = each_followed (Follows (correlating schema rules judged.0)) (follow (correlating schema rules judged.0)) limits [] world in (
      note_part told.0 ∷ lines.0,
      record { judged = judged.0; are = judged.1; unbound = told.0; told = told.1; lines = lines.0; after = lines.1; follows = lines.2; all = refl },
    )

pub one_correlated : files.OneJudged → runs.OneFollowed → (limits : Limits) (schema : Schema) (rules : List PlainRule) (correlations : List Named) (world : World) (a b : List Part)
    → CorrelatedBy limits schema rules correlations world a → CorrelatedBy limits schema rules correlations world b → a ≡ b
one_correlated judge follow limits schema rules correlations world a b first second =
    let same : second.judged ≡ first.judged = judge (names_of_rules rules) schema.fields correlations second.judged first.judged second.are first.are in
    let told : AreUnbound (unbound_in first.judged) second.unbound = subst (λ (js : List (Named × Verdict)). AreUnbound (unbound_in js) second.unbound) same second.told in
    let notes : first.unbound ≡ second.unbound = all_one tells_of (λ c x y one two. one ∙ sym two) (unbound_in first.judged) first.unbound second.unbound first.told told in
    let others = subst (λ (js : List (Named × Verdict)). FollowedLines (Follows (correlating schema rules js)) limits [] world second.lines second.after) same second.follows in
    let lines : first.lines ≡ second.lines =
    (one_followed (Follows (correlating schema rules first.judged)) (follow (correlating schema rules first.judged)) limits [] world first.lines second.lines first.after second.after first.follows others).0 in
    first.all ∙ (ap (λ (s : Share). note_part s ∷ first.lines) notes ∙ (ap (λ (l : List Part). note_part second.unbound ∷ l) lines ∙ sym second.all))

-- ---- what was found stands for

-- two correlations of which the code keeps the same are judged alike
module _ (names : List Names) (fields : List Field) (s : Sourced) (c d : Named) (first : IsKept c s) (second : IsKept d s) where
  same_file : d.0 ≡ c.0
  same_file = sym second.file ∙ first.file

  same_shown : shown_name d.1 ≡ shown_name c.1
  same_shown = ap shown_name (sym second.bare.1) ∙ ap shown_name first.bare.1

  abbrev Binds : Bound → PlainCorrelation → Type 0
  Binds b x = (bind_refusal names fields x ≡ None) × IsBound names fields x b

  bound_alike : (b : Bound) → Binds b c.1 → Binds b d.1
  bound_alike b binds =
      let w : Binds b (correlation_with first.bare.0 (correlation_view s.correlation)) = subst (Binds b) (sym first.bare.1) binds in
      subst (Binds b) second.bare.1 (
        w.0,
        record { kind = w.1.kind; rules = w.1.rules; groups = w.1.groups; span = w.1.span; condition = w.1.condition; counted = w.1.counted },
      )

  refused_alike : (r : Refusal) → bind_refusal names fields c.1 ≡ Some r → bind_refusal names fields d.1 ≡ Some r
  refused_alike r is =
      let w : bind_refusal names fields (correlation_with first.bare.0 (correlation_view s.correlation)) ≡ Some r =
      subst (λ (x : PlainCorrelation). bind_refusal names fields x ≡ Some r) (sym first.bare.1) is in
      subst (λ (x : PlainCorrelation). bind_refusal names fields x ≡ Some r) second.bare.1 w

-- the same correlations with other verdicts beside them, which come to the same
pub record JudgedToo (names : List Names) (fields : List Field) (judged : List (Named × Verdict)) (correlations : List Named) : Type 0 where
  pub others : List (Named × Verdict)
  pub are : AreJudged names fields correlations others
  pub bounds : bounds_in others ≡ bounds_in judged
  pub shown : names_in others ≡ names_in judged
  pub unbound : unbound_in others ≡ unbound_in judged

head_is : (x y : Named) (xs ys : List Named) → x ∷ xs ≡ y ∷ ys → x ≡ y
head_is x y xs ys is = cc

tail_is : (x y : Named) (xs ys : List Named) → x ∷ xs ≡ y ∷ ys → xs ≡ ys
tail_is x y xs ys is = cc

no_cons : (x : Named) (xs : List Named) → [] ≡ x ∷ xs → ⊥
no_cons x xs is = cc

module _ (names : List Names) (fields : List Field) where
  abbrev Each : List (Named × Verdict) → Type 0
  Each judged = EachOf (λ j. IsVerdict names fields j.0 j.1) judged

  one_more : (d e : Named) (v : Verdict) (judged : List (Named × Verdict)) (ds : List Named) → IsVerdict names fields d v → d.0 ≡ e.0 → shown_name d.1 ≡ shown_name e.1
      → JudgedToo names fields judged ds → JudgedToo names fields ((e, v) ∷ judged) (d ∷ ds)
  one_more d e (Ok b) judged ds verdict file shown rest = record {
    others = (d, Ok b) ∷ rest.others;
    are = record { of = ap (λ (l : List Named). d ∷ l) rest.are.of; each = (verdict, rest.are.each) };
    bounds = ap (λ (l : List Bound). b ∷ l) rest.bounds;
    shown = ap (λ (n : List ℕ). n ∷ names_in rest.others) shown ∙ ap (λ (l : List (List ℕ)). shown_name e.1 ∷ l) rest.shown;
    unbound = rest.unbound;
  }
  one_more d e (Err r) judged ds verdict file shown rest = record {
    others = (d, Err r) ∷ rest.others;
    are = record { of = ap (λ (l : List Named). d ∷ l) rest.are.of; each = (verdict, rest.are.each) };
    bounds = rest.bounds;
    shown = rest.shown;
    unbound = ap (λ (f : List ℕ). (f, r) ∷ unbound_in rest.others) file ∙ ap (λ (l : List (List ℕ × Refusal)). (e.0, r) ∷ l) rest.unbound;
  }

  verdict_alike : (s : Sourced) (c d : Named) → IsKept c s → IsKept d s → (v : Verdict) → IsVerdict names fields c v → IsVerdict names fields d v
  verdict_alike s c d first second (Ok b) verdict = bound_alike names fields s c d first second b verdict
  verdict_alike s c d first second (Err r) verdict = refused_alike names fields s c d first second r verdict

  judged_too : (cs ds : List Named) (items : List Sourced) (judged : List (Named × Verdict)) → AllZip IsKept cs items → AllZip IsKept ds items → map (λ j. j.0) judged ≡ cs → Each judged
      → JudgedToo names fields judged ds
  judged_too [] [] [] [] first second of each = record { others = []; are = record { of = refl; each = tt }; bounds = refl; shown = refl; unbound = refl }
  judged_too [] [] [] (j ∷ judged) first second of each = absurd (no_cons j.0 (map (λ j. j.0) judged) (sym of))
  judged_too [] [] (s ∷ items) judged first second of each = absurd first
  judged_too [] (d ∷ ds) [] judged first second of each = absurd second
  judged_too [] (d ∷ ds) (s ∷ items) judged first second of each = absurd first
  judged_too (c ∷ cs) ds [] judged first second of each = absurd first
  judged_too (c ∷ cs) [] (s ∷ items) judged first second of each = absurd second
  judged_too (c ∷ cs) (d ∷ ds) (s ∷ items) [] first second of each = absurd (no_cons c cs of)
  judged_too (c ∷ cs) (d ∷ ds) (s ∷ items) ((e, v) ∷ judged) first second of each =
      let same : e ≡ c = head_is e c (map (λ j. j.0) judged) cs of in
      let kept : IsKept e s = subst (λ (x : Named). IsKept x s) (sym same) first.0 in
      one_more d e v judged ds (verdict_alike s e d kept second.0 v each.0) (same_file names fields s e d kept second.0) (same_shown names fields s e d kept second.0)
      (judged_too cs ds items judged first.1 second.1 (tail_is e c (map (λ j. j.0) judged) cs of) each.1)

-- whatever else was found stands for, the answer is the same
pub same_found : (limits : Limits) (schema : Schema) (found : Found) (rules others : List PlainRule) (correlations more : List Named) → StandsFor schema rules correlations found
    → StandsFor schema others more found → (world : World) (parts : List Part) → CorrelatedBy limits schema rules correlations world parts → CorrelatedBy limits schema others more world parts
same_found limits schema found rules others correlations more first second world parts by =
    let names : names_of_rules rules ≡ names_of_rules others = sym first.names ∙ second.names in
    let are : AreJudged (names_of_rules others) schema.fields correlations by.judged = subst (λ (ns : List Names). AreJudged ns schema.fields correlations by.judged) names by.are in
    let too : JudgedToo (names_of_rules others) schema.fields by.judged more =
    judged_too (names_of_rules others) schema.fields correlations more found.correlations.items by.judged first.kept second.kept are.of are.each in
    let lines = followed_within (Follows (correlating schema rules by.judged)) (Follows (correlating schema others by.judged))
    (follows_alike schema rules others (bounds_in by.judged) (names_in by.judged)
    (λ row hits hit. bare_hits schema.fields row others found.rules.items hits second.bare (hits_bare schema.fields row rules found.rules.items hits first.bare hit)))
    limits [] world by.lines by.after by.follows in
    record {
      judged = too.others;
      are = too.are;
      unbound = by.unbound;
      told = subst (λ (causes : List (List ℕ × Refusal)). AreUnbound causes by.unbound) (sym too.unbound) by.told;
      lines = by.lines;
      after = by.after;
      follows = subst (λ (bs : List Bound). FollowedLines (Follows (record { schema = schema; rules = others; bounds = bs; names = names_in too.others })) limits [] world by.lines by.after) (sym too.bounds)
          (subst (λ (ns : List (List ℕ)). FollowedLines (Follows (record { schema = schema; rules = others; bounds = bounds_in by.judged; names = ns })) limits [] world by.lines by.after) (sym too.shown) lines);
      all = by.all;
    }

-- ---- what following leaves

abbrev pub events_alone : Needs
events_alone = record { names = []; events = true }

abbrev pub Lines : Correlating → Limits → Kind
Lines w limits world parts = (after : List Taken) × FollowedLines (Follows w) limits [] world parts after

each_lines : runs.EachFollowed → (w : Correlating) (limits : Limits) → EachHas (Lines w limits)
each_lines follow w limits world = let some = each_followed (Follows w) (follow w) limits [] world in (some.0, (some.1, some.2))

pub lines_memory : runs.EachFollowed → (w : Correlating) (limits : Limits) (s : State) → Ends events_alone (Lines w limits) (Err Memory) s s
lines_memory follow w limits s = ends_memory events_alone (Lines w limits) s (each_lines follow w limits)

-- the events were followed by rules without the entries of their heads that decide nothing, and by these correlations
pub lines_bare : (limits : Limits) (schema : Schema) (rules : List PlainRule) (items : List Rule) (views_too : List PlainRule) (bounds others : List Bound) (names : List (List ℕ)) (result : Result Bool Stop) (old new : State)
    → AllZip IsBareOf rules items → views_too ≡ views items → others ≡ bounds
    → Ends events_alone (Lines (record { schema = schema; rules = views_too; bounds = others; names = names }) limits) result old new
    → Ends events_alone (Lines (record { schema = schema; rules = rules; bounds = bounds; names = names }) limits) result old new
lines_bare limits schema rules items views_too bounds others names result old new bare are same e =
    ends_as events_alone (Lines (record { schema = schema; rules = views items; bounds = bounds; names = names }) limits) (Lines (record { schema = schema; rules = rules; bounds = bounds; names = names }) limits) result old new
    (λ world parts (after, follows). (
      after,
      followed_within (Follows (record { schema = schema; rules = views items; bounds = bounds; names = names })) (Follows (record { schema = schema; rules = rules; bounds = bounds; names = names }))
          (follows_alike schema (views items) rules bounds names (λ row hits hit. bare_hits schema.fields row rules items hits bare hit)) limits [] world parts after follows,
    ))
    (subst (λ (bs : List Bound). Ends events_alone (Lines (record { schema = schema; rules = views items; bounds = bs; names = names }) limits) result old new) same
    (subst (λ (rs : List PlainRule). Ends events_alone (Lines (record { schema = schema; rules = rs; bounds = others; names = names }) limits) result old new) are e))

-- ---- what telling of correlations that aren't bound leaves

-- in one part of the answer
abbrev Noted : List (List ℕ × Refusal) → Kind
Noted causes world parts = (share : Share) × AreUnbound causes share × (parts ≡ note_part share ∷ [])

noted : (causes : List Unbound) (unbound : List (List ℕ × Refusal)) → map (λ u. (u.file, u.refusal)) causes ≡ unbound → (result : Result Bool Stop) (old new : State)
    → Writes (AreTold causes) result old new → Ends (files_of events_alone) (Noted unbound) result old new
noted causes unbound is result old new wrote =
    ends_written (files_of events_alone) (Noted unbound) (AreTold causes) None result old new
    (λ world told share so. (share, subst (λ (l : List (List ℕ × Refusal)). AreUnbound l share) is (shares_of (λ (u : Unbound). (u.file, u.refusal)) tells_of causes share so), refl)) wrote

module _ (limits : Limits) (schema : Schema) (rules : List PlainRule) (correlations : List Named) (judged : List (Named × Verdict)) (are : AreJudged (names_of_rules rules) schema.fields correlations judged)
    (causes : List Unbound) (is : map (λ u. (u.file, u.refusal)) causes ≡ unbound_in judged) where
  abbrev By : Kind
  By = CorrelatedBy limits schema rules correlations

  abbrev Told : Kind
  Told = Noted (unbound_in judged)

  abbrev Followed : Kind
  Followed = Lines (correlating schema rules judged) limits

  told_then : (world : World) (parts : List Part) → Then Told Followed world parts → By world parts
  told_then world parts (a, b, (share, told, is_note), (after, follows), both) =
      record { judged = judged; are = are; unbound = share; told = told; lines = b; after = after; follows = follows; all = both ∙ ap (λ (l : List Part). l ++ b) is_note }

  -- telling stopped
  pub told_stop : runs.EachFollowed → (stop : Stop) (old new : State) → Writes (AreTold causes) (Err stop) old new → Ends events_alone By (Err stop) old new
  told_stop follow stop old new wrote =
      ends_as events_alone (Then Told Followed) By (Err stop) old new told_then
      (ends_less events_alone Told Followed stop old new (each_lines follow (correlating schema rules judged) limits) (noted causes (unbound_in judged) is (Err stop) old new wrote))

  -- following stopped
  pub followed_stop : (first : Bool) (stop : Stop) (old mid new : State) → Writes (AreTold causes) (Ok first) old mid → Ends events_alone Followed (Err stop) mid new → Ends events_alone By (Err stop) old new
  followed_stop first stop old mid new wrote e =
      ends_as events_alone (Then Told Followed) By (Err stop) old new told_then
      (ends_later events_alone Told Followed first stop old mid new (λ w events ps n. n) (noted causes (unbound_in judged) is (Ok first) old mid wrote) e)

  -- all was told, and followed
  pub followed_whole : (first second both : Bool) (old mid new : State) → both ≡ (first || second) → Writes (AreTold causes) (Ok first) old mid → Ends events_alone Followed (Ok second) mid new
      → Ends events_alone By (Ok both) old new
  followed_whole first second both old mid new found wrote e =
      subst (λ (f : Bool). Ends events_alone By (Ok f) old new) (sym found)
      (ends_as events_alone (Then Told Followed) By (Ok (first || second)) old new told_then
      (ends_both events_alone Told Followed first second old mid new (noted causes (unbound_in judged) is (Ok first) old mid wrote) e))

-- memory was missing for it
pub correlated_memory : EachCorrelated → (limits : Limits) (schema : Schema) (rules : List PlainRule) (correlations : List Named) (s : State)
    → Ends events_alone (CorrelatedBy limits schema rules correlations) (Err Memory) s s
correlated_memory each limits schema rules correlations s = ends_memory events_alone (CorrelatedBy limits schema rules correlations) s (each limits schema rules correlations)

-- the correlations that are followed are those that are bound
pub lines_judged : (limits : Limits) (schema : Schema) (rules : List PlainRule) (judged : List (Named × Verdict)) (bounds : List Bound) (names : List (List ℕ)) (result : Result Bool Stop) (old new : State)
    → bounds ≡ bounds_in judged → names ≡ names_in judged → Ends events_alone (Lines (record { schema = schema; rules = rules; bounds = bounds; names = names }) limits) result old new
    → Ends events_alone (Lines (correlating schema rules judged) limits) result old new
lines_judged limits schema rules judged bounds names result old new is too e =
    subst (λ (ns : List (List ℕ)). Ends events_alone (Lines (record { schema = schema; rules = rules; bounds = bounds_in judged; names = ns }) limits) result old new) too
    (subst (λ (bs : List Bound). Ends events_alone (Lines (record { schema = schema; rules = rules; bounds = bs; names = names }) limits) result old new) is e)
