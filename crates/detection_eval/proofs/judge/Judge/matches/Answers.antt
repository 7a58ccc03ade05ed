use Rattle.std.proofs.Common.{◌≡◌, ◌∙◌, ℕ, Bool, List, length, ap, drop, subst, arith}
use Rattle.sig_conditions.specs.Formulas.{forms_of, forms_view, some_true}
use Rattle.sig_conditions.specs.declared.formula.Formula.{Formula}
use Rattle.detection_eval.specs.Ready.{AreTruths, ready_view, searches_view}
use Rattle.detection_eval.specs.Truths.{truth_at}
use Rattle.detection_eval.specs.declared.numbered.NumberedItem.{NumberedItem}
use Rattle.detection_eval.proofs.Meaning.{ready_means}
use Rattle.detection_eval.proofs.Truths.{written_over}
use Rattle.detection_eval.proofs.judge.Judge.matches.Goals as goal

pub returns-clause-means : goal.returns-clause-means
returns-clause-means c = λ fields rule judges.
    let old = c.args.self.now in
    let ready = old.ready.now in
    let row = c.args.event.now.values in
    let truths = c.set_truths.new.truths in
    let many : length truths ≡ length ready.detections.items = c.set_truths.ensures.many ∙ ap length c.deref-2.ensures.value in
    let long : length truths ≡ old.truths.len = omega (arith, many, old.many, old.truths.ok.0) in
    let now : c.deref-4.result.now ≡ truths = c.deref-4.ensures.value ∙ written_over old.truths.len truths (drop (length truths) old.truths.items) long in
    let are : AreTruths (searches_view ready.searches.items) ready.searched.items row truths ready.detections.items =
    subst (λ (texts : List (List ℕ)). AreTruths texts ready.searched.items row truths ready.detections.items) old.searches
    (subst (λ (numbers : List ℕ). AreTruths old.finders numbers row truths ready.detections.items) c.deref.ensures.value
    (subst (λ (ds : List (List (List NumberedItem))). AreTruths old.finders c.deref.result.now row truths ds) c.deref-2.ensures.value c.set_truths.ensures.truths)) in
    let is : c.is_some_true.result ≡ some_true (truth_at truths) (forms_of (forms_view ready.conditions.items)) =
    c.is_some_true.ensures
    ∙ (ap (λ (bs : List Bool). some_true (truth_at bs) (forms_of (forms_view c.deref-3.result.now))) now
    ∙ ap (λ (fs : List Formula). some_true (truth_at truths) (forms_of (forms_view fs))) c.deref-3.ensures.value) in
    ready_means fields row rule (ready_view ready) judges.is truths are c.is_some_true.result is
