use Rattle.std.proofs.Common.{◌≡◌, ◌++◌, drop, map}
use Rattle.detection_eval.specs.Ready.{searches_view}
use Rattle.detection_eval.proofs.finders.Finders.of.Given as goal

abbrev pub invariant-loop-search : goal.invariant-loop-search
invariant-loop-search l = map (λ x. x.text.now) l.all.items ++ searches_view (drop l.search-index l.searches) ≡ searches_view l.searches
