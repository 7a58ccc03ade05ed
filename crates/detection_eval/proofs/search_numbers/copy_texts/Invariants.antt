use Rattle.std.proofs.Common.{◌≡◌, ◌++◌, drop}
use Rattle.detection_eval.specs.Ready.{searches_view}
use Rattle.detection_eval.proofs.search_numbers.copy_texts.Given as goal

abbrev pub invariant-loop-search : goal.invariant-loop-search
invariant-loop-search l = l.texts ++ searches_view (drop l.search-index l.searches) ≡ searches_view l.searches
