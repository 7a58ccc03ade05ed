use Rattle.std.proofs.Common.{sym, ◌∙◌, map-id}
use Rattle.std.specs.Str.{chars}
use Rattle.std.proofs.lemmas.Iterator.{YieldsList-from_chars}
use Rattle.std.proofs.lemmas.Iterator.Consumers.{YieldsList-end}
use Rattle.query_tokens.specs.PlaceView.{place_view}
use Rattle.lucene_scan.specs.View.{tokens_view, mode_view}
use Rattle.lucene_scan.proofs.Walked.{scan_end}
use Rattle.lucene_scan.proofs.scanner.scan.Goals as goal

pub returns-clause-ok : goal.returns-clause-ok
returns-clause-ok c =
    let end = YieldsList-end (YieldsList-from_chars c.args.text.now c.utf8.text cc) c.loop-c.yielded _ c.loop-c.yielded_by _ _ c.in-None.is c.next.ensures.steps in
    scan_end c.loop-c.yielded (chars c.args.text.now) (tokens_view c.loop-c.tokens) (tokens_view c.last.new.tokens) (mode_view c.loop-c.mode) (place_view c.loop-c.place)
    c.loop-c.invariant.scanned (sym (map-id c.loop-c.yielded) ∙ end.0) c.in_ok-last.ensures.ok
