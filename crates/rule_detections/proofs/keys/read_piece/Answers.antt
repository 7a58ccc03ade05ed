use Rattle.std.proofs.Common.{◌++◌, append-nil, ap, sym, ◌∙◌}
use Rattle.std.specs.Str.{chars}
use Rattle.std.proofs.lemmas.Str.{chars-nil}
use Rattle.rule_detections.specs.Keys.{name_in, words_in}
use Rattle.rule_detections.proofs.keys.read_piece.Goals as goal

pub returns-in_default-clause-piece : goal.returns-in_default-clause-piece
returns-in_default-clause-piece c =
    sym (append-nil c.loop-c.piece) ∙ (sym (ap (λ t. c.loop-c.piece ++ name_in t) (ap chars c.in_default.ensures ∙ chars-nil)) ∙ c.loop-c.invariant.piece)

pub returns-in_default-clause-behind : goal.returns-in_default-clause-behind
returns-in_default-clause-behind c =
    sym (ap words_in (ap chars c.in_default.ensures ∙ chars-nil)) ∙ c.loop-c.invariant.behind
