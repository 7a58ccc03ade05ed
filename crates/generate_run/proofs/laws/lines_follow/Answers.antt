use Rattle.generate_run.specs.Draws.{after_three}
use Rattle.generate_run.specs.Events.{schema}
use Rattle.generate_run.specs.Rules.{start, rule_of}
use Rattle.rule_lowering.specs.TreeOf.{tree_of}
use Rattle.generate_run.proofs.Alike.{told, told_counts}
use Rattle.generate_run.proofs.laws.lines_follow.Goals as goal

pub returns : goal.returns
returns c = λ limits seed count counts standard a.
    let s = c.seeds_are_subjects.ensures limits seed standard in
    let t = tree_of schema (rule_of seed) in
    told_counts limits seed count counts a
    (told limits seed count (c.generated_events.ensures.events (after_three seed) count) s.means (c.law.ensures.query limits schema t start s.named s.sound s.sqlite)
    (c.law-2.ensures.query limits schema t start s.named s.sound s.lucene) a.flags a.each)
