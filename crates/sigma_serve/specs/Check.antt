-- `check`: which documents are rules or correlations.
use Rattle.std.specs.Prelude.{◌≡◌, ℕ, List, None, Some}
use Rattle.answer_writer.specs.Parts.{Share}
use Rattle.correlation_files.specs.Checked.{check_refusal}
use Rattle.rule_regex.specs.Unbuilt.{Unbuilt}
use Rattle.sig_base.specs.declared.limits.Limits.{Limits}
use Rattle.sig_base.specs.declared.refusal.Refusal.{Refusal}
use Rattle.sigma_serve.specs.Reports.{ok_line, line_share, refusal_share}
use Rattle.yaml_tree.specs.Nodes.{place_of}
use Rattle.yaml_tree.specs.Tree.{Tree}

-- The tree is a rule or a correlation, and the place of its top node is told; or it's refused by the first cause for which it's neither,
-- where its regular expressions aren't built at these places.
pub data CheckGives (limits : Limits) (unbuilt : Unbuilt) (name : List ℕ) (t : Tree) (share : Share) : Type 0 where
  accepted : check_refusal unbuilt.values limits t ≡ None → share ≡ line_share (ok_line name (place_of t)) → CheckGives limits unbuilt name t share
  refused : (r : Refusal) → check_refusal unbuilt.values limits t ≡ Some r → share ≡ refusal_share name r → CheckGives limits unbuilt name t share
