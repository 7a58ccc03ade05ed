-- The log source of a rule (Sigma specification 2.0, log source).
use Rattle.std.specs.Prelude.{◌||◌, [], ◌∷◌, codes}
use Rattle.std.specs.declared.option.Option.{Option}
use Rattle.sig_base.specs.declared.refusal.Refusal.{Refusal}
use Rattle.sig_base.specs.Judged.{must, first}
use Rattle.yaml_tree.specs.Nodes.{place_of}
use Rattle.yaml_tree.specs.Tree.{Tree}
use Rattle.yaml_tree.specs.Nodes.{is_map, is_text, has_key, at_key, text_at}
use Rattle.rule_head.specs.declared.source.LogSource.{LogSource}

-- a map of which `category`, `product` and `service` are texts, and one of them is there; its other keys are passed over
abbrev pub source_refusal : Tree → Option Refusal
source_refusal t = first (
    must 71 (place_of t) (is_map t)
    ∷ at_key (codes "category") 71 is_text t
    ∷ at_key (codes "product") 71 is_text t
    ∷ at_key (codes "service") 71 is_text t
    ∷ must 70 (place_of t) (has_key (codes "category") t || has_key (codes "product") t || has_key (codes "service") t)
    ∷ [])

abbrev pub source_of : Tree → LogSource
source_of t = record { category = text_at (codes "category") t; product = text_at (codes "product") t; service = text_at (codes "service") t }
