use Rattle.std.proofs.Common.{◌≡◌}
use Rattle.sig_base.specs.declared.refusal.Place.{Place}
use Rattle.yaml_tree.specs.Nodes.{place_of}
use Rattle.yaml_tree.specs.View.{node_view}
use Rattle.correlation_files.proofs.Documents.{tree_checked, tree_unchecked}
use Rattle.correlation_files.proofs.document_check.check_document.Goals as goal

pub returns-in-Ok : goal.returns-in-Ok
returns-in-Ok g c =
    let t = node_view c.args.node.now in
    tree_checked c.args.limits.now t (λ (place : Place). place ≡ place_of t) c.in-Ok.unbuilt.items c.as_slice.result.now _ _ c.check_found.result c.as_slice.ensures.value c.in-Ok.ensures.found
    c.check_found.ensures

pub returns-in-Err : goal.returns-in-Err
returns-in-Err g c =
    let t = node_view c.args.node.now in
    tree_unchecked c.args.limits.now t (λ (place : Place). place ≡ place_of t) _ _ c.in-Err.fault c.in-Err.ensures.found
