use Rattle.std.proofs.Common.{ap, map, ◌∙◌}
use Rattle.rt_query.specs.Select.{row_of}
use Rattle.rt_view.specs.inside.ViewIndex.{ordered_in, window_in}
use Rattle.rt_view.proofs.OrderLaws.{shown_ordered}
use Rattle.rt_view.proofs.TreeLaws.{kept_order, kept_shown, kept_tree}
use Rattle.rt_view.proofs.view.shown_of.Goals as goal

pub of-requires : goal.of-requires
of-requires c =
    let q = c.args.query.now in
    let t = c.args.known.now in
    let rows = c.in_ok-rows.ensures ∙ ap (λ w. map row_of (ordered_in t w)) c.window.ensures
    ∙ ap (map row_of) (shown_ordered q t (window_in c.args.kept.now) (kept_order q t c.args.kept.now c.requires)) in
    (kept_shown q t c.tree-tree.result.now c.in_ok-whole.whole c.in_ok-leaf.leaf c.in_ok-rows.rows.items
    (c.tree-tree.ensures ∙ kept_tree q t c.args.kept.now c.requires) c.in_ok-whole.ensures c.in_ok-leaf.ensures rows).0

pub returns : goal.returns
returns c =
    let q = c.args.query.now in
    let t = c.args.known.now in
    let rows = c.in_ok-rows.ensures ∙ ap (λ w. map row_of (ordered_in t w)) c.window.ensures
    ∙ ap (map row_of) (shown_ordered q t (window_in c.args.kept.now) (kept_order q t c.args.kept.now c.requires)) in
    c.of.ensures ∙ (kept_shown q t c.tree-tree.result.now c.in_ok-whole.whole c.in_ok-leaf.leaf c.in_ok-rows.rows.items
    (c.tree-tree.ensures ∙ kept_tree q t c.args.kept.now c.requires) c.in_ok-whole.ensures c.in_ok-leaf.ensures rows).1
