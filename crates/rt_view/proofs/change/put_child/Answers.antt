use Rattle.std.proofs.Common.{◌∙◌}
use Rattle.std.specs.FinMap as map_of
use Rattle.rt_tree.specs.PathTree.{key_cmp}
use Rattle.rt_view.proofs.ReplayLaws.{insert_entry-put}
use Rattle.rt_view.proofs.change.put_child.Goals as goal

pub returns-clause-put : goal.returns-clause-put
returns-clause-put c =
    let key = c.in_ok-key.key in
    let value = c.in_ok-value.value in
    c.in_ok-insert.ensures.entries ∙ insert_entry-put key_cmp c.args.children.now.entries key value
    ∙ (λ i. map_of.put key_cmp (c.in_ok-key.ensures i) (c.in_ok-value.ensures i) c.args.children.now.entries)
