use Rattle.std.specs.Prelude.{◌==◌}
use Rattle.std.proofs.Common.{◌≡◌, ◌++◌, ◌∷◌, [], length, refl, sym, ◌∙◌, rules}
use Rattle.std.proofs.lemmas.Result.{IfOk-weaker}
use Rattle.rt_view.specs.declared.change.Change.TheVariants.{Value}
use Rattle.rt_view.specs.inside.ViewIndex.{changes_to, entries_shown}
use Rattle.rt_view.specs.inside.Telling.{keys_in}
use Rattle.rt_view.proofs.SeenLaws.{all_fit, all_new}
use Rattle.rt_view.proofs.TreeLaws.{filtered_same, filtered_leaf, set_all, told_same, told_other, tree_of_children, tree_same}
use Rattle.rt_view.proofs.difference.tell_filtered.Goals as goal

pub noted_changes-requires-clause-seen : goal.noted_changes-requires-clause-seen
noted_changes-requires-clause-seen c =
    all_new c.args.tree.now (entries_shown c.args.query.now c.args.known.now) c.args.seen.now c.requires.seen.each

pub set_noted-requires-clause-fits : goal.set_noted-requires-clause-fits
set_noted-requires-clause-fits c = all_fit c.args.query.now c.args.tree.now c.args.known.now c.args.window.now c.args.seen.now c.children.ensures.allowed c.requires.kept c.requires.seen.each

pub returns-then-is_empty-clause-tree : goal.returns-then-is_empty-clause-tree
returns-then-is_empty-clause-tree c =
    let q = c.args.query.now in
    let t = c.args.tree.now in
    let empty : c.is_empty.result ≡ (length c.in_ok-rows.rows.items == 0) = search rules in
    let rows : c.in_ok-rows.rows.items ≡ changes_to q.index t (entries_shown q c.args.known.now) =
    c.in_ok-rows.ensures t c.requires.seen in
    tree_same q c.args.known.now t
    (sym (filtered_same q c.args.known.now t c.in_ok-rows.rows.items c.requires.filtered c.requires.object rows) ∙ sym empty ∙ c.if-is_empty.true)

pub returns-then-is_empty-clause-changes : goal.returns-then-is_empty-clause-changes
returns-then-is_empty-clause-changes c =
    let q = c.args.query.now in
    let t = c.args.tree.now in
    let empty : c.is_empty.result ≡ (length c.in_ok-rows.rows.items == 0) = search rules in
    let rows : c.in_ok-rows.rows.items ≡ changes_to q.index t (entries_shown q c.args.known.now) =
    c.in_ok-rows.ensures t c.requires.seen in
    c.of.ensures ∙ rows ∙ told_same q c.args.known.now t
    (sym (filtered_same q c.args.known.now t c.in_ok-rows.rows.items c.requires.filtered c.requires.object rows) ∙ sym empty ∙ c.if-is_empty.true)

pub returns-clause-tree : goal.returns-clause-tree
returns-clause-tree c =
    let q = c.args.query.now in
    let t = c.args.tree.now in
    IfOk-weaker c.with_whole.result _ _
    (λ list is. tree_of_children q c.args.known.now c.set_noted.new.tree (filtered_leaf q c.args.known.now c.requires.filtered) c.in_ok-set_noted.ensures.object
    (set_all q (keys_in c.args.seen.now) (entries_shown q c.args.known.now) t t c.set_noted.new.tree c.requires.seen.notes (λ k. refl) (c.in_ok-set_noted.ensures.set t (entries_shown q c.args.known.now) c.requires.seen.each)))
    c.with_whole.ensures

pub returns-clause-changes : goal.returns-clause-changes
returns-clause-changes c =
    let q = c.args.query.now in
    let t = c.args.tree.now in
    let empty : c.is_empty.result ≡ (length c.in_ok-rows.rows.items == 0) = search rules in
    let rows : c.in_ok-rows.rows.items ≡ changes_to q.index t (entries_shown q c.args.known.now) =
    c.in_ok-rows.ensures t c.requires.seen in
    let tree = tree_of_children q c.args.known.now c.set_noted.new.tree (filtered_leaf q c.args.known.now c.requires.filtered) c.in_ok-set_noted.ensures.object
    (set_all q (keys_in c.args.seen.now) (entries_shown q c.args.known.now) t t c.set_noted.new.tree c.requires.seen.notes (λ k. refl) (c.in_ok-set_noted.ensures.set t (entries_shown q c.args.known.now) c.requires.seen.each)) in
    IfOk-weaker c.with_whole.result _ _
    (λ list is. is ∙ (λ i. rows i ++ Value (tree i) ∷ [])
    ∙ told_other q c.args.known.now t
    (sym (filtered_same q c.args.known.now t c.in_ok-rows.rows.items c.requires.filtered c.requires.object rows) ∙ sym empty ∙ c.if-is_empty.false))
    c.with_whole.ensures
