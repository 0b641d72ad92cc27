use Rattle.std.proofs.Common.{◌≡◌, ◌++◌, ◌∙◌}
use Rattle.std.proofs.lemmas.Result.{IfOk-weaker}
use Rattle.std.specs.Option.{option_copied}
use Rattle.rt_view.specs.declared.change.Change.TheVariants.{Added, Moved, Changed}
use Rattle.rt_view.specs.Changes.{placed_changes, removals, rows_in, is_added, is_moved, is_changed}
use Rattle.rt_view.proofs.difference.rows_between.Goals as goal

pub returns-clause-changes : goal.returns-clause-changes
returns-clause-changes c =
    let old = rows_in (option_copied c.args.old) in
    let new = c.args.new.now.rows in
    let index = c.args.index.now in
    let rows = c.rows.ensures.rows in
    let removed : c.push_removals.new.changes.items ≡ removals old new = c.in_ok-push_removals.ensures ∙ (λ i. c.none-told.ensures.first i ++ removals (c.rows_in.ensures i) new) in
    let added : c.push_rows.new.told.first.items ≡ removals old new ++ placed_changes is_added Added old new = c.in_ok-push_rows.ensures.added ∙ (λ i. removed i ++ placed_changes is_added Added old (rows i)) in
    let moved : c.push_rows.new.told.moved.items ≡ placed_changes (is_moved index) Moved old new = c.in_ok-push_rows.ensures.moved ∙ (λ i. c.none-told.ensures.moved i ++ placed_changes (is_moved index) Moved old (rows i)) in
    let changed : c.push_rows.new.told.changed.items ≡ placed_changes is_changed Changed old new = c.in_ok-push_rows.ensures.changed ∙ (λ i. c.none-told.ensures.changed i ++ placed_changes is_changed Changed old (rows i)) in
    IfOk-weaker c.joined.result _ _ (λ changes is. is ∙ (λ i. added i ++ moved i ++ changed i)) c.joined.ensures
