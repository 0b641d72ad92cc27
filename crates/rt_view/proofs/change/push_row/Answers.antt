use Rattle.std.proofs.Common.{◌≡◌, ◌++◌, true, append-nil, sym, ap, ◌∙◌}
use Rattle.std.specs.Option.{option_copied}
use Rattle.rt_view.specs.declared.change.Kind.TheVariants.{Added, Moved, Changed}
use Rattle.rt_view.specs.inside.Differences.{stays}
use Rattle.rt_view.proofs.TurnLaws.{same_row}
use Rattle.rt_view.proofs.change.push_row.Goals as goal

pub returns-then-stays : goal.returns-then-stays
returns-then-stays c =
    let index = c.args.index.now in
    let old = option_copied c.args.old in
    let new = c.args.new.now in
    let after = option_copied c.args.after in
    let same : stays old new ≡ true = sym c.stays.ensures ∙ c.if-stays.true in
    record {
      added = sym (ap (λ cs. c.args.told.now.first.items ++ cs) (same_row Added index old new c.args.key.now after same) ∙ append-nil c.args.told.now.first.items);
      moved = sym (ap (λ cs. c.args.told.now.moved.items ++ cs) (same_row Moved index old new c.args.key.now after same) ∙ append-nil c.args.told.now.moved.items);
      changed = sym (ap (λ cs. c.args.told.now.changed.items ++ cs) (same_row Changed index old new c.args.key.now after same) ∙ append-nil c.args.told.now.changed.items);
    }
