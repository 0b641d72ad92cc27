use Rattle.std.proofs.Common.{◌≡◌, ◌++◌, true, sym, ap, ◌∙◌, None}
use Rattle.std.proofs.lemmas.Result.{IfOk-weaker}
use Rattle.std.specs.Option.{option_copied}
use Rattle.rt_order.specs.Entries.{entry}
use Rattle.rt_view.specs.declared.change.Kind.{Kind}
use Rattle.rt_view.specs.declared.change.Kind.TheVariants.{Added, Moved, Changed}
use Rattle.rt_view.specs.inside.Differences.{stays}
use Rattle.rt_view.specs.inside.Given.{row_change, row_with}
use Rattle.rt_view.specs.inside.ViewIndex.{ordered_in}
use Rattle.rt_view.specs.inside.Windows.{before}
use Rattle.rt_view.proofs.TurnLaws.{same_row}
use Rattle.rt_view.proofs.difference.there_alone.Goals as goal

pub returns-then-stays : goal.returns-then-stays
returns-then-stays c =
    let same : stays (option_copied c.args.old) c.args.new.now ≡ true = sym c.stays.ensures ∙ c.if-stays.true in
    let none = λ (kind : Kind). sym (same_row kind c.args.index.now (option_copied c.args.old) c.args.new.now c.args.key.now
    (before (entry c.args.index.now (c.args.key.now, c.args.new.now)) (ordered_in c.args.known.now None)) same) in
    let told = c.none-told.ensures in
    IfOk-weaker c.joined.result _ _
    (λ changes is. is ∙ (λ i. told.first i ++ told.moved i ++ told.changed i) ∙ (λ i. none Added i ++ none Moved i ++ none Changed i)) c.joined.ensures

pub returns : goal.returns
returns c =
    let index = c.args.index.now in
    let old = option_copied c.args.old in
    let row = row_with c.args.key.now c.args.new.now in
    let after : option_copied c.before_in-after.result ≡ before (entry index (c.args.key.now, c.args.new.now)) (ordered_in c.args.known.now None) =
    c.before_in-after.ensures ∙ ap (λ s. before (s, c.args.key.now) (ordered_in c.args.known.now None)) (sym c.requires.0) in
    let told = c.none-told.ensures in
    let added = c.in_ok-push_other.ensures.added ∙ (λ i. told.first i ++ row_change Added index old row (after i)) in
    let moved = c.in_ok-push_other.ensures.moved ∙ (λ i. told.moved i ++ row_change Moved index old row (after i)) in
    let changed = c.in_ok-push_other.ensures.changed ∙ (λ i. told.changed i ++ row_change Changed index old row (after i)) in
    IfOk-weaker c.joined-2.result _ _ (λ changes is. is ∙ (λ i. added i ++ moved i ++ changed i)) c.joined-2.ensures
