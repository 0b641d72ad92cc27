use Rattle.std.proofs.Common.{◌≡◌, None, Some, ap, sym, ◌∙◌}
use Rattle.std.specs.Option.{option_copied}
use Rattle.std.proofs.lemmas.Result.{IfOk-weaker}
use Rattle.rt_tree.specs.PathTree.{non_null}
use Rattle.rt_order.specs.Entries.{sort_value}
use Rattle.rt_query.specs.Select.{select}
use Rattle.rt_view.specs.Changes.{changes}
use Rattle.rt_view.specs.inside.Given.{told_alone}
use Rattle.rt_view.specs.inside.ViewIndex.{changes_to, entries_shown}
use Rattle.rt_view.proofs.AloneLaws.{alone_all, alone_notes, alone_now}
use Rattle.rt_view.proofs.Listed.{listed-entries}
use Rattle.rt_view.proofs.OrderLaws.{shown_ordered}
use Rattle.rt_view.proofs.TreeLaws.{plain_shown}
use Rattle.rt_view.proofs.difference.tell_alone.Goals as goal

pub changes_alone-requires : goal.changes_alone-requires
changes_alone-requires c full =
    (ap (λ x. sort_value x c.args.new.now) (c.index.ensures ∙ c.requires.kept.index), c.requires.word full, c.requires.kept.words)

pub returns : goal.returns
returns c =
    let q = c.args.query.now in
    let u = c.args.known.now in
    let k = c.args.key.now in
    let o = option_copied c.args.old in
    let n = non_null c.args.new.now in
    IfOk-weaker c.with_value.result _ _
    (λ list told t is was leaf.
    let rows : c.in_ok-rows.rows.items ≡ changes_to q.index t (entries_shown q u) =
    c.in_ok-rows.ensures ∙ (λ i. told_alone (c.index.ensures i) k o n (shown_ordered q u None c.requires.kept i))
    ∙ alone_all q.index t (entries_shown q u) k o n (listed-entries q u) (alone_notes q t u k c.args.new.now c.requires.kept.plain is) (sym was)
    (alone_now q t u k c.args.new.now c.requires.kept.plain is) in
    told t rows leaf ∙ ap (λ v. changes q.index (Some v) (select q u)) (plain_shown q t c.requires.kept.plain))
    c.with_value.ensures
