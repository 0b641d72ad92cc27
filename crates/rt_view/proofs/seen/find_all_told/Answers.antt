use Rattle.std.proofs.Common.{◌≡◌, ◌+◌, [], ◌∷◌, ◌++◌, List, Option, None, Some, take, ap, sym, subst, ◌∙◌}
use Rattle.std.specs.Option.{option_copied}
use Rattle.std.specs.Prelude.{IfSome}
use Rattle.std.proofs.lemmas.List.{take_all}
use Rattle.std.proofs.lemmas.List.Elements.{All-get_or}
use Rattle.rt_tree.specs.PathTree.{Key, PathTree}
use Rattle.rt_order.specs.Entries.{entry}
use Rattle.rt_view.specs.declared.seen.Seen.{Seen}
use Rattle.rt_view.specs.inside.Windows.{Entries, value_at}
use Rattle.rt_view.specs.inside.ViewIndex.{CanAsk, entries_shown, gone_at, gone_from, noted_in, rows_in_tree}
use Rattle.rt_view.specs.inside.Telling.{IsNew, IsSeen, gone_too, keys_in, put_all, told_in, told_too}
use Rattle.rt_view.proofs.Listed.{listed-children, listed-entries, value_at-children}
use Rattle.rt_view.proofs.OrderLaws.{can_ask, shown_ordered}
use Rattle.rt_view.proofs.TellLaws.{next_taken, keys_in-more, gone_also, told_also, noted_nothing, gone_nothing}
use Rattle.rt_view.proofs.seen.find_all_told.Goals as goal

pub find_told-requires : goal.find_told-requires
find_told-requires c =
    let q = c.args.query.now in
    let one : Seen = c.one-item.result in
    let new : IsNew (entries_shown q c.args.known.now) one =
    subst (IsNew (entries_shown q c.args.known.now)) (sym c.one-item.is) (All-get_or (IsNew (entries_shown q c.args.known.now)) c.args.seen.now c.loop-one.one-index one c.loop-one-test.true c.requires.seen) in
    at one.new (sym new)
  where
    at : (o : Option PathTree) → value_at (entries_shown c.args.query.now c.args.known.now) c.one-item.result.key ≡ o
        → IfSome o (λ t. CanAsk c.args.known.now (option_copied c.args.window) (entry c.index.result.now (c.one-item.result.key, t)))
    at None e = tt
    at (Some v) e = subst (λ x. CanAsk c.args.known.now (option_copied c.args.window) (entry x (c.one-item.result.key, v))) (sym c.index.ensures)
        (can_ask c.args.query.now c.args.known.now (option_copied c.args.window) c.requires.order c.one-item.result.key v e)

pub loop-one-init : goal.loop-one-init
loop-one-init c t had =
    let shown = entries_shown c.args.query.now c.args.known.now in (
      ap put_all c.new-gone.ensures.items ∙ sym (gone_nothing shown (rows_in_tree c.args.query.now.index t)),
      ap put_all c.new-now.ensures.items ∙ ap (told_in t shown) (sym (noted_nothing shown)),
    )

pub loop-one-preserved : goal.loop-one-preserved
loop-one-preserved c t had =
    let q = c.args.query.now in
    let index = q.index in
    let own = c.index.ensures in
    let new : Entries = entries_shown q c.args.known.now in
    let asked = shown_ordered q c.args.known.now (option_copied c.args.window) c.requires.order in
    let old = rows_in_tree index t in
    let seen : List Seen = c.args.seen.now in
    let one : Seen = c.one-item.result in
    let ks : List Key = keys_in (take c.loop-one.one-index seen) in
    let next : keys_in (take (c.loop-one.one-index + 1) seen) ≡ ks ++ one.key ∷ [] =
    ap keys_in (next_taken seen c.loop-one.one-index one c.loop-one-test.true c.one-item.is) ∙ keys_in-more (take c.loop-one.one-index seen) one in
    let at : IsSeen t new one = subst (λ (s : Seen). IsSeen t new s) (sym c.one-item.is) (All-get_or (IsSeen t new) seen c.loop-one.one-index one c.loop-one-test.true had) in
    let before = c.loop-one.invariant t had in (
      c.in_ok-find_told.ensures.gone
          ∙ (λ i. gone_too (own i) one.key (gone_at (at.1 i) ((at.0 ∙ sym (value_at-children index t one.key)) i)) (before.0 i))
          ∙ gone_also index ks one.key new old (listed-children index t) ∙ ap (λ js. gone_from js new old) (sym next),
      c.in_ok-find_told.ensures.now ∙ (λ i. told_too (own i) one.key (at.0 i) (asked i) (at.1 i) (before.1 i))
          ∙ told_also index ks one.key t new (listed-entries q c.args.known.now) ∙ ap (λ js. told_in t new (noted_in js new)) (sym next),
    )

pub returns-clause-gone : goal.returns-clause-gone
returns-clause-gone c t had =
    c.in_ok-gone.ensures ∙ (c.loop-one.invariant t had).0
    ∙ ap (λ ws. gone_from (keys_in ws) (entries_shown c.args.query.now c.args.known.now) (rows_in_tree c.args.query.now.index t)) (take_all c.loop-one.one-index c.args.seen.now c.loop-one-test.false)

pub returns-clause-now : goal.returns-clause-now
returns-clause-now c t had =
    let shown = entries_shown c.args.query.now c.args.known.now in
    c.in_ok-now.ensures ∙ (c.loop-one.invariant t had).1
    ∙ ap (λ ws. told_in t shown (noted_in (keys_in ws) shown)) (take_all c.loop-one.one-index c.args.seen.now c.loop-one-test.false)
