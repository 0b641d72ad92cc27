use Rattle.std.proofs.Common.{rules, ◌≡◌, ◌∙◌, ◌<◌, ◌≤◌, ◌+◌, ◌-◌, ◌/◌, ℕ, ap, sym, subst, get_or, true}
use Rattle.rt_tree.specs.PathTree.{Path}
use Rattle.rt_cache.specs.declared.regions.Region.{Region}
use Rattle.rt_cache.specs.inside.Shared.{do_share}
use Rattle.rt_cache.proofs.Sharing.{share_middle}
use Rattle.rt_cache.proofs.regions.place_of.Goals as goal

pub meet-shared-requires : goal.meet-shared-requires
meet-shared-requires c =
    let middle : ℕ = c.loop-low.low + (c.loop-low.high - c.loop-low.low) / 2 in
    let inv = c.loop-low.invariant in
    let above_low : c.loop-low.low ≤ middle = search rules in
    let below_high : middle < c.loop-low.high = search rules in
    let at_most_below : c.min-known.result ≤ c.loop-low.shared_below = search rules in
    let at_most_above : c.min-known.result ≤ c.loop-low.shared_above = search rules in
    let item : Region = c.index-regions-middle.result in
    let at : item ≡ get_or c.args.regions.now middle item = search rules in
    subst (λ (p : Path). do_share c.min-known.result c.args.path.now p ≡ true) (sym (c.path.ensures ∙ ap (λ (r : Region). r.path) at))
    (share_middle c.args.path.now c.args.regions.now c.loop-low.low c.loop-low.high middle c.loop-low.shared_below c.loop-low.shared_above
    c.min-known.result c.index-regions-middle.result c.requires.sorted above_low below_high inv.1 at_most_below at_most_above
    inv.4 inv.5 inv.6 inv.7)
