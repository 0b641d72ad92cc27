use Rattle.std.proofs.Common.{rules, ◌≡◌, ◌∙◌, ◌<◌, ap, length, get_or, true}
use Rattle.rt_tree.specs.Assignments.{is_at_or_above}
use Rattle.rt_cache.specs.Brought.{region_put}
use Rattle.rt_cache.specs.declared.regions.Region.{Region}
use Rattle.rt_cache.specs.inside.Held.{pair_of}
use Rattle.rt_cache.proofs.Pushes.{plain_inside, refused_inside, on_ok}
use Rattle.rt_cache.proofs.brought.put_plain.Goals as goal

pub returns-in-Some-clause-ok : goal.returns-in-Some-clause-ok
returns-in-Some-clause-ok c =
    let old : Region = c.index_mut.result.now in
    let within : c.in-Some.place < length c.args.regions.now.items = search rules in
    let at : old ≡ get_or c.args.regions.now.items c.in-Some.place old = search rules in
    let above : is_at_or_above (get_or c.args.regions.now.items c.in-Some.place old).path c.args.path.now ≡ true = search rules in
    λ fs. on_ok _ _ _ c.put_into.ensures.ok (λ e.
    plain_inside fs c.args.regions.now.items c.args.windows.now.items c.args.path.now c.args.tree.now c.in-Some.place old c.put_into.new.region c.requires.apart within above
    (e ∙ ap (λ (r : Region). region_put (c.args.path.now, c.args.tree.now) (pair_of r)) at))

pub returns-in-Some-clause-err : goal.returns-in-Some-clause-err
returns-in-Some-clause-err c =
    let old : Region = c.index_mut.result.now in
    let within : c.in-Some.place < length c.args.regions.now.items = search rules in
    let at : old ≡ get_or c.args.regions.now.items c.in-Some.place old = search rules in
    λ fs. refused_inside c.put_into.result fs c.args.regions.now.items c.args.windows.now.items c.in-Some.place old c.put_into.new.region within at c.put_into.ensures.err
