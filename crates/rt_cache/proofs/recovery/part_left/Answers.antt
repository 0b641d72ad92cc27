use Rattle.std.proofs.Common.{rules, ◌≡◌, ◌∙◌, ◌<◌, ap, sym, length, get_or, not, true, false, Some, None}
use Rattle.std.specs.Option.{option_map}
use Rattle.std.specs.List.{filter}
use Rattle.rt_tree.specs.PathTree.{strip, sub}
use Rattle.rt_tree.specs.Assignments.{is_at_or_above}
use Rattle.rt_query.specs.Queries.{is_filtered}
use Rattle.rt_cache.specs.Brought.{region_part}
use Rattle.rt_cache.specs.Recover.{reaches}
use Rattle.rt_cache.specs.declared.regions.Region.{Region}
use Rattle.rt_cache.specs.inside.Held.{pair_of, pairs_of}
use Rattle.rt_cache.proofs.ByListens.{none_passing, gone_passing, held_passing, nothing_below, part_below_is}
use Rattle.rt_cache.proofs.Parts.{held_at}
use Rattle.rt_cache.proofs.Places.{part_is}
use Rattle.rt_cache.proofs.recovery.part_left.Goals as goal

pub returns-in_default : goal.returns-in_default
returns-in_default c = λ kept lost.
    let none : region_part (pairs_of c.args.regions.now) (c.args.query.now).path ≡ None = search rules in
    nothing_below (filter (λ r. not (reaches kept r.0)) (pairs_of c.args.regions.now)) c.args.query.now
    (none_passing (λ p. not (reaches kept p)) (pairs_of c.args.regions.now) (c.args.query.now).path c.requires.apart none)

pub returns-then-not-is_within : goal.returns-then-not-is_within
returns-then-not-is_within c = λ kept lost.
    let within : c.in-Some.place < length c.args.regions.now = search rules in
    let above : (d : Region) → is_at_or_above (get_or c.args.regions.now c.in-Some.place d).path (c.args.query.now).path ≡ true = search rules in
    let staying : c.is_within.result ≡ false = search rules in
    nothing_below (filter (λ r. not (reaches kept r.0)) (pairs_of c.args.regions.now)) c.args.query.now
    (gone_passing (λ p. not (reaches kept p)) (pairs_of c.args.regions.now) (c.args.query.now).path c.requires.apart
    (held_at (λ p. not (reaches kept p)) c.args.regions.now (c.args.query.now).path c.in-Some.place false c.requires.apart within above
    (λ d. lost.1 c.in-Some.place d within ∙ sym (c.is_within.ensures (length c.args.regions.now) lost.0) ∙ staying)))

pub returns : goal.returns
returns c = λ kept lost.
    let region : Region = c.index-regions-place.result in
    let within : c.in-Some.place < length c.args.regions.now = search rules in
    let at : region ≡ get_or c.args.regions.now c.in-Some.place region = search rules in
    let above : (d : Region) → is_at_or_above (get_or c.args.regions.now c.in-Some.place d).path (c.args.query.now).path ≡ true = search rules in
    let plain : is_filtered c.args.query.now ≡ false = search rules in
    let going : c.is_within.result ≡ true = search rules in
    let part : Some c.in_ok-tree.tree ≡ option_map (sub region.tree) (strip region.path (c.args.query.now).path) = search rules in
    let seen : region_part (pairs_of c.args.regions.now) (c.args.query.now).path ≡ Some c.in_ok-tree.tree =
    part_is (c.args.query.now).path c.args.regions.now c.in-Some.place region c.requires.apart within (above region)
    ∙ ap (λ (r : Region). option_map (sub r.tree) (strip r.path (c.args.query.now).path)) (sym at) ∙ sym part in
    let pair : pair_of c.in_ok-region_of.field-0 ≡ ((c.args.query.now).path, c.in_ok-tree.tree) = search rules in
    ap Some pair
    ∙ part_below_is (filter (λ r. not (reaches kept r.0)) (pairs_of c.args.regions.now)) c.args.query.now c.in_ok-tree.tree plain
    (held_passing (λ p. not (reaches kept p)) (pairs_of c.args.regions.now) (c.args.query.now).path c.requires.apart
    (held_at (λ p. not (reaches kept p)) c.args.regions.now (c.args.query.now).path c.in-Some.place true c.requires.apart within above
    (λ d. lost.1 c.in-Some.place d within ∙ sym (c.is_within.ensures (length c.args.regions.now) lost.0) ∙ going)) ∙ seen)
