use Rattle.std.proofs.Common.{rules, ◌≡◌, ◌∙◌, ◌<◌, ◌&&◌, ap, sym, length, get_or, not, true, false, is_some, None}
use Rattle.rt_tree.specs.Assignments.{is_at_or_above}
use Rattle.rt_cache.specs.Brought.{region_part}
use Rattle.rt_cache.specs.Recover.{regions_kept}
use Rattle.rt_cache.specs.declared.regions.Region.{Region}
use Rattle.rt_cache.specs.inside.Held.{pairs_of}
use Rattle.rt_cache.proofs.Lending.{not_lost, part_there}
use Rattle.rt_cache.proofs.handover.loses_region.Goals as goal

pub returns-in_default : goal.returns-in_default
returns-in_default c = λ kept cut.
    let none : region_part (pairs_of c.args.regions.now) (c.args.query.now).path ≡ None = search rules in
    sym (ap (λ o. is_some o && not (is_some (region_part (regions_kept kept (pairs_of c.args.regions.now)) (c.args.query.now).path))) none)

pub returns-then-not-is_within : goal.returns-then-not-is_within
returns-then-not-is_within c = λ kept cut.
    let within : c.in-Some.place < length c.args.regions.now = search rules in
    let above : (d : Region) → is_at_or_above (get_or c.args.regions.now c.in-Some.place d).path (c.args.query.now).path ≡ true = search rules in
    let staying : c.is_within.result ≡ false = search rules in
    not_lost kept c.args.regions.now c.args.lost.now c.args.parts.now (c.args.query.now).path c.in-Some.place c.requires.apart cut within above
    (sym (c.is_within.ensures (length c.args.regions.now) cut.lost.0) ∙ staying) (is_some (region_part (pairs_of c.args.regions.now) (c.args.query.now).path))

pub returns : goal.returns
returns c = λ kept cut.
    let within : c.in-Some.place < length c.args.regions.now = search rules in
    let above : (d : Region) → is_at_or_above (get_or c.args.regions.now c.in-Some.place d).path (c.args.query.now).path ≡ true = search rules in
    let going : c.is_within.result ≡ true = search rules in
    let some : is_some (region_part (pairs_of c.args.regions.now) (c.args.query.now).path) ≡ true = search rules in
    let told : c.is_none.result ≡ not (is_some (region_part (pairs_of c.args.parts.now) (c.args.query.now).path)) = search rules in
    told
    ∙ ap not (sym (part_there kept c.args.regions.now c.args.lost.now c.args.parts.now (c.args.query.now).path c.in-Some.place c.requires.apart cut within above
    (sym (c.is_within.ensures (length c.args.regions.now) cut.lost.0) ∙ going)))
    ∙ ap (λ b. b && not (is_some (region_part (regions_kept kept (pairs_of c.args.regions.now)) (c.args.query.now).path))) (sym some)
