use Rattle.std.proofs.Common.{rules, ◌≡◌, ◌∙◌, ◌<◌, ◌-◌, ℕ, ap, sym, subst, arith, length, get_or, true, false, is_some}
use Rattle.std.proofs.lemmas.List.Elements.{at_read}
use Rattle.rt_tree.specs.PathTree.{strip}
use Rattle.rt_tree.specs.Assignments.{is_at_or_above}
use Rattle.rt_cache.specs.declared.regions.Region.{Region}
use Rattle.rt_cache.proofs.Halves.{nowhere}
use Rattle.rt_cache.proofs.Places.{part_is}
use Rattle.rt_cache.proofs.Pushes.{part_there}
use Rattle.rt_cache.proofs.regions.place_above.Goals as goal

pub returns-then-count-eq0-clause-none : goal.returns-then-count-eq0-clause-none
returns-then-count-eq0-clause-none c =
    let none_in_front : c.place_of-count.result ≡ 0 = search rules in
    nowhere c.args.path.now c.args.regions.now c.place_of-count.result c.requires.sorted c.requires.apart
    c.place_of-count.ensures.within c.place_of-count.ensures.front c.place_of-count.ensures.behind
    (λ k d e. absurd (omega (arith, e, none_in_front)))

pub returns-then-count-eq0-clause-known : goal.returns-then-count-eq0-clause-known
returns-then-count-eq0-clause-known c = sym (ap is_some (returns-then-count-eq0-clause-none c))

pub returns-then-is_prefix_of-clause-known : goal.returns-then-is_prefix_of-clause-known
returns-then-is_prefix_of-clause-known c =
    let region : Region = c.index-regions-place.result in
    let place : ℕ = c.place_of-count.result - 1 in
    let within : place < length c.args.regions.now = search rules in
    let at : region ≡ get_or c.args.regions.now place region = search rules in
    let is : is_at_or_above region.path c.args.path.now ≡ true = search rules in
    let above : is_at_or_above (get_or c.args.regions.now place region).path c.args.path.now ≡ true =
    ap (λ (r : Region). is_at_or_above r.path c.args.path.now) (sym at) ∙ is in
    sym (ap is_some (part_is c.args.path.now c.args.regions.now place region c.requires.apart within above)
    ∙ part_there _ (strip (get_or c.args.regions.now place region).path c.args.path.now) above)

pub returns-else-is_prefix_of-clause-none : goal.returns-else-is_prefix_of-clause-none
returns-else-is_prefix_of-clause-none c =
    let region : Region = c.index-regions-place.result in
    let place : ℕ = c.place_of-count.result - 1 in
    let within : place < length c.args.regions.now = search rules in
    let at : region ≡ get_or c.args.regions.now place region = search rules in
    let is_not : is_at_or_above region.path c.args.path.now ≡ false = search rules in
    let last : (d : Region) → is_at_or_above (get_or c.args.regions.now place d).path c.args.path.now ≡ false =
    at_read c.args.regions.now (λ (r : Region). is_at_or_above r.path c.args.path.now ≡ false) place region within at is_not in
    nowhere c.args.path.now c.args.regions.now c.place_of-count.result c.requires.sorted c.requires.apart
    c.place_of-count.ensures.within c.place_of-count.ensures.front c.place_of-count.ensures.behind
    (λ k d e. subst (λ n. is_at_or_above (get_or c.args.regions.now n d).path c.args.path.now ≡ false) (omega (arith, e)) (last d))

pub returns-else-is_prefix_of-clause-known : goal.returns-else-is_prefix_of-clause-known
returns-else-is_prefix_of-clause-known c = sym (ap is_some (returns-else-is_prefix_of-clause-none c))
