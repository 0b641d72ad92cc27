use Rattle.std.proofs.Common.{◌≡◌, [], true, sym, subst}
use Rattle.rt_writes.specs.inside.Spots.{has_here, IsAbove, IsLast}
use Rattle.rt_writes.proofs.SpotLaws.{last_same, last_later, above_root, root_above, above_child, child_above}
use Rattle.rt_writes.proofs.spots.Spot.+look.Goals as goal

pub returns-in_default-clause-last : goal.returns-in_default-clause-last
returns-in_default-clause-last t c =
    last_same (λ j. has_here c.args.self.now [] j ≡ true) (IsAbove c.args.self.now c.args.keys.now) c.last_here-here.result
    (root_above c.args.self.now c.args.keys.now) (above_root c.args.self.now c.args.keys.now c.in_default.ensures.cases) c.last_here-here.ensures

pub returns-in_default-get-clause-last : goal.returns-in_default-get-clause-last
returns-in_default-get-clause-last t c =
    last_same (λ j. has_here c.args.self.now [] j ≡ true) (IsAbove c.args.self.now c.args.keys.now) c.last_here-here.result
    (root_above c.args.self.now c.args.keys.now)
    (λ j h. above_child c.args.self.now c.args.keys.now c.in-Some.key.now c.in-Some.rest.now _ c.in-Some.ensures.cases.0 (sym c.in_default-get.ensures.value) j
    (has_here c.args.self.now [] j ≡ true) h (λ has. has) (λ x y e has. cc))
    c.last_here-here.ensures

pub returns-clause-last : goal.returns-clause-last
returns-clause-last t c =
    let at = c.in-Some.ensures.cases.0 in
    let is = sym c.in-Some-get.ensures.value in
    subst (IsLast (IsAbove c.args.self.now c.args.keys.now)) (sym c.later.ensures)
    (last_later (λ j. has_here c.args.self.now [] j ≡ true) (IsAbove c.in-Some-get.child.now c.in-Some.rest.now) (IsAbove c.args.self.now c.args.keys.now)
    c.last_here-here.result c.look-last.result.0
    (root_above c.args.self.now c.args.keys.now)
    (child_above c.args.self.now c.in-Some-get.child.now c.args.keys.now c.in-Some.key.now c.in-Some.rest.now at is)
    (λ j X h here below. above_child c.args.self.now c.args.keys.now c.in-Some.key.now c.in-Some.rest.now _ at is j X h here (λ x y e has. below (x, y, e, has)))
    c.last_here-here.ensures c.look-last.ensures.last)
