use Rattle.std.proofs.Common.{◌≡◌, ◌++◌, ◌∷◌, [], Bool, true, false, ap, rules, ◌∙◌}
use Rattle.rt_cache.specs.Recover.{is_among}
use Rattle.rt_sync.specs.inside.Moving.{is_moved_now}
use Rattle.rt_sync.proofs.MovingLaws.{more_moved, not_moved}
use Rattle.rt_sync.proofs.steps.losses.push_moved.Goals as goal

pub returns-then-not-is_moved : goal.returns-then-not-is_moved
returns-then-not-is_moved c = λ q.
    let is : Bool = is_moved_now c.args.brought.now c.args.had.now c.args.one.now in
    let none : is ≡ false = search rules in
    not_moved c.args.moved.now.items (c.args.one.now).query q is none

pub returns : goal.returns
returns c = λ q.
    let is : Bool = is_moved_now c.args.brought.now c.args.had.now c.args.one.now in
    let yes : is ≡ true = search rules in
    let pushed : c.push.new.self.items ≡ c.args.moved.now.items ++ (c.args.one.now).query ∷ [] = search rules in
    ap (λ qs. is_among qs q) pushed
    ∙ more_moved c.args.moved.now.items (c.args.one.now).query q is yes
