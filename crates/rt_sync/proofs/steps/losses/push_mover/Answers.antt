use Rattle.std.proofs.Common.{◌≡◌, ◌++◌, ◌∷◌, [], true, false, ap, rules, ◌∙◌}
use Rattle.std.specs.List.{list_any}
use Rattle.rt_cache.specs.Brought.{may_move}
use Rattle.rt_sync.proofs.MovingLaws.{more_mover, no_mover}
use Rattle.rt_sync.proofs.steps.losses.push_mover.Goals as goal

pub returns-then-not-may_move : goal.returns-then-not-may_move
returns-then-not-may_move c = λ t.
    let none : may_move c.args.brought.now c.args.form.now ≡ false = search rules in
    no_mover c.args.movers.now.items c.args.form.now (may_move c.args.brought.now c.args.form.now) t none

pub returns : goal.returns
returns c = λ t.
    let may : may_move c.args.brought.now c.args.form.now ≡ true = search rules in
    let pushed : c.push.new.self.items ≡ c.args.movers.now.items ++ c.args.form.now ∷ [] = search rules in
    ap (list_any t) pushed
    ∙ more_mover c.args.movers.now.items c.args.form.now (may_move c.args.brought.now c.args.form.now) t may
