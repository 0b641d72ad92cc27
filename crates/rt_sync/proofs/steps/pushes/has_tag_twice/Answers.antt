use Rattle.std.proofs.Common.{◌≡◌, ◌==◌, ◌↔◌, true, subst}
use Rattle.std.specs.List.{IsDistinct}
use Rattle.rt_sync.proofs.PushedTags.{twice_from_tags}
use Rattle.rt_sync.proofs.steps.pushes.has_tag_twice.Goals as goal

pub returns-in-Ok : goal.returns-in-Ok
returns-in-Ok c =
    twice_from_tags c.args.parts.now c.in-Ok.tags.items c.are_distinct.result c.in-Ok.ensures.same
    (subst (λ tags. (c.are_distinct.result ≡ true) ↔ IsDistinct (λ m n. m == n) tags) c.deref.ensures.value
    c.are_distinct.ensures)
