use Rattle.std.proofs.Common.{◌≡◌, drop, None}
use Rattle.rt_query.specs.Supply.{does_supply}
use Rattle.rt_cover.specs.Cover.{Tagged}
use Rattle.rt_cover.specs.inside.Least.{least_from}
use Rattle.rt_cover.proofs.listens.least_among.Given as goal

abbrev pub invariant-loop-listen : goal.invariant-loop-listen
invariant-loop-listen l = least_from (λ (k : Tagged). does_supply k.form l.query) l.least (drop l.listen-index l.listens)
    ≡ least_from (λ (k : Tagged). does_supply k.form l.query) None l.listens
