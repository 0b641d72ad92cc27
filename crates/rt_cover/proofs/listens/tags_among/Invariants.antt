use Rattle.std.proofs.Common.{◌≡◌, ◌++◌, drop, map}
use Rattle.std.specs.List.{filter}
use Rattle.rt_query.specs.Supply.{does_supply}
use Rattle.rt_cover.specs.Cover.{Tagged}
use Rattle.rt_cover.proofs.listens.tags_among.Given as goal

abbrev pub invariant-loop-listen : goal.invariant-loop-listen
invariant-loop-listen l = l.tags.items ++ map (λ (k : Tagged). k.tag) (filter (λ (k : Tagged). does_supply l.form k.form) (drop l.listen-index l.listens))
    ≡ map (λ (k : Tagged). k.tag) (filter (λ (k : Tagged). does_supply l.form k.form) l.listens)
