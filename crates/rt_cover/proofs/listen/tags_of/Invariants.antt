use Rattle.std.proofs.Common.{◌≡◌, ◌++◌, drop, map}
use Rattle.rt_cover.specs.Cover.{Tagged}
use Rattle.rt_cover.proofs.listen.tags_of.Given as goal

abbrev pub invariant-loop-listen : goal.invariant-loop-listen
invariant-loop-listen l = l.tags.items ++ map (λ (k : Tagged). k.tag) (drop l.listen-index l.kept) ≡ map (λ (k : Tagged). k.tag) l.kept
