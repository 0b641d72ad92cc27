use Rattle.std.proofs.Common.{◌≡◌, ◌++◌, drop}
use Rattle.rt_cover.specs.Cover.{Tagged}
use Rattle.rt_cover.specs.inside.Picked.{picked}
use Rattle.rt_cover.proofs.listen.listens_at.Given as goal

abbrev pub invariant-loop-tag : goal.invariant-loop-tag
invariant-loop-tag l = l.listens.items ++ picked (λ (k : Tagged). k.tag) l.kept (drop l.tag-index l.tags) ≡ picked (λ (k : Tagged). k.tag) l.kept l.tags
