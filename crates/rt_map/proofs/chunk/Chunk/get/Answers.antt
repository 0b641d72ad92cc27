use Rattle.std.proofs.Common.{◌∙◌, ap, sym, subst}
use Rattle.std.specs.BTreeMap.{is_at}
use Rattle.std.specs.Map.{lookup}
use Rattle.rt_map.specs.inside.Places.{IsAt, IsGap}
use Rattle.rt_map.proofs.Entries.{lookup-at, lookup-gap}
use Rattle.rt_map.proofs.chunk.Chunk.get.Goals as goal

pub returns-in-Ok : goal.returns-in-Ok
returns-in-Ok g c =
    lookup-at g.K.Ord.cmp c.args.key.now c.self.inside.entries.items c.in-Ok.at (subst (λ es. IsAt g.K.Ord.cmp c.args.key.now es c.in-Ok.at) c.as_slice.ensures.value c.in-Ok.ensures.found) c.index.result.now c.index.ensures
    ∙ ap (lookup (is_at (g.K.Ord.cmp c.args.key.now))) c.self.view_is

pub returns-in-Err : goal.returns-in-Err
returns-in-Err g c =
    sym (lookup-gap g.K.Ord.cmp c.args.key.now c.self.inside.entries.items c.in-Err.field-0 (subst (λ es. IsGap g.K.Ord.cmp c.args.key.now es c.in-Err.field-0) c.as_slice.ensures.value c.in-Err.ensures.absent))
    ∙ ap (lookup (is_at (g.K.Ord.cmp c.args.key.now))) c.self.view_is
