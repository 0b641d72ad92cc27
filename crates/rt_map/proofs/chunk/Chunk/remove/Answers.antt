use Rattle.std.proofs.Common.{◌∙◌, ap, sym, subst}
use Rattle.std.specs.BTreeMap.{is_at}
use Rattle.std.specs.Map.{lookup, remove_entry}
use Rattle.rt_map.specs.inside.Places.{IsAt, IsGap}
use Rattle.rt_map.proofs.Entries.{lookup-at, lookup-gap, remove-at, remove-gap}
use Rattle.rt_map.proofs.chunk.Chunk.remove.Goals as goal

pub returns-in-Ok-clause-entries : goal.returns-in-Ok-clause-entries
returns-in-Ok-clause-entries g c =
    c.remove-value.ensures.items
    ∙ sym (remove-at g.K.Ord.cmp c.args.key.now c.self.inside.entries.items c.in-Ok.at (subst (λ es. IsAt g.K.Ord.cmp c.args.key.now es c.in-Ok.at) c.as_slice.ensures.value c.in-Ok.ensures.found) c.remove-value.result)
    ∙ ap (remove_entry (is_at (g.K.Ord.cmp c.args.key.now))) c.self.view_is

pub returns-in-Ok-clause-old : goal.returns-in-Ok-clause-old
returns-in-Ok-clause-old g c =
    lookup-at g.K.Ord.cmp c.args.key.now c.self.inside.entries.items c.in-Ok.at (subst (λ es. IsAt g.K.Ord.cmp c.args.key.now es c.in-Ok.at) c.as_slice.ensures.value c.in-Ok.ensures.found) c.remove-value.result c.remove-value.ensures.value
    ∙ ap (lookup (is_at (g.K.Ord.cmp c.args.key.now))) c.self.view_is

pub returns-in-Err-clause-entries : goal.returns-in-Err-clause-entries
returns-in-Err-clause-entries g c =
    sym c.self.view_is ∙ sym (remove-gap g.K.Ord.cmp c.args.key.now c.self.inside.entries.items c.in-Err.field-0 (subst (λ es. IsGap g.K.Ord.cmp c.args.key.now es c.in-Err.field-0) c.as_slice.ensures.value c.in-Err.ensures.absent))
    ∙ ap (remove_entry (is_at (g.K.Ord.cmp c.args.key.now))) c.self.view_is

pub returns-in-Err-clause-old : goal.returns-in-Err-clause-old
returns-in-Err-clause-old g c =
    sym (lookup-gap g.K.Ord.cmp c.args.key.now c.self.inside.entries.items c.in-Err.field-0 (subst (λ es. IsGap g.K.Ord.cmp c.args.key.now es c.in-Err.field-0) c.as_slice.ensures.value c.in-Err.ensures.absent))
    ∙ ap (lookup (is_at (g.K.Ord.cmp c.args.key.now))) c.self.view_is
