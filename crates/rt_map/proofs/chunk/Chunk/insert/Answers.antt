use Rattle.std.proofs.Common.{◌∙◌, ap, sym, subst, Some, set}
use Rattle.std.specs.BTreeMap.{is_at, insert_entry}
use Rattle.std.specs.Map.{lookup}
use Rattle.rt_map.specs.inside.Places.{IsAt, IsGap}
use Rattle.rt_map.proofs.Entries.{lookup-at, lookup-gap, insert-at, insert-gap}
use Rattle.rt_map.proofs.chunk.Chunk.insert.Goals as goal

pub returns-in-Ok-clause-ok : goal.returns-in-Ok-clause-ok
returns-in-Ok-clause-ok g c =
    ap (λ v. set c.self.inside.entries.items c.in-Ok.at (c.index_mut.result.now.0, v)) c.replace.ensures.after
    ∙ insert-at g.K.Ord.cmp c.args.key c.self.inside.entries.items c.in-Ok.at c.args.value (subst (λ es. IsAt g.K.Ord.cmp c.args.key es c.in-Ok.at) c.as_slice.ensures.value c.in-Ok.ensures.found) c.index_mut.result.now c.index_mut.ensures.value
    ∙ ap (λ es. insert_entry g.K.Ord.cmp es c.args.key c.args.value) c.self.view_is

pub returns-in-Ok-clause-old : goal.returns-in-Ok-clause-old
returns-in-Ok-clause-old g c =
    ap Some c.replace.ensures.value
    ∙ lookup-at g.K.Ord.cmp c.args.key c.self.inside.entries.items c.in-Ok.at (subst (λ es. IsAt g.K.Ord.cmp c.args.key es c.in-Ok.at) c.as_slice.ensures.value c.in-Ok.ensures.found) c.index_mut.result.now c.index_mut.ensures.value
    ∙ ap (lookup (is_at (g.K.Ord.cmp c.args.key))) c.self.view_is

pub returns-in_ok-insert-in-Err-clause-ok : goal.returns-in_ok-insert-in-Err-clause-ok
returns-in_ok-insert-in-Err-clause-ok g c =
    c.in_ok-insert-in-Err.ensures.items
    ∙ sym (insert-gap g.K.Ord.cmp c.args.key c.self.inside.entries.items c.in-Err.at c.args.value (subst (λ es. IsGap g.K.Ord.cmp c.args.key es c.in-Err.at) c.as_slice.ensures.value c.in-Err.ensures.absent))
    ∙ ap (λ es. insert_entry g.K.Ord.cmp es c.args.key c.args.value) c.self.view_is

pub returns-in_ok-insert-in-Err-clause-old : goal.returns-in_ok-insert-in-Err-clause-old
returns-in_ok-insert-in-Err-clause-old g c =
    sym (lookup-gap g.K.Ord.cmp c.args.key c.self.inside.entries.items c.in-Err.at (subst (λ es. IsGap g.K.Ord.cmp c.args.key es c.in-Err.at) c.as_slice.ensures.value c.in-Err.ensures.absent))
    ∙ ap (lookup (is_at (g.K.Ord.cmp c.args.key))) c.self.view_is
