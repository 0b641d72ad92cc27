use Rattle.std.proofs.Common.{inr, ◌∙◌, ap, sym, subst}
use Rattle.std.specs.BTreeMap.{is_at}
use Rattle.std.specs.Map.{lookup, set_value}
use Rattle.rt_map.specs.inside.Places.{IsAt, IsGap}
use Rattle.rt_map.proofs.Entries.{lookup-at, lookup-gap, set-at}
use Rattle.rt_map.proofs.Parts.{lent_alike}
use Rattle.rt_map.proofs.chunk.Chunk.slot.Goals as goal

pub returns-in-Ok : goal.returns-in-Ok
returns-in-Ok g c =
    let h : IsAt g.K.Ord.cmp c.args.key.now c.self.inside.entries.items c.in-Ok.at = subst (λ es. IsAt g.K.Ord.cmp c.args.key.now es c.in-Ok.at) c.as_slice.ensures.value c.in-Ok.ensures.found in (
      lent_alike (λ w. set-at g.K.Ord.cmp c.args.key.now c.self.inside.entries.items c.in-Ok.at w h c.index_mut-value.result.now c.index_mut-value.ensures.value
          ∙ ap (λ es. set_value (is_at (g.K.Ord.cmp c.args.key.now)) es w) c.self.view_is),
      record {
        writes_back = tt;
        value = sym (lookup-at g.K.Ord.cmp c.args.key.now c.self.inside.entries.items c.in-Ok.at h c.index_mut-value.result.now c.index_mut-value.ensures.value
            ∙ ap (lookup (is_at (g.K.Ord.cmp c.args.key.now))) c.self.view_is);
        absent = tt;
      },
    )

pub returns-in-Err : goal.returns-in-Err
returns-in-Err g c = (
  ap inr c.self.view_is,
  record {
    writes_back = tt;
    value = tt;
    absent = sym (ap (lookup (is_at (g.K.Ord.cmp c.args.key.now))) c.self.view_is)
        ∙ lookup-gap g.K.Ord.cmp c.args.key.now c.self.inside.entries.items c.in-Err.field-0 (subst (λ es. IsGap g.K.Ord.cmp c.args.key.now es c.in-Err.field-0) c.as_slice.ensures.value c.in-Err.ensures.absent);
  },
)
