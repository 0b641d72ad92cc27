use Rattle.std.proofs.Common.{inl, inr, None, Some, ◌≡◌, ◌∙◌, ap, sym, subst, ◌⊎◌, OnErr, get_or, length, ◌<◌}
use Rattle.std.specs.Prelude.{is_ok}
use Rattle.std.specs.BTreeMap.{is_at}
use Rattle.std.specs.Map.{lookup, keys_of, set_value}
use Rattle.std.specs.List.Sorted.{IsStrictlySortedBy}
use Rattle.rt_map.specs.inside.Places.{IsPart}
use Rattle.rt_map.proofs.Parts.{AllFilled-get_or, set-same, set-filled, part-lookup, part-set, part-sorted, one_of, length-set_value, lent_at_err, ok_at_err, lacks_slot, no_slot}
use Rattle.rt_map.proofs.row.MapRow.slot.Goals as goal

pub invariant_of-self : goal.invariant_of-self
invariant_of-self g c = c.self.invariant

pub invariant_of-self-in_err-chunk : goal.invariant_of-self-in_err-chunk
invariant_of-self-in_err-chunk g c =
    let kept : c.make_mut.follows.lender-at-none.value ≡ c.index_mut.result.now.value
    = one_of (subst (λ r. OnErr r ((c.make_mut.follows.lender-at-none.value ≡ c.index_mut.result.now.value) ⊎ (c.make_mut.follows.lender-at-none.value ≡ c.index_mut.result.now.value))) c.in_err-chunk.was c.make_mut.follows.holds-at-none) in
    let place : IsPart g.K.Ord.cmp c.args.key.now c.self.inside.chunks.items c.find_part-at.result = subst (λ ps. IsPart g.K.Ord.cmp c.args.key.now ps c.find_part-at.result) c.as_slice.ensures.value c.find_part-at.ensures in
    let same : c.make_mut.follows.lender-at-none.value ≡ (get_or c.self.inside.chunks.items c.find_part-at.result c.index_mut.result.now).value = kept ∙ ap (λ a. a.value) c.index_mut.ensures.value in
    set-filled c.self.inside.chunks.items c.find_part-at.result c.make_mut.follows.lender-at-none place.within
    (subst (λ es. 0 < length es) (sym same) (AllFilled-get_or c.self.inside.chunks.items c.find_part-at.result c.index_mut.result.now place.within c.self.invariant)) c.self.invariant

pub slot-requires : goal.slot-requires
slot-requires g c =
    let place : IsPart g.K.Ord.cmp c.args.key.now c.self.inside.chunks.items c.find_part-at.result = subst (λ ps. IsPart g.K.Ord.cmp c.args.key.now ps c.find_part-at.result) c.as_slice.ensures.value c.find_part-at.ensures in
    let same : c.in_ok-chunk.chunk.now ≡ (get_or c.self.inside.chunks.items c.find_part-at.result c.index_mut.result.now).value = one_of c.in_ok-chunk.ensures.value ∙ ap (λ a. a.value) c.index_mut.ensures.value in
    subst (λ es. IsStrictlySortedBy g.K.Ord.cmp (keys_of es)) (sym same) (part-sorted g.K.Ord.cmp c.args.key.now c.self.inside.chunks.items c.find_part-at.result place c.index_mut.result.now
    (subst (λ es. IsStrictlySortedBy g.K.Ord.cmp (keys_of es)) (sym c.self.view_is) c.requires) g.met.K.Ord.total)

pub invariant_of-self-lent : goal.invariant_of-self-lent
invariant_of-self-lent g c = λ w.
    let place : IsPart g.K.Ord.cmp c.args.key.now c.self.inside.chunks.items c.find_part-at.result = subst (λ ps. IsPart g.K.Ord.cmp c.args.key.now ps c.find_part-at.result) c.as_slice.ensures.value c.find_part-at.ensures in
    let same : c.in_ok-chunk.chunk.now ≡ (get_or c.self.inside.chunks.items c.find_part-at.result c.index_mut.result.now).value = one_of c.in_ok-chunk.ensures.value ∙ ap (λ a. a.value) c.index_mut.ensures.value in
    let new : (c.make_mut.follows.lender (set_value (is_at (g.K.Ord.cmp c.args.key.now)) c.in_ok-chunk.chunk.now w)).value ≡ set_value (is_at (g.K.Ord.cmp c.args.key.now)) c.in_ok-chunk.chunk.now w
    = c.make_mut.follows.holds (set_value (is_at (g.K.Ord.cmp c.args.key.now)) c.in_ok-chunk.chunk.now w) (ap is_ok c.in_ok-chunk.was) in
    let long : length (c.make_mut.follows.lender (set_value (is_at (g.K.Ord.cmp c.args.key.now)) c.in_ok-chunk.chunk.now w)).value ≡ length (get_or c.self.inside.chunks.items c.find_part-at.result c.index_mut.result.now).value
    = ap length new ∙ length-set_value (is_at (g.K.Ord.cmp c.args.key.now)) c.in_ok-chunk.chunk.now w ∙ ap length same in
    set-filled c.self.inside.chunks.items c.find_part-at.result (c.make_mut.follows.lender (set_value (is_at (g.K.Ord.cmp c.args.key.now)) c.in_ok-chunk.chunk.now w)) place.within
    (subst (λ n. 0 < n) (sym long) (AllFilled-get_or c.self.inside.chunks.items c.find_part-at.result c.index_mut.result.now place.within c.self.invariant)) c.self.invariant

pub returns-in_err-chunk : goal.returns-in_err-chunk
returns-in_err-chunk g c =
    let kept : c.make_mut.follows.lender-at-none.value ≡ c.index_mut.result.now.value
    = one_of (subst (λ r. OnErr r ((c.make_mut.follows.lender-at-none.value ≡ c.index_mut.result.now.value) ⊎ (c.make_mut.follows.lender-at-none.value ≡ c.index_mut.result.now.value))) c.in_err-chunk.was c.make_mut.follows.holds-at-none) in
    let place : IsPart g.K.Ord.cmp c.args.key.now c.self.inside.chunks.items c.find_part-at.result = subst (λ ps. IsPart g.K.Ord.cmp c.args.key.now ps c.find_part-at.result) c.as_slice.ensures.value c.find_part-at.ensures in (
      ap inr (set-same c.self.inside.chunks.items c.find_part-at.result c.index_mut.result.now c.make_mut.follows.lender-at-none place.within (kept ∙ ap (λ a. a.value) c.index_mut.ensures.value) ∙ c.self.view_is)
          ∙ lent_at_err c.from_residual.result (set_value (is_at (g.K.Ord.cmp c.args.key.now)) c.args.self.now) c.args.self.now c.from_residual.ensures.0,
      record { writes_back = tt; absent = lacks_slot c.from_residual.result (lookup (is_at (g.K.Ord.cmp c.args.key.now)) c.args.self.now ≡ None) c.from_residual.ensures.1; value = ok_at_err c.from_residual.result (λ v. lookup (is_at (g.K.Ord.cmp c.args.key.now)) c.args.self.now ≡ Some v.now) c.from_residual.ensures.0 },
    )

pub returns : goal.returns
returns g c =
    let place : IsPart g.K.Ord.cmp c.args.key.now c.self.inside.chunks.items c.find_part-at.result = subst (λ ps. IsPart g.K.Ord.cmp c.args.key.now ps c.find_part-at.result) c.as_slice.ensures.value c.find_part-at.ensures in
    let same : c.in_ok-chunk.chunk.now ≡ (get_or c.self.inside.chunks.items c.find_part-at.result c.index_mut.result.now).value = one_of c.in_ok-chunk.ensures.value ∙ ap (λ a. a.value) c.index_mut.ensures.value in (
      (λ i. inl (
        c.in_ok-value.value.ghost_name,
        λ w.
            (part-set g.K.Ord.cmp c.args.key.now c.self.inside.chunks.items c.find_part-at.result place c.index_mut.result.now w (c.make_mut.follows.lender (set_value (is_at (g.K.Ord.cmp c.args.key.now)) c.in_ok-chunk.chunk.now w))
            (c.make_mut.follows.holds (set_value (is_at (g.K.Ord.cmp c.args.key.now)) c.in_ok-chunk.chunk.now w) (ap is_ok c.in_ok-chunk.was) ∙ ap (λ es. set_value (is_at (g.K.Ord.cmp c.args.key.now)) es w) same)
            ∙ ap (λ es. set_value (is_at (g.K.Ord.cmp c.args.key.now)) es w) c.self.view_is) i,
      )),
      record {
        writes_back = tt;
        absent = tt;
        value = ap (lookup (is_at (g.K.Ord.cmp c.args.key.now))) (sym c.self.view_is)
            ∙ part-lookup g.K.Ord.cmp c.args.key.now c.self.inside.chunks.items c.find_part-at.result place c.index_mut.result.now
            ∙ ap (lookup (is_at (g.K.Ord.cmp c.args.key.now))) (sym same) ∙ c.in_ok-value.ensures.value;
      },
    )

pub invariant_of-self-in_err-value : goal.invariant_of-self-in_err-value
invariant_of-self-in_err-value g c =
    let place : IsPart g.K.Ord.cmp c.args.key.now c.self.inside.chunks.items c.find_part-at.result = subst (λ ps. IsPart g.K.Ord.cmp c.args.key.now ps c.find_part-at.result) c.as_slice.ensures.value c.find_part-at.ensures in
    let same : (c.make_mut.follows.lender c.in_ok-chunk.chunk.now).value ≡ (get_or c.self.inside.chunks.items c.find_part-at.result c.index_mut.result.now).value
    = c.make_mut.follows.holds c.in_ok-chunk.chunk.now (ap is_ok c.in_ok-chunk.was) ∙ one_of c.in_ok-chunk.ensures.value ∙ ap (λ a. a.value) c.index_mut.ensures.value in
    set-filled c.self.inside.chunks.items c.find_part-at.result (c.make_mut.follows.lender c.in_ok-chunk.chunk.now) place.within
    (subst (λ es. 0 < length es) (sym same) (AllFilled-get_or c.self.inside.chunks.items c.find_part-at.result c.index_mut.result.now place.within c.self.invariant)) c.self.invariant

pub returns-in_err-value : goal.returns-in_err-value
returns-in_err-value g c =
    let place : IsPart g.K.Ord.cmp c.args.key.now c.self.inside.chunks.items c.find_part-at.result = subst (λ ps. IsPart g.K.Ord.cmp c.args.key.now ps c.find_part-at.result) c.as_slice.ensures.value c.find_part-at.ensures in
    let same : (c.make_mut.follows.lender c.in_ok-chunk.chunk.now).value ≡ (get_or c.self.inside.chunks.items c.find_part-at.result c.index_mut.result.now).value
    = c.make_mut.follows.holds c.in_ok-chunk.chunk.now (ap is_ok c.in_ok-chunk.was) ∙ one_of c.in_ok-chunk.ensures.value ∙ ap (λ a. a.value) c.index_mut.ensures.value in (
      ap inr (set-same c.self.inside.chunks.items c.find_part-at.result c.index_mut.result.now (c.make_mut.follows.lender c.in_ok-chunk.chunk.now) place.within same ∙ c.self.view_is)
          ∙ lent_at_err c.from_residual-in_err-value.result (set_value (is_at (g.K.Ord.cmp c.args.key.now)) c.args.self.now) c.args.self.now c.from_residual-in_err-value.ensures.0,
      record {
        writes_back = tt;
        absent = no_slot c.from_residual-in_err-value.result c.in_err-value.field-0.0 (lookup (is_at (g.K.Ord.cmp c.args.key.now)) c.args.self.now ≡ None) c.from_residual-in_err-value.ensures.1
            (λ why. ap (lookup (is_at (g.K.Ord.cmp c.args.key.now))) (sym c.self.view_is)
            ∙ part-lookup g.K.Ord.cmp c.args.key.now c.self.inside.chunks.items c.find_part-at.result place c.index_mut.result.now
            ∙ ap (lookup (is_at (g.K.Ord.cmp c.args.key.now))) (sym (one_of c.in_ok-chunk.ensures.value ∙ ap (λ a. a.value) c.index_mut.ensures.value))
            ∙ c.in_err-value.ensures.absent);
        value = ok_at_err c.from_residual-in_err-value.result (λ v. lookup (is_at (g.K.Ord.cmp c.args.key.now)) c.args.self.now ≡ Some v.now) c.from_residual-in_err-value.ensures.0;
      },
    )
