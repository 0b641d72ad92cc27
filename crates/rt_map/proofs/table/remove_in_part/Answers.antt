use Rattle.std.proofs.Common.{◌≡◌, ◌∙◌, ap, sym, subst, ◌⊎◌, OnErr, get_or, length, ◌<◌}
use Rattle.std.specs.Prelude.{is_ok}
use Rattle.std.specs.BTreeMap.{is_at}
use Rattle.std.specs.Map.{lookup, keys_of, remove_entry}
use Rattle.std.specs.List.Sorted.{IsStrictlySortedBy}
use Rattle.rt_map.specs.inside.Joined.{joined, AllFilled}
use Rattle.rt_map.proofs.Parts.{AllFilled-get_or, set-same, set-filled, remove-set, remove-filled, part-lookup, part-remove, part-emptied, part-sorted, one_of, on_err, something, clash}
use Rattle.rt_map.proofs.table.remove_in_part.Goals as goal
use Rattle.rt_map.proofs.table.remove_in_part.Goals.{then-is_empty, else-is_empty}

pub returns-in_err-chunk-clause-filled : goal.returns-in_err-chunk-clause-filled
returns-in_err-chunk-clause-filled g c =
    let kept : c.make_mut.follows.lender-at-none.value ≡ c.index_mut.result.now.value
    = one_of (subst (λ r. OnErr r ((c.make_mut.follows.lender-at-none.value ≡ c.index_mut.result.now.value) ⊎ (c.make_mut.follows.lender-at-none.value ≡ c.index_mut.result.now.value))) c.in_err-chunk.was c.make_mut.follows.holds-at-none) in
    let same : c.make_mut.follows.lender-at-none.value ≡ (get_or c.args.parts.now.items c.args.at c.index_mut.result.now).value = kept ∙ ap (λ a. a.value) c.index_mut.ensures.value in
    set-filled c.args.parts.now.items c.args.at c.make_mut.follows.lender-at-none c.requires.place.within
    (subst (λ es. 0 < length es) (sym same) (AllFilled-get_or c.args.parts.now.items c.args.at c.index_mut.result.now c.requires.place.within c.requires.filled)) c.requires.filled

pub returns-in_err-chunk-clause-err : goal.returns-in_err-chunk-clause-err
returns-in_err-chunk-clause-err g c =
    let kept : c.make_mut.follows.lender-at-none.value ≡ c.index_mut.result.now.value
    = one_of (subst (λ r. OnErr r ((c.make_mut.follows.lender-at-none.value ≡ c.index_mut.result.now.value) ⊎ (c.make_mut.follows.lender-at-none.value ≡ c.index_mut.result.now.value))) c.in_err-chunk.was c.make_mut.follows.holds-at-none) in
    on_err c.from_residual.result (set-same c.args.parts.now.items c.args.at c.index_mut.result.now c.make_mut.follows.lender-at-none c.requires.place.within (kept ∙ ap (λ a. a.value) c.index_mut.ensures.value))

pub remove-requires : goal.remove-requires
remove-requires g c =
    let same : c.in_ok-chunk.chunk.now ≡ (get_or c.args.parts.now.items c.args.at c.index_mut.result.now).value = one_of c.in_ok-chunk.ensures.value ∙ ap (λ a. a.value) c.index_mut.ensures.value in
    subst (λ es. IsStrictlySortedBy g.K.Ord.cmp (keys_of es)) (sym same) (part-sorted g.K.Ord.cmp c.args.key.now c.args.parts.now.items c.args.at c.requires.place c.index_mut.result.now c.requires.sorted g.met.K.Ord.total)

pub returns-clause-filled : goal.returns-clause-filled
returns-clause-filled g c =
    let new : (c.make_mut.follows.lender c.remove.new.self).value ≡ c.remove.new.self = c.make_mut.follows.holds c.remove.new.self (ap is_ok c.in_ok-chunk.was) in
    elim c.if-is_empty.branch [
      | then-is_empty w ↦ subst AllFilled (sym (ap (λ v. v.items) w.parts-is ∙ w.remove-then-is_empty.ensures.items ∙ remove-set c.args.parts.now.items c.args.at (c.make_mut.follows.lender c.remove.new.self) c.requires.place.within))
          (remove-filled c.args.parts.now.items c.args.at c.requires.place.within c.requires.filled)
      | else-is_empty w ↦
          let some : 0 < length c.remove.new.self = something c.remove.new.self (λ e. clash c.is_empty.result (c.is_empty.ensures.1 e) w.if-is_empty.false) in
          subst (λ v. AllFilled v.items) (sym w.parts-is) (set-filled c.args.parts.now.items c.args.at (c.make_mut.follows.lender c.remove.new.self) c.requires.place.within
          (subst (λ es. 0 < length es) (sym new) some) c.requires.filled)
    ]

pub returns-clause-ok : goal.returns-clause-ok
returns-clause-ok g c =
    let new : (c.make_mut.follows.lender c.remove.new.self).value ≡ c.remove.new.self = c.make_mut.follows.holds c.remove.new.self (ap is_ok c.in_ok-chunk.was) in
    let same : c.in_ok-chunk.chunk.now ≡ (get_or c.args.parts.now.items c.args.at c.index_mut.result.now).value = one_of c.in_ok-chunk.ensures.value ∙ ap (λ a. a.value) c.index_mut.ensures.value in
    let gone : (c.make_mut.follows.lender c.remove.new.self).value ≡ remove_entry (is_at (g.K.Ord.cmp c.args.key.now)) (get_or c.args.parts.now.items c.args.at c.index_mut.result.now).value
    = new ∙ c.in_ok-old.ensures.ok ∙ ap (remove_entry (is_at (g.K.Ord.cmp c.args.key.now))) same in
    elim c.if-is_empty.branch [
      | then-is_empty w ↦ ap joined (ap (λ v. v.items) w.parts-is ∙ w.remove-then-is_empty.ensures.items)
          ∙ part-emptied g.K.Ord.cmp c.args.key.now c.args.parts.now.items c.args.at c.requires.place c.index_mut.result.now (c.make_mut.follows.lender c.remove.new.self) gone
          (ap length (new ∙ c.is_empty.ensures.0 w.if-is_empty.true))
      | else-is_empty w ↦ ap (λ v. joined v.items) w.parts-is
          ∙ part-remove g.K.Ord.cmp c.args.key.now c.args.parts.now.items c.args.at c.requires.place c.index_mut.result.now (c.make_mut.follows.lender c.remove.new.self) gone
    ]

pub returns-clause-old : goal.returns-clause-old
returns-clause-old g c =
    let same : c.in_ok-chunk.chunk.now ≡ (get_or c.args.parts.now.items c.args.at c.index_mut.result.now).value = one_of c.in_ok-chunk.ensures.value ∙ ap (λ a. a.value) c.index_mut.ensures.value in
    c.in_ok-old.ensures.old ∙ ap (lookup (is_at (g.K.Ord.cmp c.args.key.now))) same ∙ sym (part-lookup g.K.Ord.cmp c.args.key.now c.args.parts.now.items c.args.at c.requires.place c.index_mut.result.now)

pub returns-in_err-old-clause-filled : goal.returns-in_err-old-clause-filled
returns-in_err-old-clause-filled g c =
    let new : (c.make_mut.follows.lender c.remove.new.self).value ≡ c.remove.new.self = c.make_mut.follows.holds c.remove.new.self (ap is_ok c.in_ok-chunk.was) in
    let same : c.in_ok-chunk.chunk.now ≡ (get_or c.args.parts.now.items c.args.at c.index_mut.result.now).value = one_of c.in_ok-chunk.ensures.value ∙ ap (λ a. a.value) c.index_mut.ensures.value in
    set-filled c.args.parts.now.items c.args.at (c.make_mut.follows.lender c.remove.new.self) c.requires.place.within
    (subst (λ es. 0 < length es) (sym (new ∙ c.in_err-old.ensures.err ∙ same)) (AllFilled-get_or c.args.parts.now.items c.args.at c.index_mut.result.now c.requires.place.within c.requires.filled)) c.requires.filled

pub returns-in_err-old-clause-err : goal.returns-in_err-old-clause-err
returns-in_err-old-clause-err g c =
    let new : (c.make_mut.follows.lender c.remove.new.self).value ≡ c.remove.new.self = c.make_mut.follows.holds c.remove.new.self (ap is_ok c.in_ok-chunk.was) in
    let same : c.in_ok-chunk.chunk.now ≡ (get_or c.args.parts.now.items c.args.at c.index_mut.result.now).value = one_of c.in_ok-chunk.ensures.value ∙ ap (λ a. a.value) c.index_mut.ensures.value in
    on_err c.from_residual-in_err-old.result (set-same c.args.parts.now.items c.args.at c.index_mut.result.now (c.make_mut.follows.lender c.remove.new.self) c.requires.place.within (new ∙ c.in_err-old.ensures.err ∙ same))
