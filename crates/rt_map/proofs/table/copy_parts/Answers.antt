use Rattle.std.proofs.Common.{◌≡◌, ◌∙◌, ap, sym, subst, arith, ◌<◌, ◌++◌, ◌∷◌, [], length, get_or}
use Rattle.rt_map.specs.inside.Joined.{joined, AllFilled}
use Rattle.rt_map.proofs.Parts.{joined-append, AllFilled-append, AllFilled-get_or, joined-one}
use Rattle.rt_map.proofs.table.copy_parts.Goals as goal

pub loop-part-preserved : goal.loop-part-preserved
loop-part-preserved g c =
    let same : c.in_ok-copy.copy.value ≡ (get_or c.args.parts.now c.loop-part.part-index c.part-item.result).value = c.in_ok-copy.ensures ∙ ap (λ a. a.value) c.part-item.is in
    let some : 0 < length c.in_ok-copy.copy.value = subst (λ es. 0 < length es) (sym same) (AllFilled-get_or c.args.parts.now c.loop-part.part-index c.part-item.result (omega arith) c.requires) in (
      subst AllFilled (sym c.in_ok-push.ensures.items) (AllFilled-append c.loop-part.copies.items (c.in_ok-copy.copy ∷ []) c.loop-part.invariant.0 (some, tt)),
      ap joined c.in_ok-push.ensures.items ∙ joined-append c.loop-part.copies.items (c.in_ok-copy.copy ∷ []) ∙ ap (λ l. l ++ joined (c.in_ok-copy.copy ∷ [])) c.loop-part.invariant.1
          ∙ joined-one c.args.parts.now c.loop-part.part-index c.part-item.result c.in_ok-copy.copy (omega arith) same,
    )
