use Rattle.std.proofs.Common.{◌≡◌, ◌∙◌, ap, sym, subst, get_or}
use Rattle.std.specs.Map.{keys_of}
use Rattle.std.specs.List.Sorted.{IsStrictlySortedBy}
use Rattle.rt_map.specs.Maps.{last_below}
use Rattle.rt_map.proofs.Before.{before_front, before_here}
use Rattle.rt_map.proofs.Parts.{part-sorted}
use Rattle.rt_map.proofs.row.before_in.Goals as goal

pub before-requires : goal.before-requires
before-requires g c =
    let same : c.deref.result.now ≡ (get_or c.args.parts.now c.find_part-at.result c.index-parts-at.result).value = c.deref.ensures ∙ ap (λ a. a.value) c.index-parts-at.is in
    subst (λ es. IsStrictlySortedBy g.K.Ord.cmp (keys_of es)) (sym same) (part-sorted g.K.Ord.cmp c.args.key.now c.args.parts.now c.find_part-at.result c.find_part-at.ensures c.index-parts-at.result c.requires.sorted g.met.K.Ord.total)

pub returns-in-Some : goal.returns-in-Some
returns-in-Some g c =
    let same : c.deref.result.now ≡ (get_or c.args.parts.now c.find_part-at.result c.index-parts-at.result).value = c.deref.ensures ∙ ap (λ a. a.value) c.index-parts-at.is in
    before_here g.K.Ord.cmp c.args.key.now c.args.parts.now c.find_part-at.result c.index-parts-at.result c.find_part-at.ensures c.in-Some.found.now
    (c.in-Some.ensures ∙ ap (last_below (g.K.Ord.cmp c.args.key.now)) same)

pub returns-in-None : goal.returns-in-None
returns-in-None g c =
    let same : c.deref.result.now ≡ (get_or c.args.parts.now c.find_part-at.result c.index-parts-at.result).value = c.deref.ensures ∙ ap (λ a. a.value) c.index-parts-at.is in
    c.last_in_front.ensures ∙ before_front g.K.Ord.cmp c.args.key.now c.args.parts.now c.find_part-at.result c.index-parts-at.result c.find_part-at.ensures
    (c.in-None.ensures ∙ ap (last_below (g.K.Ord.cmp c.args.key.now)) same)
