use Rattle.std.proofs.Common.{◌≡◌, ◌++◌, ◌∷◌, [], List, length, ap, sym, subst, refl, arith, ◌∙◌, false}
use lib.Dec.{T}
use Rattle.std.specs.FinMap as map_of
use Rattle.std.specs.FinMap.Entries.{is_sorted-put}
use Rattle.std.specs.Vec.Iter.{into_iter_items}
use Rattle.rt_tree.specs.PathTree.{path_cmp, paths_total}
use Rattle.rt_tree.specs.Assignments.{have_overlap}
use Rattle.rt_cache.specs.Recover.{with_regions}
use Rattle.rt_cache.specs.declared.regions.Region.{Region}
use Rattle.rt_cache.specs.inside.Held.{pair_of, pairs_of}
use Rattle.rt_cache.proofs.Cuts.{next_apart, moved_overlap, absent_of}
use Rattle.rt_cache.proofs.recovery.insert_all.Goals as goal

nothing_left : {X : Type 0} (xs : List X) → length xs ≡ 0 → xs ≡ []
nothing_left [] e = refl
nothing_left (x ∷ xs) e = absurd (omega arith)

pub insert-requires-clause-room : goal.insert-requires-clause-room
insert-requires-clause-room c =
    let rest : into_iter_items c.loop-region.region-iterator ≡ c.in-Some.region ∷ into_iter_items c.next.new.self = c.in-Some.ensures.steps.0 in
    omega (arith, c.loop-region.invariant.0, ap length rest)

pub insert-requires-clause-sorted : goal.insert-requires-clause-sorted
insert-requires-clause-sorted c = c.loop-region.invariant.3

pub insert-requires-clause-absent : goal.insert-requires-clause-absent
insert-requires-clause-absent c =
    let rest : into_iter_items c.loop-region.region-iterator ≡ c.in-Some.region ∷ into_iter_items c.next.new.self = c.in-Some.ensures.steps.0 in
    absent_of (c.in-Some.region).path c.loop-region.regions.items
    (next_apart (pairs_of c.loop-region.regions.items) (pair_of c.in-Some.region) (pairs_of (into_iter_items c.next.new.self))
    (subst (λ (xs : List Region). have_overlap (pairs_of c.loop-region.regions.items ++ pairs_of xs) ≡ false) rest c.loop-region.invariant.1))

pub loop-region-preserved : goal.loop-region-preserved
loop-region-preserved c =
    let left : List Region = into_iter_items c.next.new.self in
    let rest : into_iter_items c.loop-region.region-iterator ≡ c.in-Some.region ∷ into_iter_items c.next.new.self = c.in-Some.ensures.steps.0 in
    let short = ap length rest in
    let placed = c.insert.ensures.placed in (
      omega (arith, c.loop-region.invariant.0, c.insert.ensures.len, c.insert.ensures.room, short),
      subst (λ xs. have_overlap (xs ++ pairs_of left) ≡ false) (sym placed)
          (moved_overlap (pairs_of c.loop-region.regions.items) (pair_of c.in-Some.region) (pairs_of left)
          (subst (λ (xs : List Region). have_overlap (pairs_of c.loop-region.regions.items ++ pairs_of xs) ≡ false) rest c.loop-region.invariant.1)),
      ap (λ xs. with_regions xs (pairs_of left)) placed
          ∙ ap (λ (xs : List Region). with_regions (pairs_of c.loop-region.regions.items) (pairs_of xs)) (sym rest) ∙ c.loop-region.invariant.2,
      subst (λ rs. T (map_of.is_sorted path_cmp rs)) (sym placed)
          (is_sorted-put path_cmp paths_total (c.in-Some.region).path (c.in-Some.region).tree (pairs_of c.loop-region.regions.items) c.loop-region.invariant.3),
      omega (arith, short, c.in-Some.ensures.steps.1, c.loop-region.invariant.4),
    )

pub returns : goal.returns
returns c =
    ap (λ (xs : List Region). with_regions (pairs_of c.loop-region.regions.items) (pairs_of xs)) (sym (nothing_left (into_iter_items c.loop-region.region-iterator) (sym c.loop-region.invariant.4 ∙ c.in-None.ensures.steps.0)))
    ∙ c.loop-region.invariant.2
