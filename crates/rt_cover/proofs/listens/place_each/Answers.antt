use Rattle.std.proofs.Common.{◌≡◌, ◌++◌, ◌∷◌, [], List, length, ap, sym, subst, refl, arith, ◌∙◌, append_assoc, append-nil}
use Rattle.std.specs.Vec.Iter.{into_iter_items}
use Rattle.rt_cover.specs.Cover.{Tagged}
use Rattle.rt_cover.specs.inside.Index.{SameCounts}
use Rattle.rt_cover.proofs.CountLaws.{same_append, same_trans}
use Rattle.rt_cover.proofs.listens.place_each.Goals as goal

nothing_left : {X : Type 0} (xs : List X) → length xs ≡ 0 → xs ≡ []
nothing_left [] e = refl
nothing_left (x ∷ xs) e = absurd (omega arith)

pub place-requires-clause-sorted : goal.place-requires-clause-sorted
place-requires-clause-sorted c = c.loop-listen.invariant.1

pub place-requires-clause-room : goal.place-requires-clause-room
place-requires-clause-room c =
    let rest : into_iter_items c.loop-listen.listen-iterator ≡ c.in-Some.listen ∷ into_iter_items c.next.new.self = c.in-Some.ensures.steps.0 in
    omega (arith, c.loop-listen.invariant.0, ap length rest)

pub loop-listen-preserved : goal.loop-listen-preserved
loop-listen-preserved c =
    let left : List Tagged = into_iter_items c.next.new.self in
    let rest : into_iter_items c.loop-listen.listen-iterator ≡ c.in-Some.listen ∷ into_iter_items c.next.new.self = c.in-Some.ensures.steps.0 in
    let short = ap length rest in
    let old = c.loop-listen.by_path.items in
    let one : List Tagged = c.in-Some.listen ∷ [] in (
      omega (arith, c.loop-listen.invariant.0, c.place.ensures.len, c.place.ensures.room, short),
      c.place.ensures.sorted,
      same_trans (c.place.new.by_path.items ++ left) ((old ++ one) ++ left) (c.args.by_path.now.items ++ c.args.new.items)
          (same_append c.place.new.by_path.items (old ++ one) left c.place.ensures.same)
          (subst (λ xs. SameCounts xs (c.args.by_path.now.items ++ c.args.new.items)) (ap (λ xs. old ++ xs) rest ∙ sym (append_assoc old one left)) c.loop-listen.invariant.2),
      omega (arith, short, c.in-Some.ensures.steps.1, c.loop-listen.invariant.3),
    )

pub returns-clause-sorted : goal.returns-clause-sorted
returns-clause-sorted c = c.loop-listen.invariant.1

pub returns-clause-same : goal.returns-clause-same
returns-clause-same c =
    let done : into_iter_items c.loop-listen.listen-iterator ≡ [] = nothing_left (into_iter_items c.loop-listen.listen-iterator) (sym c.loop-listen.invariant.3 ∙ c.in-None.ensures.steps.0) in
    subst (λ xs. SameCounts xs (c.args.by_path.now.items ++ c.args.new.items)) (ap (λ xs. c.loop-listen.by_path.items ++ xs) done ∙ append-nil c.loop-listen.by_path.items) c.loop-listen.invariant.2
