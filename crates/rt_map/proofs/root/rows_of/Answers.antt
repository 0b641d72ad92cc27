use Rattle.std.proofs.Common.{rules, ◌≡◌, ◌∙◌, ap, sym, subst, arith, ◌<◌, ◌++◌, ◌∷◌, [], length}
use mathlib.Core.List.{append-nil}
use Rattle.std.proofs.lemmas.List.{nil_from_length}
use Rattle.std.specs.Vec.Iter.{into_iter_items}
use Rattle.rt_map.specs.inside.Joined.{joined, AllFilled}
use Rattle.rt_map.proofs.Parts.{joined-append, AllFilled-append, moved}
use Rattle.rt_map.proofs.root.rows_of.Goals as goal
use Rattle.rt_map.proofs.root.rows_of.Goals.{then-len-ge-MAX_CHUNKS+in_ok-push_row, else-len-ge-MAX_CHUNKS, then-not-is_empty+in_ok-push_row-2, else-not-is_empty}

pub loop-chunk-preserved : goal.loop-chunk-preserved
loop-chunk-preserved g c =
    let at = c.loop-chunk in
    let now = c.if-len-ge-MAX_CHUNKS in
    let kept : AllFilled now.rows.items × AllFilled now.open.items × (joined now.rows.items ++ joined now.open.items ≡ joined at.rows.items ++ joined at.open.items)
    = elim c.if-len-ge-MAX_CHUNKS.branch [
      | then-len-ge-MAX_CHUNKS+in_ok-push_row w ↦
          let empty : now.open.items ≡ [] = ap (λ v. v.items) (w.open-is ∙ w.replace-full.ensures.after) ∙ w.new.ensures.items in
          let full : w.replace-full.result.items ≡ at.open.items = ap (λ v. v.items) w.replace-full.ensures.value in (
            subst AllFilled (sym (ap (λ v. v.items) w.rows-is)) w.in_ok-push_row.ensures.filled,
            subst AllFilled (sym empty) tt,
            (λ i. joined (w.rows-is i).items ++ joined (empty i)) ∙ append-nil (joined w.push_row.new.rows.items) ∙ w.in_ok-push_row.ensures.entries ∙ ap (λ l. joined at.rows.items ++ joined l) full,
          )
      | else-len-ge-MAX_CHUNKS w ↦ (
        subst AllFilled (sym (ap (λ v. v.items) w.rows-is)) at.invariant.2,
        subst AllFilled (sym (ap (λ v. v.items) w.open-is)) at.invariant.3,
        (λ i. joined (w.rows-is i).items ++ joined (w.open-is i).items),
      )
    ] in
    let chunk = c.in-Some.chunk in
    let steps : into_iter_items at.chunk-iterator ≡ chunk ∷ into_iter_items c.next.new.self = c.in-Some.ensures.steps.0 in
    let left : (0 < length chunk.value) × AllFilled (into_iter_items c.next.new.self) = subst AllFilled steps at.invariant.4 in
    let more : joined c.push.new.self.items ≡ joined now.open.items ++ chunk.value
    = ap joined c.in_ok-push.ensures.items ∙ joined-append now.open.items (chunk ∷ []) ∙ ap (λ l. joined now.open.items ++ l) (append-nil chunk.value) in
    let gone = c.in-Some.ensures.steps.1 in
    let short = ap length steps in (
      tt,
      tt,
      kept.0,
      subst AllFilled (sym c.in_ok-push.ensures.items) (AllFilled-append now.open.items (chunk ∷ []) kept.1 (left.0, tt)),
      left.1,
      moved (joined now.rows.items) (joined now.open.items) (joined at.rows.items) (joined at.open.items) chunk.value (joined (into_iter_items at.chunk-iterator)) (joined (into_iter_items c.next.new.self))
          (joined (into_iter_items c.into_iter-chunk-iterator.result)) (joined c.push.new.self.items) kept.2 more (ap joined steps) at.invariant.5,
      omega (arith, at.invariant.6),
    )

pub returns-clause-entries : goal.returns-clause-entries
returns-clause-entries g c =
    let at = c.loop-chunk in
    let empty : into_iter_items at.chunk-iterator ≡ [] = nil_from_length _ (sym at.invariant.6 ∙ c.in-None.ensures.steps.0) in
    let all : joined at.rows.items ++ joined at.open.items ≡ joined c.args.chunks.items
    = ap (λ l. joined at.rows.items ++ l) (sym (append-nil (joined at.open.items)) ∙ ap (λ l. joined at.open.items ++ joined l) (sym empty)) ∙ at.invariant.5 ∙ ap joined c.into_iter-chunk-iterator.ensures.into_iter_gives.0 in
    elim c.if-not-is_empty.branch [
      | then-not-is_empty+in_ok-push_row-2 w ↦ ap (λ v. joined v.items) w.rows-is ∙ w.in_ok-push_row-2.ensures.entries ∙ all
      | else-not-is_empty w ↦
          let none : at.open.items ≡ [] = nil_from_length _ (search rules) in
          ap (λ v. joined v.items) w.rows-is ∙ sym (append-nil (joined at.rows.items)) ∙ ap (λ l. joined at.rows.items ++ joined l) (sym none) ∙ all
    ]
