use Rattle.std.proofs.Common.{rules, ◌≡◌, ◌∙◌, ap, sym, subst, arith, ◌++◌, ◌∷◌, [], length}
use mathlib.Core.List.{append-nil}
use Rattle.std.proofs.lemmas.List.{nil_from_length}
use Rattle.std.specs.Vec.Iter.{into_iter_items}
use Rattle.rt_map.specs.inside.Joined.{joined, AllFilled}
use Rattle.rt_map.proofs.Parts.{moved}
use Rattle.rt_map.proofs.root.chunks_of.Goals as goal
use Rattle.rt_map.proofs.root.chunks_of.Goals.{then-len-ge-MAX_ENTRIES+in_ok-next+in_ok-push_chunk, else-len-ge-MAX_ENTRIES, then-not-is_empty+in_ok-push_chunk-2, else-not-is_empty}

pub loop-entry-preserved : goal.loop-entry-preserved
loop-entry-preserved g c =
    let at = c.loop-entry in
    let now = c.if-len-ge-MAX_ENTRIES in
    let kept : AllFilled now.chunks.items × (joined now.chunks.items ++ now.open.items ≡ joined at.chunks.items ++ at.open.items)
    = elim c.if-len-ge-MAX_ENTRIES.branch [
      | then-len-ge-MAX_ENTRIES+in_ok-next+in_ok-push_chunk w ↦
          let none : w.in_ok-next.next.items ≡ [] = search rules in
          let empty : now.open.items ≡ [] = ap (λ v. v.items) (w.open-is ∙ w.replace-full.ensures.after) ∙ none in
          let full : w.replace-full.result.items ≡ at.open.items = ap (λ v. v.items) w.replace-full.ensures.value in (
            subst AllFilled (sym (ap (λ v. v.items) w.chunks-is)) w.in_ok-push_chunk.ensures.filled,
            (λ i. joined (w.chunks-is i).items ++ empty i) ∙ append-nil (joined w.push_chunk.new.chunks.items) ∙ w.in_ok-push_chunk.ensures.entries ∙ ap (λ l. joined at.chunks.items ++ l) full,
          )
      | else-len-ge-MAX_ENTRIES w ↦ (
        subst AllFilled (sym (ap (λ v. v.items) w.chunks-is)) at.invariant.2,
        (λ i. joined (w.chunks-is i).items ++ (w.open-is i).items),
      )
    ] in
    let steps : into_iter_items at.entry-iterator ≡ c.in-Some.entry ∷ into_iter_items c.next.new.self = c.in-Some.ensures.steps.0 in
    let gone = c.in-Some.ensures.steps.1 in
    let short = ap length steps in (
      tt,
      tt,
      kept.0,
      moved (joined now.chunks.items) now.open.items (joined at.chunks.items) at.open.items (c.in-Some.entry ∷ []) (into_iter_items at.entry-iterator) (into_iter_items c.next.new.self)
          (into_iter_items c.into_iter-entry-iterator.result) c.push.new.self.items kept.1 c.in_ok-push.ensures.items steps at.invariant.3,
      omega (arith, at.invariant.4),
    )

pub returns-clause-entries : goal.returns-clause-entries
returns-clause-entries g c =
    let at = c.loop-entry in
    let empty : into_iter_items at.entry-iterator ≡ [] = nil_from_length _ (sym at.invariant.4 ∙ c.in-None.ensures.steps.0) in
    let all : joined at.chunks.items ++ at.open.items ≡ c.args.entries.items
    = ap (λ l. joined at.chunks.items ++ l) (sym (append-nil at.open.items) ∙ ap (λ l. at.open.items ++ l) (sym empty)) ∙ at.invariant.3 ∙ c.into_iter-entry-iterator.ensures.into_iter_gives.0 in
    elim c.if-not-is_empty.branch [
      | then-not-is_empty+in_ok-push_chunk-2 w ↦ ap (λ v. joined v.items) w.chunks-is ∙ w.in_ok-push_chunk-2.ensures.entries ∙ all
      | else-not-is_empty w ↦
          let none : at.open.items ≡ [] = nil_from_length _ (search rules) in
          ap (λ v. joined v.items) w.chunks-is ∙ sym (append-nil (joined at.chunks.items)) ∙ ap (λ l. joined at.chunks.items ++ l) (sym none) ∙ all
    ]
