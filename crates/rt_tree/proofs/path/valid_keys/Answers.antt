use Rattle.std.proofs.Common.{◌==◌, [], ◌∷◌, ◌++◌, lit<, ap, sym, subst, not, ◌∙◌, append_assoc, append-nil}
use Rattle.std.specs.List.{filter, slice_split}
use Rattle.std.proofs.lemmas.Iterator.Splits.{YieldsList-from_str_split}
use Rattle.rt_tree.specs.Path.{path_keys, is_nonempty}
use Rattle.rt_tree.proofs.PathLemmas.{Coming, comes_next, comes_none, filter-empty, next_key, next_is_key}
use Rattle.rt_tree.proofs.path.valid_keys.Goals as goal

pub loop-piece-init : goal.loop-piece-init
loop-piece-init c = (
  _,
  subst (λ it. Coming it (slice_split (λ b. b == 47) c.args.text.now)) (sym c.into_iter-piece-iterator.ensures.into_iter_gives)
      (YieldsList-from_str_split 47 c.args.text.now (lit< tt) c.split-piece-items.ensures.text c.split-piece-items.ensures.has_more c.split-piece-items.ensures.pattern).runs,
  ap (λ ks. ks ++ path_keys c.args.text.now) c.new-keys.ensures.items,
)

pub valid_key-requires : goal.valid_key-requires
valid_key-requires c =
    let kept = c.loop-piece.invariant in
    let next = comes_next c.loop-piece.piece-iterator c.next.new.self c.in-Some.piece kept.0 kept.1 c.in-Some.ensures.steps in
    next_is_key c.loop-piece.keys.items c.in-Some.piece.now (filter is_nonempty next.0) (path_keys c.args.text.now) c.requires
    (next_key c.loop-piece.keys.items c.in-Some.piece.now kept.0 next.0 (path_keys c.args.text.now) kept.2 next.1 (ap not (sym c.is_empty.ensures ∙ c.if-not-is_empty.true)))

pub loop-piece-preserved-in_ok-push : goal.loop-piece-preserved-in_ok-push
loop-piece-preserved-in_ok-push c =
    let kept = c.loop-piece.invariant in
    let next = comes_next c.loop-piece.piece-iterator c.next.new.self c.in-Some.piece kept.0 kept.1 c.in-Some.ensures.steps in (
      next.0,
      next.2,
      ap (λ ks. ks ++ filter is_nonempty next.0) (c.in_ok-push.ensures.items ∙ ap (λ key. c.loop-piece.keys.items ++ key ∷ []) c.in_ok-valid_key.ensures)
          ∙ append_assoc c.loop-piece.keys.items (c.in-Some.piece.now ∷ []) (filter is_nonempty next.0)
          ∙ next_key c.loop-piece.keys.items c.in-Some.piece.now kept.0 next.0 (path_keys c.args.text.now) kept.2 next.1 (ap not (sym c.is_empty.ensures ∙ c.if-not-is_empty.true)),
    )

pub loop-piece-preserved : goal.loop-piece-preserved
loop-piece-preserved c =
    let kept = c.loop-piece.invariant in
    let next = comes_next c.loop-piece.piece-iterator c.next.new.self c.in-Some.piece kept.0 kept.1 c.in-Some.ensures.steps in (
      next.0,
      next.2,
      ap (λ ks. c.loop-piece.keys.items ++ ks) (sym (ap (filter is_nonempty) next.1 ∙ filter-empty c.in-Some.piece.now next.0 (ap not (sym c.is_empty.ensures ∙ c.if-not-is_empty.false)))) ∙ kept.2,
    )

pub returns : goal.returns
returns c =
    let kept = c.loop-piece.invariant in
    sym (append-nil c.loop-piece.keys.items) ∙ ap (λ ps. c.loop-piece.keys.items ++ filter is_nonempty ps) (sym (comes_none c.loop-piece.piece-iterator c.next.new.self kept.0 kept.1 c.in-None.ensures.steps)) ∙ kept.2
