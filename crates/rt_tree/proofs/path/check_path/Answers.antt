use Rattle.std.proofs.Common.{◌<◌, ◌==◌, lit<, ap, sym, subst, not, ◌∙◌, arith}
use Rattle.std.specs.List.{filter, slice_split}
use Rattle.std.proofs.lemmas.Result.{err_from_is_err_and}
use Rattle.std.proofs.lemmas.Iterator.Splits.{YieldsList-from_str_split}
use Rattle.rt_tree.specs.Path.{is_nonempty}
use Rattle.rt_tree.proofs.PathLemmas.{Coming, comes_next, comes_none, fault_after, fault_after-start, fault_after-nil, fault_after-full, fault_after-fault, fault_after-key, filter-empty, key_first}
use Rattle.rt_tree.proofs.path.check_path.Goals as goal

pub loop-piece-init : goal.loop-piece-init
loop-piece-init c = (
  omega arith,
  (
    _,
    subst (λ it. Coming it (slice_split (λ b. b == 47) c.args.text.now)) (sym c.into_iter-piece-iterator.ensures.into_iter_gives)
        (YieldsList-from_str_split 47 c.args.text.now (lit< tt) c.split-piece-items.ensures.text c.split-piece-items.ensures.has_more c.split-piece-items.ensures.pattern).runs,
    fault_after-start c.args.text.now,
  ),
)

pub loop-piece-preserved-then-is_empty : goal.loop-piece-preserved-then-is_empty
loop-piece-preserved-then-is_empty c =
    let kept = c.loop-piece.invariant in
    let next = comes_next c.loop-piece.piece-iterator c.next.new.self c.in-Some.piece kept.1.0 kept.1.1 c.in-Some.ensures.steps in (
      kept.0,
      (
        next.0,
        next.2,
        kept.1.2 ∙ ap (λ pieces. fault_after c.loop-piece.count (filter is_nonempty pieces)) next.1
            ∙ ap (fault_after c.loop-piece.count) (filter-empty c.in-Some.piece.now next.0 (ap not (sym c.is_empty.ensures ∙ c.if-is_empty.true))),
      ),
    )

pub returns-then-count-eq-MAX_KEYS : goal.returns-then-count-eq-MAX_KEYS
returns-then-count-eq-MAX_KEYS c =
    let kept = c.loop-piece.invariant in
    let next = comes_next c.loop-piece.piece-iterator c.next.new.self c.in-Some.piece kept.1.0 kept.1.1 c.in-Some.ensures.steps in
    sym (kept.1.2 ∙ key_first c.loop-piece.count c.in-Some.piece.now kept.1.0 next.0 next.1 (ap not (sym c.is_empty.ensures ∙ c.if-is_empty.false))
    ∙ fault_after-full c.loop-piece.count c.in-Some.piece.now (filter is_nonempty next.0) c.if-count-eq-MAX_KEYS.true)

pub returns-in_err-check_key : goal.returns-in_err-check_key
returns-in_err-check_key c =
    let kept = c.loop-piece.invariant in
    let next = comes_next c.loop-piece.piece-iterator c.next.new.self c.in-Some.piece kept.1.0 kept.1.1 c.in-Some.ensures.steps in
    let p = err_from_is_err_and c.from_residual.result c.from_residual.ensures.1 in
    rw (p.1, p.2)
    (sym (kept.1.2 ∙ key_first c.loop-piece.count c.in-Some.piece.now kept.1.0 next.0 next.1 (ap not (sym c.is_empty.ensures ∙ c.if-is_empty.false))
    ∙ fault_after-fault c.loop-piece.count c.in-Some.piece.now (filter is_nonempty next.0) c.in_err-check_key.field-0.0 (omega (arith, kept.0, c.if-count-eq-MAX_KEYS.false)) (sym c.in_err-check_key.ensures)))

pub loop-piece-preserved : goal.loop-piece-preserved
loop-piece-preserved c =
    let kept = c.loop-piece.invariant in
    let few : c.loop-piece.count < 32 = omega (arith, kept.0, c.if-count-eq-MAX_KEYS.false) in
    let next = comes_next c.loop-piece.piece-iterator c.next.new.self c.in-Some.piece kept.1.0 kept.1.1 c.in-Some.ensures.steps in (
      omega arith,
      (
        next.0,
        next.2,
        kept.1.2 ∙ key_first c.loop-piece.count c.in-Some.piece.now kept.1.0 next.0 next.1 (ap not (sym c.is_empty.ensures ∙ c.if-is_empty.false))
            ∙ fault_after-key c.loop-piece.count c.in-Some.piece.now (filter is_nonempty next.0) few (sym c.in_ok-check_key.ensures),
      ),
    )

pub returns : goal.returns
returns c =
    let kept = c.loop-piece.invariant in
    sym (kept.1.2 ∙ ap (λ pieces. fault_after c.loop-piece.count (filter is_nonempty pieces)) (comes_none c.loop-piece.piece-iterator c.next.new.self kept.1.0 kept.1.1 c.in-None.ensures.steps) ∙ fault_after-nil c.loop-piece.count kept.0)
