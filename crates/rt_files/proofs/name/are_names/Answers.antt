use Rattle.std.proofs.Common.{◌==◌, ◌&&◌, lit<, refl, ap, sym, subst, ◌∙◌}
use Rattle.std.specs.List.{list_all, slice_split}
use Rattle.std.proofs.lemmas.Iterator.Splits.{YieldsList-from_str_split}
use Rattle.rt_files.specs.Names.{is_name}
use Rattle.rt_files.proofs.Pieces.{Coming, comes_next, comes_none, first_says}
use Rattle.rt_files.proofs.name.are_names.Goals as goal

pub loop-piece-init : goal.loop-piece-init
loop-piece-init c = (
  _,
  subst (λ it. Coming it (slice_split (λ b. b == 47) c.args.text.now))
      (sym c.into_iter-piece-iterator.ensures.into_iter_gives)
      (YieldsList-from_str_split 47 c.args.text.now (lit< tt) c.split-piece-items.ensures.text
      c.split-piece-items.ensures.has_more c.split-piece-items.ensures.pattern).runs,
  refl,
)

pub returns-then-not-is_name : goal.returns-then-not-is_name
returns-then-not-is_name c =
    let kept = c.loop-piece.invariant in
    let next = comes_next c.loop-piece.piece-iterator c.next.new.self c.in-Some.piece kept.0 kept.1 c.in-Some.ensures.steps in
    sym (kept.2
    ∙ first_says c.in-Some.piece.now kept.0 next.0 c.is_name.result next.1 c.is_name.ensures
    ∙ ap (λ b. b && list_all is_name next.0) c.if-not-is_name.true)

pub loop-piece-preserved : goal.loop-piece-preserved
loop-piece-preserved c =
    let kept = c.loop-piece.invariant in
    let next = comes_next c.loop-piece.piece-iterator c.next.new.self c.in-Some.piece kept.0 kept.1 c.in-Some.ensures.steps in (
      next.0,
      next.2,
      kept.2
          ∙ first_says c.in-Some.piece.now kept.0 next.0 c.is_name.result next.1 c.is_name.ensures
          ∙ ap (λ b. b && list_all is_name next.0) c.if-not-is_name.false,
    )

pub returns : goal.returns
returns c =
    let kept = c.loop-piece.invariant in
    sym (kept.2
    ∙ ap (list_all is_name)
    (comes_none c.loop-piece.piece-iterator c.next.new.self kept.0 kept.1 c.in-None.ensures.steps))
