use Rattle.std.proofs.Common.{◌+◌, drop, sym, ap, ◌∙◌, arith}
use Rattle.std.proofs.lemmas.List.{drop_all}
use Rattle.std.proofs.lemmas.Result.{err_from_is_err_and}
use Rattle.rt_tree.specs.Named.{by_name, children_fault}
use Rattle.rt_tree.proofs.Named.{next_named, fault_of_name, fault_of_child, deep_child, shallow_child}
use Rattle.rt_tree.proofs.tree.names.check_children.Goals as goal

pub returns-in_err-check_key : goal.returns-in_err-check_key
returns-in_err-check_key c =
    let l = c.loop-entry in
    let x = c.entry-item.result in
    let p = err_from_is_err_and c.from_residual.result c.from_residual.ensures.1 in
    rw (p.1, p.2)
    (sym (l.invariant ∙ next_named c.args.children.now l.entry-index x c.loop-entry-test.true c.entry-item.is
    ∙ fault_of_name x.0.now x.1 (by_name (drop (l.entry-index + 1) c.args.children.now)) c.in_err-check_key.field-0.0 (sym c.in_err-check_key.ensures)))

pub returns-then-levels-ge-MAX_LEVELS : goal.returns-then-levels-ge-MAX_LEVELS
returns-then-levels-ge-MAX_LEVELS c =
    let l = c.loop-entry in
    let x = c.entry-item.result in
    sym (l.invariant ∙ next_named c.args.children.now l.entry-index x c.loop-entry-test.true c.entry-item.is
    ∙ fault_of_child x.0.now x.1 (by_name (drop (l.entry-index + 1) c.args.children.now)) (sym c.in_ok-check_key.ensures) ∙ deep_child x.1 (by_name (drop (l.entry-index + 1) c.args.children.now)) (omega (arith, c.levels.ensures.levels, c.if-levels-ge-MAX_LEVELS.true)))

pub loop-entry-preserved : goal.loop-entry-preserved
loop-entry-preserved c =
    let l = c.loop-entry in
    let x = c.entry-item.result in
    l.invariant ∙ next_named c.args.children.now l.entry-index x c.loop-entry-test.true c.entry-item.is
    ∙ fault_of_child x.0.now x.1 (by_name (drop (l.entry-index + 1) c.args.children.now)) (sym c.in_ok-check_key.ensures) ∙ shallow_child x.1 (by_name (drop (l.entry-index + 1) c.args.children.now)) (omega (arith, c.levels.ensures.levels, c.if-levels-ge-MAX_LEVELS.false))

pub returns : goal.returns
returns c =
    let l = c.loop-entry in
    sym (l.invariant ∙ ap (λ ys. children_fault (by_name ys)) (drop_all l.entry-index c.args.children.now c.loop-entry-test.false))
