use Rattle.std.proofs.Common.{◌≡◌, ◌++◌, ◌∷◌, [], true, false, sym, subst}
use Rattle.std.proofs.lemmas.Result.{IfOk-weaker}
use Rattle.rt_tree.specs.PathTree.{Path, PathTree}
use Rattle.rt_writes.specs.Writes.{IsShallow, sets_whole}
use Rattle.rt_writes.specs.inside.ByNumber.{writes_of}
use Rattle.rt_writes.specs.inside.Spots.{AreApart, IsMergedAt, Laid, LaysAt, after, marked}
use Rattle.rt_writes.proofs.NumberLaws.{rising_of}
use Rattle.rt_writes.proofs.KeptLaws.{on_err}
use Rattle.rt_writes.proofs.RowLaws.{laid_both}
use Rattle.rt_writes.proofs.ShownLaws.{lays_shown, shallow_shown, touches_shown}
use Rattle.rt_writes.proofs.spots.lay_child.Goals as goal

pub put_shown-requires : goal.put_shown-requires
put_shown-requires c =
    (shallow_shown (writes_of c.args.writes.now) c.args.path.now c.args.key.now c.args.child.now c.args.last (rising_of (writes_of c.args.writes.now) c.requires.kept.rises) c.requires.apart c.requires.merged c.requires.none
    c.last_here-here.result c.in-Some.shown.now c.last_here-here.ensures c.in-Some.ensures c.keys-is_path.ensures.valid.short c.requires.kept.shallow).0

pub returns-in-Some-clause-laid : goal.returns-in-Some-clause-laid
returns-in-Some-clause-laid c =
    let x : Path = c.args.path.now ++ c.args.key.now ∷ [] in
    IfOk-weaker c.put_shown.result _ (Laid (LaysAt (writes_of c.args.writes.now) x c.args.last) c.args.path.now c.args.tree)
    (λ done e. (
      marked true (x, c.in-Some.shown.now),
      e c.args.path.now,
      lays_shown (writes_of c.args.writes.now) c.args.path.now c.args.key.now c.args.child.now c.args.last (rising_of (writes_of c.args.writes.now) c.requires.kept.rises) c.requires.apart c.requires.merged c.requires.none
          c.last_here-here.result c.in-Some.shown.now c.last_here-here.ensures c.in-Some.ensures,
    ))
    c.put_shown.ensures

pub returns-in-Some-clause-shallow : goal.returns-in-Some-clause-shallow
returns-in-Some-clause-shallow c =
    IfOk-weaker c.put_shown.result _ (λ done. IsShallow (c.args.path.now, done))
    (λ done e. subst (λ u. IsShallow (c.args.path.now, u)) (sym (e c.args.path.now))
    ((shallow_shown (writes_of c.args.writes.now) c.args.path.now c.args.key.now c.args.child.now c.args.last (rising_of (writes_of c.args.writes.now) c.requires.kept.rises) c.requires.apart c.requires.merged c.requires.none
    c.last_here-here.result c.in-Some.shown.now c.last_here-here.ensures c.in-Some.ensures c.keys-is_path.ensures.valid.short c.requires.kept.shallow).1 c.args.tree c.requires.tree))
    c.put_shown.ensures

pub returns-in-Some-clause-touched : goal.returns-in-Some-clause-touched
returns-in-Some-clause-touched c =
    on_err c.put_shown.result
    (touches_shown (writes_of c.args.writes.now) c.args.path.now c.args.key.now c.args.child.now c.args.last (rising_of (writes_of c.args.writes.now) c.requires.kept.rises) c.requires.apart c.requires.merged c.requires.none
    c.last_here-here.result c.in-Some.shown.now c.last_here-here.ensures c.in-Some.ensures)

pub returns-clause-laid : goal.returns-clause-laid
returns-clause-laid c =
    let ws = (writes_of c.args.writes.now) in
    IfOk-weaker c.lay_below.result _ (Laid (LaysAt ws (c.args.path.now ++ c.args.key.now ∷ []) c.args.last) c.args.path.now c.args.tree)
    (λ (three : PathTree) below.
    laid_both ws c.args.path.now c.args.key.now c.args.child.now c.args.last c.last_here-here.result c.args.path.now c.args.tree c.in_ok-done.done three c.last_here-here.ensures c.in_ok-done.ensures.laid
    (subst (λ l. (x : Path) → AreApart ws → IsMergedAt ws x c.args.child.now → sets_whole (after l ws) x ≡ false → Laid (LaysAt ws x l) c.args.path.now c.in_ok-done.done three) c.later.ensures below)
    c.requires.apart c.requires.merged c.requires.none)
    c.lay_below.ensures.laid
