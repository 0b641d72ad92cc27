use Rattle.std.proofs.Common.{◌≡◌, true, sym, subst, rules}
use Rattle.std.specs.FinMap as map_of
use Rattle.rt_tree.specs.PathTree.{PathTree, is_null}
use Rattle.rt_order.specs.Entries.{Entry, entry, entry_cmp}
use Rattle.rt_view.specs.declared.window.Turned.{Turned}
use Rattle.rt_view.specs.inside.Turns.{Comes, Spills}
use Rattle.rt_view.specs.inside.Windows.{is_there, shown_in}
use Rattle.rt_view.proofs.CrossLaws.{both_ok, comes_null, comes_put}
use Rattle.rt_view.proofs.touch.bring_in.Goals as goal

pub returns-then-is_null-clause-comes : goal.returns-then-is_null-clause-comes
returns-then-is_null-clause-comes c listed stands =
    let q = c.args.query.now in
    let es = shown_in c.args.window.now in
    let null : is_null c.args.child.now ≡ true = search rules in
    subst (λ (r : Turned). Comes c.args.key.now c.args.child.now r.was r.is r.crossed es es) (sym c.none.ensures) (comes_null q c.args.key.now c.args.child.now es stands null)

pub returns-clause-comes : goal.returns-clause-comes
returns-clause-comes c =
    let q = c.args.query.now in
    let k = c.args.key.now in
    let es = shown_in c.args.window.now in
    let after = shown_in c.put.new.self in
    let v : PathTree = c.args.child.now in
    let position : c.in_ok-position.position ≡ entry q.index (k, v) = search rules in
    let copy : c.in_ok-child.child ≡ v = search rules in
    both_ok c.put.result _ _ _
    (λ turned was crosses listed stands.
    comes_put q.index k v es after listed (λ x g. (stands x g).1) turned
    (subst (λ (e : Entry). turned.was ≡ is_there e es) position was)
    (subst (λ (u : PathTree). Spills turned es (map_of.put entry_cmp (entry q.index (k, v)) u es) after) copy
    (subst (λ (e : Entry). Spills turned es (map_of.put entry_cmp e c.in_ok-child.child es) after) position crosses)))
    c.put.ensures.was c.put.ensures.crosses
