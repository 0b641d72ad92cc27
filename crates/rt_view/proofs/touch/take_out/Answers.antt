use Rattle.std.specs.Prelude.{OnOk}
use Rattle.std.proofs.Common.{◌≡◌, true, false, ap, Option, Some, None, sym, subst, ◌∙◌, rules}
use Rattle.std.specs.Option.{option_copied}
use Rattle.rt_tree.specs.PathTree.{PathTree}
use Rattle.rt_order.specs.Entries.{Entry, entry}
use Rattle.rt_view.specs.declared.window.Turned.{Turned}
use Rattle.rt_view.specs.inside.Telling.{left_by, takes_place}
use Rattle.rt_view.specs.inside.Turns.{Leaves, Refills}
use Rattle.rt_view.specs.inside.Windows.{Becomes, Entries, all_of, is_there, without, rest_in, shown_in}
use Rattle.rt_view.proofs.CrossLaws.{both_ok, leaves_none, leaves_place, leaves_taken}
use Rattle.rt_view.proofs.BesideLaws.{left_taken}
use Rattle.rt_view.proofs.touch.take_out.Goals as goal

pub returns-in_default-clause-leaves : goal.returns-in_default-clause-leaves
returns-in_default-clause-leaves c t kept is =
    let q = c.args.query.now in
    let k = c.args.key.now in
    let w = c.args.window.now in
    let none : option_copied c.args.child ≡ None = search rules in
    subst (λ (r : Turned). Leaves q k (option_copied c.args.child) c.args.new.now r.was r.crossed (shown_in w) (shown_in w)) (sym c.none.ensures)
    (subst (λ (o : Option PathTree). Leaves q k o c.args.new.now false None (shown_in w) (shown_in w)) (sym none)
    (leaves_none q t w k kept c.args.new.now (is ∙ none)))

pub returns-then-takes_place-clause-leaves : goal.returns-then-takes_place-clause-leaves
returns-then-takes_place-clause-leaves c t kept is =
    let q = c.args.query.now in
    let k = c.args.key.now in
    let w = c.args.window.now in
    let there : option_copied c.args.child ≡ Some c.in-Some.child.now = search rules in
    let takes : takes_place q.index c.in-Some.child.now c.args.new.now ≡ true = search rules in
    subst (λ (r : Turned). Leaves q k (option_copied c.args.child) c.args.new.now r.was r.crossed (shown_in w) (shown_in w)) (sym c.none-then-takes_place.ensures)
    (subst (λ (o : Option PathTree). Leaves q k o c.args.new.now false None (shown_in w) (shown_in w)) (sym there)
    (leaves_place q t w k kept c.in-Some.child.now c.args.new.now (is ∙ there) takes))

pub returns-clause-leaves : goal.returns-clause-leaves
returns-clause-leaves c =
    let q = c.args.query.now in
    let k = c.args.key.now in
    let w = c.args.window.now in
    let after = shown_in c.take.new.self in
    let v : PathTree = c.in-Some.child.now in
    let there : option_copied c.args.child ≡ Some v = search rules in
    let position : c.in_ok-position.position ≡ entry q.index (k, v) = search rules in
    both_ok c.take.result _ _ _
    (λ turned was crosses t kept is.
    subst (λ (o : Option PathTree). Leaves q k o c.args.new.now turned.was turned.crossed (shown_in w) after) (sym there)
    (leaves_taken q t w k kept v c.args.new.now (is ∙ there) turned after
    (subst (λ (e : Entry). turned.was ≡ is_there e (shown_in w)) position was)
    (subst (λ (e : Entry). Refills turned (rest_in w) (without e (shown_in w)) after) position crosses)))
    c.take.ensures.was c.take.ensures.crosses

pub returns-clause-taken : goal.returns-clause-taken
returns-clause-taken c =
    let q = c.args.query.now in
    let k = c.args.key.now in
    let w = c.args.window.now in
    let v : PathTree = c.in-Some.child.now in
    let there : option_copied c.args.child ≡ Some v = search rules in
    let takes : takes_place q.index v c.args.new.now ≡ false = search rules in
    let position : c.in_ok-position.position ≡ entry q.index (k, v) = search rules in
    let all : without c.in_ok-position.position (all_of w) ≡ left_by q k (option_copied c.args.child) c.args.new.now (all_of w) =
    ap (λ (e : Entry). without e (all_of w)) position ∙ left_taken q k (option_copied c.args.child) v c.args.new.now w c.requires.range there takes in
    subst (λ (es : Entries). OnOk c.take.result (Becomes w c.take.new.self es)) all c.take.ensures.taken
