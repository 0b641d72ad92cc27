use Rattle.std.proofs.Common.{◌≡◌, true, length, Some, refl, sym, subst, ap, ◌∙◌, rules, tests}
use Rattle.std.specs.Cmp.Lexicographic.{texts_ties}
use Rattle.std.specs.List.{slice_get}
use Rattle.std.proofs.lemmas.Bool.{ltb-true}
use Rattle.std.proofs.lemmas.Option.{slice_get_read}
use Rattle.rt_tree.specs.PathTree.{Key, PathTree, key_eq, child_of}
use Rattle.rt_tree.specs.TreeEq.{key_eq_tells}
use Rattle.rt_view.proofs.DifferLaws.{child_at_place}
use Rattle.rt_view.proofs.Listed.{each_once}
use Rattle.rt_view.proofs.difference.child_there.Goals as goal

pub returns-then-eq : goal.returns-then-eq
returns-then-eq c =
    let list = c.args.list.now in
    let child = c.in_ok-child.child.now in
    let there : slice_get list c.args.place ≡ Some child =
    slice_get_read list (length list) c.args.place child refl (ltb-true c.args.place (length list) (sym c.in_ok-child.ensures.lookup.0)) c.in_ok-child.ensures.lookup.1 in
    let equal : key_eq child.0 c.args.key.now ≡ true = search (rules, tests, texts_ties) in
    let same : child.0 ≡ c.args.key.now = (key_eq_tells child.0 c.args.key.now).0 equal in
    subst (λ (k : Key). child_of list k ≡ Some child.1) same (child_at_place list c.args.place child (each_once list c.requires) there) ∙ ap (λ (e : Key × PathTree). Some e.1) (sym c.child.view_is)
