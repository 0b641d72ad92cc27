use Rattle.std.proofs.Common.{◌≡◌, Option, Some, None, Bor, is_some, not, refl, sym, ap, ◌∙◌}
use Rattle.std.specs.Option.{option_copied}
use Rattle.rt_tree.specs.PathTree.{non_null, sub}
use Rattle.rt_tree.specs.Trees.{tree_eq}
use Rattle.rt_peer.proofs.PartLaws.{part-none}
use Rattle.rt_peer.proofs.StandingLaws.{none_eq}
use Rattle.rt_peer.proofs.write.is_same_at.Goals as goal

copied_some : {X : Type 0} (o : Option (Bor X)) → is_some (option_copied o) ≡ is_some o
copied_some None = refl
copied_some (Some x) = refl

pub returns-in-None : goal.returns-in-None
returns-in-None c =
    let u = sub c.args.before.now c.args.path.now in
    let some : is_some (non_null u) ≡ not c.is_none.result =
    ap is_some (sym c.get-in-None.ensures) ∙ copied_some c.get-in-None.result ∙ c.is_none.ensures in
    none_eq u c.is_none.result some ∙ ap (tree_eq u) (part-none _ c.in-None.ensures)
