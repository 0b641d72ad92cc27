use Rattle.std.proofs.Common.{◌≡◌, List, sym, subst, rules}
use Rattle.std.specs.List.Sorted.{IsStrictlySortedBy}
use Rattle.std.specs.Map.{keys_of}
use Rattle.rt_tree.specs.PathTree.{Key, PathTree, key_cmp}
use Rattle.rt_view.proofs.difference.listed.Goals as goal

pub returns-clause-rises : goal.returns-clause-rises
returns-clause-rises c =
    let all : c.loop-key.list.items ≡ c.args.children.now.entries = search rules in
    subst (λ (es : List (Key × PathTree)). IsStrictlySortedBy key_cmp (keys_of es)) (sym all) c.len.ensures.ordered
