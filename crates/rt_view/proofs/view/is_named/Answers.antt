use Rattle.std.proofs.Common.{rules, tests}
use Rattle.std.specs.Cmp.Lexicographic.{texts_ties}
use Rattle.std.proofs.lemmas.Iterator.{YieldsList-from_slice}
use Rattle.std.proofs.lemmas.Iterator.Search.{any_from_yields_List}
use Rattle.rt_tree.specs.PathTree.{key_eq}
use Rattle.rt_view.proofs.view.is_named.Goals as goal

pub returns : goal.returns
returns c = any_from_yields_List (λ d. key_eq d.0 c.args.key.now) _ _ c.any.result c.any.ensures.ran (YieldsList-from_slice c.args.named.now (cc)) (λ x b q k. search (rules, tests, texts_ties))
