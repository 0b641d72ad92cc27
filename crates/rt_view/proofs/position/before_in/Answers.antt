use Rattle.std.proofs.Common.{ap, ◌∙◌}
use Rattle.rt_map.specs.Maps.{last_below}
use Rattle.rt_tree.specs.Children.{children_of}
use Rattle.rt_tree.specs.PathTree.{key_cmp}
use Rattle.rt_view.proofs.OrderLaws.{before_words}
use Rattle.rt_view.proofs.position.before_in.Goals as goal

pub returns-in-Some : goal.returns-in-Some
returns-in-Some c =
    c.in-Some.ensures ∙ ap (last_below (key_cmp c.args.key.now)) c.in_ok-children.ensures.children
    ∙ before_words c.args.key.now (children_of c.args.known.now) c.requires.word c.requires.words

pub returns-in-None : goal.returns-in-None
returns-in-None c =
    c.in-None.ensures ∙ ap (last_below (key_cmp c.args.key.now)) c.in_ok-children.ensures.children
    ∙ before_words c.args.key.now (children_of c.args.known.now) c.requires.word c.requires.words
