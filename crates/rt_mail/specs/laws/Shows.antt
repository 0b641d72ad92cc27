-- What is shown of a listener is the view whose tree was told.
use Rattle.std.specs.Prelude.{◌≡◌, Some}
use Rattle.rt_tree.specs.PathTree.{PathTree}
use Rattle.rt_query.specs.Queries.{Query}
use Rattle.rt_query.specs.Select.{select, tree_of}
use Rattle.rt_mail.specs.Snapshots.{Seen, shown_of}

-- what a query shows of the tree of what it shows is the same
abbrev pub SelectsAgain : Type 0
SelectsAgain = (q : Query) (t : PathTree) → select q (tree_of (select q t)) ≡ select q t

-- a listener that was told the tree of its view is shown with that view: its rows, in order, and its leaf
abbrev pub ShowsTheView : Type 0
ShowsTheView =
    (s : Seen) (t : PathTree) → s.value ≡ Some (tree_of (select s.query t))
    → shown_of s ≡ Some (select s.query t)
