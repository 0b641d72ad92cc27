-- Outside examples, which the prover computes: what is known after some items, and what is not.
use Rattle.std.specs.Prelude.{◌≡◌, ℕ, [], ◌∷◌, pos, Option, Some, None, codes}
use Rattle.rt_tree.specs.Leaf.{number}
use Rattle.rt_tree.specs.PathTree.{PathTree, null, of_leaf}
use Rattle.rt_query.specs.Queries.{plain}
use Rattle.rt_view.specs.declared.change.Change.TheVariants.{Value}
use Rattle.rt_mail.specs.declared.item.Item.{Item}
use Rattle.rt_mail.specs.declared.item.Item.TheVariants as item
use Rattle.rt_mail.specs.declared.item.Receipt.TheVariants.{Listened}
use Rattle.rt_mail.specs.Snapshots.{Known, after_items}

-- a listener of the root, and what it is told to show
abbrev pub listens : Item
listens = item.Receipt (Listened 1 (plain []))

abbrev pub told : ℕ → PathTree → Item
told n tree = item.Batch (record { listener = n; changes = Value tree ∷ [] })

abbrev pub leaf : PathTree
leaf = of_leaf (number (pos 5))

-- what is known of it alone
abbrev pub alone : Option PathTree → Known
alone value = (1, record { query = plain []; value = value }) ∷ []

-- nothing is known at first; then that nothing is there; then a leaf; and once it is cancelled it is gone
abbrev pub KnowsInTurn : Type 0
KnowsInTurn =
    (after_items [] (listens ∷ []) ≡ alone None)
    × (after_items [] (listens ∷ told 1 null ∷ []) ≡ alone (Some null))
    × (after_items [] (listens ∷ told 1 null ∷ told 1 leaf ∷ []) ≡ alone (Some leaf))
    × (after_items [] (listens ∷ told 1 leaf ∷ item.Cancelled 1 (codes "denied") ∷ []) ≡ [])

-- another's batch is not its own, and a batch before the receipt is of nobody
abbrev pub KnowsItsOwn : Type 0
KnowsItsOwn =
    (after_items [] (listens ∷ told 2 leaf ∷ []) ≡ alone None)
    × (after_items [] (told 1 leaf ∷ listens ∷ []) ≡ alone None)
