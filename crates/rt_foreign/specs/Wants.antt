-- Which kinds of changes a seat's listeners are told, and what they are told then.
use Rattle.std.specs.Prelude.{ℕ, ◌==◌, ◌/◌, ◌%◌, List, Option, Some, None}
use Rattle.std.specs.BTreeMap.{insert_entry, is_at}
use Rattle.std.specs.Map.{lookup, remove_entry}
use Rattle.std.specs.Ordering.{nat_cmp}
use Rattle.rt_view.specs.declared.change.Batch.{Batch}
use Rattle.rt_view.specs.declared.change.Kinds.{Kinds}
use Rattle.rt_view.specs.Kinds.{of_kinds}
use Rattle.rt_mail.specs.declared.item.Item.{Item}
use Rattle.rt_mail.specs.declared.item.Item.TheVariants as item
use Rattle.rt_mail.specs.declared.item.Receipt.TheVariants.{Listened, Unlistened, Wrote, Asked}

-- the kinds that bits ask for: 1 removed, 2 added, 4 moved, 8 changed, 16 the value
abbrev pub kinds_of : ℕ → Kinds
kinds_of bits = record {
  removed = bits % 2 == 1;
  added = bits / 2 % 2 == 1;
  moved = bits / 4 % 2 == 1;
  changed = bits / 8 % 2 == 1;
  value = bits / 16 % 2 == 1;
}

-- the kinds by the numbers of listeners, which rise; a listener that is not named is told all
abbrev pub Wants : Type 0
Wants = List (ℕ × Kinds)

-- what a listener is told, where it isn't all
abbrev pub wanted : ℕ → Wants → Option Kinds
wanted listener wants = lookup (is_at (nat_cmp listener)) wants

-- a listener is told these kinds from then on
abbrev pub with_want : ℕ → Kinds → Wants → Wants
with_want listener kinds wants = insert_entry nat_cmp wants listener kinds

-- a listener has ended
abbrev pub ended : ℕ → Wants → Wants
ended listener wants = remove_entry (is_at (nat_cmp listener)) wants

-- a batch with these kinds alone, in its order
abbrev pub told_batch : Option Kinds → Batch → Batch
told_batch None batch = batch
told_batch (Some kinds) batch = record batch { changes = of_kinds kinds batch.changes }

-- an item as it is told
abbrev pub told : Wants → Item → Item
told wants (item.Receipt receipt) = item.Receipt receipt
told wants (item.Batch batch) = item.Batch (told_batch (wanted batch.listener wants) batch)
told wants (item.Settled id why) = item.Settled id why
told wants (item.Cancelled listener why) = item.Cancelled listener why

-- what is wanted once an item is given: with the last of a listener goes what was said of it
abbrev pub after_given : Wants → Item → Wants
after_given wants (item.Receipt (Listened listener query)) = wants
after_given wants (item.Receipt (Unlistened listener)) = ended listener wants
after_given wants (item.Receipt (Wrote id what)) = wants
after_given wants (item.Receipt (Asked id what)) = wants
after_given wants (item.Batch batch) = wants
after_given wants (item.Settled id why) = wants
after_given wants (item.Cancelled listener why) = ended listener wants
