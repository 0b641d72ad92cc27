-- Mailboxes: what one who takes a seat's items knows after them.
use Rattle.std.specs.Prelude.{ℕ, not, if◌then◌else◌, List, [], ◌∷◌, map, ◌==◌, nat_le, Option}
use Rattle.std.specs.List.{filter, find, fold}
use Rattle.std.specs.Option.{option_map}
use Rattle.rt_tree.specs.PathTree.{Key, PathTree}
use Rattle.rt_view.specs.declared.change.Change.{Change}
use Rattle.rt_view.specs.Changes.{replay}
use Rattle.rt_mail.specs.declared.item.Item.{Item}
use Rattle.rt_mail.specs.declared.item.Item.TheVariants as item
use Rattle.rt_mail.specs.declared.item.Receipt.{Receipt}
use Rattle.rt_mail.specs.declared.item.Receipt.TheVariants.{Listened, Unlistened, Wrote, Asked}

-- the rows of a view by their keys
abbrev pub Children : Type 0
Children = List (Key × PathTree)

-- what is known: the listeners with their children, and the unsettled requests, each by number
pub record Known : Type 0 where
  pub listeners : List (ℕ × Children)
  pub requests : List ℕ

-- before any item
abbrev pub nothing_known : Known
nothing_known = record { listeners = []; requests = [] }

-- the listeners with a new one, in its place, which has no children; one that is there stays as it is
abbrev pub with_listener : ℕ → List (ℕ × Children) → List (ℕ × Children)
with_listener n [] = (n, []) ∷ []
with_listener n (l ∷ ls) =
    if nat_le n l.0
    then (if l.0 == n then l ∷ ls else (n, []) ∷ l ∷ ls)
    else l ∷ with_listener n ls

-- the listeners without that one and its children
abbrev pub without_listener : ℕ → List (ℕ × Children) → List (ℕ × Children)
without_listener n listeners = filter (λ l. not (l.0 == n)) listeners

-- a listener after a batch, which may be another's: the changes are played over its children
abbrev pub played : ℕ → List Change → ℕ × Children → ℕ × Children
played n changes l = if l.0 == n then (l.0, replay changes l.1) else l

-- the requests with that one, in its place; one that is there stays
abbrev pub with_request : ℕ → List ℕ → List ℕ
with_request n [] = n ∷ []
with_request n (r ∷ rs) =
    if nat_le n r
    then (if r == n then r ∷ rs else n ∷ r ∷ rs)
    else r ∷ with_request n rs

-- the requests without that one
abbrev pub without_request : ℕ → List ℕ → List ℕ
without_request n requests = filter (λ r. not (r == n)) requests

-- what is known after a receipt; queries, writes and disconnect actions are left out
abbrev pub signed : Known → Receipt → Known
signed m (Listened n query) = record m { listeners = with_listener n m.listeners }
signed m (Unlistened n) = record m { listeners = without_listener n m.listeners }
signed m (Wrote id what) = record m { requests = with_request id m.requests }
signed m (Asked id what) = record m { requests = with_request id m.requests }

-- what is known after an item; one about a number that is not there changes nothing
abbrev pub taken : Known → Item → Known
taken m (item.Receipt r) = signed m r
taken m (item.Batch b) =
    record m { listeners = map (played b.listener b.changes) m.listeners }
taken m (item.Settled id why) = record m { requests = without_request id m.requests }
taken m (item.Cancelled n why) = record m { listeners = without_listener n m.listeners }

-- what is known after the items, one after another
abbrev pub known_of : Known → List Item → Known
known_of m items = fold taken m items

-- the children of the listener with that number
abbrev pub children_of : Known → ℕ → Option Children
children_of m n = option_map (λ l. l.1) (find (λ l. l.0 == n) m.listeners)
