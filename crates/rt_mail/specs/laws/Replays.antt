-- What a mirror knows, told of each listener and each request alone.
use Rattle.std.specs.Prelude.{◌≡◌, ◌<◌, ℕ, Bool, true, false, if◌then◌else◌, List, [], ◌∷◌, map}
use Rattle.std.specs.Prelude.{◌==◌, Option, Some, None}
use Rattle.std.specs.List.{fold, list_any}
use Rattle.std.specs.Option.{option_map, option_map_or}
use Rattle.rt_view.specs.Changes.{replay}
use Rattle.rt_mail.specs.declared.item.Item.{Item}
use Rattle.rt_mail.specs.declared.item.Item.TheVariants as item
use Rattle.rt_mail.specs.declared.item.Receipt.TheVariants.{Listened, Unlistened, Wrote, Asked}
use Rattle.rt_mail.specs.Mailbox.{Children, nothing_known, known_of, children_of}

-- ---- one listener

-- a listener's children after an item, none while it is not there: it comes without children, its
-- batches are replayed, and it goes with them
abbrev pub heard_by : ℕ → Option Children → Item → Option Children
heard_by n c (item.Receipt (Listened m query)) =
    if m == n then Some (option_map_or (λ x. x) c []) else c
heard_by n c (item.Receipt (Unlistened m)) = if m == n then None else c
heard_by n c (item.Receipt (Wrote id what)) = c
heard_by n c (item.Receipt (Asked id what)) = c
heard_by n c (item.Batch b) = if b.listener == n then option_map (replay b.changes) c else c
heard_by n c (item.Settled id why) = c
heard_by n c (item.Cancelled m why) = if m == n then None else c

-- a mirror's children of a listener are what its own items make of them
abbrev pub ChildrenAreReplayed : Type 0
ChildrenAreReplayed = (items : List Item) (n : ℕ)
    → children_of (known_of nothing_known items) n ≡ fold (heard_by n) None items

-- ---- one request

-- whether a request is unsettled after an item
abbrev pub left_open : ℕ → Bool → Item → Bool
left_open n still (item.Receipt (Listened m query)) = still
left_open n still (item.Receipt (Unlistened m)) = still
left_open n still (item.Receipt (Wrote id what)) = if id == n then true else still
left_open n still (item.Receipt (Asked id what)) = if id == n then true else still
left_open n still (item.Batch b) = still
left_open n still (item.Settled id why) = if id == n then false else still
left_open n still (item.Cancelled m why) = still

-- a mirror has just the requests that are unsettled
abbrev pub RequestsAreLeftOpen : Type 0
RequestsAreLeftOpen = (items : List Item) (n : ℕ)
    → list_any (λ r. r == n) (known_of nothing_known items).requests ≡ fold (left_open n) false items

-- ---- numbers

-- each number of the list is above n
abbrev pub AreAbove : ℕ → List ℕ → Type 0
AreAbove n [] = Unit {0}
AreAbove n (m ∷ ms) = (n < m) × AreAbove n ms

-- each number is above those before it
abbrev pub Rise : List ℕ → Type 0
Rise [] = Unit {0}
Rise (n ∷ ns) = AreAbove n ns × Rise ns

-- a mirror's listeners and requests stand once each, by number
abbrev pub NumbersRise : Type 0
NumbersRise = (items : List Item)
    → Rise (map (λ l. l.0) (known_of nothing_known items).listeners)
    × Rise (known_of nothing_known items).requests
