-- Outside examples, which the prover computes: runs of a lane and its ring, and runs that are none.
use Rattle.std.specs.Prelude.{◌≡◌, ◌≢◌, ℕ, List, [], ◌∷◌, pos, Some, None, codes}
use Rattle.rt_tree.specs.Leaf.{number}
use Rattle.rt_tree.specs.PathTree.{PathTree, of_leaf}
use Rattle.rt_query.specs.Queries.{plain}
use Rattle.rt_view.specs.declared.change.Change.TheVariants.{Added}
use Rattle.rt_mail.specs.declared.item.Item.{Item}
use Rattle.rt_mail.specs.declared.item.Item.TheVariants as item
use Rattle.rt_mail.specs.declared.item.Receipt.{Receipt}
use Rattle.rt_mail.specs.declared.item.Receipt.TheVariants.{Listened, Unlistened}
use Rattle.rt_mail.specs.Mailbox.{Known, nothing_known, known_of}
use Rattle.rt_mail.specs.Runs.{Call, Queue, Flush, Sign, Next, Mail, new_mail, after_all}

-- ---- a lane and its ring

-- two requests that are settled, and the receipt of a third call
abbrev pub first : Item
first = item.Settled 1 None

abbrev pub second : Item
second = item.Settled 2 None

abbrev pub ended : Receipt
ended = Unlistened 3

-- a mail of these items, whose lane has not failed
abbrev pub mail_of : ℕ → List Item → List Item → List Item → Mail
mail_of capacity out held waiting = record {
  lane = record { waiting = waiting; mirror = Some nothing_known };
  ring = record { items = held; capacity = capacity };
  gone = out;
}

-- two items for a ring that has room for one: the second waits until the first is taken
abbrev pub two_queued : List Call
two_queued = Queue first ∷ Queue second ∷ Flush ∷ []

abbrev pub SecondWaits : Type 0
SecondWaits = after_all (new_mail 1) two_queued ≡ mail_of 1 [] (first ∷ []) (second ∷ [])

abbrev pub SecondComes : Type 0
SecondComes = after_all (mail_of 1 [] (first ∷ []) (second ∷ [])) (Next ∷ Flush ∷ [])
    ≡ mail_of 1 (first ∷ []) (second ∷ []) []

-- a receipt comes behind what waits
abbrev pub ReceiptIsLast : Type 0
ReceiptIsLast = after_all (new_mail 2) (Queue first ∷ Sign ended ∷ [])
    ≡ mail_of 2 [] (first ∷ item.Receipt ended ∷ []) []

-- no run: nothing is handed over; what has no room is dropped; the second is handed over first
abbrev pub NotOtherwise : Type 0
NotOtherwise =
    (after_all (new_mail 1) two_queued ≢ mail_of 1 [] [] (first ∷ second ∷ []))
    × (after_all (new_mail 1) two_queued ≢ mail_of 1 [] (first ∷ []) [])
    × (after_all (new_mail 1) two_queued ≢ mail_of 1 [] (second ∷ []) (first ∷ []))

-- nor one in which an item is handed over twice, or a receipt before what waits
abbrev pub NotTwice : Type 0
NotTwice =
    (after_all (new_mail 1) two_queued ≢ mail_of 1 [] (first ∷ []) (first ∷ second ∷ []))
    × (after_all (new_mail 2) (Queue first ∷ Sign ended ∷ [])
    ≢ mail_of 2 [] (item.Receipt ended ∷ first ∷ []) [])

-- ---- what a mirror knows

-- a tree of one number
abbrev pub num : ℕ → PathTree
num n = of_leaf (number (pos n))

-- listener 4 with a child, and request 7
abbrev pub known : Known
known = record { listeners = (4, (codes "a", num 1) ∷ []) ∷ []; requests = 7 ∷ [] }

-- a listener that is cancelled goes with its children, and no other item takes it away
abbrev pub CancelledGoes : Type 0
CancelledGoes = (known_of known (item.Cancelled 4 (codes "denied") ∷ [])
    ≡ record { listeners = []; requests = 7 ∷ [] })
    × (known_of known (item.Cancelled 7 (codes "denied") ∷ []) ≡ known)

-- a request that is settled goes, and no other
abbrev pub SettledGoes : Type 0
SettledGoes = (known_of known (item.Settled 7 None ∷ [])
    ≡ record { listeners = known.listeners; requests = [] })
    × (known_of known (item.Settled 4 None ∷ []) ≡ known)

-- a receipt of a listener that is there clears nothing
abbrev pub ListenedStays : Type 0
ListenedStays = known_of known (item.Receipt (Listened 4 (plain [])) ∷ []) ≡ known

-- a batch changes its own listener's children
abbrev pub child_added : ℕ → Item
child_added n = item.Batch (record { listener = n; changes = Added (codes "b") (num 2) None ∷ [] })

abbrev pub BatchIsPlayed : Type 0
BatchIsPlayed = (known_of known (child_added 4 ∷ []) ≡ record {
  listeners = (4, (codes "a", num 1) ∷ (codes "b", num 2) ∷ []) ∷ [];
  requests = 7 ∷ [];
}) × (known_of known (child_added 7 ∷ []) ≡ known)
