-- Which messages are read back from their texts, and as what.
use Rattle.std.specs.Prelude.{◌≡◌, ℕ, ◌<◌, ◌≤◌, true, false, List, [], ◌∷◌, length, None, IfSome, Ok}
use Rattle.std.specs.List.{AllByRecursion}
use Rattle.std.specs.List.Sorted.{IsPermutation}
use Rattle.rt_tree.specs.PathTree.{PathTree}
use Rattle.rt_tree.specs.Assignments.{Assignment, have_overlap}
use Rattle.rt_tree.specs.Writing.{back_fault}
use Rattle.rt_query.specs.Queries.{Query}
use Rattle.rt_query.specs.Supply.{form}
use Rattle.rt_wire.specs.declared.limits.TheConstants.{MAX_NUMBER, MAX_REASON_BYTES}
use Rattle.rt_wire.specs.declared.server.ServerMessage.{ServerMessage}
use Rattle.rt_wire.specs.declared.server.ServerMessage.TheVariants.{Data, DataMerge, Push, Accepted}
use Rattle.rt_wire.specs.declared.server.ServerMessage.TheVariants.{Refused, Revoked}
use Rattle.rt_wire.specs.Parts.{Part}
use Rattle.rt_wire.specs.Server.{server_message}
use Rattle.rt_wire.specs.declared.request.Action.{Action}
use Rattle.rt_wire.specs.declared.request.Action.TheVariants.{Put, Merge}
use Rattle.rt_wire.specs.declared.request.Ending.TheVariants.{Run, Cancel}
use Rattle.rt_wire.specs.declared.request.Asked.TheVariants.{Now, AtDisconnect}
use Rattle.rt_wire.specs.declared.client.ClientMessage.{ClientMessage}
use Rattle.rt_wire.specs.declared.client.ClientMessage.TheVariants.{Hello, Listen, Unlisten, Ask}
use Rattle.rt_wire.specs.QueryFields.{may_cut}
use Rattle.rt_wire.specs.Client.{client_message}

-- ---- parts within their limits

-- a tag, the number of a request, or a version
abbrev pub IsNumber : ℕ → Type 0
IsNumber n = (1 ≤ n) × (n ≤ MAX_NUMBER)

-- a tree of no more values than are read
abbrev pub IsReadable : PathTree → Type 0
IsReadable tree = back_fault tree ≡ None

-- entries of which none is at or above another
abbrev pub AreEntries : List Assignment → Type 0
AreEntries entries = (0 < length entries) × (have_overlap entries ≡ false)
    × AllByRecursion (λ entry. IsReadable entry.1) entries

-- at least one part; two may have one tag
abbrev pub AreParts : List Part → Type 0
AreParts parts = (0 < length parts) × AllByRecursion (λ p. IsNumber p.0 × AreEntries p.1) parts

-- a reason
abbrev pub IsShort : List ℕ → Type 0
IsShort why = length why ≤ MAX_REASON_BYTES

-- a query that is its own listening form, so that it is in key order where it isn't filtered; in
-- key order its cuts are next to keys, as all calls of a draft make them
abbrev pub IsListened : Query → Type 0
IsListened q =
    (form q ≡ q) × IfSome q.range.lower (λ cut. may_cut q.index cut ≡ true)
    × IfSome q.range.upper (λ cut. may_cut q.index cut ≡ true)

-- what a write sets
abbrev pub IsReadableAction : Action → Type 0
IsReadableAction (Put path tree) = IsReadable tree
IsReadableAction (Merge entries) = AreEntries entries

-- ---- messages of the server

-- each part is within its limits
abbrev pub IsServerMessage : ServerMessage → Type 0
IsServerMessage (Data tag path tree) = IsNumber tag × IsReadable tree
IsServerMessage (DataMerge tag entries) = IsNumber tag × AreEntries entries
IsServerMessage (Push parts) = AreParts parts
IsServerMessage (Accepted id) = IsNumber id
IsServerMessage (Refused id why) = IsNumber id × IsShort why
IsServerMessage (Revoked tag why) = IsNumber tag × IsShort why

-- the tags in the same order, each with its entries in any order
abbrev pub AreSameParts : List Part → List Part → Type 0
AreSameParts [] [] = Unit {0}
AreSameParts [] (q ∷ qs) = ⊥
AreSameParts (p ∷ ps) [] = ⊥
AreSameParts (p ∷ ps) (q ∷ qs) = (q.0 ≡ p.0) × IsPermutation p.1 q.1 × AreSameParts ps qs

-- n is m up to the order of the entries
abbrev pub IsServerSame : ServerMessage → ServerMessage → Type 0
IsServerSame (Data tag path tree) n = n ≡ Data tag path tree
IsServerSame (DataMerge tag entries) n = (others : List Assignment) × IsPermutation entries others
    × (n ≡ DataMerge tag others)
IsServerSame (Push parts) n = (others : List Part) × AreSameParts parts others × (n ≡ Push others)
IsServerSame (Accepted id) n = n ≡ Accepted id
IsServerSame (Refused id why) n = n ≡ Refused id why
IsServerSame (Revoked tag why) n = n ≡ Revoked tag why

-- the text is read as the message, up to the order of the entries
abbrev pub IsServerText : ServerMessage → List ℕ → Type 0
IsServerText m text = (n : ServerMessage) × (server_message text ≡ Ok n) × IsServerSame m n

-- ---- messages of the client

-- each part is within its limits
abbrev pub IsClientMessage : ClientMessage → Type 0
IsClientMessage (Hello version) = IsNumber version
IsClientMessage (Listen tag query) = IsNumber tag × IsListened query
IsClientMessage (Unlisten tag) = IsNumber tag
IsClientMessage (Ask id (Now action)) = IsNumber id × IsReadableAction action
IsClientMessage (Ask id (AtDisconnect (Run action))) = IsNumber id × IsReadableAction action
IsClientMessage (Ask id (AtDisconnect (Cancel path))) = IsNumber id

-- b is a up to the order of the entries
abbrev pub IsSameAction : Action → Action → Type 0
IsSameAction (Put path tree) b = b ≡ Put path tree
IsSameAction (Merge entries) b = (others : List Assignment) × IsPermutation entries others
    × (b ≡ Merge others)

-- n is m up to the order of the entries
abbrev pub IsClientSame : ClientMessage → ClientMessage → Type 0
IsClientSame (Hello version) n = n ≡ Hello version
IsClientSame (Listen tag query) n = n ≡ Listen tag query
IsClientSame (Unlisten tag) n = n ≡ Unlisten tag
IsClientSame (Ask id (Now action)) n = (b : Action) × IsSameAction action b × (n ≡ Ask id (Now b))
IsClientSame (Ask id (AtDisconnect (Run action))) n =
    (b : Action) × IsSameAction action b × (n ≡ Ask id (AtDisconnect (Run b)))
IsClientSame (Ask id (AtDisconnect (Cancel path))) n = n ≡ Ask id (AtDisconnect (Cancel path))

-- the text is read as the message, up to the order of the entries
abbrev pub IsClientText : ClientMessage → List ℕ → Type 0
IsClientText m text = (n : ClientMessage) × (client_message text ≡ Ok n) × IsClientSame m n
