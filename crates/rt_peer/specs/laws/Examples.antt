-- Outside examples, which the prover computes: what two connections of a peer do and are sent.
use Rattle.std.specs.Prelude.{◌≡◌, ◌≢◌, ℕ, List, [], ◌∷◌, drop, take, pos, Some, None, codes}
use Rattle.rt_tree.specs.Leaf.{number}
use Rattle.rt_tree.specs.Path.{path_keys}
use Rattle.rt_tree.specs.PathTree.{Path, PathTree, leaf_at, null, of_leaf, object}
use Rattle.rt_query.specs.Queries.{plain}
use Rattle.rt_wire.specs.declared.request.Action.TheVariants.{Put, Merge}
use Rattle.rt_wire.specs.declared.request.Ending.TheVariants.{Run}
use Rattle.rt_wire.specs.declared.request.Asked.TheVariants.{Now, AtDisconnect}
use Rattle.rt_wire.specs.declared.client.ClientMessage.TheVariants.{Hello, Listen, Ask}
use Rattle.rt_wire.specs.declared.server.ServerMessage.{ServerMessage}
use Rattle.rt_wire.specs.declared.server.ServerMessage.TheVariants.{Data, Push, Accepted, Refused, Revoked}
use Rattle.rt_peer.specs.declared.pushes.Sent.{Sent}
use Rattle.rt_peer.specs.Peers.{Peer, new_peer}
use Rattle.rt_peer.specs.Runs.{Call, Connect, Message, Disconnect, EndSome, after_all, sent_all}
use Rattle.rt_peer.specs.laws.Pushed.{as_newer, messages_to}

-- ---- short spellings

abbrev pub num : ℕ → PathTree
num n = of_leaf (number (pos n))

-- an object of one child
abbrev pub only : List ℕ → PathTree → PathTree
only k t = object ((k, t) ∷ [])

abbrev pub at : List ℕ → Path
at p = path_keys p

abbrev pub to : ℕ → ServerMessage → Sent
to n message = record { to = n; message = message }

-- ---- a peer with a denied path, one connection that listens and one that writes

abbrev pub begun : Peer
begun = new_peer (only (codes "a") (only (codes "x") (num 1))) (at (codes "/s") ∷ [])

abbrev pub row : List Call
row =
    Connect ∷ Connect
    ∷ Message 1 (Listen 1 (plain (at (codes "/a"))))
    ∷ Message 2 (Listen 1 (plain (at (codes "/s"))))
    ∷ Message 2 (Ask 1 (AtDisconnect (Run (Put (at (codes "/a/y")) (num 2)))))
    ∷ Message 2 (Ask 2 (Now (Put (at (codes "/a/x")) null)))
    ∷ Message 2 (Ask 3 (Now (Put (at (codes "/")) (num 1))))
    ∷ Disconnect 2
    ∷ []

-- the denied path is revoked and not written; the listener is told what is written, before the writer
-- has its answer, and what is done when the writer is gone
abbrev pub RowIsSent : Type 0
RowIsSent =
    sent_all begun row
    ≡ to 1 (Data 1 (at (codes "/a")) (only (codes "x") (num 1)))
    ∷ to 2 (Revoked 1 (codes "denied"))
    ∷ to 2 (Accepted 1)
    ∷ to 1 (Data 1 (at (codes "/a/x")) null)
    ∷ to 2 (Accepted 2)
    ∷ to 2 (Refused 3 (codes "denied"))
    ∷ to 1 (Data 1 (at (codes "/a/y")) (num 2))
    ∷ []

abbrev pub RowLeaves : Type 0
RowLeaves =
    ((after_all begun row).tree ≡ only (codes "a") (only (codes "y") (num 2)))
    × ((after_all begun row).connections ≡ 1 ∷ [])

-- ---- two connections that listen alike, of which the first reads version 2

abbrev pub greets : ℕ → List Call
greets version =
    Connect ∷ Connect ∷ Message 1 (Hello version)
    ∷ Message 1 (Listen 1 (plain (at (codes "/a")))) ∷ Message 1 (Listen 2 (plain (at (codes "/b"))))
    ∷ Message 2 (Listen 1 (plain (at (codes "/a")))) ∷ Message 2 (Listen 2 (plain (at (codes "/b"))))
    ∷ []

-- a write on both paths, and then one on the first
abbrev pub writes_both : List Call
writes_both =
    Message 1 (Ask 1 (Now (Merge ((at (codes "/a/x"), num 1) ∷ (at (codes "/b/y"), num 2) ∷ []))))
    ∷ Message 1 (Ask 2 (Now (Put (at (codes "/a/x")) (num 3))))
    ∷ []

-- what these writes are sent as, once the first connection has told that version
abbrev pub told_by : ℕ → List Sent
told_by version = sent_all (after_all (new_peer null []) (greets version)) writes_both

-- to who reads version 2 two pushes of one write are one, by tag, and a single one is as before
abbrev pub PushesParts : Type 0
PushesParts =
    told_by 2
    ≡ to 1 (Push (
    (1, (at (codes "/a/x"), num 1) ∷ [])
    ∷ (2, (at (codes "/b/y"), num 2) ∷ [])
    ∷ []))
    ∷ to 2 (Data 1 (at (codes "/a/x")) (num 1))
    ∷ to 2 (Data 2 (at (codes "/b/y")) (num 2))
    ∷ to 1 (Accepted 1)
    ∷ to 1 (Data 1 (at (codes "/a/x")) (num 3))
    ∷ to 2 (Data 1 (at (codes "/a/x")) (num 3))
    ∷ to 1 (Accepted 2)
    ∷ []

-- a greater version counts as 2; a connection that tells version 1 last reads version 1, and so does one
-- with the number of a connection that has ended
abbrev pub VersionsCount : Type 0
VersionsCount =
    (told_by 9007199254740991 ≡ told_by 2)
    × ((after_all (new_peer null []) (greets 2)).newer ≡ 1 ∷ [])
    × ((after_all (new_peer null []) (greets 1)).newer ≡ [])
    × ((after_all (after_all (new_peer null []) (greets 2)) (Message 1 (Hello 1) ∷ [])).newer ≡ [])
    × ((after_all (after_all (new_peer null []) (greets 2)) (Disconnect 1 ∷ Connect ∷ [])).newer ≡ [])

-- ---- what does not happen

-- to who reads version 1 two pushes of one write are one
abbrev pub OlderGetsNoParts : Type 0
OlderGetsNoParts = told_by 1 ≢ told_by 2

-- what the first connection is sent for both writes, once it has told that version
abbrev pub first_hears : ℕ → List ServerMessage
first_hears version = messages_to 1 (told_by version)

-- to who reads version 2 each push of a write comes by itself
abbrev pub NewerGetsParts : Type 0
NewerGetsParts = first_hears 2 ≢ first_hears 1

-- the pushes of two writes come as one
abbrev pub WritesStayApart : Type 0
WritesStayApart = first_hears 2 ≢ as_newer (first_hears 1)

-- the parts come by the greater tag first
abbrev pub PartsStayInOrder : Type 0
PartsStayInOrder =
    take 1 (first_hears 2)
    ≢ Push (
    (2, (at (codes "/b/y"), num 2) ∷ [])
    ∷ (1, (at (codes "/a/x"), num 1) ∷ [])
    ∷ []) ∷ []

-- a single push comes as a push of one part
abbrev pub SingleStays : Type 0
SingleStays =
    take 1 (drop 2 (first_hears 2)) ≢ Push ((1, (at (codes "/a/x"), num 3) ∷ []) ∷ []) ∷ []

-- nothing is sent, or what was accepted is not done: the write, and the action at the end
abbrev pub RowDoesSomething : Type 0
RowDoesSomething =
    (sent_all begun row ≢ [])
    × (leaf_at (after_all begun row).tree (at (codes "/a/x")) ≢ Some (number (pos 1)))
    × (leaf_at (after_all begun row).tree (at (codes "/a/y")) ≢ None)

-- the refused write is made, or the action is run before the connection ends
abbrev pub RowDoesNoMore : Type 0
RowDoesNoMore =
    (leaf_at (after_all begun row).tree (at (codes "/")) ≢ Some (number (pos 1)))
    × (leaf_at (after_all begun (take 7 row)).tree (at (codes "/a/y")) ≢ Some (number (pos 2)))

-- the right thing told to the wrong one
abbrev pub WriterIsNotTold : Type 0
WriterIsNotTold =
    sent_all begun (Connect ∷ Connect ∷ Message 1 (Listen 1 (plain (at (codes "/a"))))
    ∷ Message 2 (Ask 1 (Now (Put (at (codes "/a/x")) (num 2)))) ∷ [])
    ≢ to 1 (Data 1 (at (codes "/a")) (only (codes "x") (num 1)))
    ∷ to 2 (Data 1 (at (codes "/a/x")) (num 2))
    ∷ to 2 (Accepted 1)
    ∷ []

-- a connection that has ended is told nothing, and its number is given again
abbrev pub NumberIsFreeAgain : Type 0
NumberIsFreeAgain =
    let calls = Connect ∷ Message 1 (Listen 1 (plain (at (codes "/a")))) ∷ Connect ∷ Disconnect 1
    ∷ Message 2 (Ask 1 (Now (Put (at (codes "/a/x")) (num 2)))) ∷ Connect ∷ [] in
    (sent_all begun calls
    ≡ to 1 (Data 1 (at (codes "/a")) (only (codes "x") (num 1))) ∷ to 2 (Accepted 1) ∷ [])
    × ((after_all begun calls).connections ≡ 1 ∷ 2 ∷ [])

-- ---- the end of a connection in turns

-- the second connection has two actions: a turn of one, a write of the first connection where the second
-- action writes, and the next turn
abbrev pub in_turns : List Call
in_turns =
    Connect ∷ Connect
    ∷ Message 1 (Listen 1 (plain (at (codes "/a"))))
    ∷ Message 2 (Ask 1 (AtDisconnect (Run (Put (at (codes "/a/y")) (num 2)))))
    ∷ Message 2 (Ask 2 (AtDisconnect (Run (Put (at (codes "/a/z")) (num 3)))))
    ∷ EndSome 2 1
    ∷ Message 1 (Ask 1 (Now (Put (at (codes "/a/z")) (num 4))))
    ∷ EndSome 2 1
    ∷ []

-- each turn runs its action, told to who listens; the write stands between them
abbrev pub TurnsAreSent : Type 0
TurnsAreSent =
    sent_all begun in_turns
    ≡ to 1 (Data 1 (at (codes "/a")) (only (codes "x") (num 1)))
    ∷ to 2 (Accepted 1)
    ∷ to 2 (Accepted 2)
    ∷ to 1 (Data 1 (at (codes "/a/y")) (num 2))
    ∷ to 1 (Data 1 (at (codes "/a/z")) (num 4))
    ∷ to 1 (Accepted 1)
    ∷ to 1 (Data 1 (at (codes "/a/z")) (num 3))
    ∷ []

-- the second action is what stands, and the number is free behind the last turn alone
abbrev pub TurnsLeave : Type 0
TurnsLeave =
    (leaf_at (after_all begun in_turns).tree (at (codes "/a/z")) ≡ Some (number (pos 3)))
    × ((after_all begun (take 6 in_turns)).connections ≡ 1 ∷ 2 ∷ [])
    × ((after_all begun in_turns).connections ≡ 1 ∷ [])

-- what does not happen: both actions are run at the first turn, the first is run at each, none is run
abbrev pub TurnsDoNoMore : Type 0
TurnsDoNoMore =
    (leaf_at (after_all begun (take 6 in_turns)).tree (at (codes "/a/z")) ≢ Some (number (pos 3)))
    × (leaf_at (after_all begun in_turns).tree (at (codes "/a/z")) ≢ Some (number (pos 4)))
    × (leaf_at (after_all begun (take 6 in_turns)).tree (at (codes "/a/y")) ≢ None)
