-- What any calls leave in the tree.
use Rattle.std.specs.Prelude.{◌≡◌, List}
use Rattle.rt_peer.specs.Peers.{Peer}
use Rattle.rt_peer.specs.Pushes.{written}
use Rattle.rt_peer.specs.Runs.{Call, after_all, writes_all}

-- the tree is that of before, with each write that wasn't answered with `no` and each action that was
-- run put into it, in order; nothing else changes it
abbrev pub TreeIsWhatWasWritten : Type 0
TreeIsWhatWasWritten = (p : Peer) (calls : List Call) →
    (after_all p calls).tree ≡ written p.tree (writes_all p calls)
