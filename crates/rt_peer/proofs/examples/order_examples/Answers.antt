use Rattle.std.proofs.Common.{◌≡◌, ◌<◌, true, false, true≢false, List, [], ◌∷◌, length, refl, sym}
use Rattle.std.proofs.Common.{arith}
use Rattle.rt_tree.specs.PathTree.{null, of_leaf, is_null, levels}
use Rattle.rt_peer.specs.Peers.{Deferred, new_peer}
use Rattle.rt_peer.specs.Runs.{Call, Connect, Disconnect, after_all}
use Rattle.rt_peer.specs.laws.Orders.{at_end}
use Rattle.rt_peer.proofs.examples.order_examples.Goals as goal

-- one of the two actions with one number
abbrev same : Deferred
same = record { connection = 1; id = 9; entries = [] }

abbrev calls : List Call
calls = Connect ∷ at_end 1 9 ∷ at_end 1 9 ∷ []

two : length (after_all (new_peer null []) calls).actions ≡ 2
unfolding null of_leaf is_null levels
two = refl

pub returns-clause-tie : goal.returns-clause-tie
unfolding null of_leaf is_null levels
returns-clause-tie c h =
    let e : false ≡ true = h null [] calls 0 1 same (omega arith) (omega (arith, two)) in
    true≢false (sym e)

pub returns-clause-gaps : goal.returns-clause-gaps
returns-clause-gaps c h =
    let below : 2 < 1 = h null [] (Connect ∷ Connect ∷ Disconnect 1 ∷ []) 0 0 (omega arith) in
    absurd (omega (arith, below))
