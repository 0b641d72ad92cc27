use Rattle.std.proofs.Common.{◌≡◌, true, false, true≢false, [], ◌∷◌, refl, sym, arith}
use Rattle.rt_tree.specs.PathTree.{null}
use Rattle.rt_wire.specs.declared.client.ClientMessage.TheVariants.{Hello}
use Rattle.rt_peer.specs.Peers.{Peer, new_peer}
use Rattle.rt_peer.specs.Runs.{Connect, Message, after_all}
use Rattle.rt_peer.proofs.examples.version_refutations.Goals as goal

pub returns-clause-older : goal.returns-clause-older
returns-clause-older c h =
    let e : false ≡ true = h null [] (Connect ∷ []) 0 0 (omega arith) in true≢false (sym e)

-- a peer whose one connection has told version 2
abbrev greeted : Peer
greeted = after_all (new_peer null []) (Connect ∷ Message 1 (Hello 2) ∷ [])

pub returns-clause-fall : goal.returns-clause-fall
returns-clause-fall c h =
    let e : false ≡ true = h greeted 1 (Hello 1) refl refl in true≢false (sym e)
