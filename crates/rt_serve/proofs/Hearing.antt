-- What is heard is one text at most.
use Rattle.std.proofs.Common.{◌≡◌, ℕ, [], Option, Some, None, Ok, Err, Result, inl, inr, arith, true, false, if◌then◌else◌}
use Rattle.std.specs.Prelude.{IfSome, OnOk, OnErr, ◌⊎◌}
use Rattle.rt_wire.specs.Client.{client_message}
use Rattle.rt_wire.specs.Crowds.{is_crowded}
use Rattle.rt_peer.specs.Peers.{Peer}
use Rattle.rt_peer.specs.Runs.{after_all}
use Rattle.rt_serve.specs.Reads.{calls_of}
use Rattle.rt_serve.specs.Sessions.{HasTaken, call_of}
use Rattle.rt_serve.specs.declared.socket.SocketRead.{SocketRead}
use Rattle.rt_serve.specs.declared.socket.SocketRead.TheVariants.{Text, Binary, Nothing, Ended}
use Rattle.rt_serve.proofs.Sessions.{text_taken}

-- what was heard is one text at most
heard_taken : (p : Peer) (q : Option Peer) (n : ℕ) (heard : SocketRead)
    → q ≡ Some (after_all p (calls_of n heard)) → HasTaken 1 n p q
heard_taken p q n (Text words) e =
    elim (is_crowded words) as (λ b. q ≡ Some (after_all p (if b then [] else call_of n (client_message words)))
    → HasTaken 1 n p q)
    [ true ↦ λ none. ([], omega arith, none) | false ↦ λ one. text_taken p q n words one ] e
heard_taken p q n Binary e = ([], omega arith, e)
heard_taken p q n Nothing e = ([], omega arith, e)
heard_taken p q n (Ended end) e = ([], omega arith, e)

pub ok_heard : {A E : Type 0} (o q : Option Peer) (r : Result A E) (n : ℕ) (heard : SocketRead)
    → IfSome o (λ p. OnOk r (q ≡ Some (after_all p (calls_of n heard))))
    → IfSome o (λ p. OnOk r (HasTaken 1 n p q))
ok_heard None q r n heard h = tt
ok_heard (Some p) q (Ok x) n heard h = heard_taken p q n heard h
ok_heard (Some p) q (Err e) n heard h = tt

pub err_heard : {A E : Type 0} (o q : Option Peer) (r : Result A E) (n : ℕ) (heard : SocketRead)
    → IfSome o (λ p. OnErr r ((q ≡ None) ⊎ (q ≡ o) ⊎ (q ≡ Some (after_all p (calls_of n heard)))))
    → IfSome o (λ p. OnErr r ((q ≡ None) ⊎ HasTaken 1 n p q))
err_heard None q r n heard h = tt
err_heard (Some p) q (Ok x) n heard h = tt
err_heard (Some p) q (Err e) n heard (inl lost) = inl lost
err_heard (Some p) q (Err e) n heard (inr (inl same)) = inr ([], omega arith, same)
err_heard (Some p) q (Err e) n heard (inr (inr is)) = inr (heard_taken p q n heard is)
