-- What is read of a socket, where its first read failed.
use Rattle.std.proofs.Common.{◌≡◌, Bool, true, false, Err, inl, inr, refl, sym, subst}
use Rattle.rt_emulate.specs.declared.socket.Broken.{Broken}
use Rattle.rt_emulate.specs.declared.socket.Socket.{Socket}
use Rattle.rt_emulate.specs.inside.Sockets.{ReadsOn, ReadsOne, passes}

pub is_failed : (old mid new : Socket) (why : Broken) (b : Bool) → passes why ≡ b → ReadsOne old mid (Err why)
    → new ≡ record mid { socket = new.socket } → (passes why ≡ false → new ≡ mid) → ReadsOn old new (Err why)
is_failed old mid new why true e r kept stays = inr (why, mid, new, r, e, kept, inl (refl, refl))
is_failed old mid new why false e r kept stays =
    inl (subst (λ s. ReadsOne old s (Err why)) (sym (stays e)) r)
