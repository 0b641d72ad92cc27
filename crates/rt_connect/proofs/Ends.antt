-- What is passed over behind the client's close.
use Rattle.std.proofs.Common.{◌≡◌, ℕ, suc, ◌+◌, ◌<◌, Result, Ok, Err, arith, inl, inr, refl, subst}
use Rattle.std.proofs.Common.{Option, Some, None}
use Rattle.std.specs.Prelude.{IfOk}
use Rattle.rt_socket.specs.declared.wire.Lost.{Lost as SocketLost}
use Rattle.rt_socket.specs.declared.wire.Heard.{Heard}
use Rattle.rt_connect.specs.declared.link.Lost.{Lost}
use Rattle.rt_connect.specs.declared.link.Lost.TheVariants.{Kept, Socket}
use Rattle.rt_connect.specs.Ending.{Ends, HearsEnd, Passes, PassesOver, end_of}

-- what was given says that
says : {W : Type 0} (ends : W → Heard → W → Type 0) (old new : W) (given : Heard)
    (told why : Option Lost) → ends old given new → told ≡ end_of given → told ≡ why → HearsEnd ends old why new
says ends old new given told why h told_is is =
    record { given = given; comes = h; says = subst (λ x. x ≡ why) told_is is }

next : (n : ℕ) → suc n ≡ n + 1
next n = omega arith

pub over_more : {W : Type 0} (ends : W → Heard → W → Type 0) (count : ℕ) (old now next_one : W)
    (given : Heard) (told : Option Lost) → Passes ends count old now → ends now given next_one
    → told ≡ end_of given → told ≡ None → Passes ends (count + 1) old next_one
over_more ends count old now next_one given told passes h told_is is =
    subst (λ n. Passes ends n old next_one) (next count)
    (now, passes, says ends now next_one given told None h told_is is)

-- the end is heard
pub over_end : {W : Type 0} (ends : W → Heard → W → Type 0) (most count : ℕ) (old now new : W)
    (given : Heard) (told : Option Lost) (why : Lost) → Passes ends count old now → count < most
    → ends now given new → told ≡ end_of given → told ≡ Some why → PassesOver ends most old why new
over_end ends most count old now new given told why passes lt h told_is is = record {
  count = count;
  mid = now;
  passes = passes;
  last = inl (lt, says ends now new given told (Some why) h told_is is);
}

-- as much came as may be passed over
pub over_all : {W : Type 0} (ends : W → Heard → W → Type 0) (most count : ℕ) (old now : W)
    → Passes ends count old now → count ≡ most → PassesOver ends most old Kept now
over_all ends most count old now passes all =
    record { count = count; mid = now; passes = passes; last = inr (all, refl, refl) }

-- the client has said that it goes, and what still comes is passed over
pub ends_so : {W E : Type 0} (leaves : W → Option SocketLost → W → Type 0) (ends : W → Heard → W → Type 0)
    (most : ℕ) (old mid new : W) (r : Result Lost E) (lost : Option SocketLost) → leaves old lost mid
    → lost ≡ None → IfOk r (λ why. PassesOver ends most mid why new)
    → IfOk r (λ why. Ends leaves ends most old why new)
ends_so leaves ends most old mid new (Ok why) lost left none h =
    inr (mid, subst (λ l. leaves old l mid) none left, h)
ends_so leaves ends most old mid new (Err e) lost left none h = tt

-- it can't say so
pub unsaid : {W : Type 0} (leaves : W → Option SocketLost → W → Type 0) (ends : W → Heard → W → Type 0)
    (most : ℕ) (old new : W) (lost : Option SocketLost) (why : SocketLost) → leaves old lost new
    → lost ≡ Some why → Ends leaves ends most old (Socket why) new
unsaid leaves ends most old new lost why left some =
    inl (why, subst (λ l. leaves old l new) some left, refl)
