-- How a connection ends that the client ends.
use Rattle.std.specs.Prelude.{◌≡◌, ◌⊎◌, ◌<◌, ℕ, zero, suc, Bool, true, false, List, [], Option, Some, None}
use Rattle.std.specs.Prelude.{if◌then◌else◌}
use Rattle.rt_socket.specs.declared.wire.Lost.{Lost as SocketLost}
use Rattle.rt_socket.specs.declared.wire.Heard.{Heard}
use Rattle.rt_socket.specs.declared.wire.Heard.TheVariants as socket
use Rattle.rt_connect.specs.declared.link.Lost.{Lost}
use Rattle.rt_connect.specs.declared.link.Lost.TheVariants.{Kept, Socket, Unclosed}
use Rattle.rt_connect.specs.Doing.{disconnected}

-- how it ended, where that was heard: a server of which nothing comes for a moment does not close it
abbrev pub end_of : Heard → Option Lost
end_of (socket.Text words) = None
end_of socket.Binary = None
end_of socket.Sign = None
end_of socket.Nothing = Some Unclosed
end_of (socket.Ended why) = Some (Socket why)

-- that comes next of a connection, whose own relation that is, and says this
pub record HearsEnd {W : Type 0} (ends : W → Heard → W → Type 0) (old : W) (why : Option Lost) (new : W)
    : Type 0 where
  pub given : Heard
  pub comes : ends old given new
  pub says : end_of given ≡ why

-- so much is passed over, one after another
abbrev pub Passes : {W : Type 0} → (W → Heard → W → Type 0) → ℕ → W → W → Type 0
Passes ends zero old new = new ≡ old
Passes ends (suc count) old new = (mid : _) × Passes ends count old mid × HearsEnd ends mid None new

-- it is passed over up to the end, or as much as may be
pub record PassesOver {W : Type 0} (ends : W → Heard → W → Type 0) (most : ℕ) (old : W) (why : Lost)
    (new : W) : Type 0 where
  pub count : ℕ
  pub mid : W
  pub passes : Passes ends count old mid
  pub last :
      ((count < most) × HearsEnd ends mid (Some why) new)
      ⊎ ((count ≡ most) × (why ≡ Kept) × (new ≡ mid))

-- the client says that it goes, and passes over what still comes; where it can't say so, that is the end
abbrev pub Ends : {W : Type 0} → (W → Option SocketLost → W → Type 0) → (W → Heard → W → Type 0) → ℕ → W
    → Lost → W → Type 0
Ends leaves ends most old why new =
    ((lost : SocketLost) × leaves old (Some lost) new × (why ≡ Socket lost))
    ⊎ ((mid : _) × leaves old None mid × PassesOver ends most mid why new)

-- whether the server did not close it
abbrev pub is_unclosed : Lost → Bool
is_unclosed Unclosed = true
is_unclosed why = false

-- of such an end alone a line is printed
abbrev pub end_text : Lost → List ℕ
end_text why = if is_unclosed why then disconnected else []
