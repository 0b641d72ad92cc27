-- The number and the name of each refusal.
use Rattle.std.specs.Prelude.{ℕ, List, codes}
use Rattle.rt_peer.specs.declared.error.PeerError.{PeerError}
use Rattle.rt_peer.specs.declared.error.PeerError.TheVariants.{Failed, UnknownConnection, NoMemory}

-- the number of a refusal
abbrev pub code_of : PeerError → ℕ
code_of Failed = 1
code_of UnknownConnection = 2
code_of NoMemory = 3

-- the word that is printed for it
abbrev pub name_of : PeerError → List ℕ
name_of Failed = codes "Failed"
name_of UnknownConnection = codes "UnknownConnection"
name_of NoMemory = codes "NoMemory"
