-- What a connection is given, of any list of calls.
use Rattle.std.specs.Prelude.{◌≡◌, false, ℕ, List, ◌++◌, Some}
use Rattle.rt_hub.specs.declared.refusal.Bounds.{Bounds}
use Rattle.rt_hub.specs.Hubs.{Hub}
use Rattle.rt_hub.specs.Lines.{Line}
use Rattle.rt_hub.specs.Runs.{Asked, DoesAll, Lasts, Watched, given_all, sent_all, watched_all, watched_in}

-- what calls leave of a hub is, for each connection, what the connection sees of them
abbrev pub SeesItsOwn : Type 0
SeesItsOwn =
    (old new : Hub) (calls : List Asked) (n : ℕ) → DoesAll old calls new
    → watched_in n new ≡ watched_all old.bounds n (watched_in n old) calls

-- the connection has a line at the end; what waited at first and all that the peer sent it begins with what
-- it was given; and where the line isn't over then, what still waits is the rest
pub record IsServed (bounds : Bounds) (n : ℕ) (w : Watched) (line : Line) (calls : List Asked) : Type 0
  where
    pub left : Line
    pub has : (watched_all bounds n w calls).line ≡ Some left
    pub lost : List (List ℕ)
    pub begins : line.waiting ++ sent_all bounds n w calls ≡ given_all bounds n w calls ++ lost
    pub whole : left.is_over ≡ false → lost ≡ left.waiting

-- so it is for any calls while the connection lasts, from a line that isn't over
abbrev pub IsServedAll : Type 0
IsServedAll =
    (bounds : Bounds) (n : ℕ) (w : Watched) (line : Line) (calls : List Asked) → w.line ≡ Some line
    → line.is_over ≡ false → Lasts bounds n w calls → IsServed bounds n w line calls
