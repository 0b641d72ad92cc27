-- How many of something each connection has: none where nothing is said.
use Rattle.std.specs.Prelude.{◌≡◌, ℕ, ◌==◌, List, length}
use Rattle.std.specs.List.{filter}
use Rattle.std.specs.Map.{lookup}
use Rattle.std.specs.BTreeMap.{is_at}
use Rattle.std.specs.Option.{unwrap_or}
use Rattle.std.specs.Ordering.{nat_cmp}
use Rattle.rt_peer.specs.Peers.{Listen}

abbrev pub count_of : List (ℕ × ℕ) → ℕ → ℕ
count_of counts n = unwrap_or (lookup (is_at (nat_cmp n)) counts) 0

-- each connection has so many of these, of which a test says whose each is
abbrev pub AreCountedBy : {X : Type 0} → List (ℕ × ℕ) → List X → (X → ℕ) → Type 0
AreCountedBy counts xs whose = (n : ℕ) → count_of counts n ≡ length (filter (λ x. whose x == n) xs)

-- each connection has so many of these listens
abbrev pub AreCounted : List (ℕ × ℕ) → List Listen → Type 0
AreCounted counts listens =
    (n : ℕ) → count_of counts n ≡ length (filter (λ l. l.connection == n) listens)
