-- The end of a connection in turns: what is to be done then is done in order, so many actions at once, and
-- other calls may come between two turns.
use Rattle.std.specs.Prelude.{ℕ, zero, suc, Bool, not, ◌==◌, nat_le, if◌then◌else◌}
use Rattle.std.specs.Prelude.{List, [], ◌∷◌, length, take}
use Rattle.std.specs.List.{filter}
use Rattle.rt_peer.specs.Peers.{Deferred, Peer}
use Rattle.rt_peer.specs.Pushes.{tree_after, pushes_after}
use Rattle.rt_peer.specs.Calls.{Outcome, actions_of, ended}

-- a list without the first so many that pass a test
abbrev pub without_first : {X : Type 0} → (X → Bool) → ℕ → List X → List X
without_first test zero xs = xs
without_first test (suc n) [] = []
without_first test (suc n) (x ∷ xs) =
    if test x then without_first test n xs else x ∷ without_first test (suc n) xs

-- the first actions of a connection, in order
abbrev pub first_actions : Peer → ℕ → ℕ → List Deferred
first_actions p n most = take most (actions_of p n)

-- whether no action is left behind them
abbrev pub is_last_turn : Peer → ℕ → ℕ → Bool
is_last_turn p n most = nat_le (length (actions_of p n)) most

-- the connections once so many actions of one were run: its number is free where none is left
abbrev pub connections_after : Peer → ℕ → ℕ → List ℕ
connections_after p n most =
    if is_last_turn p n most then filter (λ m. not (m == n)) p.connections else p.connections

-- what a turn begins with: the connection's listens are gone, and its first actions are taken out
abbrev pub turn_begun : Peer → ℕ → ℕ → Peer
turn_begun p n most = record (ended p n) {
  connections = connections_after p n most;
  actions = without_first (λ a. a.connection == n) most p.actions;
}

-- one turn: these actions are run, each pushed as a write is
abbrev pub turned : Peer → ℕ → ℕ → Outcome
turned p n most = (
  record (turn_begun p n most) { tree = tree_after p.tree (first_actions p n most) },
  pushes_after (ended p n).newer (ended p n).listens p.tree (first_actions p n most),
)
