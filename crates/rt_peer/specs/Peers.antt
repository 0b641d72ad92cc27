-- What a peer holds: its tree, the denied paths, the known connections and which of them read messages
-- of version 2, their listens, and what is to be done when they end.
use Rattle.std.specs.Prelude.{ℕ, ◌+◌, Bool, true, not, ◌==◌, ◌&&◌, ◌||◌, nat_lt, if◌then◌else◌, List, []}
use Rattle.std.specs.Prelude.{◌∷◌, ◌++◌, Option, Some, None}
use Rattle.std.specs.List.{filter, fold, list_any}
use Rattle.rt_tree.specs.PathTree.{Path, PathTree}
use Rattle.rt_tree.specs.Assignments.{Assignment, do_overlap}
use Rattle.rt_query.specs.Queries.{Query}
pub use Rattle.rt_wire.specs.Actions.{stands_too_deep}

-- a listen: whose it is, its tag, and the query
pub record Listen : Type 0 where
  pub connection : ℕ
  pub tag : ℕ
  pub query : Query

-- what is to be done when a connection ends: whose it is, the number of the request, and its entries
pub record Deferred : Type 0 where
  pub connection : ℕ
  pub id : ℕ
  pub entries : List Assignment

-- the connections by number, and by number those that read version 2; the listens by connection and
-- tag, the actions by connection and number
pub record Peer : Type 0 where
  pub tree : PathTree
  pub denied : List Path
  pub connections : List ℕ
  pub newer : List ℕ
  pub listens : List Listen
  pub actions : List Deferred

-- a peer of a tree, with no connection
abbrev pub new_peer : PathTree → List Path → Peer
new_peer tree denied =
    record { tree = tree; denied = denied; connections = []; newer = []; listens = []; actions = [] }

-- x behind those that it doesn't come before, and in front of the others
abbrev pub in_place : {X : Type 0} → (X → X → Bool) → X → List X → List X
in_place before x xs = filter (λ y. not (before x y)) xs ++ x ∷ filter (before x) xs

-- ---- connections

-- whether the number is a connection's
abbrev pub is_known : List ℕ → ℕ → Bool
is_known numbers n = list_any (λ m. m == n) numbers

-- the least number from 1 that is not among these, which rise
abbrev pub least_free : List ℕ → ℕ
least_free numbers = fold (λ n m. if m == n then n + 1 else n) 1 numbers

-- ---- paths and entries

-- a path is denied where a denied path is a prefix of it, or it is a prefix of a denied path
abbrev pub is_denied : List Path → Path → Bool
is_denied denied p = list_any (λ d. do_overlap d p) denied

-- ---- orders and marks

-- by connection, and then by tag
abbrev pub is_before : Listen → Listen → Bool
is_before l m = nat_lt l.connection m.connection || l.connection == m.connection && nat_lt l.tag m.tag

-- by connection, and then by number
abbrev pub runs_before : Deferred → Deferred → Bool
runs_before a b = nat_lt a.connection b.connection || a.connection == b.connection && nat_lt a.id b.id

-- whether it is that connection's listen with that tag
abbrev pub is_at : ℕ → ℕ → Listen → Bool
is_at connection tag l = l.connection == connection && l.tag == tag

-- ---- what a connection listens to

-- whether a tag comes behind that one, as each does where there is none
abbrev pub is_behind : Option ℕ → ℕ → Bool
is_behind None tag = true
is_behind (Some above) tag = nat_lt above tag

-- a connection's listens behind that tag, in the order of their tags
abbrev pub listens_behind : ℕ → Option ℕ → List Listen → List Listen
listens_behind n above listens = filter (λ l. l.connection == n && is_behind above l.tag) listens
