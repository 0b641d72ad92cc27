-- Where listens stand by path, and whose listens entries concern.
use Rattle.std.specs.Prelude.{◌≡◌, ℕ, Bool, true, ◌&&◌, if◌then◌else◌, nat_lt, length, map, List, Option, Some, None}
use Rattle.std.specs.List.{All, list_any}
use Rattle.std.specs.List.Sorted.{IsStrictlySortedBy}
use Rattle.std.specs.Map.{keys_of}
use Rattle.std.specs.Ordering.{nat_cmp, on, then_cmp, is_eq}
use Rattle.std.specs.Cmp.{IsTotalOrder, nat_cmp_total, on_total, then_total}
use Rattle.std.specs.declared.cmp.Ordering.{Ordering}
use Rattle.std.specs.declared.ops.Bound.{Bound}
use Rattle.std.specs.declared.ops.Bound.TheVariants.{Included, Excluded}
use Rattle.rt_tree.specs.PathTree.{Path, path_cmp, path_eq, paths_total}
use Rattle.rt_tree.specs.Assignments.{Assignment, do_overlap, is_at_or_above}
use Rattle.rt_query.specs.Queries.{Query}
use Rattle.rt_peer.specs.Peers.{Listen}
use Rattle.rt_peer.specs.declared.listens.Owner.{Owner}
use Rattle.rt_peer.specs.declared.listens.ListenKey.{ListenKey}

-- by connection, and then by tag
abbrev pub owner_cmp : Owner → Owner → Ordering
owner_cmp = then_cmp (on (λ o. o.connection) nat_cmp) (on (λ o. o.tag) nat_cmp)

-- by path, and then by owner
abbrev pub spot_cmp : ListenKey → ListenKey → Ordering
spot_cmp = then_cmp (on (λ s. s.path) path_cmp) (on (λ s. s.owner) owner_cmp)

pub owners_total : IsTotalOrder owner_cmp
owners_total = then_total (on_total (λ o. o.connection) nat_cmp_total) (on_total (λ o. o.tag) nat_cmp_total)

pub spots_total : IsTotalOrder spot_cmp
spots_total = then_total (on_total (λ s. s.path) paths_total) (on_total (λ s. s.owner) owners_total)

-- whose a listen is
abbrev pub owner_of : Listen → Owner
owner_of l = record { connection = l.connection; tag = l.tag }

-- where it stands
abbrev pub spot_of : Listen → ListenKey
spot_of l = record { path = l.query.path; owner = owner_of l }

-- the listen of an owner and its query
abbrev pub listen_of : Owner × Query → Listen
listen_of e = record { connection = e.0.connection; tag = e.0.tag; query = e.1 }

-- the listens that a map by owner holds
abbrev pub listens_of : List (Owner × Query) → List Listen
listens_of es = map listen_of es

-- entries that rise by owner
abbrev pub AreByOwner : List (Owner × Query) → Type 0
AreByOwner es = IsStrictlySortedBy owner_cmp (keys_of es)

-- whether the owner is among these
abbrev pub has_owner : List Owner → Owner → Bool
has_owner os o = list_any (λ p. is_eq (owner_cmp o p)) os

-- whether the spot is among these
abbrev pub has_spot : List ListenKey → ListenKey → Bool
has_spot spots s = list_any (λ t. is_eq (spot_cmp s t)) spots

-- a listen's spot is among these
abbrev pub Stand : List ListenKey → Listen → Type 0
Stand spots l = has_spot spots (spot_of l) ≡ true

-- each listen's spot is among these; what else is among them leads to nothing
abbrev pub AllStand : List ListenKey → List Listen → Type 0
AllStand spots listens = All (Stand spots) listens

-- whether a spot is at the path, or with what is below, at or below it
abbrev pub is_in : Path → Bool → ListenKey → Bool
is_in p below s = if below then is_at_or_above p s.path else path_eq p s.path

-- whether a spot is above the path
abbrev pub is_above : Path → ListenKey → Bool
is_above p s = is_at_or_above s.path p && nat_lt (length s.path) (length p)

-- whether the path overlaps the spot's
abbrev pub overlaps : Path → ListenKey → Bool
overlaps p s = do_overlap p s.path

-- whether an entry's path does
abbrev pub is_concerned : List Assignment → ListenKey → Bool
is_concerned entries s = list_any (λ a. overlaps a.0 s) entries

-- whose spots pass a test is among these
abbrev pub AreFound : (ListenKey → Bool) → List ListenKey → List Owner → Type 0
AreFound test spots found = All (λ s. test s ≡ true → has_owner found s.owner ≡ true) spots

-- who was among the first is among the second
abbrev pub AreKept : List Owner → List Owner → Type 0
AreKept old new = (o : Owner) → has_owner old o ≡ true → has_owner new o ≡ true

-- from where a connection's listens behind that tag stand by owner
abbrev pub start_of : ℕ → Option ℕ → Bound Owner
start_of n None = Included (record { connection = n; tag = 0 })
start_of n (Some above) = Excluded (record { connection = n; tag = above })
