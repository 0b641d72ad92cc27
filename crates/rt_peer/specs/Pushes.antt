-- What listens show, and what they are sent when a write changes that.
use Rattle.std.specs.Prelude.{ℕ, Bool, not, ◌==◌, ◌&&◌, ◌||◌, if◌then◌else◌, List, [], ◌∷◌, ◌++◌, map}
use Rattle.std.specs.List.{filter, fold, list_any}
use Rattle.rt_tree.specs.PathTree.{Path, PathTree, sub, put}
use Rattle.rt_tree.specs.Trees.{tree_eq}
use Rattle.rt_tree.specs.Assignments.{Assignment, is_at_or_above}
use Rattle.rt_query.specs.Queries.{Query, is_filtered}
use Rattle.rt_query.specs.Select.{select, tree_of}
use Rattle.rt_wire.specs.declared.server.ServerMessage.{ServerMessage}
use Rattle.rt_wire.specs.declared.server.ServerMessage.TheVariants.{Data, DataMerge, Push}
use Rattle.rt_wire.specs.declared.server.ServerMessage.TheVariants.{Accepted, Refused, Revoked}
use Rattle.rt_wire.specs.Parts.{Part}
use Rattle.rt_peer.specs.declared.pushes.Sent.{Sent}
use Rattle.rt_peer.specs.Peers.{Listen, Deferred, is_known}

-- the tree after some entries, one put after another
abbrev pub written : PathTree → List Assignment → PathTree
written t entries = fold (λ u a. put u a.0 a.1) t entries

-- what a query shows of the tree: the part at its path, or if it is filtered the object of the rows
abbrev pub seen : Query → PathTree → PathTree
seen q t = if is_filtered q then tree_of (select q (sub t q.path)) else sub t q.path

-- whether a listen shows something else of u than of t
abbrev pub is_changed : PathTree → PathTree → Listen → Bool
is_changed t u l = not (tree_eq (seen l.query t) (seen l.query u))

-- the entries below a path, each with what stands there
abbrev pub parts_below : PathTree → Path → List Assignment → List Assignment
parts_below t p entries = map (λ a. (a.0, sub t a.0)) (filter (λ a. is_at_or_above p a.0) entries)

-- one part by itself, or several together
abbrev pub parts_message : ℕ → List Assignment → ServerMessage
parts_message tag [] = DataMerge tag []
parts_message tag (a ∷ []) = Data tag a.0 a.1
parts_message tag (a ∷ b ∷ rest) = DataMerge tag (a ∷ b ∷ rest)

-- what a listen is sent once the tree is t by these entries: all that it shows, where it is filtered
-- or an entry is at or above its path; else the parts below
abbrev pub push_of : PathTree → List Assignment → Listen → ServerMessage
push_of t entries l =
    if is_filtered l.query || list_any (λ a. is_at_or_above a.0 l.query.path) entries
    then Data l.tag l.query.path (seen l.query t)
    else parts_message l.tag (parts_below t l.query.path entries)

-- what the listens are sent, in order, once the entries made u of t: those that show something else
abbrev pub pushes : PathTree → PathTree → List Assignment → List Listen → List Sent
pushes t u entries listens =
    map (λ l. record { to = l.connection; message = push_of u entries l })
    (filter (is_changed t u) listens)

-- the parts of a message that pushes
abbrev pub parts_in : ServerMessage → List Part
parts_in (Data tag path tree) = (tag, (path, tree) ∷ []) ∷ []
parts_in (DataMerge tag entries) = (tag, entries) ∷ []
parts_in (Push parts) = parts
parts_in (Accepted id) = []
parts_in (Refused id why) = []
parts_in (Revoked tag why) = []

-- whether two are for one connection, which reads version 2
abbrev pub go_together : List ℕ → Sent → Sent → Bool
go_together newer s r = s.to == r.to && is_known newer s.to

-- one push with the parts of both
abbrev pub together : Sent → Sent → Sent
together s r = record { to = s.to; message = Push (parts_in s.message ++ parts_in r.message) }

-- a message in front of others, as one with the next where they go together
abbrev pub joined : List ℕ → Sent → List Sent → List Sent
joined newer s [] = s ∷ []
joined newer s (r ∷ rest) = if go_together newer s r then together s r ∷ rest else s ∷ r ∷ rest

-- pushes, by connection, as they are sent: to one that reads version 2, several as one
abbrev pub bundled : List ℕ → List Sent → List Sent
bundled newer [] = []
bundled newer (s ∷ rest) = joined newer s (bundled newer rest)

-- the tree after some actions
abbrev pub tree_after : PathTree → List Deferred → PathTree
tree_after t actions = fold (λ u a. written u a.entries) t actions

-- what the listens are sent, one action after another
abbrev pub pushes_after : List ℕ → List Listen → PathTree → List Deferred → List Sent
pushes_after newer listens t [] = []
pushes_after newer listens t (a ∷ actions) =
    bundled newer (pushes t (written t a.entries) a.entries listens)
    ++ pushes_after newer listens (written t a.entries) actions
