-- Filtered queries that are listened to, each with a view of the tree.
use Rattle.std.specs.Prelude.{◌≡◌, true, false, ◌||◌, IfSome, if◌then◌else◌, List, [], ◌∷◌, map, Option, Some, None, is_some}
use Rattle.std.specs.List.{All, flat_map, list_any}
use Rattle.std.specs.Ordering.{is_eq}
use Rattle.rt_tree.specs.PathTree.{Key, Path, PathTree, strip, sub}
use Rattle.rt_tree.specs.Assignments.{Assignment}
use Rattle.rt_query.specs.Queries.{Query, is_filtered}
use Rattle.rt_query.specs.QueryOrder.{query_cmp}
use Rattle.rt_view.specs.Views.{View}
use Rattle.rt_peer.specs.Peers.{Listen, is_at}
use Rattle.rt_peer.specs.Pushes.{seen}
use Rattle.rt_peer.specs.declared.listens.Owner.{Owner}
use Rattle.rt_peer.specs.declared.views.Watched.{Watched}
use Rattle.rt_peer.specs.inside.Looked.{at_query}
use Rattle.rt_peer.specs.inside.Spots.{has_owner, is_concerned, owner_of, spot_of}

-- a view of the query that works, of the part of the tree at its path
pub record IsViewOf (t : PathTree) (q : Query) (v : View) : Type 0 where
  pub query : v.query ≡ q
  pub tree : v.tree ≡ sub t q.path
  pub works : v.failed ≡ false

-- such a view of a filtered query, with what it shows
pub record IsOf (t : PathTree) (q : Query) (w : Watched) : Type 0 where
  pub filtered : is_filtered q ≡ true
  pub view : IsViewOf t q w.view
  pub shown : w.shown ≡ seen q t

-- each is of the tree
abbrev pub AreOf : PathTree → List (Query × Watched) → Type 0
AreOf t views = (q : Query) → IfSome (at_query views q) (IsOf t q)

-- somebody listens to each
abbrev pub AreHeard : List Listen → List (Query × Watched) → Type 0
AreHeard listens views = (q : Query) → is_some (at_query views q) ≡ true
    → list_any (λ l. is_eq (query_cmp q l.query)) listens ≡ true

-- ---- while a write makes u of t

-- the tree of which a view is: of u where its query was looked at
abbrev pub tree_now : PathTree → PathTree → List (Query × Option PathTree) → Query → PathTree
tree_now t u looked q = if is_some (at_query looked q) then u else t

abbrev pub AreTurned : PathTree → PathTree → List (Query × Option PathTree) → List (Query × Watched) → Type 0
AreTurned t u looked views = (q : Query) → IfSome (at_query views q) (IsOf (tree_now t u looked q) q)

-- what was noted stays so, and no other query comes to have a view
pub record GoesOn (q : Query) (looked noted : List (Query × Option PathTree)) (views after : List (Query × Watched)) : Type 0 where
  pub stays : (r : Query) → is_some (at_query looked r) ≡ true → is_some (at_query noted r) ≡ true
  pub here : is_filtered q ≡ true → is_some (at_query noted q) ≡ true
  pub alone : (r : Query) → is_some (at_query after r) ≡ true
      → (is_eq (query_cmp q r) || is_some (at_query views r)) ≡ true

-- the owner's listen was looked at
pub record IsVisited (o : Owner) (listens : List Listen) (looked noted : List (Query × Option PathTree))
    (views after : List (Query × Watched)) : Type 0 where
  pub stays : (r : Query) → is_some (at_query looked r) ≡ true → is_some (at_query noted r) ≡ true
  pub here : All (λ l. is_at o.connection o.tag l ≡ true → is_filtered l.query ≡ true
      → is_some (at_query noted l.query) ≡ true) listens
  pub heard : AreHeard listens views → AreHeard listens after

-- of the listens that entries concern, those are left whose filtered queries were not looked at
abbrev pub AreLeft : List Assignment → List Owner → List Listen → List (Query × Option PathTree) → Type 0
AreLeft entries left listens looked = All (λ l. is_filtered l.query ≡ true → is_concerned entries (spot_of l) ≡ true
    → (has_owner left (owner_of l) || is_some (at_query looked l.query)) ≡ true) listens

-- ---- what entries name

-- the next key of a path
abbrev pub first_key : Option Path → List Key
first_key None = []
first_key (Some []) = []
first_key (Some (k ∷ rest)) = k ∷ []

-- the children of the part at a path that entries name
abbrev pub named_keys : Path → List Assignment → List Key
named_keys p entries = flat_map (λ a. first_key (strip p a.0)) entries

-- the children of these keys
abbrev pub children_at : PathTree → List Key → List (Key × PathTree)
children_at t keys = map (λ k. (k, sub t (k ∷ []))) keys
