-- What a contract sees of a tree of forms.
use Rattle.std.specs.Prelude.{◌≡◌, ◌⊎◌, ℕ, Bool, true, List, [], Option}
use Rattle.std.specs.List.{list_any, All, Contains}
use Rattle.rt_tree.specs.PathTree.{Path}
use Rattle.rt_tree.specs.Assignments.{is_at_or_above}
use Rattle.rt_query.specs.Queries.{Query, is_filtered}
use Rattle.rt_query.specs.QueryEq.{query_eq}
use Rattle.rt_query.specs.Supply.{form}
use Rattle.rt_nodes.specs.Forest.{row_at}
use Rattle.rt_forms.specs.inside.Trees.{Standing, Nodes, seen}

-- a tree of forms: what is registered at the root, the nodes below it, and the first of its children.
-- Contracts speak of it by `numbers` and `count` alone
pub record Forms : Type 0 where
  pub top : Standing
  pub nodes : Nodes
  pub first : Option ℕ

-- the numbers of the listeners of a query's form
abbrev pub numbers : Forms → Query → List ℕ
numbers forms q = seen q q.path forms.top (row_at forms.nodes forms.first)

-- how many listeners there are
abbrev pub count : Forms → ℕ
count forms = (forms.top).count

-- whether two queries are listened to in one form
abbrev pub share_form : Query → Query → Bool
share_form q r = query_eq (form q) (form r)

-- each form has the listeners that it had
pub record IsAsBefore (old new : Forms) : Type 0 where
  pub listeners : (q : Query) → numbers new q ≡ numbers old q
  pub counted : count new ≡ count old

-- a form at or under a path has a listener whose number passes a test
pub record IsHeardUnder (forms : Forms) (path : Path) (test : ℕ → Bool) : Type 0 where
  pub query : Query
  pub is_form : form query ≡ query
  pub under : is_at_or_above path query.path ≡ true
  pub heard : list_any test (numbers forms query) ≡ true

-- these are the filtered forms of a path that have listeners, each with the numbers of its own
pub record AreFilteredAt (forms : Forms) (path : Path) (entries : List (Query × List ℕ)) : Type 0 where
  pub each : (q : Query) → is_filtered q ≡ true → q.path ≡ path
      → (numbers forms q ≡ []) ⊎ Contains entries (q, numbers forms q)
  pub only : All (λ (e : Query × List ℕ). (is_filtered e.0 ≡ true) × ((e.0).path ≡ path)
      × (numbers forms e.0 ≡ e.1)) entries
