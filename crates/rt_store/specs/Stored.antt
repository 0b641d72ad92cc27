-- What a contract sees of a store.
use Rattle.std.specs.Prelude.{◌≡◌, ℕ, zero, suc, List, [], ◌∷◌, Option, Some, None, refl}
use Rattle.std.specs.Coded.{Coded, code_by, coded×, coded_ℕ, coded_list}
use Rattle.rt_tree.specs.PathTree.{Key, PathTree, null, tree_code}
use Rattle.rt_store.specs.Rows.{Row, root_row}

-- the tree, and for each node below the root, by its number, what stands at it and its siblings
-- behind it
pub record Stored : Type 0 where
  pub tree : PathTree
  pub rows : List Row

abbrev pub row_code : Coded Row
row_code = coded_list (coded× (coded_list coded_ℕ) tree_code)

abbrev pub stored_code : Coded Stored
stored_code = code_by (PathTree × List Row) (coded× tree_code (coded_list row_code)) (λ s.
    (s.tree, s.rows)) (λ p. record { tree = p.0; rows = p.1 }) (λ _. refl)

abbrev pub nth : List Row → ℕ → Row
nth [] n = []
nth (r ∷ rs) zero = r
nth (r ∷ rs) (suc n) = nth rs n

-- what stands at the node, and its siblings behind it; none for a node that the store has not
abbrev pub onward : Stored → Option ℕ → Row
onward s None = root_row s.tree
onward s (Some n) = nth s.rows n

-- the row, unless it is empty
abbrev pub some_row : Row → Option Row
some_row [] = None
some_row (e ∷ es) = Some (e ∷ es)

abbrev pub behind : Row → Row
behind [] = []
behind (e ∷ es) = es

abbrev pub first_tree : Row → PathTree
first_tree [] = null
first_tree (e ∷ es) = e.1

abbrev pub first_key : Row → Option Key
first_key [] = None
first_key (e ∷ es) = Some e.0

-- the tree at the node; null for a node that the store has not
abbrev pub tree_at : Stored → Option ℕ → PathTree
tree_at s n = first_tree (onward s n)

-- the key of the node; none at the root
abbrev pub key_at : Stored → Option ℕ → Option Key
key_at s None = None
key_at s (Some n) = first_key (nth s.rows n)

-- nothing changed: the tree is the same, and each node stands for what it stood for
pub record IsAsBefore (old new : Stored) : Type 0 where
  pub tree : new.tree ≡ old.tree
  pub nodes : (n : Option ℕ) → onward new n ≡ onward old n
