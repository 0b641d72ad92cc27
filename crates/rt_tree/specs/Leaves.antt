-- Keys and paths as values, prefixes, and the leaves of a tree by their paths.
use Rattle.std.specs.Prelude.{◌≡◌, ℕ, suc, max, Bool, true, false, cond, not, ◌&&◌, ◌||◌, List, []}
use Rattle.std.specs.Prelude.{◌∷◌, ◌++◌, length, Option, Some, None, is_some}
use Rattle.std.specs.declared.cmp.Ordering.{Ordering}
use Rattle.std.specs.Ordering.{eq_by_cmp, nat_cmp}
use Rattle.std.specs.Option.{option_map_or}
use Rattle.std.specs.Cmp.Lexicographic.{slice_cmp}
use Rattle.std.specs.FinMap as map_of
use Rattle.std.specs.FinMap.{find}
use Rattle.std.specs.FinMap.Entries.{is_sorted, where_key}
use Rattle.rt_tree.specs.Leaf.{LeafValue}

-- ---- keys and paths
abbrev pub Key : Type 0
Key = List ℕ

abbrev pub Path : Type 0
Path = List (List ℕ)

abbrev pub key_cmp : Key → Key → Ordering
key_cmp = slice_cmp nat_cmp

abbrev pub path_cmp : Path → Path → Ordering
path_cmp = slice_cmp key_cmp

abbrev pub key_eq : Key → Key → Bool
key_eq = eq_by_cmp key_cmp

abbrev pub path_eq : Path → Path → Bool
path_eq = eq_by_cmp path_cmp

-- what is left of q below p, where p is a prefix of q
abbrev pub strip : Path → Path → Option Path
strip [] q = Some q
strip (k ∷ p) [] = None
strip (k ∷ p) (j ∷ q) = cond (key_eq k j) (strip p q) None

-- ---- lists of leaves
abbrev pub Leaves : Type 0
Leaves = List (Path × LeafValue)

-- the leaf at p
abbrev pub get : Leaves → Path → Option LeafValue
get m p = find path_cmp p m

-- whether there is no leaf
abbrev pub is_empty : Leaves → Bool
is_empty [] = true
is_empty (e ∷ es) = false

-- whether of p and q neither is a prefix of the other
abbrev pub are_apart : Path → Path → Bool
are_apart p q = not (is_some (strip p q)) && not (is_some (strip q p))

abbrev pub is_apart_from : Path → Leaves → Bool
is_apart_from p [] = true
is_apart_from p (e ∷ es) = are_apart p e.0 && is_apart_from p es

-- whether no path is a prefix of another
abbrev pub stand_apart : Leaves → Bool
stand_apart [] = true
stand_apart (e ∷ es) = is_apart_from e.0 es && stand_apart es

-- whether the paths strictly rise and none is a prefix of another
abbrev pub is_fine : Leaves → Bool
is_fine m = is_sorted path_cmp m && stand_apart m

-- no path is a proper prefix of another
abbrev pub IsApart : Leaves → Type 0
IsApart m = (p q : Path) (l n : LeafValue) → get m p ≡ Some l → get m (p ++ q) ≡ Some n → q ≡ []

-- one more than the length of the longest path
abbrev pub levels_of : List (Path × LeafValue) → ℕ
levels_of [] = 0
levels_of (e ∷ es) = max (suc (length e.0)) (levels_of es)

-- the leaves in the order of their paths
abbrev pub in_order : Leaves → Leaves
in_order [] = []
in_order (e ∷ es) = map_of.put path_cmp e.0 e.1 (in_order es)

-- ---- the leaves at and under p, with p taken off
abbrev pub sub_entry : Option Path → LeafValue → List (Path × LeafValue) → List (Path × LeafValue)
sub_entry None l es = es
sub_entry (Some r) l es = (r, l) ∷ es

abbrev pub sub_entries : Path → List (Path × LeafValue) → List (Path × LeafValue)
sub_entries p [] = []
sub_entries p (e ∷ es) = sub_entry (strip p e.0) e.1 (sub_entries p es)

abbrev pub sub_leaves : Leaves → Path → Leaves
sub_leaves m p = in_order (sub_entries p m)

-- ---- the leaves of u put at p into m
-- whether what T has at q stays, where U comes at p and n says whether it is null
abbrev pub stays : Path → Bool → Path → Bool
stays p n q = not (is_some (strip p q)) && (n || not (is_some (strip q p)))

-- the leaves of es, each below p, over those of m
abbrev pub graft : Path → List (Path × LeafValue) → Leaves → Leaves
graft p [] m = m
graft p (e ∷ es) m = map_of.put path_cmp (p ++ e.0) e.1 (graft p es m)

-- what stays of m, and over it u at p; n says whether u is empty
abbrev pub put_leaves : Leaves → Path → Leaves → Bool → Leaves
put_leaves m p u n = graft p u (where_key path_cmp (stays p n) m)

-- what stands at q after U came at p: what U has below p, or else what stood there, unless U isn't
-- null and q is a prefix of p
abbrev pub after_put : Option Path → (Path → Option LeafValue) → Bool → Option LeafValue
    → Option LeafValue
after_put None u hidden l = cond hidden None l
after_put (Some r) u hidden l = u r

-- ---- the leaves below some first keys
-- the first key of a path
abbrev pub first_key : Path → Option Key
first_key [] = None
first_key (k ∷ p) = Some k

-- whether a leaf at q stays, where the children of these keys stay: a leaf at the root does
abbrev pub is_within : (Key → Bool) → Path → Bool
is_within test q = option_map_or test (first_key q) true

abbrev pub within_leaves : (Key → Bool) → Leaves → Leaves
within_leaves test m = where_key path_cmp (is_within test) m
