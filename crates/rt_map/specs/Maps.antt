-- A map as a value. Contracts say of it what std says of a `BTreeMap`.
use Rattle.std.specs.Prelude.{List, [], ◌∷◌, Option, None, Some}
use base.Stored.{Coded, coded_list, coded×, coded_via}
use Rattle.std.specs.declared.cmp.Ordering.{Ordering}
use Rattle.std.specs.BTreeMap.{is_at}
use Rattle.std.specs.Map.{lookup, keys_of, values_of, set_value}
use Rattle.std.specs.List.{filter}
use Rattle.std.specs.List.Sorted.{IsStrictlySortedBy}
use Rattle.std.specs.Ordering.{is_gt}

-- the last of a list
abbrev pub last_in : {X : Type 0} → List X → Option X
last_in [] = None
last_in (x ∷ []) = Some x
last_in (x ∷ y ∷ xs) = last_in (y ∷ xs)

-- the last key to which the query compares `Greater`
abbrev pub last_below : {K X : Type 0} → (K → Ordering) → List (K × X) → Option K
last_below compare es = last_in (filter (λ k. is_gt (compare k)) (keys_of es))

-- the keys with their values, in the keys' order
pub record OrdMap (K X : Type 0) : Type 0 where
  pub entries : List (K × X)

abbrev pub map_code : {K X : Type 0} → Coded K → Coded X → Coded (OrdMap K X)
map_code k x =
    coded_via (coded_list (coded× k x)) (λ m. m.entries) (λ a b e i. record { entries = e i })

module _ {K X : Type 0} where
  -- the map with these entries
  abbrev pub map_of : List (K × X) → OrdMap K X
  map_of es = record { entries = es }

  -- the values, in the keys' order
  abbrev pub values : OrdMap K X → List X
  values m = values_of m.entries

  -- the value at the key to which the query compares `Equal`
  abbrev pub get_by : (K → Ordering) → OrdMap K X → Option X
  get_by compare m = lookup (is_at compare) m.entries

  -- m, with w as the value at that key
  abbrev pub written : (K → Ordering) → OrdMap K X → X → OrdMap K X
  written compare m w = map_of (set_value (is_at compare) m.entries w)

  -- the keys ascend
  abbrev pub IsOrdered : (K → K → Ordering) → OrdMap K X → Type 0
  IsOrdered cmp m = IsStrictlySortedBy cmp (keys_of m.entries)
