-- What a change of one key does to the others.
use Rattle.std.specs.Prelude.{◌≡◌, Option, cond}
use Rattle.std.specs.declared.cmp.Ordering.{Ordering}
use Rattle.std.specs.BTreeMap.{is_at}
use Rattle.rt_map.specs.Maps.{OrdMap, get_by}

-- n has w at the key k (`None`: the key is out), and has at each other key what m has
abbrev pub Updates : {K V : Type 0} → (K → K → Ordering) → OrdMap K V → OrdMap K V → K → Option V → Type 0
Updates {K} cmp m n k w = (q : K) → get_by (cmp q) n ≡ cond (is_at (cmp k) q) w (get_by (cmp q) m)
