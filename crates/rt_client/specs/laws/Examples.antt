-- Ids in key order, which the prover computes.
use Rattle.std.specs.Prelude.{◌≡◌, true, [], ◌∷◌, map, pos, negsuc, Some, None, codes, replicate}
use Rattle.std.specs.declared.cmp.Ordering.TheVariants.{Greater}
use Rattle.rt_order.specs.KeyOrder.{integer_of, key_cmp}
use Rattle.rt_order.specs.laws.Examples.{rises}
use Rattle.rt_push.specs.laws.Ids.{ids}

-- at a moment, again, before it, after it, and there again with no room left: four ids that rise
abbrev pub FourRise : Type 0
FourRise =
    let given = ids None (
    (1700000000000, replicate 12 0) ∷ (1700000000000, replicate 12 0) ∷ (1699999999999, replicate 12 0)
    ∷ (1700000000001, replicate 12 63) ∷ (1700000000001, replicate 12 63) ∷ []) in
    (given ≡ codes "-NjEtLV-------------" ∷ codes "-NjEtLV------------0" ∷ codes
    "-NjEtLV------------1" ∷ codes "-NjEtLV0zzzzzzzzzzzz" ∷ [])
    × (rises key_cmp given ≡ true)

-- below the range a minus can be followed by decimal digits alone: such ids are integer keys, and fall
abbrev pub FallsBelow : Type 0
FallsBelow =
    let given = ids None ((69810262081, replicate 12 1) ∷ (69810262081, replicate 12 1) ∷ []) in
    (given ≡ codes "-0000000000000000000" ∷ codes "-0000000000000000001" ∷ [])
    × (map integer_of given ≡ Some (pos 0) ∷ Some (negsuc 0) ∷ [])
    × (key_cmp (codes "-0000000000000000000") (codes "-0000000000000000001") ≡ Greater)

-- above it an id can be of decimal digits alone, and so stands below all that are no integer keys
abbrev pub FallsAbove : Type 0
FallsAbove =
    let given = ids None ((4398046511103, replicate 12 0) ∷ (4467856773185, replicate 12 1) ∷ []) in
    (given ≡ codes "-zzzzzzz------------" ∷ codes "00000000000000000000" ∷ [])
    × (map integer_of given ≡ None ∷ Some (pos 0) ∷ [])
    × (key_cmp (codes "-zzzzzzz------------") (codes "00000000000000000000") ≡ Greater)
