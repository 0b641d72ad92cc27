-- Arrays of other lengths are no cuts and no limits.
use Rattle.std.proofs.Common.{◌≡◌, ◌≢◌, ◌<◌, ◌≤◌, ◌⊎◌, inl, inr, List, [], ◌∷◌, length, None, refl, arith}
use Rattle.serde_json.specs.View.{items_view}
use Rattle.serde_json.specs.declared.value.Value.{Value}
use Rattle.rt_wire.specs.QueryFields.{cut_of_items, limit_of_items}

pub no_cut : (xs : List Value) → length xs ≢ 2 → length xs ≢ 3 → cut_of_items (items_view xs) ≡ None
no_cut [] h g = refl
no_cut (x ∷ []) h g = refl
no_cut (x ∷ y ∷ []) h g = absurd (omega arith)
no_cut (x ∷ y ∷ z ∷ []) h g = absurd (omega arith)
no_cut (x ∷ y ∷ z ∷ w ∷ xs) h g = refl

pub no_limit : (xs : List Value) → (length xs < 2) ⊎ (3 ≤ length xs) → limit_of_items (items_view xs) ≡ None
no_limit [] h = refl
no_limit (x ∷ []) h = refl
no_limit (x ∷ y ∷ []) (inl h) = absurd (omega arith)
no_limit (x ∷ y ∷ []) (inr h) = absurd (omega arith)
no_limit (x ∷ y ∷ z ∷ xs) h = refl
