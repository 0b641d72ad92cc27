-- The members of an object.
use Rattle.std.proofs.Common.{◌≡◌, Bool, true, false, List, [], ◌∷◌, String, Global, length, refl, arith}
use Rattle.std.specs.Prelude.{suc, ◌↔◌}
use Rattle.serde_json.specs.View.{members_view}
use Rattle.serde_json.specs.declared.value.Value.{Value}
use Rattle.rt_hub.specs.Refusing.{has_none}

pub none_is : (es : List (String Global × Value)) (b : Bool) → ((b ≡ true) ↔ (length es ≡ 0))
    → b ≡ has_none (members_view es)
none_is [] true i = refl
none_is [] false i = i.1 refl
none_is ((k, v) ∷ es) true i = let z : suc (length es) ≡ 0 = i.0 refl in absurd (omega (arith, z))
none_is ((k, v) ∷ es) false i = refl
