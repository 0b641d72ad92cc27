-- Parts in a row, each behind an `Arc`.
use mathlib.Core.Path.{◌≡◌, refl, sym, ap, ◌∙◌, subst}
use mathlib.Core.HLevel.{×_prop}
use mathlib.Core.Former.{Former, list, list_count, list_put, none_left}
use denote.Model.Placed.{Held}
use native.Mathlib.Bridge.{le_prop}
use Rattle.std.specs.Prelude.{ℕ, ◌<◌, List, [], ◌∷◌, ◌++◌, length, map}
use Rattle.std.specs.declared.sync.Arc.{Arc}
use Rattle.std.specs.declared.alloc.Global.{Global}
use lib.ListN.{length-map, get_or}
use Rattle.rt_map.specs.inside.ArcPlaces.{arc_former, arc_map}

-- the entries of the parts, one part after another
abbrev pub joined : {E : Type 0} → List (Arc (List E) Global) → List E
joined [] = []
joined (a ∷ as') = a.value ++ joined as'

-- no part is empty
abbrev pub AllFilled : {E : Type 0} → List (Arc (List E) Global) → Type 0
AllFilled [] = Unit {0}
AllFilled (a ∷ as') = (0 < length a.value) × AllFilled as'

-- the part there has more than n entries
abbrev pub IsWider : {E : Type 0} → List (Arc (List E) Global) → ℕ → ℕ → Type 0
IsWider {E} as' at n = (d : Arc (List E) Global) → n < length (get_or as' at d).value

-- ---- what lets a type hold itself through parts
map-append : {X Y : Type 0} (f : X → Y) (xs ys : List X) → map f (xs ++ ys) ≡ map f xs ++ map f ys
map-append f [] ys = refl
map-append f (x ∷ xs) ys = ap (λ l. f x ∷ l) (map-append f xs ys)

pub joined-map : {X Y : Type 0} (f : X → Y) (as' : List (Arc (List X) Global)) → joined (map (arc_map (map f)) as') ≡ map f (joined as')
joined-map f [] = refl
joined-map f (a ∷ as') = ap (λ l. map f a.value ++ l) (joined-map f as') ∙ sym (map-append f a.value (joined as'))

pub AllFilled-prop : {X : Type 0} (as' : List (Arc (List X) Global)) → IsProp (AllFilled as')
AllFilled-prop [] = λ p q. refl
AllFilled-prop (a ∷ as') = ×_prop le_prop (AllFilled-prop as')

pub AllFilled-to : {X Y : Type 0} (f : X → Y) (as' : List (Arc (List X) Global)) → AllFilled as' → AllFilled (map (arc_map (map f)) as')
AllFilled-to f [] h = tt
AllFilled-to f (a ∷ as') h = (let P : ℕ → Type 0 = λ n. 0 < n in subst P (sym (length-map a.value f)) h.0, AllFilled-to f as' h.1)

pub AllFilled-from : {X Y : Type 0} (f : X → Y) (as' : List (Arc (List X) Global)) → AllFilled (map (arc_map (map f)) as') → AllFilled as'
AllFilled-from f [] h = tt
AllFilled-from f (a ∷ as') h = (let P : ℕ → Type 0 = λ n. 0 < n in subst P (length-map a.value f) h.0, AllFilled-from f as' h.1)

-- the values that these hold, before those in `t`
abbrev pub added : (g : Former {0}) (X : Type 0) → List (g.Of X) → Held X → Held X
added g X xs t = (list_count g (map (g.shape X) xs) t.0, list_put g X xs t.0 t.1)

added-append : (g : Former {0}) (X : Type 0) (xs ys : List (g.Of X)) (t : Held X) → added g X (xs ++ ys) t ≡ added g X xs (added g X ys t)
added-append g X [] ys t = refl
added-append g X (x ∷ xs) ys t = λ i. (g.count (g.shape X x) (added-append g X xs ys t i).0, g.put X x (added-append g X xs ys t i).0 (added-append g X xs ys t i).1)

pub added-joined : (g : Former {0}) (X : Type 0) (as' : List (Arc (List (g.Of X)) Global)) → added (arc_former (list g)) X as' (none_left, tt) ≡ added g X (joined as') (none_left, tt)
added-joined g X [] = refl
added-joined g X (a ∷ as') = (λ i. added g X a.value (added-joined g X as' i)) ∙ sym (added-append g X a.value (joined as') (none_left, tt))
