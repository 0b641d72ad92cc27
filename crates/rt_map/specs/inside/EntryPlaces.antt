-- Where an entry has its value.
use mathlib.Core.Path.{refl}
use mathlib.Core.List.{[], ◌∷◌}
use denote.RattleType.{RattleType}
use denote.HoleLaws.{Alike}
use denote.HolePlaces.{struct_places, laid, stays}
use denote.Struct.Tuple.{tuple_type, Tuple}
use Rattle.std_collections.specs.Layout.Former.{on_value}

abbrev pub pair_of : RattleType → RattleType → RattleType
pair_of K R = Tuple (K ∷ R ∷ [])

module _ (K R S : RattleType) (h : R.Denot → S.Denot) where
  pub pair_places : Alike R S h → Alike (pair_of K R) (pair_of K S) (on_value h)
  pair_places a = struct_places (tuple_type (K ∷ R ∷ [])) (tuple_type (K ∷ S ∷ [])) ((λ k. k), (h, tt)) (on_value h) (λ d. refl) refl (stays K, (laid R S h a, tt))
