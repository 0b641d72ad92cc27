-- Where a listener of a number stands, and a kept listen of a tag.
use Rattle.std.specs.Prelude.{◌≡◌, ℕ, Bool, false, nat_le, ◌==◌, List, ◌∷◌, ◌++◌}
use Rattle.std.specs.List.{position_or_len, slice_get}
use Rattle.std.specs.Option.{option_map_or}
use Rattle.rt_cover.specs.Cover.{Registered, Tagged}

-- the first place at which no lesser number stands
abbrev pub place : ℕ → List Registered → ℕ
place number listeners = position_or_len (λ l. nat_le number l.0) listeners

-- whether a listener of the number stands at a place
abbrev pub does_stand : List Registered → ℕ → ℕ → Bool
does_stand listeners at number = option_map_or (λ l. l.0 == number) (slice_get listeners at) false

-- the same of kept listens, by their tags
abbrev pub tag_place : ℕ → List Tagged → ℕ
tag_place tag kept = position_or_len (λ k. nat_le tag k.tag) kept

abbrev pub does_stand_kept : List Tagged → ℕ → ℕ → Bool
does_stand_kept kept at tag = option_map_or (λ k. k.tag == tag) (slice_get kept at) false

-- a listener went out of a list, and the others stay in their order
pub record IsTakenOut (old new : List Registered) (l : Registered) : Type 0 where
  pub before : List Registered
  pub behind : List Registered
  pub was : old ≡ before ++ l ∷ behind
  pub is : new ≡ before ++ behind
