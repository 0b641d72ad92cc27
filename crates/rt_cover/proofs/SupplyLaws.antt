-- Whether a kept listen supplies a form, by what is found.
use Rattle.std.proofs.Common.{◌≡◌, ℕ, Bool, true, false, cond, ◌||◌, List, [], ◌∷◌, refl, sym, Option, Some, None, is_some}
use mathlib.Core.Bool.{true≢false}
use Rattle.std.specs.List.{find, list_any}
use Rattle.std.specs.Option.{option_map}
use Rattle.rt_cover.specs.Cover.{Registered, Tagged}
use Rattle.rt_cover.specs.inside.Endings.{left}
use Rattle.rt_cover.specs.laws.Pairs.{filter_all}

-- where nobody ends, all are left
pub all_left : (ls : List Registered) → left (λ (l : Registered). false) ls ≡ ls
all_left ls = filter_all (λ (l : Registered). true) ls (λ k d lt. refl)

-- whether one is found
pub found_any : (p : Tagged → Bool) (ks : List Tagged) → is_some (option_map (λ (k : Tagged). k.tag) (find p ks)) ≡ list_any p ks
found_any p [] = refl
found_any p (k ∷ ks) = elim (p k) as (λ b. p k ≡ b → is_some (option_map (λ (x : Tagged). x.tag) (cond b (Some k) (find p ks))) ≡ (b || list_any p ks)) [
  | true ↦ λ _. refl
  | false ↦ λ _. found_any p ks
] refl

-- none is found
pub none_found : (o : Option ℕ) → is_some o ≡ false → o ≡ None
none_found None e = refl
none_found (Some t) e = absurd (true≢false e)
