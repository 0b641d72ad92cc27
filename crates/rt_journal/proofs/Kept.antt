-- The entries of a map, with a function at each value.
use Rattle.std.proofs.Common.{◌≡◌, ℕ, Bool, true, false, cond, List, [], ◌∷◌, map, refl, ap, Ordering}
use Rattle.std.proofs.Common.{Vec, Global, option_map}
use Rattle.std.proofs.lemmas.Map.Made.{lookup-map_values}
use Rattle.std.specs.Ordering.{match_ordering}
use Rattle.std.specs.declared.cmp.Ordering.TheVariants.{Less, Equal, Greater}
use Rattle.std.specs.BTreeMap.{insert_entry}
use Rattle.std.specs.Map.{lookup, remove_entry}

module _ {X Y : Type 0} (f : X → Y) where
  abbrev pub each : ℕ × X → ℕ × Y
  each e = (e.0, f e.1)

  pub map-remove_entry : (test : ℕ → Bool) (es : List (ℕ × X))
      → map each (remove_entry test es) ≡ remove_entry test (map each es)
  map-remove_entry test [] = refl
  map-remove_entry test (e ∷ es) =
      elim (test e.0) as (λ t. map each (cond t es (e ∷ remove_entry test es))
      ≡ cond t (map each es) (each e ∷ remove_entry test (map each es))) [
        | true ↦ refl
        | false ↦ ap (λ xs. each e ∷ xs) (map-remove_entry test es)
      ]

  pub map-insert_entry : (cmp : ℕ → ℕ → Ordering) (es : List (ℕ × X)) (k : ℕ) (v : X)
      → map each (insert_entry cmp es k v) ≡ insert_entry cmp (map each es) k (f v)
  map-insert_entry cmp [] k v = refl
  map-insert_entry cmp (e ∷ es) k v =
      elim (cmp k e.0) as (λ o.
      map each (match_ordering o ((k, v) ∷ e ∷ es) ((e.0, v) ∷ es) (e ∷ insert_entry cmp es k v))
      ≡ match_ordering o ((k, f v) ∷ each e ∷ map each es) ((e.0, f v) ∷ map each es)
      (each e ∷ insert_entry cmp (map each es) k (f v))) [
        | Less ↦ refl
        | Equal ↦ refl
        | Greater ↦ ap (λ xs. each e ∷ xs) (map-insert_entry cmp es k v)
      ]

-- ---- lines by connection
abbrev pub of_lines : List (ℕ × Vec ℕ Global) → List (ℕ × List ℕ)
of_lines es = map (λ e. (e.0, e.1.items)) es

pub kept_found : (test : ℕ → Bool) (es : List (ℕ × Vec ℕ Global))
    → lookup test (of_lines es) ≡ option_map (λ v. v.items) (lookup test es)
kept_found test es = lookup-map_values (λ (v : Vec ℕ Global). v.items) test es

pub kept_removed : (test : ℕ → Bool) (es : List (ℕ × Vec ℕ Global))
    → of_lines (remove_entry test es) ≡ remove_entry test (of_lines es)
kept_removed test es = map-remove_entry (λ (v : Vec ℕ Global). v.items) test es

pub kept_inserted : (cmp : ℕ → ℕ → Ordering) (es : List (ℕ × Vec ℕ Global)) (k : ℕ) (v : Vec ℕ Global)
    → of_lines (insert_entry cmp es k v) ≡ insert_entry cmp (of_lines es) k v.items
kept_inserted cmp es k v = map-insert_entry (λ (w : Vec ℕ Global). w.items) cmp es k v
