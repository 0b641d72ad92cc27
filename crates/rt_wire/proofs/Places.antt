-- Places that are found one after another.
use Rattle.std.proofs.Common.{◌≡◌, ℕ, false, List, [], ◌∷◌, ◌++◌, length, Option, Some, None, refl, sym, ap, ◌∙◌, append_assoc}
use Rattle.std.specs.Prelude.{◌==◌}
use Rattle.std.specs.Option.{option_map, option_and_then}
use Rattle.std.proofs.lemmas.List.{map-append}
use Rattle.serde_json.specs.Data.{Data, Members, member}
use Rattle.serde_json.specs.View.{view}
use Rattle.serde_json.specs.declared.value.Value.{Value}
use Rattle.rt_tree.specs.PathTree.{Path}
use Rattle.rt_wire.specs.Fields.{path_of_text}
use Rattle.rt_wire.specs.EntryFields.{places_of, some_of}
use Rattle.rt_wire.specs.inside.Places.{places}

joined : (found : List (Path × Value)) (place : Path × Value) (o : Option (List (Path × Data)))
    → option_map (λ rest. places found ++ rest) (option_map (λ rest. (place.0, view place.1) ∷ rest) o) ≡ option_map (λ rest. places (found ++ place ∷ []) ++ rest) o
joined found place None = refl
joined found place (Some rest) =
    ap Some (sym (append_assoc (places found) ((place.0, view place.1) ∷ []) rest) ∙ ap (λ xs. xs ++ rest) (sym (map-append (λ (p : Path × Value). (p.0, view p.1)) found (place ∷ []))))

-- the next member's place goes behind the others
pub places-more : (all now : Option (List (Path × Data))) (found : List (Path × Value)) (name : List ℕ) (ms : Members) (place : Path × Value)
    → all ≡ option_map (λ rest. places found ++ rest) (places_of (member name (view place.1) ms))
    → path_of_text name ≡ Some place.0 → now ≡ places_of ms → all ≡ option_map (λ rest. places (found ++ place ∷ []) ++ rest) now
places-more all now found name ms place h path is =
    h
    ∙ ap (λ o. option_map (λ rest. places found ++ rest) (option_and_then (λ p. option_map (λ rest. (p, view place.1) ∷ rest) (places_of ms)) o)) path
    ∙ joined found place (places_of ms)
    ∙ ap (option_map (λ rest. places (found ++ place ∷ []) ++ rest)) (sym is)

pub some_of-filled : {A : Type 0} (xs : List A) → (length xs == 0) ≡ false → some_of xs ≡ Some xs
some_of-filled [] e = cc
some_of-filled (x ∷ xs) e = refl
