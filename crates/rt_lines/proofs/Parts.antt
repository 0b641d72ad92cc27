-- Arrays that begin with a name.
use Rattle.std.proofs.Common.{◌≡◌, ℕ, List, [], ◌∷◌, Some, option_and_then, option_map, refl, sym, ap, ◌∙◌}
use Rattle.serde_json.specs.Data.{Data}
use Rattle.serde_json.specs.Find.{as_array, as_str}
use Rattle.serde_json.specs.View.{view, items_of, items_view}
use Rattle.serde_json.specs.declared.value.Value.{Value}
use Rattle.rt_lines.specs.Words.{elements, split, parts_in}
use Rattle.rt_lines.specs.inside.FormView.{views}

pub elements-items_of : (ds : List Data) → elements (items_of ds) ≡ ds
elements-items_of [] = refl
elements-items_of (d ∷ ds) = ap (λ es. d ∷ es) (elements-items_of ds)

pub parts_in-array : (d : Data) (v : Value) (vs : List Value) (n : List ℕ) → Some (items_view (v ∷ vs)) ≡ as_array d → Some n ≡ as_str (view v) → Some (n, views vs) ≡ parts_in d
parts_in-array d v vs n e f =
    ap (λ (ws : List Data). Some (n, ws)) (sym (elements-items_of (views vs)))
    ∙ ap (option_map (λ (m : List ℕ). (m, elements (items_view vs)))) f
    ∙ ap (option_and_then (λ ds. split (elements ds))) e
