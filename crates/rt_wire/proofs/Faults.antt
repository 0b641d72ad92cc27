-- Calls that refuse by a fault.
use Rattle.std.proofs.Common.{◌≡◌, ℕ, List, Option, Some, None, Ok, Err, IfSome, refl, sym, ap, ◌∙◌}
use Rattle.std.specs.Prelude.{if◌then◌else◌, is_none}
use Rattle.rt_tree.specs.PathTree.{Path}
use Rattle.rt_tree.specs.Path.{path_keys, path_fault}
use Rattle.rt_wire.specs.Fields.{path_of_text}

-- what would be refused is not answered
none_if_ok : {A E : Type 0} (o : Option E) (x : A) → IfSome o (λ e. Ok x ≡ Err e) → o ≡ None
none_if_ok None x h = refl
none_if_ok (Some e) x h = cc

-- a text that is read as a path
pub path_of_text-ok : (s : List ℕ) (p : Path) → IfSome (path_fault s) (λ e. Ok p ≡ Err e) → p ≡ path_keys s → path_of_text s ≡ Some p
path_of_text-ok s p h is = ap (λ o. if is_none o then Some (path_keys s) else None) (none_if_ok (path_fault s) p h) ∙ ap Some (sym is)
