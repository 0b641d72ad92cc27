-- Members that are written are read back.
use Rattle.std.proofs.Common.{◌≡◌, ℕ, List, [], ◌∷◌, length, take, Option, Some, None, Ok, Err, refl, ap, ◌∙◌, arith, nat_lt}
use Rattle.std.specs.Prelude.{if◌then◌else◌, is_none}
use Rattle.std.specs.List.{AllByRecursion}
use Rattle.std.specs.Option.{option_or}
use Rattle.std.proofs.lemmas.Grind.{common_steps}
use Rattle.std.proofs.lemmas.Bool.{le-ltb}
use Rattle.std.proofs.lemmas.List.{take_all}
use Rattle.rt_tree.specs.declared.error.TreeError.{TreeError}
use Rattle.rt_tree.specs.declared.error.TreeError.TheVariants.{TooDeep}
use Rattle.rt_tree.specs.Key.{IsKey}
use Rattle.rt_tree.specs.Path.{IsPath, first_fault, path_text}
use Rattle.rt_tree.specs.PathTree.{Path, PathTree}
use Rattle.rt_tree.specs.Reading.{tree_of_data}
use Rattle.rt_tree.specs.Writing.{data_of}
use Rattle.rt_tree.proofs.Standing.{data_fault-data_of}
use Rattle.rt_wire.specs.declared.error.WireError.TheVariants.{BadTree}
use Rattle.rt_wire.specs.Fields.{in_range, path_of_text, reason_of_text, tree_of}
use Rattle.rt_wire.specs.ReadBack.{IsNumber, IsReadable, IsShort}
use Rattle.rt_wire.specs.inside.Standing.{IsStandingPath, IsStandingTree}

pub number_back : (n : ℕ) → IsNumber n → in_range n ≡ Some n
number_back n h = grind (arith, common_steps)

pub reason_back : (s : List ℕ) → IsShort s → reason_of_text s ≡ Some s
reason_back s h = grind (arith, common_steps)

-- keys have no fault
no_fault : (keys : List (List ℕ)) → AllByRecursion IsKey keys → first_fault keys ≡ None
no_fault [] h = refl
no_fault (key ∷ keys) h = λ i. option_or (h.0 i) (no_fault keys h.1 i)

-- why these keys are no path
fault_of : List (List ℕ) → Option TreeError
fault_of keys = option_or (first_fault (take 32 keys)) (if nat_lt 32 (length keys) then Some TooDeep else None)

path_fine : (p : Path) → IsPath p → fault_of p ≡ None
unfolding fault_of
path_fine p h = ap (λ keys. option_or (first_fault keys) (if nat_lt 32 (length p) then Some TooDeep else None)) (take_all 32 p h.short)
    ∙ (λ i. option_or (no_fault p h.keys i) (if le-ltb 32 (length p) h.short i then Some TooDeep else None))

pub path_back : (p : Path) → IsStandingPath p → path_of_text (path_text p) ≡ Some p
unfolding fault_of
path_back p h = ap (λ keys. if is_none (fault_of keys) then Some keys else None) h.back ∙ ap (λ o. if is_none o then Some p else None) (path_fine p h.valid)

pub tree_back : (t : PathTree) → IsStandingTree t → IsReadable t → tree_of (data_of t) ≡ Ok t
tree_back t h readable = ap (λ o. if is_none o then Ok (tree_of_data (data_of t)) else Err BadTree) (data_fault-data_of t h.allowed ∙ readable) ∙ ap Ok h.back
