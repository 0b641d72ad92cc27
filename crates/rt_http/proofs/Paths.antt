-- Texts that are paths.
use Rattle.std.proofs.Common.{◌≡◌, ℕ, List, Option, Some, None, Result, Ok, Err, sym, ap}
use Rattle.std.specs.Prelude.{IfSome}
use Rattle.std.specs.Option.{option_map_or}
use Rattle.rt_tree.specs.declared.error.TreeError.{TreeError}
use Rattle.rt_http.specs.declared.fault.Fault.TheVariants as fault

-- a text that was read as a path has no fault
pub path_is : (o : Option TreeError) (keys path : List (List ℕ)) (r : Result (List (List ℕ)) TreeError)
    → r ≡ Ok path → path ≡ keys → IfSome o (λ e. r ≡ Err e)
    → option_map_or (λ e. Err (fault.Path e)) o (Ok keys) ≡ Ok path
path_is None keys path r is same h = ap Ok (sym same)
path_is (Some e) keys path r is same h = cc
