-- What is answered of a listener's view.
use Rattle.std.proofs.Common.{◌≡◌, refl, sym, ap, Option, Some, None, Result, Ok, Err}
use Rattle.std.specs.Option.{option_and_then, option_map_or}
use Rattle.rt_query.specs.Select.{Shown}
use Rattle.rt_world.specs.declared.error.CoreError.{CoreError}
use Rattle.rt_world.specs.declared.error.CoreError.TheVariants.{UnknownListener}
use Rattle.rt_world.specs.World.{Listener}

-- the view of a listener that is found, and of none
abbrev pub view_of_found : Option Listener → Result (Option Shown) CoreError
view_of_found o = option_map_or (λ (l : Listener). Ok l.view) o (Err UnknownListener)

pub view_found : (o : Option Listener) (shown : Option Shown) → (o ≡ None → ⊥) → shown ≡ option_and_then (λ (l : Listener). l.view) o
    → ◌≡◌ {A = Result (Option Shown) CoreError} (Ok shown) (view_of_found o)
view_found None shown there e = absurd (there refl)
view_found (Some l) shown there e = ap Ok e

pub view_lost : (o : Option Listener) → o ≡ None → ◌≡◌ {A = Result (Option Shown) CoreError} (Err UnknownListener) (view_of_found o)
view_lost o e = ap view_of_found (sym e)
