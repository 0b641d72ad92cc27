-- Numbers and their places in a list.
use Rattle.std.specs.Prelude.{◌≡◌, ℕ, Bool, false, List, map, ◌==◌}
use Rattle.std.specs.List.{slice_get}
use Rattle.std.specs.Option.{option_map_or}
use Rattle.rt_view.specs.declared.change.Change.{Change}
use Rattle.rt_view.specs.Changes.{replay}
use Rattle.rt_mail.specs.Mailbox.{Children}
use Rattle.rt_mail.specs.laws.Replays.{Rise}

-- whether the number stands at the place
abbrev pub does_stand : List ℕ → ℕ → ℕ → Bool
does_stand ns place n = option_map_or (λ m. m == n) (slice_get ns place) false

-- the numbers of listeners
abbrev pub numbers_of : List (ℕ × Children) → List ℕ
numbers_of ls = map (λ l. l.0) ls

-- the numbers stand beside their listeners; these and those of the requests rise
pub record AreInOrder (listeners : List (ℕ × Children)) (numbers requests : List ℕ) : Type 0 where
  pub beside : numbers ≡ numbers_of listeners
  pub rise : Rise numbers
  pub requests_rise : Rise requests

-- a listener after changes of its own
abbrev pub after_changes : List Change → ℕ × Children → ℕ × Children
after_changes changes l = (l.0, replay changes l.1)
