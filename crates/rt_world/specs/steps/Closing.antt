-- A seat goes.
use Rattle.std.specs.Prelude.{ℕ, if◌then◌else◌, not, List, [], ◌∷◌, map, ◌==◌, Some, None}
use Rattle.std.specs.List.{filter}
use Rattle.std.specs.Option.{option_eq}
use Rattle.rt_cover.specs.Runs.{Remove}
use Rattle.rt_world.specs.declared.error.CoreError.TheVariants.{TooManyListeners}
use Rattle.rt_world.specs.declared.step.Request.{Request}
use Rattle.rt_world.specs.World.{World}
use Rattle.rt_world.specs.steps.Kind.{Kind, quiet}

-- a request of a closed seat stays without a seat
abbrev pub unseated : ℕ → Request → Request
unseated seat r =
    if option_eq (λ a b. a == b) r.seat (Some seat) then record r { seat = None } else r

-- the numbers of a seat's listeners
abbrev pub numbers_of : World → ℕ → List ℕ
numbers_of w seat = map (λ l. l.number) (filter (λ l. l.seat == seat) w.listeners)

-- its listeners end, and its requests stay; refused where a tag is lacking
abbrev pub close_seat : ℕ → Kind
close_seat seat = record quiet {
  change = Some (λ w. Remove (numbers_of w seat));
  refusals = TooManyListeners ∷ [];
  has_too_many = λ w lacks_tag. lacks_tag;
  listeners = λ w. filter (λ l. not (l.seat == seat)) w.listeners;
  requests = λ w. map (unseated seat) w.requests;
}
