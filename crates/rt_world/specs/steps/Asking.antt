-- A seat writes, or asks for what is to be done when the connection ends.
use Rattle.std.specs.Prelude.{ℕ, false, ◌||◌, List, [], ◌∷◌, ◌++◌, length, nat_lt}
use Rattle.std.specs.Prelude.{nat_le, Option, Some, None}
use Rattle.std.specs.List.{list_any}
use Rattle.std.specs.Option.{option_map_or}
use Rattle.rt_tree.specs.Assignments.{have_overlap}
use Rattle.rt_wire.specs.declared.request.Action.{Action}
use Rattle.rt_wire.specs.declared.request.Asked.{Asked}
use Rattle.rt_wire.specs.declared.request.Asked.TheVariants.{Now, AtDisconnect}
use Rattle.rt_wire.specs.declared.request.Ending.TheVariants.{Run, Cancel}
use Rattle.rt_world.specs.declared.error.CoreError.TheVariants.{TooManyRequests, Overlap}
use Rattle.rt_world.specs.declared.error.CoreError.TheVariants.{EmptyUpdate, TooDeep}
use Rattle.rt_world.specs.declared.step.Request.{Request}
use Rattle.rt_world.specs.World.{World, entries_of}
use Rattle.rt_world.specs.steps.Kind.{Kind, quiet, stands_too_deep}
pub use Rattle.rt_wire.specs.Actions.{is_empty_action}

-- the action that is asked for, if it is one
abbrev pub action_in : Asked → Option Action
action_in (Now action) = Some action
action_in (AtDisconnect (Run action)) = Some action
action_in (AtDisconnect (Cancel path)) = None

-- the requests with a new one, which has the next number
abbrev pub requests_with : World → ℕ × Asked → List Request
requests_with w asked =
    w.requests ++ record { id = w.next_request; seat = Some asked.0; asked = asked.1 } ∷ []

-- what the seat asks for is a request; refused where the limit of requests is reached or the next
-- number is above the last one, and where its action has paths of which one is at or above another,
-- or no entries, or a leaf that would stand too deep
abbrev pub ask : ℕ → Asked → Kind
ask seat asked = record quiet {
  asked = Some (seat, asked);
  refusals = TooManyRequests ∷ Overlap ∷ EmptyUpdate ∷ TooDeep ∷ [];
  has_too_many_requests = λ w.
      nat_le w.limits.requests (length w.requests) || nat_lt w.limits.last_number w.next_request;
  has_overlap = option_map_or (λ a. have_overlap (entries_of a)) (action_in asked) false;
  is_empty = option_map_or is_empty_action (action_in asked) false;
  is_too_deep =
      option_map_or (λ a. list_any stands_too_deep (entries_of a)) (action_in asked) false;
  requests = λ w. requests_with w (seat, asked);
}
