-- A seat registers a listener, or ends one.
use Rattle.std.specs.Prelude.{ℕ, true, false, ◌&&◌, ◌||◌, not, [], ◌∷◌, ◌++◌, length, ◌==◌, nat_lt}
use Rattle.std.specs.Prelude.{nat_le, Some, None}
use Rattle.std.specs.List.{filter, list_any}
use Rattle.rt_query.specs.Queries.{Query}
use Rattle.rt_cover.specs.Runs.{Add, Remove}
use Rattle.rt_world.specs.declared.error.CoreError.TheVariants.{UnknownListener}
use Rattle.rt_world.specs.declared.error.CoreError.TheVariants.{TooManyListeners}
use Rattle.rt_world.specs.steps.Kind.{Kind, quiet}

-- the listener has the next number, and is not primed; refused where the limit of listeners is reached,
-- the next number is above the last one, or a tag is lacking
abbrev pub listen : ℕ → Query → Kind
listen seat query = record quiet {
  change = Some (λ w. Add w.next_listener query);
  refusals = TooManyListeners ∷ [];
  registers = true;
  has_too_many = λ w lacks_tag.
      nat_le w.limits.listeners (length w.listeners) || nat_lt w.limits.last_number w.next_listener
      || lacks_tag;
  listeners = λ w. w.listeners ++ record {
    number = w.next_listener;
    seat = seat;
    query = query;
    is_primed = false;
    view = None;
  } ∷ [];
}

-- refused where the listener is not registered, or another seat's, or a tag is lacking
abbrev pub unlisten : ℕ → ℕ → Kind
unlisten seat listener = record quiet {
  change = Some (λ w. Remove (listener ∷ []));
  refusals = UnknownListener ∷ TooManyListeners ∷ [];
  is_unknown = λ w. not (list_any (λ l. l.number == listener && l.seat == seat) w.listeners);
  has_too_many = λ w lacks_tag. lacks_tag;
  listeners = λ w. filter (λ l. not (l.number == listener)) w.listeners;
}
