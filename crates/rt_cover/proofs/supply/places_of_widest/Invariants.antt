use Rattle.std.proofs.Common.{◌≡◌, ◌<◌, ◌+◌, ℕ, Option, length, get_or}
use Rattle.std.specs.List.{All}
use Rattle.rt_cover.specs.inside.Widest.{IsAmong, IsWidest}
use Rattle.rt_cover.proofs.supply.places_of_widest.Given as goal

abbrev pub invariant-loop-place : goal.invariant-loop-place
invariant-loop-place g l = record {
  len : length l.places.items ≡ l.place;
  among : IsAmong l.place l.widest;
  widest : IsWidest (g.E.EndedListeners.ended l.ending) l.entries l.place l.widest;
  places : All (IsAmong (length l.entries)) l.places.items;
  each : (n : ℕ) (o : Option ℕ) → n < l.place → IsWidest (g.E.EndedListeners.ended l.ending) l.entries (n + 1) (get_or l.places.items n o);
}
