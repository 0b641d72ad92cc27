-- What holds of a world between steps.
use Rattle.std.specs.Prelude.{◌≡◌, ◌<◌, true, List, [], ◌∷◌}
use Rattle.std.specs.List.{All, AllPairs}
use Rattle.rt_cover.specs.State.{Cover}
use Rattle.rt_cover.specs.inside.Sound as cover
use Rattle.rt_world.specs.declared.step.Request.{Request}
use Rattle.rt_world.specs.World.{Listener, World, registered, pending}
use Rattle.rt_world.specs.Views.{is_known}
use Rattle.rt_world.specs.Headline.{view_by}

-- of two listeners the later has the greater number
abbrev pub Rises : List Listener → Type 0
Rises [] = Unit {0}
Rises (l ∷ ls) = All (λ (m : Listener). l.number < m.number) ls × Rises ls

-- the listeners and the listens kept for them, whatever the last tag is
abbrev pub cover_of : World → Cover
cover_of w = record {
  listeners = registered w.listeners;
  kept = w.kept;
  next_tag = w.next_tag;
  last_tag = w.next_tag;
}

-- the listeners rise below the next number, and so do the requests; each view is that of what is
-- brought, and is there where something is known; the listens are those that are needed
pub record IsSound (w : World) : Type 0 where
  pub rises : Rises w.listeners
  pub below : All (λ l. l.number < w.next_listener) w.listeners
  pub views : All (λ l. l.view ≡ view_by l.is_primed w l.query) w.listeners
  pub primed :
      All (λ l. is_known w.brought (pending w.requests) l.query ≡ true → l.is_primed ≡ true) w.listeners
  pub requests : AllPairs (λ (r s : Request). r.id < s.id) w.requests
  pub unsettled : All (λ (r : Request). r.id < w.next_request) w.requests
  pub listens : cover.IsSound (cover_of w)
