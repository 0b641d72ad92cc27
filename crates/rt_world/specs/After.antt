-- What a step leaves: listeners, requests, kept listens, data, views, the connection, numbers.
use Rattle.std.specs.Prelude.{ℕ, ◌+◌, Bool, true, false, ◌||◌, if◌then◌else◌, List, [], ◌∷◌, map}
use Rattle.std.specs.Prelude.{Option, Some, None}
use Rattle.std.specs.List.{fold}
use Rattle.std.specs.Option.{option_map, option_map_or}
use Rattle.rt_query.specs.Queries.{Query}
use Rattle.rt_writes.specs.Writes.{Write}
use Rattle.rt_cache.specs.Brought.{Brought, push}
use Rattle.rt_cache.specs.Recover.{recover}
use Rattle.rt_cover.specs.Cover.{forms, needed, Tagged, started, kept_for}
use Rattle.rt_wire.specs.declared.request.Asked.TheVariants.{Now, AtDisconnect}
use Rattle.rt_world.specs.declared.step.Request.{Request}
use Rattle.rt_world.specs.declared.step.Step.{Step}
use Rattle.rt_world.specs.Views.{is_known, view_of}
use Rattle.rt_world.specs.World.{Listener, World, registered, listening, pending}
use Rattle.rt_world.specs.World.{listen_of}
use Rattle.rt_world.specs.steps.Asking.{ask}
use Rattle.rt_world.specs.steps.Closing.{close_seat}
use Rattle.rt_world.specs.steps.Connection.{connected, disconnected}
use Rattle.rt_world.specs.steps.Kind.{Kind, Part}
use Rattle.rt_world.specs.steps.Listening.{listen, unlisten}
use Rattle.rt_world.specs.steps.Pushing.{push_of}
use Rattle.rt_world.specs.steps.Revoking.{revoke}
use Rattle.rt_world.specs.steps.Settling.{settle}

-- what there is to say of a step
abbrev pub kind : Step → Kind
kind (Step.Listen seat query) = listen seat query
kind (Step.Unlisten seat listener) = unlisten seat listener
kind (Step.Write seat action) = ask seat (Now action)
kind (Step.OnDisconnect seat ending) = ask seat (AtDisconnect ending)
kind (Step.Data tag path tree) = push_of ((tag, (path, tree) ∷ []) ∷ [])
kind (Step.DataMerge tag entries) = push_of ((tag, entries) ∷ [])
kind (Step.Push parts) = push_of parts
kind (Step.Accepted id) = settle id None
kind (Step.Refused id why) = settle id (Some why)
kind (Step.Revoked tag why) = revoke tag why
kind Step.Connected = connected
kind Step.Disconnected = disconnected
kind (Step.CloseSeat seat) = close_seat seat

-- ---- listeners and requests

-- the listeners that are registered after the step, as they were; a new one is not primed
abbrev pub listeners_after : World → Step → List Listener
listeners_after w s = (kind s).listeners w

-- the requests that are unsettled after the step
abbrev pub requests_after : World → Step → List Request
requests_after w s = (kind s).requests w

-- ---- listens and data

-- the forms that are registered after the step
abbrev pub forms_after : World → Step → List Query
forms_after w s = forms (registered (listeners_after w s))

-- the forms of the listeners after the step, one for each
abbrev pub listening_after : World → Step → List Query
listening_after w s = listening (registered (listeners_after w s))

-- the listens that are kept after the step
abbrev pub kept_after : World → Step → List Tagged
kept_after w s = kept_for w.next_tag w.kept (needed (forms_after w s))

-- the listens that the step starts
abbrev pub started_by : World → Step → List Tagged
started_by w s = started w.next_tag w.kept (needed (forms_after w s))

-- what is brought after a part of a push: one of a tag that is not kept changes nothing
abbrev pub part_pushed : World → Brought → Part → Brought
part_pushed w b p = option_map_or (λ q. fold (push q) b p.1) (listen_of w p.0) b

-- what is brought once the step's push is taken
abbrev pub pushed : World → Step → Brought
pushed w s = fold (part_pushed w) w.brought (kind s).parts

-- what is brought after the step: its push, then its change of cover
abbrev pub brought_after : World → Step → Brought
brought_after w s =
    recover (listening_after w s) (map (λ k. k.form) (kept_after w s)) (pushed w s)

-- a listener with its primed mark and its view taken from scratch
abbrev pub renewed : Brought → List Write → Listener → Listener
renewed brought writes l =
    if l.is_primed || is_known brought writes l.query
    then record l { is_primed = true; view = Some (view_of brought writes l.query) }
    else l

-- the listeners after the step, with their views
abbrev pub renewed_after : World → Step → List Listener
renewed_after w s =
    map (renewed (brought_after w s) (pending (requests_after w s))) (listeners_after w s)

-- whether there is a connection after the step
abbrev pub is_connected_after : World → Step → Bool
is_connected_after w s =
    if (kind s).opens then true else if (kind s).closes then false else w.is_connected

-- ---- numbers

-- the number of the listener that the step makes, if it makes one
abbrev pub listener_given : World → Step → Option ℕ
listener_given w s = if (kind s).registers then Some w.next_listener else None

-- the number of the request that the step makes, if it makes one
abbrev pub request_given : World → Step → Option ℕ
request_given w s = option_map (λ _. w.next_request) (kind s).asked

-- the number after the one that was given
abbrev pub counted : ℕ → Option ℕ → ℕ
counted n None = n
counted n (Some m) = n + 1
