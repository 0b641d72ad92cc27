-- A write by a push id.
use Rattle.std.specs.Prelude.{◌≡◌, ℕ, List, [], ◌∷◌, ◌++◌, Bool, true, false}
use Rattle.rt_push.specs.Digits.{number}
use Rattle.rt_push.specs.PushIds.{push_id, used}
use Rattle.rt_tree.specs.PathTree.{Path, PathTree}
use Rattle.rt_wire.specs.declared.request.Action.TheVariants.{Put}
use Rattle.rt_world.specs.declared.step.Call.TheVariants.{Write}
use Rattle.rt_client.specs.declared.error.ClientError.{ClientError}
use Rattle.rt_client.specs.Calls.{Locked, Seated}
use Rattle.rt_client.specs.Waiting.{IsNumbered, IsUnmade}
use Rattle.rt_link.specs.declared.turn.Pushed.{Pushed}
use Rattle.rt_link.specs.declared.turn.Unpushed.{Unpushed}
use Rattle.rt_link.specs.declared.turn.Unpushed.TheVariants as unpushed

-- a key is the push id that a locked value gives for some moment and some random digits
pub record IsPushKey (key : List ℕ) : Type 0 where
  pub locked : Locked
  pub now : ℕ
  pub random : List ℕ
  pub id : key ≡ push_id (used locked.ids now (number random))

-- the tree is written below the path by a push id, as the request of that number
pub record IsPushed (seat : Seated) (path : Path) (tree : PathTree) (pushed : Pushed) (left : Seated) : Type 0 where
  pub key : IsPushKey pushed.key
  pub written : IsNumbered seat (Write (Put (path ++ pushed.key ∷ []) tree)) pushed.request left

-- the client refuses this write below the path, by some push id
pub record IsUnwritten (seat : Seated) (path : Path) (tree : PathTree) (why : ClientError) (left : Seated) : Type 0 where
  pub key : List ℕ
  pub is_id : IsPushKey key
  pub refused : IsUnmade seat (Write (Put (path ++ key ∷ []) tree)) why left

-- whether it is the client that refuses
abbrev pub is_client_fault : Unpushed → Bool
is_client_fault unpushed.Clock = false
is_client_fault unpushed.Random = false
is_client_fault (unpushed.Ids why) = false
is_client_fault (unpushed.Path why) = false
is_client_fault (unpushed.Client why) = true

-- nothing is pushed: the seat is as it was, or the client refuses the write
abbrev pub IsUnpushed : Seated → Path → PathTree → Unpushed → Seated → Type 0
IsUnpushed seat path tree unpushed.Clock left = left ≡ seat
IsUnpushed seat path tree unpushed.Random left = left ≡ seat
IsUnpushed seat path tree (unpushed.Ids why) left = left ≡ seat
IsUnpushed seat path tree (unpushed.Path why) left = left ≡ seat
IsUnpushed seat path tree (unpushed.Client why) left = IsUnwritten seat path tree why left
