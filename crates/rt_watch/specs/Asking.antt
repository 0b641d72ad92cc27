-- What a line asks for, as it is known before the client is locked.
use Rattle.std.specs.Prelude.{◌≡◌, ◌⊎◌, ◌++◌, ℕ, List, [], ◌∷◌, Bool, true, false, Result, Ok, Err}
use Rattle.rt_push.specs.declared.error.PushError.{PushError}
use Rattle.rt_tree.specs.PathTree.{Path, PathTree}
use Rattle.rt_tree.specs.declared.error.TreeError.{TreeError}
use Rattle.rt_link.specs.Pushing.{IsPushKey}
use Rattle.rt_lines.specs.declared.error.LineError.{LineError}
use Rattle.rt_lines.specs.declared.error.LineError.TheVariants as line
use Rattle.rt_lines.specs.declared.error.Refusal.TheVariants.{Push, Tree}
use Rattle.rt_lines.specs.declared.order.Order.{Order}
use Rattle.rt_lines.specs.declared.order.Order.TheVariants as order
use Rattle.rt_lines.specs.declared.order.Typed.{Typed}
use Rattle.rt_lines.specs.declared.order.Typed.TheVariants as typed
use Rattle.rt_watch.specs.declared.effect.AskedLine.{AskedLine}
use Rattle.rt_watch.specs.declared.effect.AskedLine.TheVariants as asked

-- whether an order is done: none that reads messages is, since they come by themselves
abbrev pub is_done : Order → Bool
is_done (order.Seat seat call) = true
is_done (order.Close seat) = true
is_done order.Cover = true
is_done (order.Read times) = false

-- whether that is good, though a word of it may be refused
abbrev pub is_good_asked : AskedLine → Bool
is_good_asked (asked.Order o) = is_done o
is_good_asked (asked.View listener) = true
is_good_asked (asked.Push id seat path tree) = true
is_good_asked (asked.Refused why) = true
is_good_asked asked.Bad = false

-- there is no push id, or the path has no room for one more key
abbrev pub HasNone : AskedLine → Type 0
HasNone a = ((why : PushError) × (a ≡ asked.Refused (Push why))) ⊎ ((why : TreeError) × (a ≡ asked.Refused (Tree why)))

-- a write of a seat below a path, by the client's next push id, if there is one
abbrev pub AsksPush : ℕ → Path → PathTree → AskedLine → Type 0
AsksPush seat path tree a =
    ((id : List ℕ) × IsPushKey id × (a ≡ asked.Push id seat (path ++ id ∷ []) tree)) ⊎ HasNone a

-- what a line asks for that was read so
abbrev pub Asks : Result Typed LineError → AskedLine → Type 0
Asks (Ok (typed.Order o)) a = a ≡ asked.Order o
Asks (Ok (typed.View listener)) a = a ≡ asked.View listener
Asks (Ok (typed.Push seat path tree)) a = AsksPush seat path tree a
Asks (Err line.Bad) a = a ≡ asked.Bad
Asks (Err (line.Refused why)) a = a ≡ asked.Refused why
Asks (Err line.NoMemory) a = ⊥
