-- What a line asks for, by how it was read, and what is done then.
use Rattle.std.proofs.Common.{◌≡◌, ◌++◌, ◌∷◌, [], ◌∙◌, ℕ, List, true, refl, sym, ap, subst, inl, inr, append_assoc}
use Rattle.std.specs.Prelude.{String, string_bytes, IfOk, OnOk, Result, Ok, Err}
use Rattle.std.specs.declared.alloc.AllocError.{AllocError}
use Rattle.std.specs.declared.alloc.Global.{Global}
use Rattle.rt_push.specs.declared.error.PushError.{PushError}
use Rattle.rt_tree.specs.PathTree.{Path, PathTree}
use Rattle.rt_tree.specs.declared.error.TreeError.{TreeError}
use Rattle.rt_client.specs.Calls.{Locked}
use Rattle.rt_lines.specs.Printing.{id_line}
use Rattle.rt_lines.specs.Typing.{typed_of_bytes}
use Rattle.rt_lines.specs.declared.error.LineError.{LineError}
use Rattle.rt_lines.specs.declared.error.Refusal.TheVariants.{Push, Tree}
use Rattle.rt_lines.specs.declared.order.Order.{Order}
use Rattle.rt_lines.specs.declared.order.Typed.{Typed}
use Rattle.rt_lines.specs.declared.order.Typed.TheVariants as typed
use Rattle.rt_lines.specs.inside.Appending.{Appends}
use Rattle.rt_link.specs.Pushing.{IsPushKey}
use Rattle.rt_connect.specs.Doing.{Obeys, Seats}
use Rattle.rt_watch.specs.Asking.{Asks, AsksPush, HasNone, is_good_asked}
use Rattle.rt_watch.specs.Watching.{DoesLine, PrintsDone, Pushes, is_good}
use Rattle.rt_watch.specs.declared.effect.AskedLine.{AskedLine}
use Rattle.rt_watch.specs.declared.effect.AskedLine.TheVariants as asked
use Rattle.rt_watch.specs.declared.effect.WatchFault.{WatchFault}
use Rattle.rt_watch.proofs.Faulting.{after_input_writes, of_link_writes, still}

-- there is no push id
pub none_id : (why : PushError) → HasNone (asked.Refused (Push why))
none_id why = inl (why, refl)

-- there is no room for one
pub none_path : (why : TreeError) → HasNone (asked.Refused (Tree why))
none_path why = inr (why, refl)

-- so a write below a path has none
pub asks_none : (answer : Result AskedLine WatchFault) (seat : ℕ) (path : Path) (tree : PathTree)
    → IfOk answer HasNone → IfOk answer (λ a. AsksPush seat path tree a)
asks_none (Err e) seat path tree h = tt
asks_none (Ok a) seat path tree h = inr h

pub asks_no_path : (seat : ℕ) (path : Path) (tree : PathTree) (why : TreeError)
    → AsksPush seat path tree (asked.Refused (Tree why))
asks_no_path seat path tree why = inr (none_path why)

-- or one is there
pub asks_id : (seat : ℕ) (path at : Path) (tree : PathTree) (id : List ℕ) → IsPushKey id → at ≡ path ++ id ∷ []
    → AsksPush seat path tree (asked.Push id seat at tree)
asks_id seat path at tree id key is = inl (id, key, ap (λ p. asked.Push id seat p tree) is)

is_good_push : (seat : ℕ) (path : Path) (tree : PathTree) (a : AskedLine) → AsksPush seat path tree a
    → is_good_asked a ≡ true
is_good_push seat path tree a (inl h) = ap is_good_asked h.2
is_good_push seat path tree a (inr (inl h)) = ap is_good_asked h.1
is_good_push seat path tree a (inr (inr h)) = ap is_good_asked h.1

-- a line asks for such a write
pub push_asks : (answer : Result AskedLine WatchFault) (read : Result Typed LineError) (seat : ℕ) (path : Path)
    (tree : PathTree) → read ≡ Ok (typed.Push seat path tree)
    → IfOk answer (λ a. AsksPush seat path tree a) → IfOk answer (λ a. Asks read a)
push_asks (Err e) read seat path tree is asks = tt
push_asks (Ok a) read seat path tree is asks = subst (λ r. Asks r a) (sym is) asks

pub push_good : (answer : Result AskedLine WatchFault) (read : Result Typed LineError) (seat : ℕ) (path : Path)
    (tree : PathTree) → read ≡ Ok (typed.Push seat path tree)
    → IfOk answer (λ a. AsksPush seat path tree a) → IfOk answer (λ a. is_good read ≡ is_good_asked a)
push_good (Err e) read seat path tree is asks = tt
push_good (Ok a) read seat path tree is asks = ap is_good is ∙ sym (is_good_push seat path tree a asks)

-- the id is printed, and then what becomes of the write
pub pushes : (answer : Result Unit AllocError) (id : List ℕ) (o : Order) (old new : Locked) (seats left : Seats)
    (a b c : String Global) → Appends a b (id_line id)
    → OnOk answer ((text : List ℕ) × Appends b c text × Obeys o old seats text new left)
    → OnOk answer ((text : List ℕ) × Appends a c text × Pushes id o old seats text new left)
pushes (Err e) id o old new seats left a b c first h = tt
pushes (Ok v) id o old new seats left a b c first h = (
  id_line id ++ h.0,
  h.1 ∙ ap (λ x. x ++ h.0) first ∙ append_assoc (string_bytes a) (id_line id) h.0,
  (h.0, h.2, refl),
)

-- what a line asks for is done by some client
pub asks_done : (bytes : List ℕ) (number : ℕ) (seats left : Seats) (a b : String Global) (asks : AskedLine)
    (old new : Locked) → Asks (typed_of_bytes bytes) asks
    → ((text : List ℕ) × Appends a b text × DoesLine asks number old seats text new left)
    → (text : List ℕ) × Appends a b text × PrintsDone bytes number seats text left
asks_done bytes number seats left a b asks old new is h = (h.0, h.1, (asks, is, (old, new, h.2)))

-- so of what is asked for
pub ruleset asks = (
  still,
  of_link_writes,
  after_input_writes,
  none_id,
  none_path,
  asks_none,
  asks_no_path,
  asks_id,
  push_asks,
  push_good,
  asks_done,
)
