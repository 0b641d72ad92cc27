-- A link, and how long it waits between the connections that it keeps.
use Rattle.std.specs.Prelude.{◌≡◌, ◌≤◌, ℕ}
use Rattle.std.specs.Borrow.{Bor}
use Rattle.std.specs.Fn.{Once, FnOnceReturnsAt}
use Rattle.rt_socket.specs.Waiting.{wait_after}
use Rattle.rt_link.specs.declared.link.LinkEnd.{LinkEnd}
use Rattle.rt_link.specs.declared.link.LinkEnd.TheVariants.{Stopped, NotOpened, Ended}
use Rattle.rt_link.specs.declared.linked.Linked.{Linked}

-- how many messages its runs have passed over, and how many milliseconds were waited before the connection
-- that is kept, or are due behind it
pub record LinkState : Type 0 where
  pub passed_over : ℕ
  pub waited : ℕ

-- it may have passed over more, and nothing else changes
abbrev pub PassesMore : LinkState → LinkState → Type 0
PassesMore old new = (old.passed_over ≤ new.passed_over) × (new.waited ≡ old.waited)

-- what is waited behind an end, by what was waited before it and for how long the connection stood
abbrev pub WaitsBehind : LinkEnd → ℕ → ℕ → Type 0
WaitsBehind Stopped old new = new ≡ old
WaitsBehind (NotOpened why) old new = new ≡ wait_after old 0
WaitsBehind (Ended why) old new = (stood : ℕ) × (new ≡ wait_after old stood)

-- a work is done with a client, and that is what it answers
abbrev pub HasWorked : {F T : Type 0} → Once F (Bor Linked × Unit {0}) T → F → T → Type 0
HasWorked g work answer = (linked : Linked) × FnOnceReturnsAt g work linked answer
