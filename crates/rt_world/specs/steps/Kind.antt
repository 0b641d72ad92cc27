-- What there is to say of a step, whatever its kind.
use Rattle.std.specs.Prelude.{ℕ, Bool, false, List, [], Option, None}
use Rattle.rt_cover.specs.Runs.{Change}
use Rattle.rt_wire.specs.declared.request.Asked.{Asked}
use Rattle.rt_world.specs.declared.error.CoreError.{CoreError}
use Rattle.rt_world.specs.declared.step.Request.{Request}
use Rattle.rt_world.specs.World.{Reason, Listener, World}
pub use Rattle.rt_wire.specs.Actions.{stands_too_deep}
pub use Rattle.rt_wire.specs.Parts.{Part}

-- what comes with it, what it changes, when it is refused, when it is stale, and what it leaves
pub record Kind : Type 0 where
  -- the parts of a push; what a seat asks for; the request that is settled, and why it is refused; the
  -- listen that is revoked, and why
  pub parts : List Part
  pub asked : Option (ℕ × Asked)
  pub settled : Option (ℕ × Option Reason)
  pub revoked : Option (ℕ × Reason)
  -- the change of listeners that the cover takes, if it registers or ends some; the refusals that it can
  -- have
  pub change : Option (World → Change)
  pub refusals : List CoreError
  -- it names a listener that is none of its seat's; there are too many listeners, by whether a tag is
  -- lacking, and where that is looked at last; too many requests
  pub is_unknown : World → Bool
  pub has_too_many : World → Bool → Bool
  pub has_too_many_last : Bool → Bool
  pub has_too_many_requests : World → Bool
  -- of two of its paths one is at or above the other; it is an update without entries; a leaf of it
  -- would stand under too many keys; it pushes what its listen can't bring
  pub has_overlap : Bool
  pub is_empty : Bool
  pub is_too_deep : Bool
  pub is_bad_push : World → Bool
  -- it comes from a connection; it opens one; it ends one; it comes too late
  pub needs_connection : Bool
  pub opens : Bool
  pub closes : Bool
  pub is_stale : World → Bool
  -- the listeners that stay, and a new one, as they were; the requests; whether a listener gets a number
  pub listeners : World → List Listener
  pub requests : World → List Request
  pub registers : Bool

-- nothing of all that; each kind says what else it does
abbrev pub quiet : Kind
quiet = record {
  parts = [];
  asked = None;
  settled = None;
  revoked = None;
  change = None;
  refusals = [];
  is_unknown = λ w. false;
  has_too_many = λ w lacks_tag. false;
  has_too_many_last = λ lacks_tag. false;
  has_too_many_requests = λ w. false;
  has_overlap = false;
  is_empty = false;
  is_too_deep = false;
  is_bad_push = λ w. false;
  needs_connection = false;
  opens = false;
  closes = false;
  is_stale = λ w. false;
  listeners = λ w. w.listeners;
  requests = λ w. w.requests;
  registers = false;
}
