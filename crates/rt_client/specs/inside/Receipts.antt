-- How the lanes are told of a call that is made, and whether it is given a number.
use Rattle.std.specs.Prelude.{ℕ, Bool, true, false, List, Option}
use Rattle.std.specs.Option.{option_map}
use Rattle.rt_world.specs.declared.report.Note.{Note}
use Rattle.rt_world.specs.declared.step.Call.{Call}
use Rattle.rt_world.specs.declared.step.Call.TheVariants as call
use Rattle.rt_mail.specs.declared.item.Receipt.{Receipt}
use Rattle.rt_mail.specs.Lanes.{Line, signed_lane}
use Rattle.rt_client.specs.Lanes.{lane_of, IsChanged, AreQueued}

-- the seat's lane is signed, and then each lane is told its notes
pub record AreSigned (seat : ℕ) (receipt : Receipt) (notes : List Note)
    (old new : List (Option Line)) : Type 0 where
  pub between : List (Option Line)
  pub signed : IsChanged seat (option_map (signed_lane receipt) (lane_of old seat)) old between
  pub queued : AreQueued notes between new

-- whether the call's step makes a listener or a request, which is given a number
abbrev pub gives_number : Call → Bool
gives_number (call.Listen query) = true
gives_number (call.Unlisten listener) = false
gives_number (call.Write action) = true
gives_number (call.OnDisconnect ending) = true
