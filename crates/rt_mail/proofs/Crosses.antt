-- A history owns nothing, so it may go to another thread as its values may.
use denote.RattleType.{RattleType}
use denote.Param.Send.{IsSend, owning_send, sendable}
use Rattle.rt_mail.specs.contracts.item.History.{the_row, the_type}

pub history_send : (A : RattleType) → IsSend A → IsSend (the_row A)
history_send A a = owning_send (the_type A) (search sendable, tt) (λ d. tt) (λ k x w. tt)
