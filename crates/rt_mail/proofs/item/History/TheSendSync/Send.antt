use denote.RattleType.{RattleType}
use denote.Param.Send.{IsSend}
use Rattle.rt_mail.proofs.Crosses.{history_send}
use Rattle.rt_mail.specs.contracts.item.History.{the_row}

pub send : (A : RattleType) → IsSend A → IsSend (the_row A)
send = history_send
