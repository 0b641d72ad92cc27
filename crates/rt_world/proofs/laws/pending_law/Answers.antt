use Rattle.std.proofs.Common.{◌∙◌, append-nil}
use Rattle.rt_wire.specs.declared.request.Asked.TheVariants.{AtDisconnect}
use Rattle.rt_world.specs.World.{pending}
use Rattle.rt_world.proofs.WrittenLaws.{pending-more, pending-write, pending-without, pending-unseated}
use Rattle.rt_world.proofs.laws.pending_law.Goals as goal

pub returns : goal.returns
returns c = record {
  write = pending-write;
  ending = λ rs id seat ending. pending-more rs (record { id = id; seat = seat; asked = AtDisconnect ending }) ∙ append-nil (pending rs);
  settled = λ rs id. pending-without id rs;
  unseated = λ rs seat. pending-unseated seat rs;
}
