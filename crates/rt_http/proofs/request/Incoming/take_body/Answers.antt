use Rattle.std.proofs.Common.{OnOk, subst, sym}
use Rattle.rt_http.specs.Incomings.{IsTaken}
use Rattle.rt_http.proofs.request.Incoming.take_body.Goals as goal

pub returns-in-Chunked-clause-taken : goal.returns-in-Chunked-clause-taken
returns-in-Chunked-clause-taken c =
    subst (λ f. OnOk c.take_chunks.result (IsTaken f c.args.self.now c.take_chunks.new.self)) (sym c.in-Chunked.is)
    c.take_chunks.ensures
