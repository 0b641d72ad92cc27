use Rattle.std.proofs.Common.{inr, subst}
use Rattle.rt_http.specs.Incomings.{IsHeadTaken}
use Rattle.rt_http.specs.inside.Begun.{IsBegun}
use Rattle.rt_http.proofs.Heads.{on_err}
use Rattle.rt_http.proofs.request.Incoming.first.Goals as goal

pub returns-in-Head-clause-refused : goal.returns-in-Head-clause-refused
returns-in-Head-clause-refused c =
    let a = c.args.self.now in
    let m = c.begin.new.self in
    let taken : IsHeadTaken a c.in-Head.marks m = subst (λ b. IsBegun a b m) c.in-Head.is c.in_ok-begin.ensures.begun in
    on_err c.go_on.result (λ e h. inr (c.in-Head.marks, m, taken, h)) c.go_on.ensures.refused
