use Rattle.std.proofs.Common.{rules, ◌≡◌, ◌+◌, ◌≤◌, None, length, refl, arith, subst, ◌∙◌}
use Rattle.rt_socket.specs.Wires.{given_by, said_by}
use Rattle.rt_socket.specs.inside.Rounds.{PausesBy, given_count}
use Rattle.rt_socket.proofs.Joining.{reads_end, reads_more}
use Rattle.rt_socket.proofs.wire.hear_all.Goals as goal

pub returns-in-Some-clause-read : goal.returns-in-Some-clause-read
returns-in-Some-clause-read g c =
    let heard = c.in_ok-heard.heard in
    let few : c.loop.counter ≤ c.args.most = omega arith in
    reads_end c.args.most c.loop.counter (g.W.Wire.remaining c.args.wire.now) (g.W.Wire.remaining c.loop.wire)
    (g.W.Wire.remaining c.hear.new.self) c.loop.messages.items c.add.new.messages.items heard c.in-Some.pause
    (g.W.Wire.said c.hear.new.self) c.loop.invariant.0 few c.in_ok-heard.ensures.gives
    (subst (λ e. length (given_by heard) ≡ given_count e) c.in-Some.is c.in_ok-pause.ensures.count)
    (subst (λ e. PausesBy e (said_by heard)) c.in-Some.is c.in_ok-pause.ensures.pauses)
    c.in_ok-heard.ensures.said c.in_ok-pause.ensures.read

pub loop-preserved : goal.loop-preserved
loop-preserved g c =
    let heard = c.in_ok-heard.heard in
    let goes_on : c.in_ok-pause.field-0 ≡ None = search rules in (
      reads_more c.loop.counter 1 (c.loop.counter + 1) (g.W.Wire.remaining c.args.wire.now)
          (g.W.Wire.remaining c.loop.wire) (g.W.Wire.remaining c.hear.new.self) c.loop.messages.items
          c.add.new.messages.items heard c.loop.invariant.0 c.in_ok-heard.ensures.gives
          (subst (λ e. length (given_by heard) ≡ given_count e) goes_on c.in_ok-pause.ensures.count)
          c.in_ok-pause.ensures.read refl,
      c.in_ok-heard.ensures.contents ∙ c.loop.invariant.1,
    )
