use Rattle.std.proofs.Common.{sym, subst, not, ◌==◌}
use Rattle.rt_mail.specs.laws.Replays.{Rise}
use Rattle.rt_mail.proofs.Rising.{rise_filter}
use Rattle.rt_mail.proofs.mirror.Known.without_request.Goals as goal

pub invariant_of-known : goal.invariant_of-known
invariant_of-known c = record {
  beside = c.known.invariant.beside;
  rise = c.known.invariant.rise;
  requests_rise = subst Rise (sym c.remove.ensures) (rise_filter (λ r. not (r == c.args.id)) c.known.inside.requests.items c.known.invariant.requests_rise);
}
