use Rattle.std.proofs.Common.{sym, ◌∙◌}
use mathlib.Core.Bool.{true≢false}
use Rattle.rt_peer.proofs.PlacedLaws.{place_added, place_kept}
use Rattle.rt_peer.proofs.actions.mark.Goals as goal

pub returns-then-not-is_bare-clause-marked : goal.returns-then-not-is_bare-clause-marked
returns-then-not-is_bare-clause-marked c bare = absurd (true≢false (sym bare ∙ sym c.is_bare.ensures ∙ c.if-not-is_bare.true))

pub returns-clause-kept : goal.returns-clause-kept
returns-clause-kept c p h = place_kept c.args.place c.args.empty.now.keys c.insert.new.self.keys c.in_ok-insert.ensures.updates.0 p h

pub returns-clause-marked : goal.returns-clause-marked
returns-clause-marked c bare = place_added c.args.place c.args.empty.now.keys c.insert.new.self.keys c.in_ok-insert.ensures.updates.0
