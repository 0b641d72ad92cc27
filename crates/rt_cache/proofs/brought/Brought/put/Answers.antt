use Rattle.std.proofs.Common.{rules, ◌≡◌, true, false, sym, subst}
use Rattle.rt_query.specs.Queries.{is_filtered}
use Rattle.rt_cache.specs.Brought.{may_put}
use Rattle.rt_cache.specs.Canonical.{IsCanonical, FitsLevels, Belongs}
use Rattle.rt_cache.specs.inside.Held.{held}
use Rattle.rt_cache.proofs.Belonging.{filtered_belongs, plain_belongs}
use Rattle.rt_cache.proofs.Levels.{filtered_fits, plain_fits}
use Rattle.rt_cache.proofs.Pushes.{filtered_stays, plain_stays}
use Rattle.rt_cache.proofs.brought.Brought.put.Goals as goal

pub push-requires-clause-apart : goal.push-requires-clause-apart
push-requires-clause-apart c = (c.self.invariant.3).apart

pub invariant_of-self : goal.invariant_of-self
invariant_of-self c =
    let filtered : is_filtered c.args.query.now ≡ true = search rules in
    let may : may_put (held c.self.inside.registered c.self.inside.regions.items c.self.inside.windows.items) c.args.query.now ≡ true =
    subst (λ b. may_put b c.args.query.now ≡ true) (sym c.self.view_is) c.requires.kept in (
      filtered_stays c.push.result c.self.inside.registered c.self.inside.regions.items c.self.inside.windows.items c.push.new.windows.items c.args.query.now (c.args.path.now, c.args.tree.now) filtered
          c.push.ensures.ok c.push.ensures.err c.self.invariant.0,
      filtered_fits c.push.result c.self.inside.registered c.self.inside.regions.items c.self.inside.windows.items c.push.new.windows.items c.args.query.now (c.args.path.now, c.args.tree.now) filtered
          c.requires.levels c.push.ensures.ok c.push.ensures.err c.self.invariant.1,
      c.push.ensures.order,
      filtered_belongs c.push.result c.self.inside.registered c.self.inside.regions.items c.self.inside.windows.items c.push.new.windows.items c.args.query.now (c.args.path.now, c.args.tree.now) filtered
          may c.requires.under c.push.ensures.ok c.push.ensures.err c.self.invariant.0 c.self.invariant.3,
      c.self.invariant.4,
    )

pub invariant_of-self-2 : goal.invariant_of-self-2
invariant_of-self-2 c =
    let plain : is_filtered c.args.query.now ≡ false = search rules in
    let may : may_put (held c.self.inside.registered c.self.inside.regions.items c.self.inside.windows.items) c.args.query.now ≡ true =
    subst (λ b. may_put b c.args.query.now ≡ true) (sym c.self.view_is) c.requires.kept in (
      plain_stays c.put_plain.result c.self.inside.registered c.self.inside.regions.items c.put_plain.new.regions.items c.self.inside.windows.items c.put_plain.new.windows.items
          c.args.query.now (c.args.path.now, c.args.tree.now) plain (c.put_plain.ensures.ok c.self.inside.registered) (c.put_plain.ensures.err c.self.inside.registered) c.self.invariant.0,
      plain_fits c.put_plain.result (held c.self.inside.registered c.put_plain.new.regions.items c.put_plain.new.windows.items) (held c.self.inside.registered c.self.inside.regions.items c.self.inside.windows.items)
          c.args.query.now (c.args.path.now, c.args.tree.now) plain c.requires.levels (c.put_plain.ensures.ok c.self.inside.registered) (c.put_plain.ensures.err c.self.inside.registered) c.self.invariant.1,
      c.put_plain.ensures.order,
      plain_belongs c.put_plain.result (held c.self.inside.registered c.put_plain.new.regions.items c.put_plain.new.windows.items) (held c.self.inside.registered c.self.inside.regions.items c.self.inside.windows.items)
          c.args.query.now (c.args.path.now, c.args.tree.now) plain may c.requires.under (c.put_plain.ensures.ok c.self.inside.registered) (c.put_plain.ensures.err c.self.inside.registered) c.self.invariant.0 c.self.invariant.3,
      c.self.invariant.4,
    )

-- a refused push leaves all as it was
pub invariant_of-self-in_err-put_plain : goal.invariant_of-self-in_err-put_plain
invariant_of-self-in_err-put_plain c =
    let e = c.in_err-put_plain.ensures.err c.self.inside.registered in (
      subst IsCanonical (sym e) c.self.invariant.0,
      subst FitsLevels (sym e) c.self.invariant.1,
      c.put_plain.ensures.order,
      subst Belongs (sym e) c.self.invariant.3,
      c.self.invariant.4,
    )
