use Rattle.std.proofs.Common.{◌≡◌, ◌∙◌, ap, sym, subst}
use Rattle.rt_cache.specs.Brought.{Brought}
use Rattle.rt_cache.specs.Canonical.{IsCanonical, FitsLevels, Belongs}
use Rattle.rt_cache.specs.Recover.{recover}
use Rattle.rt_cache.specs.inside.Held.{held, AreShort}
use Rattle.rt_cache.proofs.Belonging.{recover_belongs, have_forms}
use Rattle.rt_cache.proofs.Changes.{recover_stays}
use Rattle.rt_cache.proofs.Levels.{recover_fits}
use Rattle.rt_cache.proofs.brought.Brought.recover.Goals as goal

pub change_cover-requires-clause-forms : goal.change_cover-requires-clause-forms
change_cover-requires-clause-forms c =
    have_forms (held c.self.inside.registered c.self.inside.regions.items c.self.inside.windows.items) c.self.invariant.0 c.self.invariant.3

pub change_cover-requires-clause-beside : goal.change_cover-requires-clause-beside
change_cover-requires-clause-beside c = c.self.invariant.3.beside

-- a refused change leaves all as it was
pub invariant_of-self : goal.invariant_of-self
invariant_of-self c =
    let e = c.in_err-change_cover.ensures.err c.self.inside.registered in (
      subst IsCanonical (sym e) c.self.invariant.0,
      subst FitsLevels (sym e) c.self.invariant.1,
      c.change_cover.ensures.order,
      subst Belongs (sym e) c.self.invariant.3,
      c.self.invariant.4,
    )

pub invariant_of-self-2 : goal.invariant_of-self-2
invariant_of-self-2 c =
    let b : Brought = held c.self.inside.registered c.self.inside.regions.items c.self.inside.windows.items in
    let copied : c.in_ok-forms.forms ≡ c.args.registered.now = c.in_ok-forms.ensures.same in
    let e : held c.in_ok-forms.forms c.change_cover.new.regions.items c.change_cover.new.windows.items ≡ recover c.args.registered.now c.args.kept.now b =
    (λ i. held (copied i) c.change_cover.new.regions.items c.change_cover.new.windows.items) ∙ c.in_ok-change_cover.ensures.ok in (
      subst IsCanonical (sym e) (recover_stays c.args.registered.now c.args.kept.now b c.requires.apart c.self.invariant.0),
      subst FitsLevels (sym e) (recover_fits c.args.registered.now c.args.kept.now b c.in_ok-forms.ensures.short c.in_ok-change_cover.ensures.listens c.self.invariant.0.filtered c.self.invariant.1),
      c.change_cover.ensures.order,
      subst Belongs (sym e) (recover_belongs c.args.registered.now c.args.kept.now b c.requires.registered c.self.invariant.3),
      subst AreShort (sym copied) c.in_ok-forms.ensures.short,
    )

pub returns-clause-ok : goal.returns-clause-ok
returns-clause-ok c =
    let copied : c.in_ok-forms.forms ≡ c.args.registered.now = c.in_ok-forms.ensures.same in
    (λ i. held (copied i) c.change_cover.new.regions.items c.change_cover.new.windows.items)
    ∙ c.in_ok-change_cover.ensures.ok
    ∙ ap (recover c.args.registered.now c.args.kept.now) c.self.view_is
