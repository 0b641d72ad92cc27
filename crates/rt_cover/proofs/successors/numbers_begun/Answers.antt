use Rattle.std.proofs.Common.{◌≡◌, ◌||◌, ℕ, Bool, List, sym, ap, subst, ◌∙◌}
use Rattle.std.specs.List.{list_any}
use Rattle.rt_cover.specs.Cover.{Registered, Tagged}
use Rattle.rt_cover.specs.inside.Endings.{by_number, begins_at, begins_after, has_supplied}
use Rattle.rt_cover.specs.inside.Index.{form_of, AreApart}
use Rattle.rt_cover.proofs.CountLaws.{same_any}
use Rattle.rt_cover.proofs.HeldLaws.{supplied_begin}
use Rattle.rt_cover.proofs.StartLaws.{list_any_agreeing}
use Rattle.rt_cover.proofs.SuppliedLaws.{apart_fewer, any_same}
use Rattle.rt_cover.proofs.TopLaws.{of_beginners}
use Rattle.rt_cover.proofs.successors.numbers_begun.Goals as goal

pub supplied-requires-clause-apart : goal.supplied-requires-clause-apart
supplied-requires-clause-apart g c =
    subst (AreApart form_of) (sym c.deref.ensures.value)
    (apart_fewer form_of c.args.lost.now c.in_ok-ordered.ordered.items (any_same c.args.lost.now c.in_ok-ordered.ordered.items c.in_ok-ordered.ensures.same) c.requires.apart)

pub returns : goal.returns
returns g c = λ p.
    let ends : Registered → Bool = by_number (g.E.EndedListeners.ended c.args.ending.now) in
    let ls : List Registered = c.args.listeners.now in
    let begins : ℕ → Bool = begins_at ends ls p in
    c.in_ok-add_all.ensures p
    ∙ ap (λ (ns : List ℕ). list_any p ns || list_any begins c.deref-2.result.now) c.new-numbers.ensures.items
    ∙ ap (list_any begins) c.deref-2.ensures.value
    ∙ c.in_ok-candidates.ensures begins (of_beginners (g.E.EndedListeners.ended c.args.ending.now) ls c.requires.rise p)
    ∙ ap (list_any (has_supplied ls begins)) c.deref.ensures.value
    ∙ same_any (has_supplied ls begins) c.in_ok-ordered.ordered.items c.args.lost.now c.in_ok-ordered.ensures.same
    ∙ list_any_agreeing (has_supplied ls begins) (begins_after ends ls p) c.args.lost.now (supplied_begin ends ls c.requires.rise p)
