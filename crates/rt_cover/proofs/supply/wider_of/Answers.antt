use Rattle.std.proofs.Common.{rules, ◌≡◌, ◌<◌, List, true, false, not, get_or, sym, ap, subst, ◌∙◌}
use Rattle.std.specs.List.{list_any}
use Rattle.std.proofs.lemmas.List.{get_or_default}
use Rattle.rt_query.specs.Queries.{is_filtered}
use Rattle.rt_query.specs.Ranges.{takes_in}
use Rattle.rt_cover.specs.inside.Widest.{Entry, has_left, IsAmong, IsWidest}
use Rattle.rt_cover.proofs.WidestLaws.{among_more, stays_without, first_left, stays_wide, reaches_further}
use Rattle.rt_cover.proofs.supply.wider_of.Goals as goal

pub returns-then-not-has_left-clause-among : goal.returns-then-not-has_left-clause-among
returns-then-not-has_left-clause-among g c = among_more c.args.place c.args.widest c.requires.among

pub returns-then-not-has_left-clause-widest : goal.returns-then-not-has_left-clause-widest
returns-then-not-has_left-clause-widest g c =
    let ended = g.E.EndedListeners.ended c.args.ending.now in
    let es : List Entry = c.args.entries.now in
    let e : Entry = c.index-entries-place.result in
    let at : e ≡ get_or es c.args.place e = search rules in
    let gone : has_left ended e ≡ false = search rules in
    stays_without ended es c.args.place c.requires.within e at c.args.widest gone c.requires.widest

pub returns-in_default-clause-widest : goal.returns-in_default-clause-widest
returns-in_default-clause-widest g c =
    let ended = g.E.EndedListeners.ended c.args.ending.now in
    let es : List Entry = c.args.entries.now in
    let e : Entry = c.index-entries-place.result in
    let at : e ≡ get_or es c.args.place e = search rules in
    let left : has_left ended e ≡ true = search rules in
    first_left ended es c.args.place c.requires.within e at left (subst (IsWidest ended es c.args.place) c.in_default.is c.requires.widest)

pub bounds-entries-other : goal.bounds-entries-other
bounds-entries-other g c =
    let before : c.in-Some.other < c.args.place = subst (IsAmong c.args.place) c.in-Some.is c.requires.among in
    search rules

pub returns-then-takes_in-clause-widest : goal.returns-then-takes_in-clause-widest
returns-then-takes_in-clause-widest g c =
    let ended = g.E.EndedListeners.ended c.args.ending.now in
    let es : List Entry = c.args.entries.now in
    let e : Entry = c.index-entries-place-2.result in
    let w : Entry = c.index-entries-other.result in
    let before : c.in-Some.other < c.args.place = subst (IsAmong c.args.place) c.in-Some.is c.requires.among in
    let at : e ≡ get_or es c.args.place e = search rules in
    let there : w ≡ get_or es c.in-Some.other w = search rules in
    let wide : takes_in w.0 e.0 ≡ true = search rules in
    stays_wide ended es c.args.place c.requires.within e at c.in-Some.other before w there wide (subst (IsWidest ended es c.args.place) c.in-Some.is c.requires.widest)

pub returns-clause-widest : goal.returns-clause-widest
returns-clause-widest g c =
    let ended = g.E.EndedListeners.ended c.args.ending.now in
    let es : List Entry = c.args.entries.now in
    let e : Entry = c.index-entries-place-2.result in
    let w : Entry = c.index-entries-other.result in
    let before : c.in-Some.other < c.args.place = subst (IsAmong c.args.place) c.in-Some.is c.requires.among in
    let at : e ≡ get_or es c.args.place e = search rules in
    let there : w ≡ get_or es c.in-Some.other w = search rules in
    let narrow : takes_in w.0 e.0 ≡ false = search rules in
    let f : Entry = c.index-entries-place.result in
    let was : f ≡ get_or es c.args.place f = search rules in
    let was_left : has_left ended f ≡ true = ap (list_any (λ m. not (ended m))) (sym c.numbers.ensures) ∙ sym c.has_left.ensures ∙ c.if-not-has_left.false in
    let left : has_left ended e ≡ true = subst (λ (x : Entry). has_left ended x ≡ true) (was ∙ get_or_default es c.args.place f e c.requires.within ∙ sym at) was_left in
    reaches_further ended es c.args.place c.requires.within e at c.in-Some.other before w there c.requires.order (subst (λ (x : Entry). is_filtered x.0 ≡ true) (sym at) (c.requires.filtered c.args.place e c.requires.within)) left narrow
    (subst (IsWidest ended es c.args.place) c.in-Some.is c.requires.widest)
