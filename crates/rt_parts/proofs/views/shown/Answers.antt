use Rattle.std.proofs.Common.{◌≡◌, ◌==◌, Some, None, Err, rules, refl, ap, sym, ◌∙◌}
use Rattle.std.specs.List.{position}
use Rattle.std.specs.Option.{option_and_then}
use Rattle.rt_parts.specs.declared.error.ShownError.TheVariants.{NoMemory}
use Rattle.rt_parts.specs.declared.listeners.HeldListener.{HeldListener}
use Rattle.rt_parts.specs.inside.HeldView.{shown_in}
use Rattle.rt_writes.specs.laws.Places.{filter_none_found, found_at}
use Rattle.rt_parts.proofs.views.shown.Goals as goal

pub returns-in_err-shown_of-in-Some-clause-unknown :
    goal.returns-in_err-shown_of-in-Some-clause-unknown
returns-in_err-shown_of-in-Some-clause-unknown c =
    let at : position (λ (l : HeldListener). l.number == c.args.number) c.args.held.now ≡ Some c.in-Some.place = search rules in
    let found = found_at (λ (l : HeldListener). l.number == c.args.number) c.args.held.now c.in-Some.place c.index-held-place.result at in
    let lacks : c.from_residual.result ≡ Err NoMemory = search rules in
    (λ e. cc, λ e. cc)

pub returns-in_err-shown_of-in-Some-clause-memory : goal.returns-in_err-shown_of-in-Some-clause-memory
returns-in_err-shown_of-in-Some-clause-memory c =
    let at : position (λ (l : HeldListener). l.number == c.args.number) c.args.held.now ≡ Some c.in-Some.place = search rules in
    let found = found_at (λ (l : HeldListener). l.number == c.args.number) c.args.held.now c.in-Some.place c.index-held-place.result at in
    λ e none. c.in_err-shown_of-in-Some.ensures.memory
    (ap (λ (l : HeldListener). shown_in l.view) c.index-held-place.is ∙ sym (ap (option_and_then (λ (l : HeldListener). shown_in l.view)) found) ∙ none)

pub returns-in_ok-shown_of-in-Some-clause-shown : goal.returns-in_ok-shown_of-in-Some-clause-shown
returns-in_ok-shown_of-in-Some-clause-shown c =
    let at : position (λ (l : HeldListener). l.number == c.args.number) c.args.held.now ≡ Some c.in-Some.place = search rules in
    let found = found_at (λ (l : HeldListener). l.number == c.args.number) c.args.held.now c.in-Some.place c.index-held-place.result at in
    c.in_ok-shown_of-in-Some.ensures.shown ∙ ap (λ (l : HeldListener). shown_in l.view) c.index-held-place.is ∙ sym (ap (option_and_then (λ (l : HeldListener). shown_in l.view)) found)

pub returns-in_ok-shown_of-in-Some-clause-unknown :
    goal.returns-in_ok-shown_of-in-Some-clause-unknown
returns-in_ok-shown_of-in-Some-clause-unknown c =
    let at : position (λ (l : HeldListener). l.number == c.args.number) c.args.held.now ≡ Some c.in-Some.place = search rules in
    let found = found_at (λ (l : HeldListener). l.number == c.args.number) c.args.held.now c.in-Some.place c.index-held-place.result at in
    (λ e. cc, λ e. cc)

pub returns-in-None-clause-unknown : goal.returns-in-None-clause-unknown
returns-in-None-clause-unknown c =
    let none : position (λ (l : HeldListener). l.number == c.args.number) c.args.held.now ≡ None = search rules in
    (λ e. (filter_none_found (λ (l : HeldListener). l.number == c.args.number) c.args.held.now none).0, λ e. refl)
