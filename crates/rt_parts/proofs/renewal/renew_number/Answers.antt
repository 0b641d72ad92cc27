use Rattle.std.proofs.Common.{◌≡◌, ◌==◌, ◌++◌, ℕ, List, Some, None, get_or, set, map, rules, ap, sym, ◌∙◌, append-nil}
use Rattle.std.specs.List.{position}
use Rattle.std.proofs.Math.Seq.{map-set_same}
use Rattle.std.proofs.lemmas.List.Quantifiers.{position-Some}
use Rattle.rt_cache.specs.Recover.{is_among}
use Rattle.rt_world.specs.declared.report.Note.{Note}
use Rattle.rt_parts.specs.declared.listeners.HeldListener.{HeldListener}
use Rattle.rt_parts.specs.inside.HeldView.{IsHeld, counted_of, pair_of, renewal_counted, renewed_pair}
use Rattle.rt_parts.proofs.Loops.{all_set, rising_same}
use Rattle.rt_parts.proofs.Numbered.{changed_one, only_there, stay_none, told_none, told_one}
use Rattle.rt_parts.proofs.RefreshLaws.{none_there, number_of}
use Rattle.rt_parts.proofs.RenewalLaws.{told_pair}
use Rattle.rt_parts.proofs.Counts.{changed_count, counted_number, none_counted, untold}
use Rattle.rt_parts.proofs.PushLaws.{on_both, on_ok}
use Rattle.rt_parts.proofs.renewal.renew_number.Goals as goal

pub returns-in-Some-clause-pairs : goal.returns-in-Some-clause-pairs
returns-in-Some-clause-pairs c =
    let ls : List HeldListener = c.args.listeners.now in
    let i : ℕ = c.in-Some.at in
    let d : HeldListener = c.index-listeners-at.result in
    let found : position (λ (l : HeldListener). l.number == c.args.number) ls ≡ Some i = search rules in
    let at = position-Some (λ (l : HeldListener). l.number == c.args.number) ls i d found in
    on_ok c.renew_one.result c.renew_one.ensures.pair (λ e.
    changed_one number_of (renewed_pair c.args.queries.now c.args.brought.now c.args.pending.now) (told_pair c.args.queries.now c.args.brought.now c.args.pending.now) pair_of c.args.number ls i d c.renew_one.new.listener at.0 at.1
    (only_there (λ (l : HeldListener). l.number) ls c.args.number i c.requires.held.rising found) e)

pub returns-in-Some-clause-held : goal.returns-in-Some-clause-held
returns-in-Some-clause-held c =
    let ls : List HeldListener = c.args.listeners.now in
    let i : ℕ = c.in-Some.at in
    let d : HeldListener = c.index-listeners-at.result in
    on_ok c.renew_one.result c.renew_one.ensures.held (λ e. record {
      rising = rising_same (λ (h : HeldListener). h.number) ls (set ls i c.renew_one.new.listener) (map-set_same (λ (h : HeldListener). h.number) ls i c.renew_one.new.listener d c.renew_one.ensures.number) c.requires.held.rising;
      each = all_set IsHeld ls i c.renew_one.new.listener c.requires.held.each e;
    })

pub returns-in-Some-clause-notes : goal.returns-in-Some-clause-notes
returns-in-Some-clause-notes c =
    let ls : List HeldListener = c.args.listeners.now in
    let i : ℕ = c.in-Some.at in
    let d : HeldListener = c.index-listeners-at.result in
    let found : position (λ (l : HeldListener). l.number == c.args.number) ls ≡ Some i = search rules in
    let at = position-Some (λ (l : HeldListener). l.number == c.args.number) ls i d found in
    on_ok c.renew_one.result c.renew_one.ensures.notes (λ e. e ∙ ap (λ (z : List Note). c.args.notes.now.items ++ z)
    (sym (told_one number_of (renewed_pair c.args.queries.now c.args.brought.now c.args.pending.now) (told_pair c.args.queries.now c.args.brought.now c.args.pending.now) pair_of c.args.number ls i d at.0 at.1
    (only_there (λ (l : HeldListener). l.number) ls c.args.number i c.requires.held.rising found))))

pub returns-in-None-clause-pairs : goal.returns-in-None-clause-pairs
returns-in-None-clause-pairs c =
    let none : position (λ (l : HeldListener). l.number == c.args.number) c.args.listeners.now ≡ None = search rules in
    sym (stay_none number_of (renewed_pair c.args.queries.now c.args.brought.now c.args.pending.now) (told_pair c.args.queries.now c.args.brought.now c.args.pending.now) c.args.number (map pair_of c.args.listeners.now) (none_there c.args.number c.args.listeners.now none))

pub returns-in-None-clause-notes : goal.returns-in-None-clause-notes
returns-in-None-clause-notes c =
    let none : position (λ (l : HeldListener). l.number == c.args.number) c.args.listeners.now ≡ None = search rules in
    sym (ap (λ (z : List Note). c.args.notes.now.items ++ z)
    (told_none number_of (renewed_pair c.args.queries.now c.args.brought.now c.args.pending.now) (told_pair c.args.queries.now c.args.brought.now c.args.pending.now) c.args.number (map pair_of c.args.listeners.now) (none_there c.args.number c.args.listeners.now none))
    ∙ append-nil c.args.notes.now.items)

pub returns-in-Some-clause-counts : goal.returns-in-Some-clause-counts
returns-in-Some-clause-counts c =
    let ls : List HeldListener = c.args.listeners.now in
    let i : ℕ = c.in-Some.at in
    let d : HeldListener = c.index-listeners-at.result in
    let found : position (λ (l : HeldListener). l.number == c.args.number) ls ≡ Some i = search rules in
    let at = position-Some (λ (l : HeldListener). l.number == c.args.number) ls i d found in
    on_both c.renew_one.result c.renew_one.ensures.pair c.renew_one.ensures.count (λ e n.
    changed_one counted_number (renewal_counted c.args.queries.now c.args.brought.now c.args.pending.now) untold counted_of c.args.number ls i d c.renew_one.new.listener at.0 at.1
    (only_there (λ (l : HeldListener). l.number) ls c.args.number i c.requires.held.rising found)
    (changed_count (renewed_pair c.args.queries.now c.args.brought.now c.args.pending.now) (is_among c.args.queries.now (get_or ls i d).query) (get_or ls i d) c.renew_one.new.listener e n))

pub returns-in-None-clause-counts : goal.returns-in-None-clause-counts
returns-in-None-clause-counts c =
    let none : position (λ (l : HeldListener). l.number == c.args.number) c.args.listeners.now ≡ None = search rules in
    sym (stay_none counted_number (renewal_counted c.args.queries.now c.args.brought.now c.args.pending.now) untold c.args.number (map counted_of c.args.listeners.now)
    (none_counted c.args.number c.args.listeners.now (none_there c.args.number c.args.listeners.now none)))
