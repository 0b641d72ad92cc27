use Rattle.std.proofs.Common.{◌≡◌, ◌<◌, ◌≤◌, ◌++◌, [], ℕ, List, length, drop, map, rules, ap, sym, refl, ◌∙◌, append-nil}
use Rattle.rt_world.specs.declared.report.Note.{Note}
use Rattle.rt_parts.specs.inside.HeldView.{counted_of, pair_of, renewed_pair}
use Rattle.rt_parts.proofs.Counts.{Counted, counts_in, counts_in_all, counts_step, none_in}
use Rattle.rt_parts.proofs.RefreshLaws.{drop_past, Pair, pairs_up}
use Rattle.rt_parts.proofs.RenewalLaws.{left_all, left_more, left_of, none_left, none_told, number_stays, of, of_pairs, others, told_all, told_left, told_more}
use Rattle.rt_parts.proofs.renewal.renew_all.Goals as goal

pub loop-number-init : goal.loop-number-init
loop-number-init c = record {
  pairs = refl;
  notes = refl;
  counts = refl;
  held = c.requires.held;
}

pub loop-number-preserved : goal.loop-number-preserved
loop-number-preserved c =
    let i : ℕ = c.loop-number.number-index in
    let within : i < length c.args.numbers.now = search rules in
    let ps : List Pair = map pair_of c.loop-number.listeners in
    let new : List Pair = map pair_of c.renew_number.new.listeners in
    let inv = c.loop-number.invariant in
    let made = c.in_ok-renew_number.ensures.pairs in
    let rise = c.requires.rise in
    record {
      pairs = left_more c.args.queries.now c.args.brought.now c.args.pending.now c.args.numbers.now i _ ps new (left_of c.args.queries.now c.args.brought.now c.args.pending.now c.args.numbers.now (map pair_of c.args.listeners.now)) within (search rules) rise made inv.pairs;
      notes = told_more c.args.queries.now c.args.brought.now c.args.pending.now c.args.numbers.now i _ ps new c.loop-number.notes.items c.renew_number.new.notes.items (c.args.notes.now.items ++ told_left c.args.queries.now c.args.brought.now c.args.pending.now c.args.numbers.now (map pair_of c.args.listeners.now)) within (search rules) rise
          (pairs_up c.loop-number.listeners inv.held.rising) made c.in_ok-renew_number.ensures.notes inv.notes;
      counts = counts_step (renewed_pair c.args.queries.now c.args.brought.now c.args.pending.now) (of c.args.queries.now c.args.brought.now c.args.pending.now) (number_stays c.args.queries.now c.args.brought.now c.args.pending.now) c.args.numbers.now i _ (map counted_of c.loop-number.listeners) (map counted_of c.renew_number.new.listeners) (counts_in (renewed_pair c.args.queries.now c.args.brought.now c.args.pending.now) (of c.args.queries.now c.args.brought.now c.args.pending.now) c.args.numbers.now (map counted_of c.args.listeners.now)) within (search rules) rise
          c.in_ok-renew_number.ensures.counts inv.counts;
      held = c.in_ok-renew_number.ensures.held;
    }

pub returns-clause-pairs : goal.returns-clause-pairs
returns-clause-pairs c =
    let past : length c.args.numbers.now ≤ c.loop-number.number-index = search rules in
    let ps : List Pair = map pair_of c.loop-number.listeners in
    sym (none_left c.args.queries.now c.args.brought.now c.args.pending.now ps)
    ∙ ap (λ (ns : List ℕ). left_of c.args.queries.now c.args.brought.now c.args.pending.now ns ps) (sym (drop_past c.loop-number.number-index c.args.numbers.now past))
    ∙ c.loop-number.invariant.pairs
    ∙ left_all c.args.queries.now c.args.brought.now c.args.pending.now c.args.numbers.now c.args.listeners.now c.requires.numbers

pub returns-clause-notes : goal.returns-clause-notes
returns-clause-notes c =
    let past : length c.args.numbers.now ≤ c.loop-number.number-index = search rules in
    let ps : List Pair = map pair_of c.loop-number.listeners in
    let none : told_left c.args.queries.now c.args.brought.now c.args.pending.now (drop c.loop-number.number-index c.args.numbers.now) ps ≡ [] =
    ap (λ (ns : List ℕ). told_left c.args.queries.now c.args.brought.now c.args.pending.now ns ps) (drop_past c.loop-number.number-index c.args.numbers.now past)
    ∙ none_told c.args.queries.now c.args.brought.now c.args.pending.now ps in
    sym (ap (λ (z : List Note). c.loop-number.notes.items ++ z) none ∙ append-nil c.loop-number.notes.items)
    ∙ c.loop-number.invariant.notes
    ∙ ap (λ (z : List Note). c.args.notes.now.items ++ z) (told_all c.args.queries.now c.args.brought.now c.args.pending.now c.args.numbers.now c.args.listeners.now c.requires.numbers)

pub returns-clause-counts : goal.returns-clause-counts
returns-clause-counts c =
    let past : length c.args.numbers.now ≤ c.loop-number.number-index = search rules in
    let ts : List Counted = map counted_of c.loop-number.listeners in
    sym (none_in (renewed_pair c.args.queries.now c.args.brought.now c.args.pending.now) (of c.args.queries.now c.args.brought.now c.args.pending.now) ts)
    ∙ ap (λ (ns : List ℕ). counts_in (renewed_pair c.args.queries.now c.args.brought.now c.args.pending.now) (of c.args.queries.now c.args.brought.now c.args.pending.now) ns ts) (sym (drop_past c.loop-number.number-index c.args.numbers.now past))
    ∙ c.loop-number.invariant.counts
    ∙ counts_in_all (renewed_pair c.args.queries.now c.args.brought.now c.args.pending.now) (of c.args.queries.now c.args.brought.now c.args.pending.now) (others c.args.queries.now c.args.brought.now c.args.pending.now) c.args.numbers.now c.args.listeners.now (of_pairs c.args.queries.now c.args.brought.now c.args.pending.now c.args.numbers.now c.args.listeners.now c.requires.numbers)
