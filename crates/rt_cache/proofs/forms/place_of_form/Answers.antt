use Rattle.std.proofs.Common.{rules, ◌≡◌, ◌<◌, sym, arith, length, get_or, true, false, List}
use Rattle.std.specs.List.Sorted.{IsPartitionPoint}
use Rattle.std.proofs.lemmas.List.Elements.{at_read}
use Rattle.std.proofs.lemmas.List.Sorted.{IsPartitionPoint-from_clause}
use Rattle.rt_cache.specs.declared.forms.Form.{Form}
use Rattle.rt_cache.specs.inside.Listed.{is_same_form, is_form_before}
use Rattle.rt_cache.proofs.StampPlaces.{before_first, none_same}
use Rattle.rt_cache.proofs.forms.place_of_form.Goals as goal

pub returns-then-place-filtered-clause-known : goal.returns-then-place-filtered-clause-known
returns-then-place-filtered-clause-known c =
    let xs : List Form = c.args.filtered.now in
    let f : Form = c.args.form.now in
    let point : IsPartitionPoint (λ (g : Form). is_form_before f g ≡ true) (λ (g : Form). is_form_before f g ≡ false) xs c.partition_point-place.result =
    IsPartitionPoint-from_clause (is_form_before f) xs c.partition_point-place.result c.partition_point-place.ensures.partitioned
    (before_first f xs c.requires.order c.requires.rising) (λ a r f' k. search rules) in
    let all : c.partition_point-place.result ≡ length xs = search rules in
    sym (none_same f xs c.requires.order c.requires.rising c.partition_point-place.result point (λ d lt. absurd (omega (arith, lt, all))))

pub returns-else-is_same_form-clause-known : goal.returns-else-is_same_form-clause-known
returns-else-is_same_form-clause-known c =
    let xs : List Form = c.args.filtered.now in
    let f : Form = c.args.form.now in
    let point : IsPartitionPoint (λ (g : Form). is_form_before f g ≡ true) (λ (g : Form). is_form_before f g ≡ false) xs c.partition_point-place.result =
    IsPartitionPoint-from_clause (is_form_before f) xs c.partition_point-place.result c.partition_point-place.ensures.partitioned
    (before_first f xs c.requires.order c.requires.rising) (λ a r f' k. search rules) in
    let item : Form = c.index-filtered-place.result in
    let within : c.partition_point-place.result < length xs = search rules in
    let at : item ≡ get_or xs c.partition_point-place.result item = search rules in
    let other : is_same_form f item ≡ false = search rules in
    sym (none_same f xs c.requires.order c.requires.rising c.partition_point-place.result point
    (λ d lt. at_read xs (λ (g : Form). is_same_form f g ≡ false) c.partition_point-place.result item within at other d))
