use Rattle.std.proofs.Common.{◌≡◌}
use Rattle.std.specs.List.{list_any}
use Rattle.form_urlencoded.specs.Form.{raw_pairs}
use Rattle.form_urlencoded.specs.Parse.{raw_pairs_left}
use Rattle.rt_http.specs.Targets.{is_filter}
use Rattle.rt_http.proofs.resource.does_filter.Given as goal

abbrev pub invariant-loop-word : goal.invariant-loop-word
invariant-loop-word l =
    list_any (λ pair. is_filter pair.0) (raw_pairs l.query)
    ≡ list_any (λ pair. is_filter pair.0) (raw_pairs_left l.word-iterator)
