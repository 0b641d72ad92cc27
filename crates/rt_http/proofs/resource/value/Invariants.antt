use Rattle.std.proofs.Common.{◌≡◌}
use Rattle.form_urlencoded.specs.Form.{raw_pairs}
use Rattle.form_urlencoded.specs.Parse.{raw_pairs_left}
use Rattle.rt_http.specs.Targets.{value_of}
use Rattle.rt_http.proofs.resource.value.Given as goal

abbrev pub invariant-loop-word : goal.invariant-loop-word
invariant-loop-word l = value_of l.name (raw_pairs l.query) ≡ value_of l.name (raw_pairs_left l.word-iterator)
