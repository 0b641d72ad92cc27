use Rattle.std.proofs.Common.{◌≡◌, ℕ, List}
use Rattle.std.specs.List.{list_any}
use Rattle.rt_emulate.specs.Protocols.{is_sdk_parameter, is_sdk_query}
use Rattle.rt_emulate.proofs.Parameters.{Coming}
use Rattle.rt_emulate.proofs.origins.is_sdk_query.Given as goal

abbrev pub invariant-loop-parameter : goal.invariant-loop-parameter
invariant-loop-parameter l =
    (rest : List (List ℕ)) × Coming l.parameter-iterator rest
    × (is_sdk_query l.query ≡ list_any is_sdk_parameter rest)
