-- What is told of the end of a connection.
use Rattle.std.specs.Prelude.{ℕ, codes, decimal, List, ◌++◌, Option, Some, None}
use Rattle.rt_wire.specs.declared.limits.TheConstants.{MAX_MARKS}
use Rattle.rt_socket.specs.Hearing.{or_unknown}
use Rattle.rt_serve.specs.declared.socket.ServeEnd.{ServeEnd}
use Rattle.rt_serve.specs.declared.socket.ServeEnd.TheVariants.{Closed, Failed, TooMany, Crowded}
use Rattle.rt_serve.specs.declared.serve.TheConstants.{MAX_MESSAGES}

-- none where the socket says it in its own words
abbrev pub ended_text : ServeEnd → Option (List ℕ)
ended_text (Closed None) = Some (codes "the client closed it")
ended_text (Closed (Some code)) = Some (codes "the client closed it with " ++ decimal code ++ or_unknown code)
ended_text (Failed e) = None
ended_text TooMany = Some (decimal MAX_MESSAGES ++ codes " messages have come; it is closed with 1008")
ended_text Crowded =
    Some (codes "a text has more than " ++ decimal MAX_MARKS ++ codes " commas and brackets; it is closed with 1009")
