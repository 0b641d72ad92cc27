-- What the head of a request says.
use Rattle.std.specs.Prelude.{ℕ, List, ◌==◌, if◌then◌else◌}
use Rattle.std.specs.Prelude.{Option, Some, None, Result, Ok, Err, codes}
use Rattle.rt_http.specs.Fields.{only, values_of}
use Rattle.rt_http.specs.Marks.{marks_of}
use Rattle.rt_http.specs.Steps.{and_then}
use Rattle.rt_http.specs.declared.head.Marks.{Marks}
use Rattle.rt_http.specs.declared.fault.Refusal.{Refusal}
use Rattle.rt_http.specs.declared.fault.Refusal.TheVariants.{Malformed}

-- what is done with a request, what it asks for, whom it asks, and of what page it is
pub record Said : Type 0 where
  pub marks : Marks
  pub target : List ℕ
  pub host : Option (List ℕ)
  pub origin : Option (List ℕ)

abbrev pub said_with : Marks → List ℕ → Option (List ℕ) → Option (List ℕ) → Said
said_with marks target host origin =
    record { marks = marks; target = target; host = host; origin = origin }

-- the host, which HTTP/1.1 has to name
abbrev pub host_of : ℕ → Option (List ℕ) → Result (Option (List ℕ)) Refusal
host_of minor None = if minor == 1 then Err Malformed else Ok None
host_of minor (Some host) = Ok (Some host)

-- what a head says with that method and target, that minor number of its version and these fields
abbrev pub said_of : ℕ → List ℕ → List ℕ → ℕ → List (List ℕ × List ℕ) → Result Said Refusal
said_of most method target minor fields =
    and_then (marks_of most method minor fields) (λ marks.
    and_then (and_then (only (values_of (codes "host") fields)) (host_of minor)) (λ host.
    and_then (only (values_of (codes "origin") fields)) (λ origin.
    Ok (said_with marks target host origin))))
