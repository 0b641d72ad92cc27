-- Which requests by plain HTTP are let in, and what they are answered.
use Rattle.std.specs.Prelude.{◌≡◌, ◌⊎◌, ◌++◌, ℕ, List, Bool, true, ◌&&◌, ◌||◌, if◌then◌else◌, codes}
use Rattle.std.specs.Prelude.{Option, Some, None, Result, Ok, Err}
use Rattle.std.specs.Str.{is_utf8}
use Rattle.rt_http.specs.Asks.{asked_of}
use Rattle.rt_http.specs.Heads.{Said}
use Rattle.rt_http.specs.Steps.{and_then}
use Rattle.rt_http.specs.declared.ask.Asked.{Asked}
use Rattle.rt_http.specs.declared.fault.Fault.{Fault}
use Rattle.rt_http.specs.declared.fault.Fault.TheVariants.{Host, Page, NoMemory}
use Rattle.rt_socket.specs.Origins.{is_page_of, may_connect}

-- whether a page of that origin may ask, or a request that names none, as one of no web page
abbrev pub may_page : List (List ℕ) → Option (List ℕ) → Bool
may_page allowed None = true
may_page allowed (Some origin) = is_utf8 origin && may_connect origin allowed

-- whether a page of that host may connect, or it is a page of the address that the request came to
abbrev pub may_reach : List ℕ → List (List ℕ) → List ℕ → Bool
may_reach here allowed host =
    (is_page_of here (codes "http://" ++ host) || may_connect (codes "http://" ++ host) allowed)
    || may_connect (codes "https://" ++ host) allowed

-- whether that host may be asked, or who names none
abbrev pub may_host : List ℕ → List (List ℕ) → Option (List ℕ) → Bool
may_host here allowed None = true
may_host here allowed (Some host) = is_utf8 host && may_reach here allowed host

-- why a request isn't let in
abbrev pub judged : List ℕ → List (List ℕ) → Option (List ℕ) → Option (List ℕ) → Result Unit Fault
judged here allowed host origin =
    if may_host here allowed host then (if may_page allowed origin then Ok tt else Err Page) else Err Host

-- so it is judged, but for want of memory
abbrev pub IsJudged : List ℕ → List (List ℕ) → Option (List ℕ) → Option (List ℕ) → Result Unit Fault → Type 0
IsJudged here allowed host origin result =
    (result ≡ judged here allowed host origin) ⊎ (result ≡ Err NoMemory)

-- what a request asks for with that body, where it is let in
abbrev pub wished : List ℕ → List (List ℕ) → Said → List ℕ → Result Asked Fault
wished here allowed said body =
    and_then (judged here allowed said.host said.origin) (λ (done : Unit). asked_of said body)
