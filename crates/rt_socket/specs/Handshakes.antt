-- What a handshake is answered that doesn't come about.
use Rattle.std.specs.Prelude.{◌≡◌, ◌++◌, ℕ, List, map, codes, if◌then◌else◌, Option, Some, None, IfSome}
use Rattle.std.specs.Prelude.{String, string_bytes}
use Rattle.std.specs.Prelude.{Result, Ok, Err}
use Rattle.std.specs.List.{slice_get}
use Rattle.std.specs.Option.{option_and_then, unwrap_or}
use Rattle.std.specs.declared.alloc.Global.{Global}
use Rattle.http.specs.declared.request.Request.{Request}
use Rattle.http.specs.declared.response.Response.{Response}
use Rattle.http.specs.Request.{head_of as asked}
use Rattle.http.specs.Response.{body_of, head_of}
use Rattle.http.specs.HeaderMap.{get_all}
use Rattle.rt_socket.specs.Origins.{allows_all, visible_in}

-- each origin that is named
abbrev pub origins_of : Request Unit → List (List ℕ)
origins_of request = map (λ v. v.bytes) (get_all (asked request).headers (codes "origin"))

-- a response that refuses, whose body is a text, where there was memory for it
abbrev pub Refusal : Type 0
Refusal = Response (Option (String Global))

-- a status, and a text
abbrev pub Answer : Type 0
Answer = ℕ × List ℕ

-- an origin as its page is told it
abbrev pub shown : Option (List ℕ) → List ℕ
shown origin = unwrap_or (option_and_then visible_in origin) (codes "that")

-- a page of another machine is told its origin
abbrev pub page_refusal : Option (List ℕ) → Answer
page_refusal origin = (403, codes "a page of " ++ shown origin ++ codes " may not connect")

-- what a handshake is answered that names these origins, where those are allowed, if it doesn't come about
abbrev pub refusal_of : List (List ℕ) → List (List ℕ) → Option Answer
refusal_of origins allowed = if allows_all allowed origins then None else Some (page_refusal (slice_get origins 0))

-- a response has that status, and that text, where there was memory for it
abbrev pub IsAnswer : Answer → Refusal → Type 0
IsAnswer answer response =
    ((head_of response).status ≡ answer.0) × IfSome (body_of response) (λ text. string_bytes text ≡ answer.1)

abbrev pub IsAnswered : Option Answer → Option Refusal → Type 0
IsAnswered None response = response ≡ None
IsAnswered (Some answer) None = ⊥
IsAnswered (Some answer) (Some response) = IsAnswer answer response

-- it comes about with the response that it was to have, or it is refused
abbrev pub IsAnsweredBy : Option Answer → Response Unit → Result (Response Unit) Refusal → Type 0
IsAnsweredBy None response result = result ≡ Ok response
IsAnsweredBy (Some answer) response (Ok given) = ⊥
IsAnsweredBy (Some answer) response (Err refusal) = IsAnswer answer refusal
