-- What a handshake is answered that doesn't come about.
use Rattle.std.specs.Prelude.{ℕ, List, codes, if◌then◌else◌, Option, Some}
use Rattle.http.specs.declared.request.Request.{Request}
use Rattle.http.specs.Request.{head_of as asked}
use Rattle.http.specs.Uri.{uri_path, uri_query}
use Rattle.rt_socket.specs.Handshakes.{Answer, origins_of, refusal_of as page_refusal_of}
use Rattle.rt_emulate.specs.Protocols.{is_of_sdk}

-- the path and the query that are asked for, and each origin that is named
pub record Handshake : Type 0 where
  pub path : List ℕ
  pub query : Option (List ℕ)
  pub origins : List (List ℕ)

abbrev pub handshake_of : Request Unit → Handshake
handshake_of request = record {
  path = uri_path (asked request).uri;
  query = uri_query (asked request).uri;
  origins = origins_of request;
}

-- a Firebase SDK is told that this is another protocol
abbrev pub sdk_refusal : Answer
sdk_refusal =
    (400, codes "a Firebase SDK speaks another protocol than this server, which speaks that of docs/FORMATS.md")

-- what a handshake is answered, where these origins are allowed, if it doesn't come about
abbrev pub refusal_of : Handshake → List (List ℕ) → Option Answer
refusal_of h allowed = if is_of_sdk h.path h.query then Some sdk_refusal else page_refusal_of h.origins allowed
