-- What is said of requests that are refused before it is looked at what they ask for.
use Rattle.std.specs.Prelude.{ℕ, List, codes}
use Rattle.rt_http.specs.declared.fault.Refusal.{Refusal}
use Rattle.rt_http.specs.declared.fault.Refusal.TheVariants as refusal

-- what is wrong, for whoever asked
abbrev pub refusal_words : Refusal → List ℕ
refusal_words refusal.Malformed = codes "this is no request of HTTP/1.1"
refusal_words refusal.NoHandshake = codes "this is no handshake of a WebSocket"
refusal_words refusal.OtherVersion = codes "the version of WebSockets here is 13"
refusal_words refusal.TooLong = codes "the body has more than 16777216 bytes"
refusal_words refusal.Expectation = codes "nothing can be expected here but 100-continue"
refusal_words refusal.HeadTooLong = codes "the head has more than 16384 bytes or 64 fields"
refusal_words refusal.Coding = codes "a body comes as it is, or in chunks"
refusal_words refusal.Version = codes "the version of HTTP here is 1.1"
refusal_words refusal.NoMemory = codes "out of memory"
