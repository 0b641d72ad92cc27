-- What is done with a request, as the fields of its head say.
use Rattle.std.specs.Prelude.{ℕ, List, Bool, true, false, ◌&&◌, ◌||◌, not, ◌==◌, nat_le, nat_lt, length, if◌then◌else◌}
use Rattle.std.specs.Prelude.{Option, Some, None, Result, Ok, Err, codes}
use Rattle.std.specs.Char.{is_ascii_digit}
use Rattle.std.specs.List.{list_all}
use Rattle.std.specs.Str.{str_eq_ignore_ascii_case}
use Rattle.std.specs.Str.Parse.{digits_value}
use Rattle.rt_http.specs.Fields.{does_say, is_there, only, values_of}
use Rattle.rt_http.specs.Methods.{method_of}
use Rattle.rt_http.specs.Steps.{and_then}
use Rattle.rt_http.specs.declared.head.Framing.{Framing}
use Rattle.rt_http.specs.declared.head.Framing.TheVariants.{Length, Chunked}
use Rattle.rt_http.specs.declared.head.Marks.{Marks}
use Rattle.rt_http.specs.declared.head.Unsupported.{Unsupported}
use Rattle.rt_http.specs.declared.head.Unsupported.TheVariants.{Events, Etags, Login, Override}
use Rattle.rt_http.specs.declared.fault.Refusal.{Refusal}
use Rattle.rt_http.specs.declared.fault.Refusal.TheVariants.{Malformed, TooLong, Expectation, Coding}

-- the number that digits write, where it is at most the bound
abbrev pub number_within : ℕ → List ℕ → Result ℕ Refusal
number_within most digits =
    if nat_le (digits_value 10 digits) most then Ok (digits_value 10 digits) else Err TooLong

-- the number that a text of digits writes
abbrev pub number_of : ℕ → List ℕ → Result ℕ Refusal
number_of most text =
    if nat_lt 0 (length text) && list_all is_ascii_digit text then number_within most text
    else Err Malformed

-- a body of so many bytes
abbrev pub length_of : ℕ → List ℕ → Result Framing Refusal
length_of most text = and_then (number_of most text) (λ number. Ok (Length number))

-- a body in that coding; HTTP/1.0 has none
abbrev pub coding_of : ℕ → List ℕ → Result Framing Refusal
coding_of minor coding =
    if minor == 0 then Err Malformed
    else (if str_eq_ignore_ascii_case coding (codes "chunked") then Ok Chunked else Err Coding)

-- how a body comes, by its coding and its length: not by both
abbrev pub framing_with : ℕ → ℕ → Option (List ℕ) → Option (List ℕ) → Result Framing Refusal
framing_with most minor None None = Ok (Length 0)
framing_with most minor None (Some text) = length_of most text
framing_with most minor (Some coding) None = coding_of minor coding
framing_with most minor (Some coding) (Some text) = Err Malformed

-- how a body comes, where it has at most so many bytes
abbrev pub framing_of : ℕ → ℕ → List (List ℕ × List ℕ) → Result Framing Refusal
framing_of most minor fields =
    and_then (only (values_of (codes "transfer-encoding") fields)) (λ coding.
    and_then (only (values_of (codes "content-length") fields)) (λ text.
    framing_with most minor coding text))

-- whether a request waits before it sends its body, by what it expects
abbrev pub expectation_of : Option (List ℕ) → Result Bool Refusal
expectation_of None = Ok false
expectation_of (Some text) =
    if str_eq_ignore_ascii_case text (codes "100-continue") then Ok true else Err Expectation

-- what a request wants that isn't there: the first of these
abbrev pub lacking : List (List ℕ × List ℕ) → Option Unsupported
lacking fields =
    if does_say (codes "accept") (codes "text/event-stream") fields then Some Events
    else (if is_there (codes "x-firebase-etag") fields || is_there (codes "if-match") fields then Some Etags
    else (if is_there (codes "authorization") fields then Some Login
    else (if is_there (codes "x-http-method-override") fields then Some Override else None)))

-- what is done with a request, by its method, the minor number of its version and its fields
abbrev pub marks_of : ℕ → List ℕ → ℕ → List (List ℕ × List ℕ) → Result Marks Refusal
marks_of most method minor fields =
    and_then (framing_of most minor fields) (λ framing.
    and_then (and_then (only (values_of (codes "expect") fields)) expectation_of) (λ waits.
    Ok (record {
      method = method_of method;
      framing = framing;
      is_kept = (minor == 1) && not (does_say (codes "connection") (codes "close") fields);
      does_wait = waits;
      is_upgrade = does_say (codes "upgrade") (codes "websocket") fields;
      lacks = lacking fields;
    })))
