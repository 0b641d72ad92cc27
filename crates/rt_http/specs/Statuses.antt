-- What becomes of requests, as the first lines of answers say it.
use Rattle.std.specs.Prelude.{ℕ, List, codes}
use Rattle.rt_http.specs.declared.fault.Refusal.{Refusal}
use Rattle.rt_http.specs.declared.fault.Refusal.TheVariants as refusal
use Rattle.rt_http.specs.declared.answer.Status.{Status}
use Rattle.rt_http.specs.declared.answer.Status.TheVariants.{Okay, BadRequest, Unauthorized, Forbidden, NotFound}
use Rattle.rt_http.specs.declared.answer.Status.TheVariants.{MethodNotAllowed, PayloadTooLarge, ExpectationFailed}
use Rattle.rt_http.specs.declared.answer.Status.TheVariants.{UpgradeRequired, FieldsTooLarge, NotImplemented, Unavailable}
use Rattle.rt_http.specs.declared.answer.Status.TheVariants.{VersionNotSupported, ReadOnly}

-- the number and its words
abbrev pub line_of : Status → List ℕ
line_of Okay = codes "200 OK"
line_of BadRequest = codes "400 Bad Request"
line_of Unauthorized = codes "401 Unauthorized"
line_of Forbidden = codes "403 Forbidden"
line_of NotFound = codes "404 Not Found"
line_of MethodNotAllowed = codes "405 Method Not Allowed"
line_of ReadOnly = codes "405 Method Not Allowed"
line_of PayloadTooLarge = codes "413 Content Too Large"
line_of ExpectationFailed = codes "417 Expectation Failed"
line_of UpgradeRequired = codes "426 Upgrade Required"
line_of FieldsTooLarge = codes "431 Request Header Fields Too Large"
line_of NotImplemented = codes "501 Not Implemented"
line_of Unavailable = codes "503 Service Unavailable"
line_of VersionNotSupported = codes "505 HTTP Version Not Supported"

-- what becomes of a request that is refused so
abbrev pub status_of : Refusal → Status
status_of refusal.Malformed = BadRequest
status_of refusal.NoHandshake = BadRequest
status_of refusal.OtherVersion = UpgradeRequired
status_of refusal.TooLong = PayloadTooLarge
status_of refusal.Expectation = ExpectationFailed
status_of refusal.HeadTooLong = FieldsTooLarge
status_of refusal.Coding = NotImplemented
status_of refusal.Version = VersionNotSupported
status_of refusal.NoMemory = Unavailable
