-- The bytes of an answer.
use Rattle.std.specs.Prelude.{ℕ, List, [], ◌∷◌, ◌++◌, Bool, Option, Some, None, length, if◌then◌else◌, codes, decimal}
use Rattle.rt_http.specs.Statuses.{line_of}
use Rattle.rt_http.specs.declared.answer.Status.{Status}
use Rattle.rt_http.specs.declared.answer.Status.TheVariants.{Okay, BadRequest, Unauthorized, Forbidden, NotFound}
use Rattle.rt_http.specs.declared.answer.Status.TheVariants.{MethodNotAllowed, PayloadTooLarge, ExpectationFailed}
use Rattle.rt_http.specs.declared.answer.Status.TheVariants.{UpgradeRequired, FieldsTooLarge, NotImplemented, Unavailable}
use Rattle.rt_http.specs.declared.answer.Status.TheVariants.{VersionNotSupported, ReadOnly}

-- the end of a line
abbrev pub line_end : List ℕ
line_end = 13 ∷ 10 ∷ []

-- the first line
unfoldable pub line_bytes : Status → List ℕ
line_bytes status = codes "HTTP/1.1 " ++ line_of status ++ line_end

-- a field: its name and its value
unfoldable pub field_bytes : List ℕ × List ℕ → List ℕ
field_bytes field = field.0 ++ codes ": " ++ field.1 ++ line_end

-- what is said of the connection
abbrev pub going_on : Bool → List ℕ
going_on is_kept = if is_kept then codes "keep-alive" else codes "close"

-- the methods or the version that there is, where a request is refused for its own
abbrev pub allowed : Status → List ℕ
allowed Okay = []
allowed BadRequest = []
allowed Unauthorized = []
allowed Forbidden = []
allowed NotFound = []
allowed MethodNotAllowed = field_bytes (codes "Allow", codes "GET, HEAD, PUT, PATCH, POST, DELETE")
allowed ReadOnly = field_bytes (codes "Allow", codes "GET, HEAD")
allowed PayloadTooLarge = []
allowed ExpectationFailed = []
allowed UpgradeRequired = field_bytes (codes "Sec-WebSocket-Version", codes "13")
allowed FieldsTooLarge = []
allowed NotImplemented = []
allowed Unavailable = []
allowed VersionNotSupported = []

-- the fields of an answer whose body has so many bytes
abbrev pub answer_fields : Bool → ℕ → List ℕ
answer_fields is_kept size =
    field_bytes (codes "Content-Type", codes "application/json; charset=utf-8")
    ++ field_bytes (codes "Cache-Control", codes "no-cache")
    ++ field_bytes (codes "Content-Length", decimal size)
    ++ field_bytes (codes "Connection", going_on is_kept)

-- what lets a script of a page of that origin ask and read the answer (the Fetch standard, CORS protocol)
abbrev pub origin_fields : List ℕ → List ℕ
origin_fields origin =
    field_bytes (codes "Access-Control-Allow-Origin", origin)
    ++ field_bytes (codes "Access-Control-Allow-Methods", codes "GET, HEAD, PUT, PATCH, POST, DELETE")
    ++ field_bytes (codes "Access-Control-Allow-Headers", codes "Content-Type")
    ++ field_bytes (codes "Vary", codes "Origin")

-- the same, where a page asks
abbrev pub page_fields : Option (List ℕ) → List ℕ
page_fields None = []
page_fields (Some origin) = origin_fields origin

-- the head of an answer whose body has so many bytes, to a page of that origin or to none
abbrev pub answer_head : Status → Bool → Option (List ℕ) → ℕ → List ℕ
answer_head status is_kept page size =
    line_bytes status ++ answer_fields is_kept size ++ page_fields page ++ allowed status ++ line_end

-- an answer; a bare one is of the same head
abbrev pub answer_bytes : Status → Bool → Bool → Option (List ℕ) → List ℕ → List ℕ
answer_bytes status is_kept is_bare page body =
    answer_head status is_kept page (length body) ++ (if is_bare then [] else body)

-- the fields of a file of that media type, which has so many bytes: a browser takes it for no other type, and asks
-- for it anew each time
abbrev pub file_fields : List ℕ → ℕ → Bool → List ℕ
file_fields kind size is_kept =
    field_bytes (codes "Content-Type", kind)
    ++ field_bytes (codes "X-Content-Type-Options", codes "nosniff")
    ++ field_bytes (codes "Cache-Control", codes "no-cache")
    ++ field_bytes (codes "Content-Length", decimal size)
    ++ field_bytes (codes "Connection", going_on is_kept)

-- the head of a file: no field lets a page of another origin read it
abbrev pub file_head : List ℕ → ℕ → Bool → List ℕ
file_head kind size is_kept = line_bytes Okay ++ file_fields kind size is_kept ++ line_end
