-- Which web pages may connect, by their origins as browsers write them.
use Rattle.std.specs.Prelude.{ℕ, List, [], ◌∷◌, length, Bool, true, false, ◌&&◌, ◌||◌, ◌==◌, nat_lt}
use Rattle.std.specs.Prelude.{Option, Some, None, if◌then◌else◌, codes}
use Rattle.std.specs.Char.{is_ascii_digit}
use Rattle.std.specs.List.{list_all, list_any}
use Rattle.std.specs.Option.{option_map_or}
use Rattle.std.specs.Str.{bytes_eq}
use Rattle.http.specs.FieldValue.{is_visible_text}

-- no port, or a colon and digits
abbrev pub is_port : List ℕ → Bool
is_port [] = true
is_port (c ∷ digits) = (c == 58) && (nat_lt 0 (length digits) && list_all is_ascii_digit digits)

-- what stands behind a beginning, if a text begins so
abbrev pub behind : List ℕ → List ℕ → Option (List ℕ)
behind [] text = Some text
behind (c ∷ cs) [] = None
behind (c ∷ cs) (d ∷ text) = if c == d then behind cs text else None

-- a page of that place, at any port
abbrev pub is_page_of : List ℕ → List ℕ → Bool
is_page_of place origin = option_map_or is_port (behind place origin) false

-- the places that are this machine
abbrev pub local_places : List (List ℕ)
local_places =
    codes "http://localhost" ∷ codes "https://localhost" ∷ codes "http://127.0.0.1"
    ∷ codes "https://127.0.0.1" ∷ codes "http://[::1]" ∷ codes "https://[::1]" ∷ []

-- a page of this machine
abbrev pub is_local : List ℕ → Bool
is_local origin = list_any (λ place. is_page_of place origin) local_places

-- a page that may connect, where these origins are allowed
abbrev pub may_connect : List ℕ → List (List ℕ) → Bool
may_connect origin allowed = is_local origin || list_any (λ one. bytes_eq one origin) allowed

-- the text of an origin, if a browser may write it so
abbrev pub visible_in : List ℕ → Option (List ℕ)
visible_in origin = if is_visible_text origin then Some origin else None

-- whether a handshake comes about that names no origin, as one of no web page, or this one
abbrev pub allows : List (List ℕ) → Option (List ℕ) → Bool
allows allowed None = true
allows allowed (Some origin) = option_map_or (λ text. may_connect text allowed) (visible_in origin) false

-- and one that names these: a browser names one at most
abbrev pub allows_all : List (List ℕ) → List (List ℕ) → Bool
allows_all allowed [] = allows allowed None
allows_all allowed (origin ∷ []) = allows allowed (Some origin)
allows_all allowed (origin ∷ other ∷ more) = false
