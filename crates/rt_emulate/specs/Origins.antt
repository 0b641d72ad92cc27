-- What no browser writes as an origin.
use Rattle.std.specs.Prelude.{ℕ, List, [], ◌∷◌, drop, Bool, true, false, ◌||◌, ◌==◌, nat_lt}
use Rattle.std.specs.Prelude.{Option, Some, None, if◌then◌else◌, codes}
use Rattle.std.specs.Char.{is_ascii_digit, is_ascii_lowercase, is_ascii_uppercase}
use Rattle.std.specs.List.{list_any}
use Rattle.std.specs.Option.{option_map_or}
use Rattle.std.specs.Str.{bytes_eq}
use Rattle.rt_socket.specs.Origins.{behind, is_port}
use Rattle.rt_emulate.specs.declared.origins.OriginFault.{OriginFault}
use Rattle.rt_emulate.specs.declared.origins.OriginFault.TheVariants.{UpperCase, NoScheme, NoHost, Behind}
use Rattle.rt_emulate.specs.declared.origins.OriginFault.TheVariants.{BadLetter, BadPort}

-- what a scheme is written with behind its first letter: small letters, digits, and + - .
abbrev pub is_of_scheme : ℕ → Bool
is_of_scheme c = is_ascii_lowercase c || (is_ascii_digit c || (c == 43 || (c == 45 || c == 46)))

-- what stands behind a scheme
abbrev pub behind_scheme : List ℕ → List ℕ
behind_scheme [] = []
behind_scheme (c ∷ cs) = if is_of_scheme c then behind_scheme cs else c ∷ cs

-- / ? #, with which a path, a query or a fragment begins
abbrev pub begins_path : ℕ → Bool
begins_path c = c == 47 || (c == 63 || c == 35)

-- what is no visible letter, and % < > @ \ ^ |, none of which stands in a host
abbrev pub is_no_host_letter : ℕ → Bool
is_no_host_letter c =
    nat_lt c 33 || (nat_lt 126 c || (c == 37 || (c == 60 || (c == 62 || (c == 64 || (c == 92 || (c == 94 || c == 124)))))))

-- a text from its first letter of that kind on
abbrev pub from : ℕ → List ℕ → List ℕ
from stop [] = []
from stop (c ∷ cs) = if c == stop then c ∷ cs else from stop cs

-- what stands behind the host: behind the brackets of an address, or from the colon on
abbrev pub behind_host : List ℕ → List ℕ
behind_host [] = []
behind_host (c ∷ cs) = if c == 91 then drop 1 (from 93 cs) else from 58 (c ∷ cs)

-- no host: nothing, or a port alone
abbrev pub has_no_host : List ℕ → Bool
has_no_host [] = true
has_no_host (c ∷ cs) = c == 58

-- what is wrong with what stands behind the scheme
abbrev pub place_fault : List ℕ → Option OriginFault
place_fault place =
    if list_any begins_path place then Some Behind
    else if list_any is_no_host_letter place then Some BadLetter
    else if has_no_host place then Some NoHost
    else if is_port (behind_host place) then None
    else Some BadPort

abbrev pub begins_small : List ℕ → Bool
begins_small [] = false
begins_small (c ∷ cs) = is_ascii_lowercase c

abbrev pub scheme_fault : List ℕ → Option OriginFault
scheme_fault origin =
    if begins_small origin then option_map_or place_fault (behind (codes "://") (behind_scheme origin)) (Some NoScheme)
    else Some NoScheme

-- why no browser writes a text as an origin: it writes null, or a scheme, a host and perhaps a port, in small letters
abbrev pub origin_fault : List ℕ → Option OriginFault
origin_fault origin =
    if bytes_eq origin (codes "null") then None
    else if list_any is_ascii_uppercase origin then Some UpperCase
    else scheme_fault origin
