-- Handshakes that the prover judges: origins as browsers write them, and such as none writes; what a Firebase
-- SDK asks for, and what it doesn't.
use Rattle.std.specs.Prelude.{◌≡◌, List, [], ◌∷◌, ℕ, true, false, Some, None, codes, map}
use Rattle.std.specs.List.{list_all, list_any}
use Rattle.std.specs.Option.{is_none}
use Rattle.rt_emulate.specs.Origins.{origin_fault}
use Rattle.rt_emulate.specs.declared.origins.OriginFault.TheVariants.{UpperCase, NoScheme, NoHost, Behind}
use Rattle.rt_emulate.specs.declared.origins.OriginFault.TheVariants.{BadLetter, BadPort}
use Rattle.rt_emulate.specs.Protocols.{is_of_sdk}

abbrev pub app : List ℕ
app = codes "https://app.example"

-- what browsers write: a page of a host, of an address, of an extension, and one whose origin is hidden
abbrev pub WrittenOnes : Type 0
WrittenOnes =
    list_all (λ origin. is_none (origin_fault origin))
    (app ∷ codes "null" ∷ codes "http://localhost:3000" ∷ codes "http://[::1]:80" ∷ codes "chrome-extension://abcdef" ∷ [])
    ≡ true

-- what none writes, and why: a slash behind, a path, none of a scheme and of a host, big letters, a name before
-- the host, and what is no port
abbrev pub UnwrittenOnes : Type 0
UnwrittenOnes =
    map origin_fault (codes "https://app.example/" ∷ codes "https://app.example/a" ∷ codes "app.example" ∷ codes "*"
    ∷ codes "https://:80" ∷ codes "https://App.example" ∷ codes "https://me@app.example" ∷ codes "https://app.example:"
    ∷ codes "http://[::1]x" ∷ [])
    ≡ Some Behind ∷ Some Behind ∷ Some NoScheme ∷ Some NoScheme ∷ Some NoHost ∷ Some UpperCase ∷ Some BadLetter
    ∷ Some BadPort ∷ Some BadPort ∷ []

-- what a Firebase SDK asks for: the version stands first, or behind other parameters, or a database is named
abbrev pub sdk_queries : List (List ℕ)
sdk_queries =
    codes "v=5&ns=demo" ∷ codes "v=5" ∷ codes "ns=demo&v=5" ∷ codes "ls=ab&p=1:2:web:3&v=5&ns=x" ∷ codes "a&ns="
    ∷ []

-- what is no parameter of its
abbrev pub other_queries : List (List ℕ)
other_queries = codes "v=6" ∷ codes "v=55" ∷ codes "av=5" ∷ codes "ans=x" ∷ codes "v=5%26" ∷ codes "&" ∷ [] ∷ []

abbrev pub SdksAreKnown : Type 0
SdksAreKnown = list_all (λ query. is_of_sdk (codes "/.ws") (Some query)) sdk_queries ≡ true

-- another query, another path, and no query
abbrev pub OthersAreNoSdks : Type 0
OthersAreNoSdks =
    (list_any (λ query. is_of_sdk (codes "/.ws") (Some query)) other_queries ≡ false)
    × (list_any (λ path. is_of_sdk path (Some (codes "v=5&ns=demo"))) (codes "/" ∷ codes "/.wsx" ∷ codes "/a/.ws" ∷ [])
    ≡ false) × (is_of_sdk (codes "/.ws") None ≡ false)
