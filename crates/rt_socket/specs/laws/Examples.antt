-- Origins that the prover judges: as browsers write them, and such as none writes.
use Rattle.std.specs.Prelude.{◌≡◌, List, [], ◌∷◌, ℕ, true, false, codes}
use Rattle.std.specs.List.{list_all, list_any}
use Rattle.rt_socket.specs.Origins.{is_local, may_connect}

-- pages of this machine, at any port
abbrev pub local_ones : List (List ℕ)
local_ones =
    codes "http://localhost" ∷ codes "http://localhost:3000" ∷ codes "https://127.0.0.1:8443"
    ∷ codes "http://[::1]:80" ∷ []

-- pages of other machines, and what is the origin of no page
abbrev pub other_ones : List (List ℕ)
other_ones =
    codes "null" ∷ codes "http://evil.example" ∷ codes "http://localhost.evil.example"
    ∷ codes "http://127.0.0.10" ∷ codes "http://localhost:" ∷ codes "http://localhost:80x"
    ∷ codes "file://localhost" ∷ codes "ftp://localhost" ∷ codes "http://" ∷ [] ∷ []

abbrev pub LocalOnes : Type 0
LocalOnes = list_all is_local local_ones ≡ true

abbrev pub OtherOnes : Type 0
OtherOnes = list_any is_local other_ones ≡ false

abbrev pub app : List ℕ
app = codes "https://app.example"

-- one that is allowed may connect, beside those of this machine, and not at another port
abbrev pub AllowedOnes : Type 0
AllowedOnes =
    list_all (λ origin. may_connect origin (codes "null" ∷ app ∷ []))
    (app ∷ codes "null" ∷ codes "http://localhost:1" ∷ []) ≡ true

abbrev pub NotAllowedOnes : Type 0
NotAllowedOnes =
    list_any (λ origin. may_connect origin (app ∷ []))
    (codes "https://app.example:1" ∷ codes "http://app.example" ∷ codes "null" ∷ []) ≡ false
