-- What one that asks who is connected is told.
use Rattle.std.specs.Prelude.{◌++◌, ◌∷◌, [], ℕ, List, map, length, nat_le, codes, Bool, true, false, if◌then◌else◌}
use Rattle.std.specs.Prelude.{Option, Some, None}
use Rattle.std.specs.Fmt.{decimal}
use Rattle.serde_json.specs.Data.{string}
use Rattle.serde_json.specs.Written.{compact_text}
use Rattle.rt_emulate.specs.declared.draft.TheConstants.{MOST_TOLD}

-- one that is connected: its number, whether it asks who is, the address that it comes from, the origin of its page, if
-- it is one's, and what it listens to, by the texts of the messages that ask for it, in the order of their tags
pub record Client : Type 0 where
  pub number : ℕ
  pub asks : Bool
  pub from : List ℕ
  pub origin : Option (List ℕ)
  pub listens : List (List ℕ)

-- a comma before all but the first
abbrev pub comma : Bool → List ℕ
comma true = []
comma false = codes ","

-- texts, one after another: the first of them is the first of all, or isn't
abbrev pub listed : Bool → List (List ℕ) → List ℕ
listed is_first [] = []
listed is_first (text ∷ texts) = comma is_first ++ (text ++ listed false texts)

-- ---- one that is connected

abbrev pub begun : Bool → List ℕ
begun true = codes "{\"asks\":true,\"from\":\""
begun false = codes "{\"from\":\""

abbrev pub from_text : Bool → List ℕ → List ℕ
from_text asks from = begun asks ++ from ++ codes "\",\"listens\":["

abbrev pub number_text : ℕ → List ℕ
number_text n = codes "],\"n\":" ++ decimal n

abbrev pub origin_text : Option (List ℕ) → List ℕ
origin_text None = []
origin_text (Some origin) = codes ",\"origin\":" ++ compact_text (string origin)

abbrev pub client_text : Client → List ℕ
client_text c =
    from_text c.asks c.from ++ (listed true c.listens ++ (number_text c.number ++ (origin_text c.origin ++ codes "}")))

-- ---- all of them

-- the message of these, in this order
abbrev pub whole_text : List Client → List ℕ
whole_text clients = codes "{\"clients\":[" ++ (listed true (map client_text clients) ++ codes "],\"k\":\"clients\"}")

-- a text that isn't too long
abbrev pub bounded : List ℕ → Option (List ℕ)
bounded text = if nat_le (length text) MOST_TOLD then Some text else None

-- where it is too long nobody is named
abbrev pub told_text : Option (List ℕ) → List ℕ
told_text None = codes "{\"clients\":null,\"k\":\"clients\"}"
told_text (Some text) = text

-- what one that asks is told of these
abbrev pub clients_text : List Client → List ℕ
clients_text clients = told_text (bounded (whole_text clients))
