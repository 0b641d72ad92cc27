-- The address that is listened at.
use Rattle.std.specs.Prelude.{ℕ, List, [], ◌∷◌, Option, Some, None, option_map}
use Rattle.std.specs.Net.Reader.{read_ipv4, read_ipv6, whole_value}
use Rattle.std.specs.declared.net.ip_addr.IpAddr.{IpAddr}
use Rattle.std.specs.declared.net.ip_addr.IpAddr.TheVariants.{V4, V6}

-- 127.0.0.1
abbrev pub local_host : IpAddr
local_host = V4 (record { octets = 127 ∷ 0 ∷ 0 ∷ 1 ∷ [] })

-- the address of these octets, else of these segments, if there are any
abbrev pub ip_by : Option (List ℕ) → Option (List ℕ) → Option IpAddr
ip_by (Some octets) segments = Some (V4 (record { octets = octets }))
ip_by None segments = option_map (λ s. V6 (record { segments = s })) segments

-- the address that a text writes: four numbers with dots between them, or groups of hexadecimal digits with
-- colons between them, as in RFC 4291
abbrev pub ip_of : List ℕ → Option IpAddr
ip_of text = ip_by (whole_value (read_ipv4 text)) (whole_value (read_ipv6 text))

-- the address of a text, 127.0.0.1 where there is no text, none where it writes none
abbrev pub host_of : Option (List ℕ) → Option IpAddr
host_of None = Some local_host
host_of (Some text) = ip_of text
