-- The address that a text writes, by the grammar that std reads.
use Rattle.std.proofs.Common.{◌≡◌, ◌++◌, ℕ, List, [], ◌∷◌, Some, None, Result, Ok, Err, refl}
use Rattle.std.proofs.Common.{sym, subst, ap, ap₂, ◌∙◌, append-nil, arith, length, lit≤, ne_eqb}
use Rattle.std.specs.Result.{result_ok}
use Rattle.std.specs.Net.Addr.{ipv4_octets, ipv6_segments}
use Rattle.std.specs.Net.Grammar.{IsColonHex, IsDotted, IsIpText, Parses}
use Rattle.std.specs.Net.Reader.{Read, read_ipv4, read_ipv6, whole_value}
use Rattle.std.specs.declared.net.ip_addr.IpAddr.{IpAddr}
use Rattle.std.specs.declared.net.ip_addr.IpAddr.TheVariants.{V4, V6}
use Rattle.std.proofs.NetLemmas.Ipv4.{read_ipv4_complete, read_ipv4_sound}
use Rattle.std.proofs.NetLemmas.Ipv6.{EndsGroups-nil, IsDotted-not_colon_hex, read_ipv6_complete, read_ipv6_sound}
use Rattle.rt_commands.specs.Hosts.{ip_by, ip_of}

-- nothing is read whole, where what is read would be spelled by the whole text
no_whole : (Spells : List ℕ → List ℕ → Type 0) (text : List ℕ) (read : Read (List ℕ))
    → ((value rest : List ℕ) → read ≡ Some (value, rest)
    → (front : List ℕ) × (text ≡ front ++ rest) × Spells front value)
    → ((value : List ℕ) → Spells text value → ⊥) → whole_value read ≡ None
no_whole Spells text None sound never = refl
no_whole Spells text (Some (value, [])) sound never =
    let (front, split, spells) = sound value [] refl in
    absurd (never value (subst (λ t. Spells t value) (sym (split ∙ append-nil front)) spells))
no_whole Spells text (Some (value, c ∷ rest)) sound never = rw (ne_eqb (length (c ∷ rest)) 0 (omega arith)) refl

no_ipv4 : (text : List ℕ) → ((octets : List ℕ) → IsDotted text octets → ⊥) → whole_value (read_ipv4 text) ≡ None
no_ipv4 text never =
    no_whole IsDotted text (read_ipv4 text) (λ octets rest e. read_ipv4_sound text octets rest e) never

no_ipv6 : (text : List ℕ) → ((segments : List ℕ) → IsColonHex text segments → ⊥)
    → whole_value (read_ipv6 text) ≡ None
no_ipv6 text never =
    no_whole IsColonHex text (read_ipv6 text) (λ segments rest e. read_ipv6_sound text segments rest e) never

whole_ipv4 : (text octets : List ℕ) → IsDotted text octets → whole_value (read_ipv4 text) ≡ Some octets
whole_ipv4 text octets spelled =
    ap whole_value (ap read_ipv4 (sym (append-nil text)) ∙ read_ipv4_complete text octets [] spelled (lit≤ tt))

whole_ipv6 : (text segments : List ℕ) → IsColonHex text segments → whole_value (read_ipv6 text) ≡ Some segments
whole_ipv6 text segments spelled =
    ap whole_value (ap read_ipv6 (sym (append-nil text)) ∙ read_ipv6_complete text segments [] spelled EndsGroups-nil)

-- what was parsed is what the text writes
pub ip_read : {E : Type 0} (text : List ℕ) (read : Result IpAddr E) → Parses IsIpText text read
    → result_ok read ≡ ip_of text
ip_read text (Ok (V4 a)) spelled =
    sym (ap (λ octets. ip_by octets (whole_value (read_ipv6 text))) (whole_ipv4 text (ipv4_octets a) spelled))
ip_read text (Ok (V6 a)) spelled =
    let none = no_ipv4 text (λ octets dotted. IsDotted-not_colon_hex text octets (ipv6_segments a) dotted spelled) in
    sym (ap₂ ip_by none (whole_ipv6 text (ipv6_segments a) spelled))
ip_read text (Err e) never =
    sym (ap₂ ip_by (no_ipv4 text (λ octets dotted. never (V4 (record { octets = octets })) dotted))
    (no_ipv6 text (λ segments hex. never (V6 (record { segments = segments })) hex)))
