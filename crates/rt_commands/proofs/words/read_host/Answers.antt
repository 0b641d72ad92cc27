use Rattle.std.proofs.Common.{rules, ◌≡◌, List, ℕ, Option, None, Some, ap, subst, sym, ◌∙◌}
use Rattle.std.specs.Prelude.{option_map}
use Rattle.std.specs.declared.net.ip_addr.IpAddr.{IpAddr}
use Rattle.std.specs.declared.net.ip_addr.IpAddr.TheVariants.{V4}
use Rattle.rt_commands.specs.Hosts.{host_of}
use Rattle.rt_commands.specs.Words.{Gives}
use Rattle.rt_commands.proofs.words.read_host.Goals as goal

-- the address of these octets
abbrev of_octets : List ℕ → Option IpAddr
of_octets octets = Some (V4 (record { octets = octets }))

pub returns-in-Some : goal.returns-in-Some
returns-in-Some c =
    let is : c.text.result ≡ Some c.in-Some.text = search rules in
    let same = ap (option_map (λ t. t.now)) (sym is) ∙ c.text.ensures in
    subst (λ t. Gives (host_of t) c.read_ip.result) same c.read_ip.ensures

pub returns-in-None : goal.returns-in-None
returns-in-None c =
    let is : c.text.result ≡ None = search rules in
    let same = ap (option_map (λ t. t.now)) (sym is) ∙ c.text.ensures in
    ap host_of (sym same) ∙ ap of_octets (sym c.new.ensures)
