use Rattle.std.proofs.Common.{◌≡◌, true, false, [], ◌∷◌, ap, arith}
use Rattle.std.specs.Prelude.{codes}
use Rattle.serde_json.proofs.OnLiterals.{serde_json_on_literals}
use Rattle.rt_tree.specs.Path.{path_keys}
use Rattle.rt_query.specs.Queries.{plain}
use Rattle.rt_wire.specs.declared.server.ServerMessage.TheVariants.{DataMerge, Push, Accepted, Refused}
use Rattle.rt_wire.specs.declared.client.ClientMessage.TheVariants.{Hello, Listen}
use Rattle.rt_wire.specs.laws.Examples.{ok_one, two_entries, entry_at, push_two, listen_first}
use Rattle.rt_wire.proofs.Others.{server_number, server_kind, client_number, is_filtered_by}
use Rattle.rt_wire.proofs.ServerSaid.{server_read}
use Rattle.rt_wire.proofs.ClientSaid.{client_read}
use Rattle.rt_wire.proofs.laws.nothing_else_is_said.Goals as goal

pub returns : goal.returns
unfolding serde_json_on_literals
returns c = (
  (λ h. let e : 1 ≡ 2 = ap server_number (server_read ok_one (Accepted 2) h) in omega arith),
  (λ h. let e : 3 ≡ 4 = ap server_kind (server_read ok_one (Refused 1 []) h) in omega arith),
  (λ h. let e : 0 ≡ 3 = ap server_kind (server_read (codes "{\"k\":\"ok\",\"id\":0}") (Accepted 0) h)
      in omega arith),
  (λ h. let e : 2 ≡ 1 = ap server_number
      (server_read two_entries (DataMerge 1 (entry_at (codes "a") 1 ∷ [])) h) in omega arith),
  (λ h. let e : 2 ≡ 1 = ap server_number
      (server_read push_two (Push ((1, entry_at (codes "/a/x") 1 ∷ []) ∷ [])) h) in omega arith),
  (λ h. let e : 2 ≡ 1 = ap client_number
      (client_read (codes "{\"k\":\"hello\",\"version\":2}") (Hello 1) h) in omega arith),
  (λ h. let e : true ≡ false = ap is_filtered_by (client_read listen_first
      (Listen 1 (plain (path_keys (codes "/a")))) h) in cc),
)
