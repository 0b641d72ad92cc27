use Rattle.std.proofs.Common.{rules, ◌≡◌, subst}
use Rattle.rt_http.specs.Chunks.{AreRead}
use Rattle.rt_http.proofs.ChunkSteps.{are_read_at}
use Rattle.rt_http.proofs.request.Incoming.take_chunks.Goals as goal

pub returns : goal.returns
returns c =
    let bytes : c.args.self.now.bytes ≡ c.as_slice.result.now = search rules in
    let body : c.args.self.now.body ≡ c.self.inside.body.items = search rules in
    let after : c.read_chunks.new.body.items ≡ c.self-2.inside.body.items = search rules in (
      c.in_ok-read.read.0,
      subst (λ l. AreRead c.args.self.now.bytes c.args.self.now.body c.in_ok-read.read.0 c.in_ok-read.read.1 l) after
          (are_read_at c.as_slice.result.now c.args.self.now.bytes c.self.inside.body.items
          c.args.self.now.body c.in_ok-read.read.0 c.in_ok-read.read.1 c.read_chunks.new.body.items bytes body
          c.in_ok-read.ensures),
      search rules,
    )
