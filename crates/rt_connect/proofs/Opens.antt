-- A socket that a handshake gave.
use Rattle.std.proofs.Common.{◌≡◌, ℕ, List, Option, Result, Ok, Err, refl, ap, ◌∙◌}
use Rattle.std.specs.Prelude.{Bool, IfOk}
use Rattle.tungstenite.specs.Config.{HasLimits, HasLimitsOf}
use Rattle.tungstenite.specs.Heads.{Connected}
use Rattle.tungstenite.specs.Socket.{Socket}
use Rattle.tungstenite.specs.declared.protocol.WebSocketConfig.{WebSocketConfig}
use Rattle.rt_socket.specs.Sockets.{limits_for}
use Rattle.rt_connect.specs.Opening.{IsOpened}

-- its limits are set
pub opened_by : {S : Type 0} (old new : Socket S) (most : ℕ) (config : WebSocketConfig)
    → ((key : List ℕ) × Connected key old)
    → new ≡ record old { conn = record (old.conn) { config = new.conn.config } }
    → HasLimits new.conn.config config → config ≡ limits_for most → IsOpened most new
opened_by {S} old new most config (key, (answer, (stream, fresh))) same limits is = record {
  key = key;
  connected = (
    answer,
    (
      stream,
      record {
        on_stream = ap (λ (s : Socket S). s.stream) same ∙ fresh.on_stream;
        nothing_read = refl;
        nothing_waits = ap (λ (s : Socket S). s.output) same ∙ fresh.nothing_waits;
        has_role = ap (λ (s : Socket S). s.conn.role) same ∙ fresh.has_role;
        is_active = ap (λ (s : Socket S). s.conn.state) same ∙ fresh.is_active;
        no_fragments = ap (λ (s : Socket S). s.conn.fragments) same ∙ fresh.no_fragments;
      },
    ),
  );
  message = limits.0 ∙ ap (λ (c : WebSocketConfig). c.max_message_size) is;
  frame = limits.1 ∙ ap (λ (c : WebSocketConfig). c.max_frame_size) is;
  masked = limits.2 ∙ ap (λ (c : WebSocketConfig). c.accept_unmasked_frames) is;
}

-- a handshake that goes on may give one
pub connected_by : {S A E : Type 0} (all : List ℕ × Option WebSocketConfig) (shaken : Result (Socket S × A) E)
    → IfOk shaken (λ f. (r : List ℕ × Bool × Option WebSocketConfig)
    × (Connected r.0 f.0 × HasLimitsOf f.0.conn.config r.2) × ((r.0, r.2) ≡ all))
    → IfOk shaken (λ f. (key : List ℕ) × Connected key f.0)
connected_by all (Ok f) h = (h.0.0, h.1.0)
connected_by all (Err e) h = tt
