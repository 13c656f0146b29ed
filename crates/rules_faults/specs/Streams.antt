-- Streams: a listen-only connection has a connection on its multicast id that is not listen-only, and a multicast connection one that
-- produces on its id.
use Rattle.std.specs.Prelude.{◌≡◌, List, Bool, ◌&&◌}
use Rattle.std.proofs.Math.Bool.{true}
use Rattle.rules.specs.Lists.{any}
use Rattle.rules_laws.specs.ListLaws.{All}
use Rattle.rules.specs.State.{produces, is_listener}
use Rattle.rules.specs.Removal.{in_stream, feeds}
use Rattle.rules_steps.specs.Names.{ToId, Conn}

-- it sends the stream of that id (that every run keeps all fed is proved in proofs/Streams)
abbrev pub source : ToId → Conn → Bool
source k c = in_stream k c && produces c.sent.due

-- within a table: a listener is multicast and has a feeder, a multicast connection has a source
pub record Fed (l : List Conn) (c : Conn) : Type 0 where
  pub joined : is_listener c.fixed.kind ≡ true → c.fixed.multicast ≡ true
  pub feeder : is_listener c.fixed.kind ≡ true → any (feeds c.fixed.toid) l ≡ true
  pub sender : c.fixed.multicast ≡ true → any (source c.fixed.toid) l ≡ true

abbrev pub AllFed : List Conn → Type 0
AllFed l = All (Fed l) l
