-- The stream that an open joins, and check 12.
use Rattle.std.specs.Prelude.{ℕ, Bool, cond, not, ◌&&◌, ◌||◌, ◌≡◌, refl, eqb, List, Option}
use Rattle.std.proofs.Common.{ap}
use Rattle.wire_rules.specs.declared.ForwardOpen.{ForwardOpen}
use Rattle.rules.specs.declared.Fixed.{Fixed}
use Rattle.rules.specs.declared.Kind.{Kind}
use Rattle.rules.specs.declared.Roles.{Roles}
use Rattle.rules.specs.declared.Stop.{Stop}
use Rattle.rules.specs.declared.Stop.TheVariants.{NoStream, ListenPointToPoint}
use Rattle.rules.specs.declared.Stream.{Stream}
use Rattle.rules.specs.State.{is_listener}
use Rattle.rules.specs.Checks.{must, asks_multicast, joins, stream_of, stream_check}
use Rattle.open_streams.specs.Owning.{roles_with}

-- a row carries an input for an open that listens only, or for one of an RPI
abbrev pub carries_for : Bool → ℕ → ℕ → Fixed → Bool
carries_for listens input rpi f = f.multicast && not (is_listener f.kind) && eqb f.input input && (listens || eqb f.torpi rpi)

-- the stream of an open is found by the kind and the input of the roles
pub stream_reads : (o : ForwardOpen) (x : Roles) (table : List Fixed) → stream_of o (roles_with x.kind x.input 0) table ≡ stream_of o x table
unfolding stream_of
stream_reads o x table = refl

-- check 12, from the stream found
unfoldable pub stream_stop : ForwardOpen → Kind → Option Stream → Option Stop
stream_stop o k stream = must (not (is_listener k) || joins stream) (cond (asks_multicast o) NoStream ListenPointToPoint)

-- it is check 12 of the rules where the stream is the one that they find by the kind and the input of the roles
pub stop_known : (o : ForwardOpen) (r : Roles) (table : List Fixed) (stream : Option Stream) → stream ≡ stream_of o (roles_with r.kind r.input 0) table
    → stream_stop o r.kind stream ≡ stream_check o r table
unfolding stream_stop stream_check stream_of
stop_known o r table stream e = ap (λ (x : Option Stream). must (not (is_listener r.kind) || joins x) (cond (asks_multicast o) NoStream ListenPointToPoint)) e
