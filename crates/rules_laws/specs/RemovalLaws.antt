-- What `removedFirst` comes to, once its search is done: for proofs that go by what was found.
use Rattle.std.specs.Prelude.{Bool, Option}
use Rattle.rules.specs.Lists.{without_first, maybe}
use Rattle.rules.specs.declared.Info.{Info}
use Rattle.rules.specs.declared.Conn.{Conn}
use Rattle.rules.specs.declared.Event.{Event}
use Rattle.rules.specs.State.{State}
use Rattle.rules.specs.Removal.{removed}

abbrev pub removed_if : Bool → (Info → Event) → (Conn → Bool) → State → Option Conn → State
removed_if fault why p st x = maybe st (λ c. removed fault why c (without_first p st.table) st) x
