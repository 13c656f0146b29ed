-- A session of explicit messages lends the upload position that its last message left, eight zeros at first, while anyone calls what they
-- like on the same state. Its position always passes its own test, so no message of it is answered No. 1.
use Rattle.std.specs.Prelude.{ℕ, List, ◌≡◌}
use Rattle.base_cells.specs.Back.{Bytes}
use Rattle.host_runs.specs.CallContracts.{Said, Met}
use Rattle.host_runs.specs.HostCalls.{HostCall, contract_of}

-- the state's bytes and the session's position, at first and at last: calls of others, their messages too, and its own messages. No setup
-- comes between: it would begin anew. That the state is made of bytes is so of whatever is lent
pub data Session : List ℕ → List ℕ → List ℕ → List ℕ → Type 0 where
  done : {s p : List ℕ} → Session s p s p
  other : (c : HostCall) (a : Said) {s s' s'' p p'' : List ℕ} → Met (contract_of c) s s' a → Session s' p s'' p'' → Session s p s'' p''
  asks : (local mask : ℕ) (message out : List ℕ) (a : Said) {s s' s'' p p'' : List ℕ} → Bytes s
      → Met (contract_of (HostCall.Message local mask message p out)) s s' a → Session s' a.position s'' p'' → Session s p s'' p''

-- none of its messages is answered No. 1
abbrev pub Never1 : {s p s'' p'' : List ℕ} → Session s p s'' p'' → Type 0
Never1 done = Unit {0}
Never1 (other c a m r) = Never1 r
Never1 (asks local mask message out a b m r) = (a.number ≡ 1 → ⊥) × Never1 r
