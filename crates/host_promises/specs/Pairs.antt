-- Two runs of the C functions side by side, on two lent buffers: the same calls of the rules, except that I/O frames from one address come
-- in one run only. The two hosts may lend other output bytes, if only of equal lengths. What the expiry calls remove is read off the bytes.
use Rattle.std.specs.Prelude.{ℕ, Bool, false, not, ◌&&◌, List, [], ◌∷◌, ◌≡◌}
use Rattle.rules.specs.Lists.{any}
use Rattle.rules.specs.Calls
use Rattle.rules.specs.Calls.{Call}
use Rattle.base_ids.specs.declared.Triad.{Triad}
use Rattle.rules_isolation.specs.Survive.{in_table}
use Rattle.rules_isolation.specs.Demand
use Rattle.rules_isolation.specs.Demand.{Paired, owned_by}
use Rattle.host_runs.specs.CallContracts.{Said, Met}
use Rattle.host_runs.specs.HostCalls.{HostCall, contract_of, call_of}
use Rattle.host_promises.specs.Rows.{conns}

-- the bytes found by the first run and by the second, and those left by both
pub data Pair (A : ℕ) : List ℕ → List ℕ → List ℕ → List ℕ → Type 0 where
  end : {l m : List ℕ} → Pair A l m l m
  both : (c d : HostCall) (a b : Said) {l m l' m' l'' m'' : List ℕ} → call_of c ≡ call_of d → Met (contract_of c) l l' a → Met (contract_of d) m m' b
      → Pair A l' m' l'' m'' → Pair A l m l'' m''
  first_only : (time : ℕ) (frame : List ℕ) (a : Said) {l m l' l'' m'' : List ℕ} → Met (contract_of (HostCall.Receive time A frame)) l l' a → Pair A l' m l'' m'' → Pair A l m l'' m''
  second_only : (time : ℕ) (frame : List ℕ) (b : Said) {l m m' l'' m'' : List ℕ} → Met (contract_of (HostCall.Receive time A frame)) m m' b → Pair A l m' l'' m'' → Pair A l m l'' m''

-- THE PREMISE, for each expiry call: for every triad, whether its connection is gone afterwards is the same in both runs
abbrev pub goes : Triad → List ℕ → List ℕ → Bool
goes d l l' = in_table (conns l) d && not (in_table (conns l') d)

abbrev pub SameGoing : {A : ℕ} {l m l'' m'' : List ℕ} → Pair A l m l'' m'' → Type 0
SameGoing end = Unit {0}
SameGoing (both c d a b {l} {m} {l'} {m'} e f g p) = ((t : ℕ) → call_of c ≡ Calls.Expire t → (x : Triad) → goes x l l' ≡ goes x m m') × SameGoing p
SameGoing (first_only t frame a f p) = SameGoing p
SameGoing (second_only t frame b g p) = SameGoing p

-- an assembly, by its place, that an address never owned in the first run: no bytes of it have a row of that address that owns it
abbrev pub NotOwned : ℕ → {A : ℕ} {l m l'' m'' : List ℕ} → Pair A l m l'' m'' → Type 0
NotOwned i {A} {l} end = any (owned_by A i) (conns l) ≡ false
NotOwned i {A} {l} (both c d a b e f g p) = (any (owned_by A i) (conns l) ≡ false) × NotOwned i p
NotOwned i {A} {l} (first_only t frame a f p) = (any (owned_by A i) (conns l) ≡ false) × NotOwned i p
NotOwned i (second_only t frame b g p) = NotOwned i p

-- ---- it is a pair of runs of the rules

abbrev pub firsts : {A : ℕ} {l m l'' m'' : List ℕ} → Pair A l m l'' m'' → List Call
firsts end = []
firsts (both c d a b e f g p) = call_of c ∷ firsts p
firsts {A} (first_only t frame a f p) = Calls.Receive t A frame ∷ firsts p
firsts (second_only t frame b g p) = firsts p

abbrev pub seconds : {A : ℕ} {l m l'' m'' : List ℕ} → Pair A l m l'' m'' → List Call
seconds end = []
seconds (both c d a b e f g p) = call_of c ∷ seconds p
seconds (first_only t frame a f p) = seconds p
seconds {A} (second_only t frame b g p) = Calls.Receive t A frame ∷ seconds p

abbrev pub paired : {A : ℕ} {l m l'' m'' : List ℕ} (p : Pair A l m l'' m'') → Paired A (firsts p) (seconds p)
paired end = Demand.end
paired (both c d a b e f g p) = Demand.both (call_of c) (paired p)
paired (first_only t frame a f p) = Demand.first_only t frame (paired p)
paired (second_only t frame b g p) = Demand.second_only t frame (paired p)
