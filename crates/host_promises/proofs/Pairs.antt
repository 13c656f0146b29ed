-- Two runs of the C functions side by side are two runs of the rules, and their premise on bytes is the rules' premise.
use Rattle.std.specs.Prelude.{ℕ, true, not, ◌&&◌, List, ◌≡◌, refl}
use Rattle.std.proofs.Common.{ap, ap₂, sym, subst, ◌∙◌}
use Rattle.rules.specs.Lists.{any}
use Rattle.rules.specs.State.{State}
use Rattle.rules.specs.Calls
use Rattle.rules.specs.Calls.{Call, next, run}
use Rattle.state_rules.specs.Image.{view, tested}
use Rattle.base_ids.specs.declared.Triad.{Triad}
use Rattle.rules.specs.declared.Conn.{Conn}
use Rattle.rules_isolation.specs.Survive.{in_table}
use Rattle.rules_isolation.specs.Demand.{removes, RemovesAlike, SameExpiries, owned_by, NeverOwned}
use Rattle.host_runs.specs.CallContracts.{Said, Met}
use Rattle.host_runs.specs.HostCalls.{HostCall, contract_of, call_of, CCall}
use Rattle.host_runs.specs.Steps.{Agrees}
use Rattle.host_runs.proofs.Steps.{agrees}
use Rattle.host_promises.specs.Rows.{conns_view}
use Rattle.host_promises.specs.Pairs.{Pair, end, both, first_only, second_only, goes, SameGoing, NotOwned, firsts, seconds, paired}

-- one call on each side
module _ (c : HostCall) (l : List ℕ) (ok : tested l ≡ true) (l' : List ℕ) (a : Said) (f : Met (contract_of c) l l' a) where
  pub step : Agrees (CCall.On c) (view l) l' a
  step = agrees (CCall.On c) l ok l' a f

-- the first and the second run leave what the rules leave
pub both_run : {A : ℕ} {l m l'' m'' : List ℕ} (p : Pair A l m l'' m'') → tested l ≡ true → tested m ≡ true
    → (view l'' ≡ run (firsts p) (view l)) × (view m'' ≡ run (seconds p) (view m))
both_run end x y = (refl, refl)
both_run (both c d a b {l} {m} {l'} {m'} e f g p) x y =
    let u = step c l x l' a f in
    let v = step d m y m' b g in
    let r = both_run p u.passes v.passes in (
      r.0 ∙ ap (run (firsts p)) u.holds,
      r.1 ∙ ap (run (seconds p)) (v.holds ∙ ap (λ (z : Call). next z (view m)) (sym e)),
    )
both_run {A} (first_only t frame a {l} {m} {l'} f p) x y =
    let u = step (HostCall.Receive t A frame) l x l' a f in
    let r = both_run p u.passes y in
    (r.0 ∙ ap (run (firsts p)) u.holds, r.1)
both_run {A} (second_only t frame b {l} {m} {m'} g p) x y =
    let v = step (HostCall.Receive t A frame) m y m' b g in
    let r = both_run p x v.passes in
    (r.0, r.1 ∙ ap (run (seconds p)) v.holds)

-- ---- the premise on bytes is the rules' premise

alike : (x : Call) (s r : State) → ((t : ℕ) → x ≡ Calls.Expire t → (d : Triad) → removes t d s ≡ removes t d r) → RemovesAlike x s r
alike (Calls.Open t service request g room) s r h = tt
alike (Calls.OpenRefusal service request room) s r h = tt
alike (Calls.Close request room) s r h = tt
alike (Calls.Receive t from frame) s r h = tt
alike (Calls.Produce t room) s r h = tt
alike (Calls.Expire t) s r h = h t refl
alike (Calls.Deadline room) s r h = tt
alike (Calls.SetInput n bytes) s r h = tt
alike (Calls.ReadOutput n room) s r h = tt
alike (Calls.ReadAssembly kind n room) s r h = tt
alike (Calls.NextEvent room) s r h = tt
alike (Calls.Connections room) s r h = tt
alike (Calls.Stats room) s r h = tt
alike (Calls.Message local mask message room position) s r h = tt

goes_is : (t : ℕ) (d : Triad) (l l' : List ℕ) → view l' ≡ next (Calls.Expire t) (view l) → goes d l l' ≡ removes t d (view l)
goes_is t d l l' h =
    ap₂ (λ (x y : List Conn). in_table x d && not (in_table y d)) (sym (conns_view l)) (sym (conns_view l') ∙ ap (λ (st : State). st.table) h)

pub premise : {A : ℕ} {l m l'' m'' : List ℕ} (p : Pair A l m l'' m'') → tested l ≡ true → tested m ≡ true → SameGoing p → SameExpiries (paired p) (view l) (view m)
premise end x y h = tt
premise (both c d a b {l} {m} {l'} {m'} e f g p) x y h =
    let u = step c l x l' a f in
    let v = step d m y m' b g in
    let w : view m' ≡ next (call_of c) (view m) = v.holds ∙ ap (λ (z : Call). next z (view m)) (sym e) in (
      alike (call_of c) (view l) (view m)
          (λ t q z. sym (goes_is t z l l' (u.holds ∙ ap (λ (k : Call). next k (view l)) q)) ∙ h.0 t q z ∙ goes_is t z m m' (w ∙ ap (λ (k : Call). next k (view m)) q)),
      subst (λ (s : State). SameExpiries (paired p) s (next (call_of c) (view m))) u.holds
          (subst (λ (r : State). SameExpiries (paired p) (view l') r) w (premise p u.passes v.passes h.1)),
    )
premise {A} (first_only t frame a {l} {m} {l'} f p) x y h =
    let u = step (HostCall.Receive t A frame) l x l' a f in
    subst (λ (s : State). SameExpiries (paired p) s (view m)) u.holds (premise p u.passes y h)
premise {A} (second_only t frame b {l} {m} {m'} g p) x y h =
    let v = step (HostCall.Receive t A frame) m y m' b g in
    subst (λ (r : State). SameExpiries (paired p) (view l) r) v.holds (premise p x v.passes h)

pub unowned : {A : ℕ} (i : ℕ) {l m l'' m'' : List ℕ} (p : Pair A l m l'' m'') → tested l ≡ true → tested m ≡ true → NotOwned i p → NeverOwned A i (firsts p) (view l)
unowned {A} i {l} end x y h = ap (any (owned_by A i)) (conns_view l) ∙ h
unowned {A} i (both c d a b {l} {m} {l'} {m'} e f g p) x y h =
    let u = step c l x l' a f in
    let v = step d m y m' b g in
    (ap (any (owned_by A i)) (conns_view l) ∙ h.0, subst (NeverOwned A i (firsts p)) u.holds (unowned i p u.passes v.passes h.1))
unowned {A} i (first_only t frame a {l} {m} {l'} f p) x y h =
    let u = step (HostCall.Receive t A frame) l x l' a f in
    (ap (any (owned_by A i)) (conns_view l) ∙ h.0, subst (NeverOwned A i (firsts p)) u.holds (unowned i p u.passes y h.1))
unowned {A} i (second_only t frame b {l} {m} {m'} g p) x y h =
    let v = step (HostCall.Receive t A frame) m y m' b g in
    unowned i p x v.passes h
