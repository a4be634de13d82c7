-- A process goes in or out alone.
use Rattle.std.proofs.Common.{◌≡◌, ◌≢◌, ℕ, ◌==◌, Bool, true, false, cond, List, [], ◌∷◌, Some, None, refl, sym, ap, ◌∙◌}
use Rattle.std.proofs.lemmas.Bool.{eqb-true, ne_eqb}
use Rattle.page_model.specs.Pages.{numbered, changed}
use Rattle.page_model.specs.Placement.{Placement, Residence}
use Rattle.page_model.specs.Place.{moved}
use Rattle.page_model.specs.Swapper.{residence_of}
use Rattle.page_model.specs.PuttingOut.{IsResident}

-- one resident of a list, in or out since another place
abbrev set_out : List Residence → ℕ → Bool → ℕ → List Residence
set_out rs pid out at = changed (λ (r : Residence). r.pid) pid (λ (r : Residence). record r { out = out; since = at }) rs

own_in : (rs : List Residence) (pid : ℕ) (out : Bool) (at : ℕ) → numbered (λ (r : Residence). r.pid) pid rs ≢ None
    → residence_of (set_out rs pid out at) pid ≡ record { pid = pid; out = out; since = at }
own_in [] pid out at n = absurd (n refl)
own_in (r ∷ rs) pid out at n = go (r.pid == pid) refl n (own_in rs pid out at)
  where
    go : (b : Bool) → (r.pid == pid) ≡ b → (cond b (Some r) (numbered (λ (r : Residence). r.pid) pid rs) ≢ None)
        → ((numbered (λ (r : Residence). r.pid) pid rs ≢ None) → residence_of (set_out rs pid out at) pid ≡ record { pid = pid; out = out; since = at })
        → residence_of (cond b (record r { out = out; since = at } ∷ rs) (r ∷ set_out rs pid out at)) pid ≡ record { pid = pid; out = out; since = at }
    go true e k ih = ap (λ (b : Bool). cond b (record r { out = out; since = at }) (residence_of rs pid)) e ∙ ap (λ (n : ℕ). record { pid = n; out = out; since = at }) (eqb-true r.pid pid e)
    go false e k ih = ap (λ (b : Bool). cond b r (residence_of (set_out rs pid out at) pid)) e ∙ ih k

other_in : (rs : List Residence) (pid n : ℕ) (out : Bool) (at : ℕ) → n ≢ pid → residence_of (set_out rs pid out at) n ≡ residence_of rs n
other_in [] pid n out at d = refl
other_in (r ∷ rs) pid n out at d = go (r.pid == pid) refl (other_in rs pid n out at d)
  where
    go : (b : Bool) → (r.pid == pid) ≡ b → residence_of (set_out rs pid out at) n ≡ residence_of rs n
        → residence_of (cond b (record r { out = out; since = at } ∷ rs) (r ∷ set_out rs pid out at)) n ≡ residence_of (r ∷ rs) n
    go true e ih =
        let m : (r.pid == n) ≡ false = ne_eqb r.pid n (λ k. d (sym k ∙ eqb-true r.pid pid e)) in
        ap (λ (b : Bool). cond b (record r { out = out; since = at }) (residence_of rs n)) m ∙ sym (ap (λ (b : Bool). cond b r (residence_of rs n)) m)
    go false e ih = ap (λ (x : Residence). cond (r.pid == n) r x) ih

-- it is in or out since that place
pub moved_own : (p : Placement) (pid : ℕ) (out : Bool) (at : ℕ) → IsResident p pid
    → residence_of (moved p pid out at).residents pid ≡ record { pid = pid; out = out; since = at }
moved_own p pid out at i = own_in p.residents pid out at i

-- and all others are as they were
pub moved_others : (p : Placement) (pid : ℕ) (out : Bool) (at n : ℕ) → n ≢ pid → residence_of (moved p pid out at).residents n ≡ residence_of p.residents n
moved_others p pid out at n d = other_in p.residents pid n out at d
